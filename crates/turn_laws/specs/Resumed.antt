-- The association that a resumption makes of a derivation.
use Rattle.std.specs.Prelude.{ℕ, ◌+◌, ◌≡◌}
use Rattle.ha_base.specs.declared.counter_names.Derivation.{Derivation}
use Rattle.ha_base.specs.declared.counter_names.Origin.TheVariants as origin
use Rattle.keeper_book.specs.declared.counters.Five.{Five}
use Rattle.keeper_book.specs.declared.records.Record.{Record}

-- Where its counters begin: the IKE_AUTH that settles it has Message ID 1, and nothing was sealed
-- before (RFC 7296, section 2.2).
abbrev pub resumed_starts : Five
resumed_starts = record { esp_out = 1; esp_in = 1; iv = 1; ask = 0; answer = 1 }

-- so many of the least ESP SPIs are reserved (RFC 4303, section 2.1)
abbrev pub reserved_spis : ℕ
reserved_spis = 256

pub record IsResumedRecord (made : Derivation) (sa : Record) : Type 0 where
  pub origin : sa.origin ≡ origin.Resumed made
  pub spii : sa.spii ≡ made.spii
  pub spir : sa.spir ≡ made.spir
  -- the cluster receives at an SPI that the drawn number gives
  pub spi_in : sa.spi_in ≡ made.spir + reserved_spis
  pub starts : sa.starts ≡ resumed_starts
