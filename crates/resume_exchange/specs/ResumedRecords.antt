-- The record of a resumed association.
use Rattle.std.specs.Prelude.{◌≡◌, ℕ, List}
use Rattle.ha_base.specs.declared.counter_names.Derivation.{Derivation}
use Rattle.ha_base.specs.declared.counter_names.Origin.TheVariants.{Resumed}
use Rattle.ha_base.specs.declared.identities.Identity.{Identity}
use Rattle.ha_base.specs.declared.key_material.KeySize.{KeySize}
use Rattle.keeper_book.specs.declared.counters.Five.{Five}
use Rattle.keeper_book.specs.declared.records.Record.{Record}
use Rattle.resume_exchange.specs.ResumedKeys.{resumed_child_keys, resumed_sa_keys}

-- where its counters begin: the exchange IKE_AUTH, which used the Message ID 0 of no request of the
-- cluster and the Message ID 1 of the peer, comes before
abbrev pub starts_resumed : Five
starts_resumed = record { esp_out = 1; esp_in = 1; iv = 1; ask = 0; answer = 1 }

-- it has the derived keys, and the SPIs at which the cluster and the peer receive in its Child SA
pub record IsRecordResumed (sk_d : List ℕ) (size : KeySize) (identity : Identity)
    (from : Derivation) (spi_in spi_out : ℕ) (sa : Record) : Type 0 where
  pub origin : sa.origin ≡ Resumed from
  pub spii : sa.spii ≡ from.spii
  pub spir : sa.spir ≡ from.spir
  pub size_is : sa.size ≡ size
  pub identity_is : sa.identity ≡ identity
  pub keys : sa.keys ≡ resumed_sa_keys sk_d size from
  pub child : sa.child ≡ resumed_child_keys sk_d size from
  pub spi_in_is : sa.spi_in ≡ spi_in
  pub spi_out_is : sa.spi_out ≡ spi_out
  pub starts : sa.starts ≡ starts_resumed
