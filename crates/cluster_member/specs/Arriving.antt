-- What a member finds of the associations that messages name.
use Rattle.std.specs.Prelude.{ℕ, MatchOption, Option}
use Rattle.std.specs.Option.{option_map}
use Rattle.ike_sas.specs.Held.{IkeHeld}
use Rattle.sk_payload.specs.declared.open.Opened.{Opened}
use Rattle.turn_rules.specs.Held.{Held}
use Rattle.turn_rules.specs.MemberMessages.{held_ike, of_spii}

-- what is held of IKE messages under an initiator's and a responder's SPI
abbrev pub ike_under : (ℕ → Option Held) → ℕ → ℕ → Option IkeHeld
ike_under held spii spir = option_map held_ike (of_spii spii (held spir))

-- a message that was opened is taken so by what is held of its association
abbrev pub TakesWhereHeld : (ℕ → Option Held) → Opened → (Held → Type 0) → Type 0
TakesWhereHeld held opened takes =
    MatchOption (of_spii opened.header.spii (held opened.header.spir)) ⊥ takes
