-- The ranges of the fields of an event's line.
use Rattle.std.specs.Prelude.{ℕ, ◌^◌, ◌<◌, ◌≤◌, List, ◌⊎◌}
use Rattle.ha_base.specs.declared.key_material.KeySize.{KeySize}
use Rattle.ha_base.specs.declared.key_material.KeySize.TheVariants.{Bits128, Bits256}
use Rattle.ha_base.specs.declared.limits.TheConstants.{IV_END, MESSAGE_ID_END, NUMBER_END, SEQUENCE_END}
use Rattle.ha_base.specs.declared.key_material.SaKeys.{SaKeys}
use Rattle.ha_base.specs.declared.key_material.ChildKeys.{ChildKeys}
use Rattle.keeper_book.specs.declared.counters.Five.{Five}
use Rattle.ha_base.specs.KeySizes.{sealing_octets}
use Rattle.line_fields.specs.Octets.{IsOctetField}
use Rattle.events.specs.declared.event.Party.{Party}
use Rattle.events.specs.declared.event.Party.TheVariants as parties
use Rattle.events.specs.declared.event.Which.{Which}
use Rattle.events.specs.declared.event.Which.TheVariants as whiches

-- a sealing key of this size: an AES key and four octets of salt
abbrev pub IsSealingKey : KeySize → List ℕ → Type 0
IsSealingKey size key = IsOctetField (sealing_octets size) (sealing_octets size) key

pub record AreSaKeys (size : KeySize) (keys : SaKeys) : Type 0 where
  pub sk_d : IsOctetField 32 32 keys.sk_d
  pub sk_ei : IsSealingKey size keys.sk_ei
  pub sk_er : IsSealingKey size keys.sk_er
  pub sk_pi : IsOctetField 32 32 keys.sk_pi
  pub sk_pr : IsOctetField 32 32 keys.sk_pr

pub record AreChildKeys (size : KeySize) (keys : ChildKeys) : Type 0 where
  pub to_cluster : IsSealingKey size keys.to_cluster
  pub to_peer : IsSealingKey size keys.to_peer

pub record AreStarts (five : Five) : Type 0 where
  pub esp_out : five.esp_out < SEQUENCE_END
  pub esp_in : five.esp_in < SEQUENCE_END
  pub iv : five.iv < IV_END
  pub ask : five.ask < MESSAGE_ID_END
  pub answer : five.answer < MESSAGE_ID_END

-- no ticket key, or a sealing key of one of the two sizes
abbrev pub IsTicketKey : List ℕ → Type 0
IsTicketKey key = IsOctetField 0 0 key ⊎ IsSealingKey Bits128 key ⊎ IsSealingKey Bits256 key

abbrev pub IsParty : Party → Type 0
IsParty parties.Peer = Unit {0}
IsParty (parties.Member number) = number < NUMBER_END

abbrev pub IsWhich : Which → Type 0
IsWhich (whiches.Number number) = (1 ≤ number) × (number < 2 ^ 32)
IsWhich whiches.Last = Unit {0}
