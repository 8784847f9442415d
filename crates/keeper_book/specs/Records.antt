-- What every record of an association keeps.
use Rattle.std.specs.Prelude.{ℕ, length, ◌≡◌, Option, Some, None}
use Rattle.ha_base.specs.declared.counter_names.Origin.{Origin}
use Rattle.ha_base.specs.declared.counter_names.Origin.TheVariants.{Imported, Resumed, TicketKey, Pool}
use Rattle.ha_base.specs.declared.key_material.KeySize.{KeySize}
use Rattle.ha_base.specs.declared.key_material.SaKeys.{SaKeys}
use Rattle.ha_base.specs.declared.key_material.ChildKeys.{ChildKeys}
use Rattle.ha_base.specs.KeySizes.{sealing_octets}

-- the responder's SPI of the association that an origin is of
abbrev pub spir_of_origin : Origin → Option ℕ
spir_of_origin (Imported spir) = Some spir
spir_of_origin (Resumed derivation) = Some derivation.spir
spir_of_origin (TicketKey generation) = None
spir_of_origin Pool = None

-- the four sealing keys have the length that the key size says
pub record HaveKeyLengths (size : KeySize) (keys : SaKeys) (child : ChildKeys) : Type 0 where
  pub sk_ei : length keys.sk_ei ≡ sealing_octets size
  pub sk_er : length keys.sk_er ≡ sealing_octets size
  pub to_cluster : length child.to_cluster ≡ sealing_octets size
  pub to_peer : length child.to_peer ≡ sealing_octets size
