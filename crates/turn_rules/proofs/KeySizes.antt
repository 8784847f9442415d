-- The keys of a record have one of two lengths.
use Rattle.std.proofs.Common.{◌≡◌, ℕ, inl, inr, List, length}
use Rattle.ha_base.specs.declared.key_material.ChildKeys.{ChildKeys}
use Rattle.ha_base.specs.declared.key_material.KeySize.{KeySize}
use Rattle.ha_base.specs.declared.key_material.KeySize.TheVariants.{Bits128, Bits256}
use Rattle.ha_base.specs.declared.key_material.SaKeys.{SaKeys}
use Rattle.ha_base.specs.KeySizes.{HasKeySize, sealing_octets}
use Rattle.keeper_book.specs.Records.{HaveKeyLengths}

sized : (size : KeySize) (key : List ℕ) → length key ≡ sealing_octets size → HasKeySize key
sized Bits128 key e = inl e
sized Bits256 key e = inr e

pub sized_sk_ei : (size : KeySize) (keys : SaKeys) (child : ChildKeys) → HaveKeyLengths size keys child → HasKeySize keys.sk_ei
sized_sk_ei size keys child h = sized size keys.sk_ei h.sk_ei

pub sized_sk_er : (size : KeySize) (keys : SaKeys) (child : ChildKeys) → HaveKeyLengths size keys child → HasKeySize keys.sk_er
sized_sk_er size keys child h = sized size keys.sk_er h.sk_er

pub sized_to_cluster : (size : KeySize) (keys : SaKeys) (child : ChildKeys) → HaveKeyLengths size keys child → HasKeySize child.to_cluster
sized_to_cluster size keys child h = sized size child.to_cluster h.to_cluster

pub sized_to_peer : (size : KeySize) (keys : SaKeys) (child : ChildKeys) → HaveKeyLengths size keys child → HasKeySize child.to_peer
sized_to_peer size keys child h = sized size child.to_peer h.to_peer
