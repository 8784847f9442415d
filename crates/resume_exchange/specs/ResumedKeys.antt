-- The keys of a resumed association, and the counters of the IVs that its messages are sealed with.
use Rattle.std.specs.Prelude.{ℕ, List}
use Rattle.aes_gcm.specs.NamedKey.{NamedKey}
use Rattle.ha_base.specs.KeySizes.{sealing_octets}
use Rattle.ha_base.specs.declared.counter_names.CounterName.{CounterName}
use Rattle.ha_base.specs.declared.counter_names.Derivation.{Derivation}
use Rattle.ha_base.specs.declared.counter_names.End.{End}
use Rattle.ha_base.specs.declared.counter_names.End.TheVariants.{Cluster, Peer}
use Rattle.ha_base.specs.declared.counter_names.Kind.TheVariants.{Iv}
use Rattle.ha_base.specs.declared.counter_names.Origin.TheVariants.{Resumed}
use Rattle.ha_base.specs.declared.key_material.ChildKeys.{ChildKeys}
use Rattle.ha_base.specs.declared.key_material.KeySize.{KeySize}
use Rattle.ha_base.specs.declared.key_material.SaKeys.{SaKeys}
use Rattle.key_schedule.specs.Keys.{keymat, keys_of_child, sa_keys, sa_stream}

-- the keys of the resumed association (RFC 5723, section 5.1)
abbrev pub resumed_sa_keys : List ℕ → KeySize → Derivation → SaKeys
resumed_sa_keys old_sk_d size from =
    let key_octets = sealing_octets size in
    sa_keys key_octets (sa_stream key_octets old_sk_d from.ni from.nr from.spii from.spir)

-- the keys of its Child SA (RFC 7296, section 2.17)
abbrev pub resumed_child_keys : List ℕ → KeySize → Derivation → ChildKeys
resumed_child_keys old_sk_d size from =
    let key_octets = sealing_octets size in
    keys_of_child key_octets
    (keymat key_octets (resumed_sa_keys old_sk_d size from).sk_d from.ni from.nr)

-- the counter whose numbers are the IVs of what an end seals
abbrev pub iv_counter : Derivation → End → CounterName
iv_counter from end = record { origin = Resumed from; kind = Iv; child = 0; end = end }

-- the key with which an end seals: the peer is the initiator (RFC 7296, section 2.14)
abbrev pub sealing_key : SaKeys → Derivation → End → NamedKey
sealing_key keys from Peer = record { name = iv_counter from Peer; octets = keys.sk_ei }
sealing_key keys from Cluster = record { name = iv_counter from Cluster; octets = keys.sk_er }
