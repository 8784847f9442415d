-- How a cluster is configured, and what its ends take from that.
use Rattle.std.specs.Prelude.{ℕ, ◌==◌, ◌||◌, codes, length, Option, Some, None, List, [], if◌then◌else◌}
use Rattle.aes_gcm.specs.NamedKey.{NamedKey}
use Rattle.events.specs.declared.event.Event.{Event}
use Rattle.events.specs.declared.event.Event.TheVariants as event
use Rattle.events.specs.declared.verdict.Verdict.{Verdict}
use Rattle.events.specs.declared.verdict.Verdict.TheVariants as out
use Rattle.ha_base.specs.KeySizes.{sealing_octets}
use Rattle.ha_base.specs.declared.counter_names.CounterName.{CounterName}
use Rattle.ha_base.specs.declared.counter_names.End.TheVariants as end
use Rattle.ha_base.specs.declared.counter_names.Kind.TheVariants as kind
use Rattle.ha_base.specs.declared.counter_names.Origin.TheVariants as origins
use Rattle.ha_base.specs.declared.identities.GatewayId.{GatewayId}
use Rattle.ha_base.specs.declared.identities.Identity.{Identity}
use Rattle.ha_base.specs.declared.key_material.KeySize.TheVariants.{Bits128, Bits256}

-- The cluster's identity, the lifetime of its tickets in seconds, the size of the receive windows
-- of ESP, and the key of its tickets, where there is one.
pub record Configuration : Type 0 where
  pub identity : Identity
  pub lifetime : ℕ
  pub window : ℕ
  pub ticket_key : Option NamedKey

-- the counter of the IVs under the first ticket key: generations are counted from 1
abbrev pub first_ticket_counter : CounterName
first_ticket_counter =
    record { origin = origins.TicketKey 1; kind = kind.TicketIv; child = 0; end = end.Cluster }

-- the first ticket key, by its octets, where they are those of a sealing key of one of the two sizes
abbrev pub first_ticket_key : List ℕ → Option NamedKey
first_ticket_key octets =
    if (length octets == sealing_octets Bits128) || (length octets == sealing_octets Bits256)
    then Some (record { name = first_ticket_counter; octets = octets })
    else None

-- where nothing configures the cluster: a domain name, tickets for an hour, and no ticket key
abbrev pub default_configuration : Configuration
default_configuration = record {
  identity = record { kind = 2; octets = codes "cluster" };
  lifetime = 3600;
  window = 64;
  ticket_key = None;
}

-- the configuration that an event set
abbrev pub configured_in : Event → Verdict → Option Configuration
configured_in (event.Cluster identity lifetime window ticket_key) out.Configured = Some (record {
  identity = identity;
  lifetime = lifetime;
  window = window;
  ticket_key = first_ticket_key ticket_key;
})
configured_in event verdict = None

-- how REDIRECT names a gateway of this identity: by an IPv4 or IPv6 address, and else by a name
-- (RFC 5685, section 9.2)
abbrev pub gateway_kind : ℕ → ℕ
gateway_kind identity = if identity == 1 then 1 else if identity == 5 then 2 else 3

-- the gateway that the peer talks to first: the cluster itself
abbrev pub gateway_of : Configuration → GatewayId
gateway_of config =
    record { kind = gateway_kind config.identity.kind; octets = config.identity.octets }

-- what a member is given as it joins: how it is configured, and fresh octets of its own
pub record Membership : Type 0 where
  pub config : Configuration
  pub fresh : List ℕ

abbrev pub membership : Configuration → List ℕ → Membership
membership config fresh = record { config = config; fresh = fresh }

-- the fresh octets of a member, if it joined
abbrev pub fresh_octets : Option Membership → List ℕ
fresh_octets None = []
fresh_octets (Some membership) = membership.fresh

-- the fresh octets of a member that joined at an event
abbrev pub fresh_in : Event → Verdict → Option (List ℕ)
fresh_in (event.Join fresh) (out.Member number) = Some fresh
fresh_in event verdict = None
