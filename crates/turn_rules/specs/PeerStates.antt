-- What the peer holds, and what a turn makes of it.
use Rattle.std.specs.Prelude.{ℕ, Option, Some, None, List, []}
use Rattle.events.specs.declared.turn.Step.{Step}
use Rattle.events.specs.declared.turn.Turn.{Turn}
use Rattle.ha_base.specs.declared.identities.GatewayId.{GatewayId}
use Rattle.ha_base.specs.declared.outside.Moment.{Moment}
use Rattle.turn_rules.specs.Configurations.{Configuration, gateway_of}
use Rattle.turn_rules.specs.Slots.{Slot, slots_after, slots_by}
use Rattle.turn_rules.specs.Tasks.{Task}

-- the gateway that it talks to, and its associations
pub record PeerHeld : Type 0 where
  pub gateway : GatewayId
  pub slots : List Slot

-- a peer to which no association came yet
abbrev pub peer_begun : GatewayId → PeerHeld
peer_begun gateway = record { gateway = gateway; slots = [] }

-- what the peer holds once the cluster was configured, if it was
abbrev pub peer_configured : Option Configuration → PeerHeld → PeerHeld
peer_configured None held = held
peer_configured (Some config) held = record held { gateway = gateway_of config }

-- what the peer holds after a task of its own at a moment, with receive windows of this size
abbrev pub peer_after : ℕ → Moment → Task → Step → PeerHeld → PeerHeld
peer_after size now asked step held =
    record held { slots = slots_after size now asked step held.slots }

-- what the peer holds, as the configuration and its own turns tell it
abbrev pub peer_by : Configuration → List Turn → PeerHeld
peer_by config past = record {
  gateway = gateway_of config;
  slots = slots_by config.window past;
}
