-- What a line says of an event.
use Rattle.std.specs.Prelude.{ℕ, List}
use Rattle.ha_base.specs.declared.counter_names.Origin.{Origin}
use Rattle.ha_base.specs.declared.identities.Identity.{Identity}
use Rattle.events.specs.declared.event.Party.{Party}
use Rattle.events.specs.declared.event.Which.{Which}
use Rattle.events.specs.declared.turn.Medium.{Medium}
use Rattle.ha_base.specs.declared.key_material.KeySize.{KeySize}
use Rattle.ha_base.specs.declared.key_material.SaKeys.{SaKeys}
use Rattle.ha_base.specs.declared.key_material.ChildKeys.{ChildKeys}
use Rattle.keeper_book.specs.declared.counters.Five.{Five}
use Rattle.keeper_book.specs.declared.records.Record.{Record}
use Rattle.events.specs.declared.event.Event.{Event}
use Rattle.events.specs.declared.event.Event.TheVariants as events

-- an association, by the fields of its record alone
pub record Association : Type 0 where
  pub origin : Origin
  pub spii : ℕ
  pub spir : ℕ
  pub size : KeySize
  pub identity : Identity
  pub keys : SaKeys
  pub spi_in : ℕ
  pub spi_out : ℕ
  pub child : ChildKeys
  pub starts : Five

abbrev pub association : Record → Association
association sa =
    record {
      origin = sa.origin;
      spii = sa.spii;
      spir = sa.spir;
      size = sa.size;
      identity = sa.identity;
      keys = sa.keys;
      spi_in = sa.spi_in;
      spi_out = sa.spi_out;
      child = sa.child;
      starts = sa.starts;
    }

-- an event, by the fields of its line alone
pub data PlainEvent : Type 0 where
  Cluster : Identity → ℕ → ℕ → List ℕ → PlainEvent
  Import : Association → PlainEvent
  Join : List ℕ → PlainEvent
  Own : ℕ → ℕ → PlainEvent
  Draw : ℕ → ℕ → PlainEvent
  Crash : ℕ → PlainEvent
  Send : Party → ℕ → List ℕ → PlainEvent
  Ask : Party → ℕ → List ℕ → PlainEvent
  Again : Party → ℕ → ℕ → PlainEvent
  Sync : ℕ → ℕ → PlainEvent
  Ticket : ℕ → PlainEvent
  Forget : ℕ → PlainEvent
  Deliver : Which → Party → PlainEvent
  Alter : Which → Party → ℕ → ℕ → PlainEvent
  Cut : Which → Party → ℕ → PlainEvent
  Inject : Party → Medium → List ℕ → PlainEvent

abbrev pub plain : Event → PlainEvent
plain (events.Cluster identity lifetime window ticket_key) =
    Cluster identity lifetime window ticket_key
plain (events.Import sa) = Import (association sa)
plain (events.Join fresh) = Join fresh
plain (events.Own member spir) = Own member spir
plain (events.Draw member spir) = Draw member spir
plain (events.Crash member) = Crash member
plain (events.Send from spir payload) = Send from spir payload.octets
plain (events.Ask from spir request) = Ask from spir request.octets
plain (events.Again from spir id) = Again from spir id
plain (events.Sync member spir) = Sync member spir
plain (events.Ticket spir) = Ticket spir
plain (events.Forget spir) = Forget spir
plain (events.Deliver which to) = Deliver which to
plain (events.Alter which to place octet) = Alter which to place octet
plain (events.Cut which to keep) = Cut which to keep
plain (events.Inject to medium octets) = Inject to medium octets.octets
