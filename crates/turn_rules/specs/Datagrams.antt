-- The datagrams of a run, and what a delivery hands over.
use Rattle.std.specs.Prelude.{ℕ, ◌-◌, Option, Some, None, nat_le, nat_lt, length, List, [], ◌∷◌, ◌++◌, option_to_list, slice_get, slice_index_or, slice_set, take, if◌then◌else◌, Result, Ok, Err}
use Rattle.std.specs.Int.Bits.{bit_xor}
use Rattle.std.specs.Option.{option_map}
use Rattle.events.specs.declared.event.Event.{Event}
use Rattle.events.specs.declared.event.Event.TheVariants as event
use Rattle.events.specs.declared.event.Party.{Party}
use Rattle.events.specs.declared.event.Which.{Which}
use Rattle.events.specs.declared.event.Which.TheVariants as which
use Rattle.events.specs.declared.turn.Datagram.{Datagram}
use Rattle.events.specs.declared.turn.Medium.{Medium}
use Rattle.events.specs.declared.turn.Turn.{Turn}
use Rattle.events.specs.declared.verdict.Refusal.{Refusal}
use Rattle.events.specs.declared.verdict.Refusal.TheVariants as refusal

-- a datagram, by what it carries and its octets alone
pub record PlainDatagram : Type 0 where
  pub medium : Medium
  pub octets : List ℕ

abbrev pub plain_datagram : Datagram → PlainDatagram
plain_datagram datagram = record { medium = datagram.medium; octets = datagram.octets.octets }

-- the datagrams that were given, in their order
abbrev pub datagrams_of : List Turn → List PlainDatagram
datagrams_of [] = []
datagrams_of (turn ∷ past) = datagrams_of past ++ option_to_list
    (option_map plain_datagram turn.step.gives)

-- the datagram that is meant: they are counted from 1
abbrev pub datagram_at : Which → List PlainDatagram → Option PlainDatagram
datagram_at (which.Number number) datagrams = if nat_lt 0 number
    then slice_get datagrams (number - 1) else None
datagram_at which.Last datagrams = slice_get datagrams (length datagrams - 1)

-- octets with the one at this place changed by an exclusive or, where there is one
abbrev pub altered : ℕ → ℕ → List ℕ → Option (List ℕ)
altered place octet octets = if nat_lt place (length octets)
    then Some (slice_set octets place (bit_xor (slice_index_or octets place 0) octet)) else None

-- the first octets, where there are so many
abbrev pub cut : ℕ → List ℕ → Option (List ℕ)
cut keep octets = if nat_le keep (length octets) then Some (take keep octets) else None

-- a datagram whose octets were changed so, or why there is none
abbrev pub changed : Option PlainDatagram → (List ℕ → Option (List ℕ))
    → Result PlainDatagram Refusal
changed None change = Err refusal.NoDatagram
changed (Some datagram) change = with_octets datagram.medium (change datagram.octets)
  where
    with_octets : Medium → Option (List ℕ) → Result PlainDatagram Refusal
    with_octets medium None = Err refusal.NoOctet
    with_octets medium (Some octets) = Ok (record { medium = medium; octets = octets })

-- what is delivered, and to whom: one of the datagrams that there are, changed or not, or octets of
-- the event's own
pub record Delivery : Type 0 where
  pub to : Party
  pub made : List PlainDatagram → Result PlainDatagram Refusal

-- the delivery that an event is, where it is one
abbrev pub delivery_of : Event → Option Delivery
delivery_of (event.Deliver which to) = Some (record {
  to = to;
  made = λ datagrams. changed (datagram_at which datagrams) Some;
})
delivery_of (event.Alter which to place octet) =
    Some (record {
      to = to;
      made = λ datagrams. changed (datagram_at which datagrams)
          (altered place octet);
    })
delivery_of (event.Cut which to keep) = Some (record {
  to = to;
  made = λ datagrams. changed (datagram_at which datagrams) (cut keep);
})
delivery_of (event.Inject to medium octets) =
    Some (record {
      to = to;
      made = λ datagrams. Ok
          (record { medium = medium; octets = octets.octets });
    })
delivery_of event = None

-- what is delivered of these datagrams, which stay as they are, or why nothing is
abbrev pub made_of : List PlainDatagram → Option Delivery → Result PlainDatagram Refusal
made_of datagrams None = Err refusal.NoDatagram
made_of datagrams (Some delivery) = delivery.made datagrams

-- what an event delivers
abbrev pub arrives : List PlainDatagram → Event → Result PlainDatagram Refusal
arrives datagrams event = made_of datagrams (delivery_of event)
