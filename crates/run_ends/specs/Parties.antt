-- What the ends of a run hold, and what an event makes of it.
use Rattle.std.specs.Prelude.{ℕ, zero, suc, ◌-◌, ◌≡◌, ◌<◌, ◌≤◌, ◌&&◌, ◌++◌, Bool, true, is_none, nat_le, nat_lt, Option, Some, None, option_to_list, List, [], length, slice_index_or}
use Rattle.std.specs.List.{AllByRecursion}
use Rattle.std.specs.Option.{option_map}
use Rattle.events.specs.declared.event.Event.{Event}
use Rattle.events.specs.declared.event.Event.TheVariants as event
use Rattle.events.specs.declared.turn.Step.{Step}
use Rattle.events.specs.declared.turn.Turn.{Turn}
use Rattle.ha_base.specs.declared.limits.TheConstants.{DATAGRAM_OCTETS}
use Rattle.ha_base.specs.declared.outside.Moment.{Moment}
use Rattle.keeper_book.specs.declared.calls.Call.{Call}
use Rattle.turn_rules.specs.Configurations.{Configuration, Membership, default_configuration, first_ticket_key, membership}
use Rattle.turn_rules.specs.Datagrams.{PlainDatagram, datagrams_of, plain_datagram}
use Rattle.turn_rules.specs.Fits.{Does, Performs}
use Rattle.turn_rules.specs.Local.{Local}
use Rattle.turn_rules.specs.PeerStates.{PeerHeld}
use Rattle.turn_rules.specs.MemberStates.{MemberHeld, no_member}
use Rattle.turn_rules.specs.States.{RunState, has_turns, state_after, state_by}
use Rattle.turn_rules.specs.TicketNumbers.{no_ticket_numbers}
use Rattle.cluster_member.specs.Members.{Holder, member_held}

-- boxes: how many services were handed in for members; config: how members are configured that
-- join; peer: what the peer holds; members: what each member holds that joined, and nothing where it
-- ended
pub record EndsHeld : Type 0 where
  pub boxes : ℕ
  pub config : Configuration
  pub peer : PeerHeld
  pub members : List (Option Holder)

-- a member that has not joined
abbrev pub nobody : Holder
nobody = record {
  number = 0;
  config = default_configuration;
  fresh = [];
  held = [];
  numbers = no_ticket_numbers;
}

-- who has this number, or else the other one: members are counted from 1, in the order in which
-- they joined
abbrev pub seat_or : Option Holder → List (Option Holder) → ℕ → Option Holder
seat_or other members zero = other
seat_or other members (suc place) = slice_index_or members place other

-- who the member of this number is
abbrev pub holder_of : List (Option Holder) → ℕ → Option Holder
holder_of members number = seat_or (Some nobody) members number

-- what a member was given when it joined
abbrev pub given_to : Holder → Membership
given_to holder = membership holder.config holder.fresh

-- what is held where somebody is
abbrev pub member_seen : Option Holder → MemberHeld
member_seen None = no_member
member_seen (Some holder) = member_held holder

-- what the member of this number holds, where it joined and did not end
abbrev pub member_at : List (Option Holder) → ℕ → MemberHeld
member_at members number = member_seen (seat_or None members number)

-- what the ends hold, whether anything was played, and what was given
abbrev pub state_with : Bool → List PlainDatagram → EndsHeld → RunState
state_with started datagrams s = record {
  boxes = s.boxes;
  started = started;
  config = s.config;
  joined = length s.members;
  ended = λ member. is_none (holder_of s.members member);
  datagrams = datagrams;
  peer = s.peer;
  members = λ member. member_at s.members member;
}

-- what the ends hold after these turns
abbrev pub state_of : List Turn → EndsHeld → RunState
state_of past s = state_with (has_turns past) (datagrams_of past) s

-- and after one more, by its step
abbrev pub state_then : List Turn → Step → EndsHeld → RunState
state_then past step s = state_with true (datagrams_of past
    ++ option_to_list (option_map plain_datagram step.gives)) s

-- a member of this number has joined
abbrev pub has_member : ℕ → List (Option Holder) → Bool
has_member member members = nat_lt 0 member && nat_le member (length members)

-- the member stands at this place
pub record IsMemberPlace (member place : ℕ) (members : List (Option Holder)) : Type 0 where
  pub joined : has_member member members ≡ true
  pub within : place < length members
  pub counted : place ≡ member - 1

-- a member of this number, which is configured so
pub record IsMember (number : ℕ) (config : Configuration) (holder : Holder) : Type 0 where
  pub number_is : holder.number ≡ number
  pub config_is : holder.config ≡ config

-- each member that is up has the number of its place
abbrev pub AreInPlace : EndsHeld → Type 0
AreInPlace s = (place : ℕ) (holder : Holder) → place < length s.members
    → holder_of s.members (suc place) ≡ Some holder → IsMember (suc place) s.config holder

-- what the ends do at a moment at an event after these turns, by what they hold, and that they hold
-- then what the turn makes of it
pub record Plays (past : List Turn) (old : EndsHeld) (now : Moment) (at : Event)
    (calls : List Call) (step : Step) (new : EndsHeld) : Type 0 where
  pub does : Does (state_of past old) now at calls step
  pub holds : state_then past step new ≡ state_after now at calls step (state_of past old)
  pub in_place : AreInPlace new

-- the same of an event that the run does not refuse
pub record Acts (past : List Turn) (old : EndsHeld) (now : Moment) (at : Event)
    (calls : List Call) (step : Step) (new : EndsHeld) : Type 0 where
  pub performs : Performs (state_of past old) now at calls step
  pub holds : state_then past step new ≡ state_after now at calls step (state_of past old)
  pub in_place : AreInPlace new

-- so it is at each event that configures the cluster so
abbrev pub Configures : Configuration → (Event → Type 0) → Type 0
Configures config plays = (ticket_key : List ℕ) → config.ticket_key ≡ first_ticket_key ticket_key
    → plays (event.Cluster config.identity config.lifetime config.window ticket_key)

-- datagrams are of at most so many octets
abbrev pub IsShort : PlainDatagram → Type 0
IsShort datagram = length datagram.octets ≤ DATAGRAM_OCTETS

-- what is held is what the turns make of it, and each turn is explained by those before it
pub record AreKept (past : List Turn) (s : EndsHeld) : Type 0 where
  pub state : state_of past s ≡ state_by s.boxes past
  pub in_place : AreInPlace s
  pub short : AllByRecursion IsShort (datagrams_of past)
  pub local : Local s.boxes past
