-- What the ends of a run hold before an event, as it decides what the event does, and what a turn
-- makes of that.
use Rattle.std.specs.Prelude.{ℕ, suc, ◌==◌, ◌||◌, ◌++◌, Bool, true, false, unwrap_or, Option, Some, None, option_to_list, List, [], ◌∷◌, length, if◌then◌else◌}
use Rattle.std.specs.List.{filter, list_any}
use Rattle.std.specs.Option.{option_map}
use Rattle.events.specs.declared.event.Event.{Event}
use Rattle.events.specs.declared.event.Event.TheVariants as event
use Rattle.events.specs.declared.turn.Step.{Step}
use Rattle.events.specs.declared.turn.Turn.{Turn}
use Rattle.events.specs.declared.verdict.Verdict.{Verdict}
use Rattle.events.specs.declared.verdict.Verdict.TheVariants as out
use Rattle.ha_base.specs.declared.outside.Moment.{Moment}
use Rattle.keeper_book.specs.declared.calls.Call.{Call}
use Rattle.turn_rules.specs.Configurations.{Configuration, configured_in, default_configuration, fresh_in, gateway_of}
use Rattle.turn_rules.specs.Datagrams.{PlainDatagram, datagrams_of, plain_datagram}
use Rattle.turn_rules.specs.Ends.{Member, Peer, is_end, own, performer_at}
use Rattle.turn_rules.specs.Held.{config_by}
use Rattle.turn_rules.specs.MemberStates.{MemberHeld, member_after, member_by, member_unless, no_member}
use Rattle.turn_rules.specs.PeerStates.{PeerHeld, peer_after, peer_begun, peer_by, peer_configured}
use Rattle.turn_rules.specs.Tasks.{member_task, peer_task}

-- boxes: how many services were handed in for members; config: how members are configured that
-- join; joined: how many members joined; peer: what the peer holds. `ended` and `members` are by the
-- number of a member, counted from 1.
pub record RunState : Type 0 where
  pub boxes : ℕ
  pub started : Bool
  pub config : Configuration
  pub joined : ℕ
  pub ended : ℕ → Bool
  pub datagrams : List PlainDatagram
  pub peer : PeerHeld
  pub members : ℕ → MemberHeld

abbrev pub is_join : Verdict → Bool
is_join (out.Member number) = true
is_join verdict = false

abbrev pub joined_after : Bool → ℕ → ℕ
joined_after true joined = suc joined
joined_after false joined = joined

-- the member that an event ended
abbrev pub ended_by : Event → Verdict → Option ℕ
ended_by (event.Crash member) out.Down = Some member
ended_by event verdict = None

abbrev pub is_number : ℕ → Option ℕ → Bool
is_number member None = false
is_number member (Some other) = other == member

-- the member that ended in a turn
abbrev pub ended_in : Turn → Option ℕ
ended_in turn = ended_by turn.event turn.step.verdict

-- the event ended this member
abbrev pub ends : ℕ → Event → Verdict → Bool
ends member event verdict = is_number member (ended_by event verdict)

-- before the first turn nobody holds anything
abbrev pub at_first : ℕ → RunState
at_first boxes = record {
  boxes = boxes;
  started = false;
  config = default_configuration;
  joined = 0;
  ended = λ member. false;
  datagrams = [];
  peer = peer_begun (gateway_of default_configuration);
  members = λ member. no_member;
}

-- what a turn makes of what the ends hold: the end that performs it goes on, and the others stay as
-- they are
abbrev pub state_after : Moment → Event → List Call → Step → RunState → RunState
state_after now event calls step state = record {
  boxes = state.boxes;
  started = true;
  config = unwrap_or (configured_in event step.verdict) state.config;
  joined = joined_after (is_join step.verdict) state.joined;
  ended = λ member. ends member event step.verdict || state.ended member;
  datagrams = state.datagrams ++ option_to_list (option_map plain_datagram step.gives);
  peer = peer_configured (configured_in event step.verdict)
      (if is_end Peer (performer_at event step.verdict)
      then peer_after state.config.window now (peer_task event) step state.peer
      else state.peer);
  members = λ member. member_unless (ends member event step.verdict || state.ended member)
      (if is_end (Member member) (performer_at event step.verdict)
      then member_after state.config now (fresh_in event step.verdict) (member_task event) calls step
      (state.members member)
      else state.members member);
}

-- what the turns of a run make of what its ends hold; the newest turn comes first
abbrev pub state_by : ℕ → List Turn → RunState
state_by boxes [] = at_first boxes
state_by boxes (turn ∷ past) =
    state_after turn.moment turn.event turn.calls turn.step (state_by boxes past)

abbrev pub has_turns : List Turn → Bool
has_turns [] = false
has_turns (turn ∷ past) = true

-- how many members have joined
abbrev pub joins : List Turn → ℕ
joins past = length (filter (λ turn. is_join turn.step.verdict) past)

-- this member ended
abbrev pub has_ended : ℕ → List Turn → Bool
has_ended member past = list_any (λ turn. ends member turn.event turn.step.verdict) past

-- The same, as each end's own turns tell it: with the greatest numbers that it used and saw
-- acknowledged, and the sets of those that it received. The laws say that it is the same where each
-- turn is explained.
abbrev pub told_state : ℕ → List Turn → RunState
told_state boxes past = record {
  boxes = boxes;
  started = has_turns past;
  config = config_by past;
  joined = joins past;
  ended = λ member. has_ended member past;
  datagrams = datagrams_of past;
  peer = peer_by (config_by past) (own Peer past);
  members = λ member. member_unless (has_ended member past)
      (member_by (config_by past) (own (Member member) past));
}
