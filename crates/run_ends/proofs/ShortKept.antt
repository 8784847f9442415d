-- What the ends keep of requests and responses was given once, and so it is short.
use Rattle.std.proofs.Common.{◌≡◌, ℕ, ◌==◌, ◌≤◌, ◌||◌, Bool, true, false, not, Option, Some, None, List, [], ◌∷◌, ◌++◌, filter, length, nat_le, option_to_list, subst, if◌then◌else◌, max}
use Rattle.std.proofs.lemmas.Option.{same_Some}
use Rattle.std.specs.List.{AllByRecursion}
use Rattle.std.specs.Option.{option_map}
use Rattle.std.specs.Prelude.{IfSome}
use Rattle.events.specs.declared.turn.Datagram.{Datagram}
use Rattle.events.specs.declared.turn.Step.{Step}
use Rattle.events.specs.declared.turn.Turn.{Turn}
use Rattle.events.specs.declared.verdict.Verdict.{Verdict}
use Rattle.events.specs.declared.verdict.Verdict.TheVariants as out
use Rattle.ha_base.specs.declared.limits.TheConstants.{DATAGRAM_OCTETS}
use Rattle.ike_window.specs.Kept.{KeptMessage, kept_octets, with_kept}
use Rattle.ike_window.specs.Stored.{least_free}
use Rattle.ike_window.specs.Windows.{ResponseWindow, is_repeatable}
use Rattle.keeper_book.specs.declared.calls.Call.{Call}
use Rattle.keeper_book.specs.declared.records.Record.{Record}
use Rattle.keeper_book.specs.declared.records.Taken.{Taken}
use Rattle.turn_rules.specs.Configurations.{Configuration, configured_in, fresh_in}
use Rattle.turn_rules.specs.Datagrams.{PlainDatagram, datagrams_of, plain_datagram}
use Rattle.turn_rules.specs.Ends.{Member, Peer, is_end, performer_at}
use Rattle.turn_rules.specs.Held.{Held, advanced, first_some, grant_in, held_after, held_begun}
use Rattle.turn_rules.specs.IkeState.{answered_after, kept_under, outstanding_after, replied_in, request_in, request_sent, response_in, response_to, taken_id, with_sent, without_replied, with_taken}
use Rattle.turn_rules.specs.Peers.{entered_at_task}
use Rattle.turn_rules.specs.PeerStates.{peer_after, peer_configured}
use Rattle.turn_rules.specs.Slots.{Slot, entered_slot, slots_after}
use Rattle.turn_rules.specs.States.{RunState, ends, state_by}
use Rattle.turn_rules.specs.Synchronised.{Agreed, after_floor, agreed_in, ends_in}
use Rattle.turn_rules.specs.Tasks as task
use Rattle.turn_rules.specs.Tasks.{Task, member_task, peer_task}
use Rattle.run_ends.proofs.MessageBounds.{IsBrief}
use Rattle.run_ends.specs.Parties.{IsShort}
use Rattle.turn_rules.specs.MemberStates.{member_unless, member_after}
use Rattle.ha_base.specs.declared.outside.Moment.{Moment}

-- messages that are kept are short
abbrev pub IsShortMessage : KeptMessage → Type 0
IsShortMessage message = length message.octets ≤ DATAGRAM_OCTETS

abbrev pub AreShort : List KeptMessage → Type 0
AreShort kept = AllByRecursion IsShortMessage kept

pub record KeepsShort (asked : List KeptMessage) (answered : ResponseWindow) : Type 0 where
  pub of_asked : AreShort asked
  pub of_answered : AreShort answered.responses

pub kept-short : (id : ℕ) (kept : List KeptMessage) (octets : List ℕ) → AreShort kept → kept_octets id kept ≡ Some octets → length octets ≤ DATAGRAM_OCTETS
kept-short id [] octets all e = absurd (cc)
kept-short id (message ∷ rest) octets all e = by_id (message.id == id) e (kept-short id rest octets all.1)
  where
    by_id : (b : Bool) → (if b then Some message.octets else kept_octets id rest) ≡ Some octets → (kept_octets id rest ≡ Some octets → length octets ≤ DATAGRAM_OCTETS) → length octets ≤ DATAGRAM_OCTETS
    by_id true e later = subst (λ o. length o ≤ DATAGRAM_OCTETS) (same_Some message.octets octets e) all.0
    by_id false e later = later e

filter-short : (test : KeptMessage → Bool) (kept : List KeptMessage) → AreShort kept → AreShort (filter test kept)
filter-short test [] all = tt
filter-short test (message ∷ rest) all = by_test (test message) (filter-short test rest all.1)
  where
    by_test : (b : Bool) → AreShort (filter test rest) → AreShort (if b then message ∷ filter test rest else filter test rest)
    by_test true later = (all.0, later)
    by_test false later = later

with_kept-short : (message : KeptMessage) (kept : List KeptMessage) → IsShortMessage message → AreShort kept → AreShort (with_kept message kept)
with_kept-short message [] one all = (one, tt)
with_kept-short message (other ∷ rest) one all = by_order (nat_le message.id other.id) (with_kept-short message rest one all.1)
  where
    by_order : (b : Bool) → AreShort (with_kept message rest) → AreShort (if b then message ∷ other ∷ rest else other ∷ with_kept message rest)
    by_order true later = (one, all)
    by_order false later = (all.0, later)

more-short : (kept : List KeptMessage) (message : KeptMessage) → AreShort kept → IsShortMessage message → AreShort (kept ++ message ∷ [])
more-short [] message all one = (one, tt)
more-short (other ∷ rest) message all one = (all.0, more-short rest message all.1 one)

-- what a step gives is kept
abbrev MaybeShort : Option KeptMessage → Type 0
MaybeShort x = IfSome x IsShortMessage

under-short : (id : ℕ) (gives : Option Datagram) → AllByRecursion IsShort (option_to_list (option_map plain_datagram gives)) → MaybeShort (kept_under id gives)
under-short id None brief = tt
under-short id (Some datagram) brief = brief.0

module _ (step : Step) (brief : IsBrief step) (spir : ℕ) where
  sent-short : (verdict : Verdict) → MaybeShort (request_sent verdict step.gives)
  sent-short (out.Asked id) = under-short id step.gives brief
  sent-short verdict = tt

  request-short : (asked : Task) → MaybeShort (request_in spir asked step)
  request-short (task.Ask of request) = by_spir (of == spir)
    where
      by_spir : (b : Bool) → MaybeShort (if b then request_sent step.verdict step.gives else None)
      by_spir true = sent-short step.verdict
      by_spir false = tt
  request-short asked = tt

  to-short : (id : Option ℕ) → MaybeShort (response_to id step.gives)
  to-short None = tt
  to-short (Some id) = under-short id step.gives brief

  response-short : (asked : Task) → MaybeShort (response_in spir asked step)
  response-short task.Receive = to-short (taken_id spir step.verdict)
  response-short asked = tt

outstanding-short : (ends : Bool) (sent : Option KeptMessage) (replied : Option ℕ) (asked : List KeptMessage) → MaybeShort sent → AreShort asked → AreShort (outstanding_after ends sent replied asked)
outstanding-short true sent replied asked one all = tt
outstanding-short false sent replied asked one all = by_replied replied (by_sent sent one)
  where
    by_sent : (x : Option KeptMessage) → MaybeShort x → AreShort (with_sent x asked)
    by_sent None one = all
    by_sent (Some message) one = more-short asked message all one

    by_replied : (x : Option ℕ) → AreShort (with_sent sent asked) → AreShort (without_replied x (with_sent sent asked))
    by_replied None all = all
    by_replied (Some id) all = filter-short (λ message. not (message.id == id)) (with_sent sent asked) all

taken-short : (response : Option KeptMessage) (answered : ResponseWindow) → MaybeShort response → AreShort answered.responses → AreShort (with_taken response answered).responses
taken-short None answered one all = all
taken-short (Some response) answered one all =
    let kept = with_kept response answered.responses in
    filter-short (is_repeatable answered.floor (least_free answered.low kept)) kept (with_kept-short response answered.responses one all)

floor-short : (agreed : Option Agreed) (answered : ResponseWindow) → AreShort answered.responses → AreShort (after_floor agreed answered).responses
floor-short None answered all = all
floor-short (Some agreed) answered all = filter-short (is_repeatable (max answered.floor agreed.floor) (least_free (max answered.low agreed.floor) answered.responses)) answered.responses all

answered-short : (agreed : Option Agreed) (response : Option KeptMessage) (answered : ResponseWindow) → MaybeShort response → AreShort answered.responses → AreShort (answered_after agreed response answered).responses
answered-short agreed response answered one all = taken-short response (after_floor agreed answered) one (floor-short agreed answered all)

keeps-after : (step : Step) → IsBrief step → (spir : ℕ) (asked : Task) (requests : List KeptMessage) (answered : ResponseWindow) → KeepsShort requests answered
    → KeepsShort (outstanding_after (ends_in (agreed_in spir asked step.verdict)) (request_in spir asked step) (replied_in spir asked step.verdict) requests) (answered_after (agreed_in spir asked step.verdict) (response_in spir asked step) answered)
keeps-after step brief spir asked requests answered short = record {
  of_asked = outstanding-short (ends_in (agreed_in spir asked step.verdict)) (request_in spir asked step) (replied_in spir asked step.verdict) requests (request-short step brief spir asked) short.of_asked;
  of_answered = answered-short (agreed_in spir asked step.verdict) (response_in spir asked step) answered (response-short step brief spir asked) short.of_answered;
}

-- what the peer holds, and what a member holds
abbrev pub SlotsKeepShort : List Slot → Type 0
SlotsKeepShort slots = AllByRecursion (λ slot. KeepsShort slot.asked slot.answered) slots

abbrev pub HeldKeepsShort : Option Held → Type 0
HeldKeepsShort held = IfSome held (λ h. KeepsShort h.asked h.answered)

pub record StateKeepsShort (state : RunState) : Type 0 where
  pub of_peer : SlotsKeepShort state.peer.slots
  pub of_members : (member spir : ℕ) → HeldKeepsShort ((state.members member).held spir)

module _ (step : Step) (brief : IsBrief step) (size : ℕ) (asked : Task) where
  entered-short : (x : Option Record) → SlotsKeepShort (option_to_list (option_map (entered_slot size) x))
  entered-short None = tt
  entered-short (Some sa) = (record { of_asked = tt; of_answered = tt }, tt)

  slots-short : (now : Moment) (slots : List Slot) → SlotsKeepShort slots → SlotsKeepShort (slots_after size now asked step slots)
  slots-short now [] all = entered-short (entered_at_task asked step.verdict)
  slots-short now (slot ∷ slots) all = (keeps-after step brief slot.sa.spir asked slot.asked slot.answered all.0, slots-short now slots all.1)

  held-short : (spir : ℕ) (calls : List Call) (held : Option Held) → HeldKeepsShort held → HeldKeepsShort (held_after size spir asked calls step held)
  held-short spir calls held all = by_grant (grant_in spir calls)
    where
      by_held : (x : Option Held) → HeldKeepsShort x → HeldKeepsShort (option_map (advanced spir asked calls step) x)
      by_held None short = tt
      by_held (Some h) short = keeps-after step brief spir asked h.asked h.answered short

      by_grant : (x : Option Taken) → HeldKeepsShort (first_some (option_map (held_begun size) x) (option_map (advanced spir asked calls step) held))
      by_grant None = by_held held all
      by_grant (Some taken) = record { of_asked = tt; of_answered = tt }

-- after turns that gave nothing long
front-short : (xs ys : List PlainDatagram) → AllByRecursion IsShort (xs ++ ys) → AllByRecursion IsShort xs × AllByRecursion IsShort ys
front-short [] ys all = (tt, all)
front-short (x ∷ xs) ys all = let rest = front-short xs ys all.1 in ((all.0, rest.0), rest.1)

module _ (boxes : ℕ) (past : List Turn) (turn : Turn) (was : StateKeepsShort (state_by boxes past)) (brief : IsBrief turn.step) where
  abbrev before : RunState
  before = state_by boxes past

  peer-short : (b : Bool) (sets : Option Configuration) → SlotsKeepShort (peer_configured sets (if b then peer_after before.config.window turn.moment (peer_task turn.event) turn.step before.peer else before.peer)).slots
  peer-short true None = slots-short turn.step brief before.config.window (peer_task turn.event) turn.moment before.peer.slots was.of_peer
  peer-short true (Some config) = slots-short turn.step brief before.config.window (peer_task turn.event) turn.moment before.peer.slots was.of_peer
  peer-short false None = was.of_peer
  peer-short false (Some config) = was.of_peer

  member-short : (member spir : ℕ) (gone b : Bool) → HeldKeepsShort ((member_unless gone
      (if b then member_after before.config turn.moment (fresh_in turn.event turn.step.verdict) (member_task turn.event) turn.calls turn.step (before.members member) else before.members member)).held spir)
  member-short member spir true b = tt
  member-short member spir false true = held-short turn.step brief before.config.window (member_task turn.event) spir turn.calls ((before.members member).held spir) (was.of_members member spir)
  member-short member spir false false = was.of_members member spir

  then-short : StateKeepsShort (state_by boxes (turn ∷ past))
  then-short = record {
    of_peer = peer-short (is_end Peer (performer_at turn.event turn.step.verdict)) (configured_in turn.event turn.step.verdict);
    of_members = λ member spir. member-short member spir (ends member turn.event turn.step.verdict || before.ended member) (is_end (Member member) (performer_at turn.event turn.step.verdict));
  }

pub state-short : (boxes : ℕ) (past : List Turn) → AllByRecursion IsShort (datagrams_of past) → StateKeepsShort (state_by boxes past)
state-short boxes [] all = record { of_peer = tt; of_members = λ member spir. tt }
state-short boxes (turn ∷ past) all =
    let both = front-short (datagrams_of past) (option_to_list (option_map plain_datagram turn.step.gives)) all in
    then-short boxes past turn (state-short boxes past both.0) both.1
