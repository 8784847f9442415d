-- What a member's own turns say that it holds.
use Rattle.std.specs.Prelude.{ℕ, ◌+◌, ◌==◌, ◌&&◌, ◌||◌, max, unwrap_or, Bool, true, false, Option, Some, None, is_some, List, [], ◌∷◌, map, if◌then◌else◌}
use Rattle.std.specs.List.{filter_map, flat_map}
use Rattle.std.specs.Option.{option_map}
use Rattle.events.specs.declared.event.Event.{Event}
use Rattle.events.specs.declared.seals.Seal.{Seal}
use Rattle.events.specs.declared.turn.Step.{Step}
use Rattle.events.specs.declared.turn.Turn.{Turn}
use Rattle.events.specs.declared.verdict.Verdict.{Verdict}
use Rattle.events.specs.declared.verdict.Verdict.TheVariants as out
use Rattle.ha_base.specs.declared.counter_names.End.{End}
use Rattle.ha_base.specs.declared.counter_names.End.TheVariants as end
use Rattle.ike_window.specs.Kept.{KeptMessage}
use Rattle.ike_window.specs.Stored.{no_responses, window_of_responses}
use Rattle.ike_window.specs.Windows.{ResponseWindow}
use Rattle.keeper_book.specs.Counters.{counter_named, five_at}
use Rattle.keeper_book.specs.Told.{seen}
use Rattle.keeper_book.specs.declared.calls.Call.{Call}
use Rattle.keeper_book.specs.declared.calls.KeeperAnswer.{KeeperAnswer}
use Rattle.keeper_book.specs.declared.calls.KeeperAnswer.TheVariants as answer
use Rattle.keeper_book.specs.declared.calls.KeeperAsk.{KeeperAsk}
use Rattle.keeper_book.specs.declared.calls.KeeperAsk.TheVariants as ask
use Rattle.keeper_book.specs.declared.counters.Counter.{Counter}
use Rattle.keeper_book.specs.declared.counters.Counter.TheVariants as counter
use Rattle.keeper_book.specs.declared.counters.Five.{Five}
use Rattle.keeper_book.specs.declared.records.Record.{Record}
use Rattle.keeper_book.specs.declared.records.Taken.{Taken}
use Rattle.keeper_book.specs.Records.{spir_of_origin}
use Rattle.replay_set.specs.Window.{Window, window_of, with_noted}
use Rattle.turn_rules.specs.Configurations.{Configuration, configured_in, default_configuration}
use Rattle.turn_rules.specs.CountersOf.{is_of_spir}
use Rattle.turn_rules.specs.Datagrams.{delivery_of}
use Rattle.turn_rules.specs.IkeState.{answered_after, sealed_iv, outstanding_after, outstanding_of, replied_in, request_in, response_in, turn_agreed, turn_response}
use Rattle.turn_rules.specs.Synchronised.{Agreed, after_jump, agreed_in, announced_in, ends_in, jumped_in}
use Rattle.turn_rules.specs.Tasks as task
use Rattle.turn_rules.specs.Tasks.{Task, member_task, receipt}

-- What a member holds of an association: the record and the epoch that it was granted, of each
-- counter where the epoch began, the next number, and the high below which numbers may be used, and
-- which ESP numbers were received in it. Of IKE messages it holds the requests that are outstanding,
-- what was answered, and whether requests may be answered, which a later epoch has to synchronise
-- for first (RFC 6311, section 5.1); and the Message ID that it announced last, if it asked for that.
pub record Held : Type 0 where
  pub sa : Record
  pub epoch : ℕ
  pub bases : Five
  pub nexts : Five
  pub highs : Five
  pub window : Window
  pub asked : List KeptMessage
  pub answered : ResponseWindow
  pub synced : Bool
  pub attempt : Option ℕ

abbrev pub first_some : {Y : Type 0} → Option Y → Option Y → Option Y
first_some None later = later
first_some (Some y) later = Some y

-- the first thing that is found in a list
abbrev pub found : {X Y : Type 0} → (X → Option Y) → List X → Option Y
found f [] = None
found f (x ∷ xs) = first_some (f x) (found f xs)

abbrev pub greatest : ℕ → List ℕ → ℕ
greatest least [] = least
greatest least (n ∷ ns) = max n (greatest least ns)

abbrev pub five_of : (Counter → ℕ) → Five
five_of f = record {
  esp_out = f counter.EspOut;
  esp_in = f counter.EspIn;
  iv = f counter.Iv;
  ask = f counter.Ask;
  answer = f counter.Answer;
}

abbrev pub is_counter : Counter → Counter → Bool
is_counter counter.EspOut counter.EspOut = true
is_counter counter.EspIn counter.EspIn = true
is_counter counter.Iv counter.Iv = true
is_counter counter.Ask counter.Ask = true
is_counter counter.Answer counter.Answer = true
is_counter c d = false

abbrev pub is_named : Counter → Option Counter → Bool
is_named c None = false
is_named c (Some d) = is_counter c d

-- what the member saw granted of the association
abbrev pub granted : ℕ → KeeperAsk → KeeperAnswer → Option Taken
granted spir (ask.TakeOver asked member) (answer.Taken taken) =
    if asked == spir then Some taken else None
granted spir asked answered = None

-- up to where the member saw the counter of the association covered
abbrev pub covered : ℕ → Counter → KeeperAsk → KeeperAnswer → Option ℕ
covered spir c (ask.Cover asked kind child epoch upto) answer.Done =
    if (asked == spir) && is_named c (counter_named kind child) then Some upto else None
covered spir c asked answered = None

-- the number of the counter of the association that was used at a task, as the verdict says
abbrev pub said_in : ℕ → Counter → Task → Verdict → Option ℕ
said_in spir counter.EspOut (task.Draw asked) (out.Number n) =
    if asked == spir then Some n else None
said_in spir counter.EspOut (task.Send asked payload) (out.Sent n) =
    if asked == spir then Some n else None
said_in spir counter.Ask (task.Ask asked request) (out.Asked id) =
    if asked == spir then Some id else None
said_in spir c asked verdict = None

-- the IV of the association's IKE message that this end sealed
abbrev pub iv_in : End → ℕ → List Seal → Option ℕ
iv_in sealer spir seals = found (λ seal. sealed_iv sealer spir seal seal.name.kind) seals

-- the number of this end's counter of the association that was used at a task
abbrev pub used_in : End → ℕ → Counter → Task → Step → Option ℕ
used_in user spir counter.Iv asked step = iv_in user spir step.seals
used_in user spir c asked step = said_in spir c asked step.verdict

-- the number that a member used at an event
abbrev pub used : ℕ → Counter → Event → Step → Option ℕ
used spir c event step = used_in end.Cluster spir c (member_task event) step

-- the number of the association's ESP packet that was accepted
abbrev pub accepted : ℕ → Verdict → Option ℕ
accepted spir (out.Accepted name number next_header payload) =
    if is_of_spir spir (spir_of_origin name.origin) then Some number else None
accepted spir verdict = None

-- the number of the association's ESP packet that was received at a task
abbrev pub received_in : ℕ → Task → Verdict → Option ℕ
received_in spir task.Receive verdict = accepted spir verdict
received_in spir asked verdict = None

-- the number that was received at an event
abbrev pub received : ℕ → Event → Verdict → Option ℕ
received spir event verdict = received_in spir (receipt (delivery_of event)) verdict

abbrev pub grant_in : ℕ → List Call → Option Taken
grant_in spir calls = found (λ call. granted spir call.asked (seen call)) calls

abbrev pub covers_in : ℕ → Counter → List Call → List ℕ
covers_in spir c calls = filter_map (λ call. covered spir c call.asked (seen call)) calls

-- the same questions to a turn
abbrev pub grant_of : ℕ → Turn → Option Taken
grant_of spir turn = grant_in spir turn.calls

abbrev pub covers_of : ℕ → Counter → Turn → List ℕ
covers_of spir c turn = covers_in spir c turn.calls

abbrev pub number_of : ℕ → Counter → Turn → Option ℕ
number_of spir c turn = used spir c turn.event turn.step

abbrev pub received_of : ℕ → Turn → Option ℕ
received_of spir turn = received spir turn.event turn.step.verdict

-- the turns since the association was granted last
abbrev pub since : ℕ → List Turn → List Turn
since spir [] = []
since spir (turn ∷ past) = if is_some (grant_of spir turn) then [] else turn ∷ since spir past

abbrev pub jump_of : ℕ → Counter → Turn → Option ℕ
jump_of spir c turn = jumped_in spir c (member_task turn.event) turn.step.verdict

-- one more than each number of the counter that was used since then, and no less than its base, and
-- than each number to which it jumped
abbrev pub next_number_of : ℕ → Counter → Five → List Turn → ℕ
next_number_of spir c bases past = greatest
    (greatest (five_at bases c) (map (λ n. n + 1) (filter_map (number_of spir c) (since spir past))))
    (filter_map (jump_of spir c) (since spir past))

-- the greatest cover of the counter that was acknowledged since then, and no less than its base
abbrev pub high_of : ℕ → Counter → Five → List Turn → ℕ
high_of spir c bases past = greatest (five_at bases c)
    (flat_map (covers_of spir c) (since spir past))

-- the receive window of this size, in which the numbers were noted that were accepted since then
abbrev pub window_since : ℕ → ℕ → Five → List Turn → Window
window_since size spir bases past = window_of size bases.esp_in
    (filter_map (received_of spir) (since spir past))

-- the requests that are outstanding of those that were sent since then
abbrev pub asked_since : ℕ → List Turn → List KeptMessage
asked_since spir past = outstanding_of member_task spir (since spir past)

-- what was taken on in synchronisations since then
abbrev pub agreements_of : ℕ → List Turn → List Agreed
agreements_of spir past = filter_map (turn_agreed member_task spir) (since spir past)

-- no less than where it began, and than each Message ID that was agreed on
abbrev pub floor_of : ℕ → List Agreed → ℕ
floor_of base agreements = greatest base (map (λ (a : Agreed). a.floor) agreements)

-- what is kept of the requests that were answered since then, above what was agreed on
abbrev pub answered_since : ℕ → Five → List Turn → ResponseWindow
answered_since spir bases past = window_of_responses
    (floor_of bases.answer (agreements_of spir past))
    (filter_map (turn_response member_task spir) (since spir past))

-- the Message ID that was announced last since then
abbrev pub announced_of : ℕ → Turn → Option ℕ
announced_of spir turn = announced_in spir (member_task turn.event) turn.step.verdict

abbrev pub attempt_since : ℕ → List Turn → Option ℕ
attempt_since spir past = found (announced_of spir) (since spir past)

abbrev pub has_any : {X : Type 0} → List X → Bool
has_any [] = false
has_any (x ∷ xs) = true

-- an epoch has to synchronise, unless it is the first of its association
abbrev pub synced_at_once : Taken → Bool
synced_at_once taken = taken.epoch == 1

-- both ends agreed since then
abbrev pub is_agreed_since : ℕ → List Turn → Bool
is_agreed_since spir past = has_any (agreements_of spir past)

abbrev pub holding : ℕ → ℕ → List Turn → Taken → Held
holding size spir past taken = record {
  sa = taken.sa;
  epoch = taken.epoch;
  bases = taken.bases;
  nexts = five_of (λ c. next_number_of spir c taken.bases past);
  highs = five_of (λ c. high_of spir c taken.bases past);
  window = window_since size spir taken.bases past;
  asked = asked_since spir past;
  answered = answered_since spir taken.bases past;
  synced = is_agreed_since spir past || synced_at_once taken;
  attempt = attempt_since spir past;
}

-- what an end with these turns of its own, and with receive windows of this size, holds of the
-- association
abbrev pub held_by : ℕ → List Turn → ℕ → Option Held
held_by size past spir = option_map (holding size spir past) (found (grant_of spir) past)

-- what is held where nothing else was used, covered or received yet
abbrev pub held_begun : ℕ → Taken → Held
held_begun size taken = record {
  sa = taken.sa;
  epoch = taken.epoch;
  bases = taken.bases;
  nexts = taken.bases;
  highs = taken.bases;
  window = window_of size taken.bases.esp_in [];
  asked = [];
  answered = no_responses taken.bases.answer;
  synced = synced_at_once taken;
  attempt = None;
}

abbrev pub after_number : Option ℕ → ℕ → ℕ
after_number None next = next
after_number (Some n) next = max (n + 1) next

abbrev pub after_received : Option ℕ → Window → Window
after_received None window = window
after_received (Some n) window = with_noted window n

-- what is held after a turn that grants nothing
abbrev pub advanced : ℕ → Task → List Call → Step → Held → Held
advanced spir asked calls step held = record held {
  nexts = five_of (λ c. after_jump (jumped_in spir c asked step.verdict)
      (after_number (used_in end.Cluster spir c asked step) (five_at held.nexts c)));
  highs = five_of (λ c. greatest (five_at held.highs c) (covers_in spir c calls));
  window = after_received (received_in spir asked step.verdict) held.window;
  asked = outstanding_after (ends_in (agreed_in spir asked step.verdict))
      (request_in spir asked step) (replied_in spir asked step.verdict) held.asked;
  answered = answered_after (agreed_in spir asked step.verdict) (response_in spir asked step)
      held.answered;
  synced = is_some (agreed_in spir asked step.verdict) || held.synced;
  attempt = first_some (announced_in spir asked step.verdict) held.attempt;
}

-- what is held of the association after one more turn
abbrev pub held_after : ℕ → ℕ → Task → List Call → Step → Option Held → Option Held
held_after size spir asked calls step held =
    first_some (option_map (held_begun size) (grant_in spir calls))
    (option_map (advanced spir asked calls step) held)

-- what is held of the association, of what is held
abbrev pub held_at : List Held → ℕ → Option Held
held_at [] spir = None
held_at (held ∷ more) spir = if held.sa.spir == spir then Some held else held_at more spir

abbrev pub configured_at : Turn → Option Configuration
configured_at turn = configured_in turn.event turn.step.verdict

-- how the cluster is configured in a run
abbrev pub config_by : List Turn → Configuration
config_by past = unwrap_or (found configured_at past) default_configuration

-- the size of receive windows in a run
abbrev pub window_by : List Turn → ℕ
window_by past = (config_by past).window
