-- The Message IDs of the requests that an end answered are those of the responses that it keeps.
use Rattle.std.proofs.Common.{◌≡◌, ℕ, ◌≤◌, Bool, true, false, Option, Some, None, List, [], ◌∷◌, refl, ap, sym, ◌∙◌, subst, arith, if◌then◌else◌}
use Rattle.std.specs.Prelude.{IsSome, is_some}
use Rattle.std.specs.List.{AllByRecursion, Contains, cons_option, filter_map}
use Rattle.std.specs.Option.{option_map}
use Rattle.events.specs.declared.event.Event.{Event}
use Rattle.events.specs.declared.event.Event.TheVariants as event
use Rattle.events.specs.declared.event.Party.TheVariants as parties
use Rattle.events.specs.declared.turn.Datagram.{Datagram}
use Rattle.events.specs.declared.turn.Step.{Step}
use Rattle.events.specs.declared.turn.Turn.{Turn}
use Rattle.events.specs.declared.verdict.Verdict.{Verdict}
use Rattle.events.specs.declared.verdict.Verdict.TheVariants as out
use Rattle.ha_base.specs.declared.counter_names.CounterName.{CounterName}
use Rattle.ike_window.proofs.Windows.{made_window, new_have_none}
use Rattle.ike_window.specs.Kept.{KeptMessage, message_ids_of}
use Rattle.ike_window.specs.Requests.{IsNewRequest}
use Rattle.ike_window.specs.Stored.{window_of_responses}
use Rattle.ike_window.specs.Windows.{IsAnswered}
use Rattle.turn_laws.proofs.Deeds.{IsAnswering}
use Rattle.turn_laws.proofs.Unused.{not-among}
use Rattle.turn_laws.specs.Holdings.{IsNotIn}
use Rattle.turn_laws.specs.Turns.{answered, answered_in}
use Rattle.turn_rules.specs.Held.{grant_of, since}
use Rattle.turn_rules.specs.CountersOf.{is_counter_of, number_under}
use Rattle.turn_rules.specs.IkeState.{kept_under, response_in, response_to, taken_id, turn_response}
use Rattle.turn_rules.specs.Peers.{entered_in}
use Rattle.turn_rules.specs.Safe.{taken_as}
use Rattle.turn_rules.specs.Slots.{is_entered, since_entered}
use Rattle.turn_rules.specs.Tasks as task
use Rattle.turn_rules.specs.Tasks.{Task, member_task, peer_task}

-- in each turn a request that was taken was answered
abbrev pub AreAnswering : List Turn → Type 0
AreAnswering turns = AllByRecursion (λ turn. IsAnswering turn.step) turns

-- what holds of turns holds of those since an association was granted, or came
pub since-all : (P : Turn → Type 0) (spir : ℕ) (turns : List Turn) → AllByRecursion P turns → AllByRecursion P (since spir turns)
since-all P spir [] all = tt
since-all P spir (turn ∷ turns) all = by_test (is_some (grant_of spir turn)) (since-all P spir turns all.1)
  where
    by_test : (b : Bool) → AllByRecursion P (since spir turns) → AllByRecursion P (if b then [] else turn ∷ since spir turns)
    by_test true rest = tt
    by_test false rest = (all.0, rest)

pub since_entered-all : (P : Turn → Type 0) (spir : ℕ) (turns : List Turn) → AllByRecursion P turns → AllByRecursion P (since_entered spir turns)
since_entered-all P spir [] all = tt
since_entered-all P spir (turn ∷ turns) all = by_test (is_entered spir (entered_in turn)) (since_entered-all P spir turns all.1)
  where
    by_test : (b : Bool) → AllByRecursion P (since_entered spir turns) → AllByRecursion P (if b then [] else turn ∷ since_entered spir turns)
    by_test true rest = tt
    by_test false rest = (all.0, rest)

abbrev id_of : Option KeptMessage → Option ℕ
id_of x = option_map (λ (message : KeptMessage). message.id) x

kept-id : (id : ℕ) (gives : Option Datagram) → IsSome gives → id_of (kept_under id gives) ≡ Some id
kept-id id None some = absurd (cc)
kept-id id (Some datagram) some = refl

under-id : (spir : ℕ) (name : CounterName) (id : ℕ) (gives : Option Datagram) → IsSome gives → id_of (response_to (number_under spir name id) gives) ≡ number_under spir name id
under-id spir name id gives some = by_test (is_counter_of spir name)
  where
    by_test : (b : Bool) → id_of (response_to (if b then Some id else None) gives) ≡ (if b then Some id else None)
    by_test true = kept-id id gives some
    by_test false = refl

-- the response to a request that was taken has its Message ID
response-id : (spir : ℕ) (step : Step) → IsAnswering step → id_of (response_to (taken_id spir step.verdict) step.gives) ≡ taken_id spir step.verdict
response-id spir step answering = go step.verdict answering.gives
  where
    go : (verdict : Verdict) → (IsSome (taken_as verdict) → IsSome step.gives) → id_of (response_to (taken_id spir verdict) step.gives) ≡ taken_id spir verdict
    go (out.Executed name id mark) gives = under-id spir name id step.gives (gives refl)
    go (out.Refusing name id notify) gives = under-id spir name id step.gives (gives refl)
    go verdict gives = refl

task-id : (spir : ℕ) (asked : Task) (step : Step) → IsAnswering step → id_of (response_in spir asked step) ≡ answered_in spir asked step.verdict
task-id spir task.Receive step answering = response-id spir step answering
task-id spir asked step answering = refl

-- what an end is asked is to receive what the event delivers
pub answered-member : (spir : ℕ) (event : Event) (verdict : Verdict) → answered spir event verdict ≡ answered_in spir (member_task event) verdict
answered-member spir (event.Own member asked) verdict = refl
answered-member spir (event.Draw member asked) verdict = refl
answered-member spir (event.Send parties.Peer asked payload) verdict = refl
answered-member spir (event.Send (parties.Member member) asked payload) verdict = refl
answered-member spir (event.Ask parties.Peer asked request) verdict = refl
answered-member spir (event.Ask (parties.Member member) asked request) verdict = refl
answered-member spir (event.Again parties.Peer asked id) verdict = refl
answered-member spir (event.Again (parties.Member member) asked id) verdict = refl
answered-member spir event verdict = refl

pub answered-peer : (spir : ℕ) (event : Event) (verdict : Verdict) → answered spir event verdict ≡ answered_in spir (peer_task event) verdict
answered-peer spir (event.Import sa) verdict = refl
answered-peer spir (event.Send parties.Peer asked payload) verdict = refl
answered-peer spir (event.Send (parties.Member member) asked payload) verdict = refl
answered-peer spir (event.Ask parties.Peer asked request) verdict = refl
answered-peer spir (event.Ask (parties.Member member) asked request) verdict = refl
answered-peer spir (event.Again parties.Peer asked id) verdict = refl
answered-peer spir (event.Again (parties.Member member) asked id) verdict = refl
answered-peer spir event verdict = refl

module _ (task_of : Event → Task) (same : (spir : ℕ) (event : Event) (verdict : Verdict) → answered spir event verdict ≡ answered_in spir (task_of event) verdict) (spir : ℕ) where
  ids-cons : (x : Option KeptMessage) (xs : List KeptMessage) → message_ids_of (cons_option x xs) ≡ cons_option (id_of x) (message_ids_of xs)
  ids-cons None xs = refl
  ids-cons (Some x) xs = refl

  pub ids-answered : (turns : List Turn) → AreAnswering turns → message_ids_of (filter_map (turn_response task_of spir) turns) ≡ filter_map (λ turn. answered spir turn.event turn.step.verdict) turns
  ids-answered [] all = refl
  ids-answered (turn ∷ turns) all =
      ids-cons (turn_response task_of spir turn) (filter_map (turn_response task_of spir) turns)
      ∙ (ap (cons_option (id_of (turn_response task_of spir turn))) (ids-answered turns all.1)
      ∙ ap (λ x. cons_option x (filter_map (λ turn. answered spir turn.event turn.step.verdict) turns))
      (task-id spir (task_of turn.event) turn.step all.0 ∙ sym (same spir turn.event turn.step.verdict)))

-- the Message ID of a new request was not answered
pub new-unused : (base n : ℕ) (stored : List KeptMessage) (numbers : List ℕ) → message_ids_of stored ≡ numbers
    → IsNewRequest (window_of_responses base stored).low (IsAnswered (window_of_responses base stored)) n → (base ≤ n) × IsNotIn n numbers
new-unused base n stored numbers same new = (
  (let low : base ≤ (window_of_responses base stored).low = (made_window base stored).low.from in let from : (window_of_responses base stored).low ≤ n = new.from in omega arith),
  not-among n numbers (λ among. new_have_none base stored n new (subst (λ ns. Contains ns n) (sym same) among)),
)
