-- What octets are to an end fits those who take it.
use Rattle.std.proofs.Common.{◌≡◌, inl, inr, ℕ, Bool, true, false, List, Option, Some, None, Result, Ok, Err, MatchBool, IsOk, nat_lt, ◌==◌, ◌&&◌, refl, ap}
use Rattle.std.proofs.lemmas.Bool.{and_parts}
use Rattle.events.specs.declared.ike_outcomes.IkeDrop.{IkeDrop}
use Rattle.events.specs.declared.ike_outcomes.IkeDrop.TheVariants as drop
use Rattle.ha_base.specs.declared.counter_names.End.{End}
use Rattle.ha_base.specs.declared.counter_names.End.TheVariants.{Cluster, Peer}
use Rattle.ike_sas.specs.Arrivals.{IsArrival, IsArrivalAt, IsByWindow, IsGoodResponse, IsMessageArrival, IsOrdinaryRequest, IsRequestArrival, IsResponseArrival, IsSyncResponse, bad_in, has_message_ids_inside, is_own_flag, is_sealed, is_synchronisation}
use Rattle.ike_sas.specs.Held.{IkeHeld, is_initiator}
use Rattle.ike_sas.specs.declared.arrival.Arrival.{Arrival}
use Rattle.ike_sas.specs.declared.arrival.Arrival.TheVariants as arrival
use Rattle.ike_sas.specs.declared.exchanges.TheConstants.{IKE_SESSION_RESUME, INFORMATIONAL}
use Rattle.ike_values.specs.Values.{PayloadValue}
use Rattle.ike_values.specs.declared.fault.Bad.{Bad}
use Rattle.ike_values.specs.declared.header.Message.{Message}
use Rattle.ike_window.specs.Kept.{kept_octets}
use Rattle.ike_window.specs.declared.judged.Judged.{Judged}
use Rattle.ike_window.specs.declared.judged.Judged.TheVariants as judged
use Rattle.request_exchange.specs.Given.{IsFitting, IsOfSync}
use Rattle.sk_payload.specs.declared.open.Opened.{Opened}
use Rattle.turn_rules.proofs.Cases.{by_bool, by_option}

good_inner : (inner : Result (List PayloadValue) Bad) → bad_in inner ≡ None → IsOk inner
good_inner (Ok payloads) none = refl
good_inner (Err bad) none = absurd (cc)

by_test : {X Y Z : Type 0} (b : Bool) → (b ≡ true → X → Z) → (Y → Z) → MatchBool b X Y → Z
by_test true left right is = left refl is
by_test false left right is = right is

-- what has the Message IDs of a synchronisation inside has good inner payloads
says_good : (inner : Result (List PayloadValue) Bad) → has_message_ids_inside inner ≡ true → IsOk inner
says_good (Ok payloads) says = refl
says_good (Err bad) says = absurd (cc)

of_sync : (held_under : ℕ → ℕ → Option IkeHeld) (at_initiator : Bool) (held : IkeHeld) (opened : Opened) →
    held_under opened.header.spii opened.header.spir ≡ Some held → is_initiator held.keys.end ≡ at_initiator → is_synchronisation opened ≡ true →
    IsOfSync held_under at_initiator opened
of_sync held_under at_initiator held opened found there is =
    let says : has_message_ids_inside opened.inner ≡ true = (and_parts ((opened.header.exchange == INFORMATIONAL) && (opened.header.id == 0)) (has_message_ids_inside opened.inner) is).1 in
    record { held = held; found = found; there = there; good = says_good opened.inner says; says = says }

dropped : (held_under : ℕ → ℕ → Option IkeHeld) (answer : Arrival) (why : IkeDrop) → answer ≡ arrival.Dropped why → IsFitting held_under answer
dropped held_under answer why is = rw is tt

by_window : (held_under : ℕ → ℕ → Option IkeHeld) (says : Judged) (held : IkeHeld) (opened : Opened) (answer : Arrival) →
    IsByWindow says held opened answer → IsFitting held_under answer
by_window held_under judged.New held opened answer is = rw is tt
by_window held_under judged.Repeat held opened answer is = rw is.1 is.2
by_window held_under judged.Ahead held opened answer is = rw is tt
by_window held_under judged.Old held opened answer is = rw is tt

pub ordinary : (held_under : ℕ → ℕ → Option IkeHeld) (held : IkeHeld) (opened : Opened) (answer : Arrival) →
    IsOrdinaryRequest held opened answer → IsFitting held_under answer
ordinary held_under held opened answer is =
    by_bool (nat_lt opened.header.id held.answered.floor) (dropped held_under answer (drop.Old opened.header.id))
    (by_bool held.synced (λ within. by_window held_under within.0 held opened answer within.2)
    (dropped held_under answer (drop.NotSynced opened.header.id))) is

request : (held_under : ℕ → ℕ → Option IkeHeld) (held : IkeHeld) (opened : Opened) (answer : Arrival) →
    held_under opened.header.spii opened.header.spir ≡ Some held → IsRequestArrival held opened answer → IsFitting held_under answer
request held_under held opened answer found is =
    by_test (is_initiator held.keys.end && is_synchronisation opened)
    (λ both asks. let parts : (is_initiator held.keys.end ≡ true) × (is_synchronisation opened ≡ true) = and_parts (is_initiator held.keys.end) (is_synchronisation opened) both in
    rw asks (of_sync held_under true held opened found parts.0 parts.1))
    (ordinary held_under held opened answer) is

sync_response : (held_under : ℕ → ℕ → Option IkeHeld) (held : IkeHeld) (end : End) (opened : Opened) (answer : Arrival) →
    held_under opened.header.spii opened.header.spir ≡ Some held → held.keys.end ≡ end → is_synchronisation opened ≡ true → IsSyncResponse end opened answer → IsFitting held_under answer
sync_response held_under held Cluster opened answer found at says is = rw is (of_sync held_under false held opened found (ap is_initiator at) says)
sync_response held_under held Peer opened answer found at says is = rw is tt

good_response : (held_under : ℕ → ℕ → Option IkeHeld) (held : IkeHeld) (opened : Opened) (answer : Arrival) →
    held_under opened.header.spii opened.header.spir ≡ Some held → IsOk opened.inner → IsGoodResponse held opened answer →
    IsFitting held_under answer
good_response held_under held opened answer found good is =
    by_test (is_synchronisation opened) (λ says. sync_response held_under held held.keys.end opened answer found refl says)
    (by_option (kept_octets opened.header.id held.asked) (λ _. dropped held_under answer drop.NotAsked)
    (λ octets kept awaited. rw awaited (record { held = held; found = found; good = good; outstanding = rw kept refl }))) is

response : (held_under : ℕ → ℕ → Option IkeHeld) (held : IkeHeld) (opened : Opened) (answer : Arrival) →
    held_under opened.header.spii opened.header.spir ≡ Some held → IsResponseArrival held opened answer → IsFitting held_under answer
response held_under held opened answer found is =
    by_option (bad_in opened.inner) (λ none. good_response held_under held opened answer found (good_inner opened.inner none))
    (λ bad _. dropped held_under answer (drop.Bad bad)) is

at_association : (held_under : ℕ → ℕ → Option IkeHeld) (held : IkeHeld) (octets : List ℕ) (message : Message) (answer : Arrival) →
    held_under message.header.spii message.header.spir ≡ Some held → IsArrivalAt held octets message answer → IsFitting held_under answer
at_association held_under held octets message answer found (inl closed) = dropped held_under answer drop.NotOpened closed.1
at_association held_under held octets message answer found (inr whole) =
    let here : held_under whole.0.header.spii whole.0.header.spir ≡ Some held = rw whole.2 found in
    by_bool whole.0.header.response (response held_under held whole.0 answer here) (request held_under held whole.0 answer here) whole.3

message_here : (held_under : ℕ → ℕ → Option IkeHeld) (end : End) (octets : List ℕ) (message : Message) (answer : Arrival) →
    IsMessageArrival held_under end octets message answer → IsFitting held_under answer
message_here held_under end octets message answer is =
    by_bool (is_own_flag end message.header.initiator) (dropped held_under answer drop.Direction)
    (by_bool (message.header.exchange == IKE_SESSION_RESUME) (λ resumes. rw resumes tt)
    (by_bool (is_sealed message)
    (by_option (held_under message.header.spii message.header.spir) (λ _. dropped held_under answer drop.UnknownSpi)
    (λ held found. at_association held_under held octets message answer found))
    (dropped held_under answer (drop.Exchange message.header.exchange)))) is

pub fitting : (held_under : ℕ → ℕ → Option IkeHeld) (end : End) (octets : List ℕ) (answer : Arrival) →
    IsArrival held_under end octets answer → IsFitting held_under answer
fitting held_under end octets answer (inl bad) = dropped held_under answer (drop.Bad bad.0) bad.2
fitting held_under end octets answer (inr good) = message_here held_under end octets good.0 answer good.2
