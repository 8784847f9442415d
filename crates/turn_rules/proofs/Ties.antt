-- What an end holds after one more turn of its own is what that turn makes of what it held.
use Rattle.std.proofs.Common.{◌≡◌, ℕ, ◌+◌, ◌==◌, ◌||◌, max, Bool, true, false, Option, Some, None, List, [], ◌∷◌, ◌++◌, map, refl, ap, sym, ◌∙◌, arith, if◌then◌else◌}
use Rattle.std.specs.Prelude.{is_some}
use Rattle.std.specs.List.{filter_map, flat_map, cons_option}
use Rattle.std.specs.Option.{option_map}
use Rattle.events.specs.declared.event.Event.{Event}
use Rattle.events.specs.declared.event.Event.TheVariants as event
use Rattle.events.specs.declared.event.Party.TheVariants as parties
use Rattle.events.specs.declared.turn.Step.{Step}
use Rattle.events.specs.declared.turn.Turn.{Turn}
use Rattle.events.specs.declared.verdict.Refusal.{Refusal}
use Rattle.events.specs.declared.verdict.Verdict.{Verdict}
use Rattle.events.specs.declared.verdict.Verdict.TheVariants as out
use Rattle.ike_window.proofs.Windows.{raising_gives, storing_adds}
use Rattle.ike_window.specs.Kept.{KeptMessage}
use Rattle.ike_window.specs.Stored.{window_of_responses}
use Rattle.ha_base.specs.declared.counter_names.End.{End}
use Rattle.keeper_book.specs.Counters.{five_at}
use Rattle.keeper_book.specs.declared.counters.Counter.{Counter}
use Rattle.keeper_book.specs.declared.counters.Counter.TheVariants as counter
use Rattle.keeper_book.specs.declared.records.Taken.{Taken}
use Rattle.replay_set.specs.Window.{window_of}
use Rattle.replay_set.proofs.Numbers.{noting_adds}
use Rattle.turn_rules.specs.Held.{Held, found, first_some, five_of, synced_at_once, agreements_of, announced_of, floor_of, has_any, jump_of, grant_of, covers_of, number_of, greatest, since, next_number_of, high_of, holding, held_by, held_begun, after_number, after_received, received, received_in, received_of, advanced, held_after, iv_in, said_in, used_in}
use Rattle.turn_rules.specs.IkeState.{answered_after, with_taken, outstanding_of, replied_in, request_in, request_sent, response_in, turn_agreed, turn_response, response_to, taken_id}
use Rattle.turn_rules.specs.Steps.{IsQuiet, Says}
use Rattle.turn_rules.specs.Synchronised.{Agreed, after_floor, after_jump}
use Rattle.turn_rules.specs.Tasks as task
use Rattle.turn_rules.specs.Tasks.{Task, member_task, peer_task}

pub five_at-five_of : (f : Counter → ℕ) (c : Counter) → five_at (five_of f) c ≡ f c
five_at-five_of f counter.EspOut = refl
five_at-five_of f counter.EspIn = refl
five_at-five_of f counter.Iv = refl
five_at-five_of f counter.Ask = refl
five_at-five_of f counter.Answer = refl

pub five_of-same : (f g : Counter → ℕ) → ((c : Counter) → f c ≡ g c) → five_of f ≡ five_of g
five_of-same f g same i = record { esp_out = same counter.EspOut i; esp_in = same counter.EspIn i; iv = same counter.Iv i; ask = same counter.Ask i; answer = same counter.Answer i }

pub greatest-append : (least : ℕ) (xs ys : List ℕ) → greatest least (xs ++ ys) ≡ greatest (greatest least ys) xs
greatest-append least [] ys = refl
greatest-append least (x ∷ xs) ys = ap (max x) (greatest-append least xs ys)

-- the greatest of more numbers
pub greatest-max : (n least : ℕ) (ns : List ℕ) → greatest (max n least) ns ≡ max n (greatest least ns)
greatest-max n least [] = refl
greatest-max n least (x ∷ xs) = let rest : greatest (max n least) xs ≡ max n (greatest least xs) = greatest-max n least xs in omega arith

-- one more number, or none, before those that were used
pub greatest-cons_option : (number : Option ℕ) (least : ℕ) (ns : List ℕ) → greatest least (map (λ n. n + 1) (cons_option number ns)) ≡ after_number number (greatest least (map (λ n. n + 1) ns))
greatest-cons_option None least ns = refl
greatest-cons_option (Some n) least ns = refl

-- one number more, or none, that was received
pub window_of-cons_option : (number : Option ℕ) (size base : ℕ) (ns : List ℕ) → window_of size base (cons_option number ns) ≡ after_received number (window_of size base ns)
window_of-cons_option None size base ns = refl
window_of-cons_option (Some n) size base ns = sym (noting_adds size base ns n)

-- one number more, or none, to which the counter jumped
pub jumps-cons_option : (jump number : Option ℕ) (least : ℕ) (ns jumps : List ℕ)
    → greatest (greatest least (map (λ n. n + 1) (cons_option number ns))) (cons_option jump jumps) ≡ after_jump jump (after_number number (greatest (greatest least (map (λ n. n + 1) ns)) jumps))
jumps-cons_option None None least ns jumps = refl
jumps-cons_option None (Some n) least ns jumps = greatest-max (n + 1) (greatest least (map (λ n. n + 1) ns)) jumps
jumps-cons_option (Some to) None least ns jumps = refl
jumps-cons_option (Some to) (Some n) least ns jumps = ap (max to) (greatest-max (n + 1) (greatest least (map (λ n. n + 1) ns)) jumps)

-- one response more, or none, that was stored
taken-cons_option : (response : Option KeptMessage) (floor : ℕ) (stored : List KeptMessage) → window_of_responses floor (cons_option response stored) ≡ with_taken response (window_of_responses floor stored)
taken-cons_option None floor stored = refl
taken-cons_option (Some response) floor stored = storing_adds floor stored response

-- and one agreement more, or none
raised-cons_option : (agreed : Option Agreed) (base : ℕ) (agreements : List Agreed) (stored : List KeptMessage)
    → window_of_responses (floor_of base (cons_option agreed agreements)) stored ≡ after_floor agreed (window_of_responses (floor_of base agreements) stored)
raised-cons_option None base agreements stored = refl
raised-cons_option (Some agreed) base agreements stored =
    let same : max agreed.floor (floor_of base agreements) ≡ max (floor_of base agreements) agreed.floor = omega arith in
    ap (λ floor. window_of_responses floor stored) same ∙ sym (raising_gives (floor_of base agreements) agreed.floor stored)

pub responses-cons_option : (agreed : Option Agreed) (response : Option KeptMessage) (base : ℕ) (agreements : List Agreed) (stored : List KeptMessage)
    → window_of_responses (floor_of base (cons_option agreed agreements)) (cons_option response stored) ≡ answered_after agreed response (window_of_responses (floor_of base agreements) stored)
responses-cons_option agreed response base agreements stored =
    taken-cons_option response (floor_of base (cons_option agreed agreements)) stored
    ∙ ap (with_taken response) (raised-cons_option agreed base agreements stored)

synced-cons_option : (agreed : Option Agreed) (agreements : List Agreed) (at_once : Bool) → (has_any (cons_option agreed agreements) || at_once) ≡ (is_some agreed || (has_any agreements || at_once))
synced-cons_option None agreements at_once = refl
synced-cons_option (Some agreed) agreements at_once = refl

-- what an end is asked receives what the event delivers
pub received-member : (spir : ℕ) (event : Event) (verdict : Verdict) → received spir event verdict ≡ received_in spir (member_task event) verdict
received-member spir (event.Own member asked) verdict = refl
received-member spir (event.Draw member asked) verdict = refl
received-member spir (event.Send parties.Peer asked payload) verdict = refl
received-member spir (event.Send (parties.Member member) asked payload) verdict = refl
received-member spir (event.Ask parties.Peer asked request) verdict = refl
received-member spir (event.Ask (parties.Member member) asked request) verdict = refl
received-member spir (event.Again parties.Peer asked id) verdict = refl
received-member spir (event.Again (parties.Member member) asked id) verdict = refl
received-member spir (event.Sync member asked) verdict = refl
received-member spir event verdict = refl

pub received-peer : (spir : ℕ) (event : Event) (verdict : Verdict) → received spir event verdict ≡ received_in spir (peer_task event) verdict
received-peer spir (event.Import sa) verdict = refl
received-peer spir (event.Send parties.Peer asked payload) verdict = refl
received-peer spir (event.Send (parties.Member member) asked payload) verdict = refl
received-peer spir (event.Ask parties.Peer asked request) verdict = refl
received-peer spir (event.Ask (parties.Member member) asked request) verdict = refl
received-peer spir (event.Again parties.Peer asked id) verdict = refl
received-peer spir (event.Again (parties.Member member) asked id) verdict = refl
received-peer spir event verdict = refl

module _ (size spir : ℕ) (turn : Turn) (past : List Turn) where
  abbrev turns_since : Option Taken → List Turn
  turns_since grant = if is_some grant then [] else turn ∷ since spir past

  abbrev held_as : Option Taken → Taken → Held
  held_as grant taken = record {
    sa = taken.sa;
    epoch = taken.epoch;
    bases = taken.bases;
    nexts = five_of (λ c. greatest (greatest (five_at taken.bases c) (map (λ n. n + 1) (filter_map (number_of spir c) (turns_since grant)))) (filter_map (jump_of spir c) (turns_since grant)));
    highs = five_of (λ c. greatest (five_at taken.bases c) (flat_map (covers_of spir c) (turns_since grant)));
    window = window_of size taken.bases.esp_in (filter_map (received_of spir) (turns_since grant));
    asked = outstanding_of member_task spir (turns_since grant);
    answered = window_of_responses (floor_of taken.bases.answer (filter_map (turn_agreed member_task spir) (turns_since grant))) (filter_map (turn_response member_task spir) (turns_since grant));
    synced = has_any (filter_map (turn_agreed member_task spir) (turns_since grant)) || synced_at_once taken;
    attempt = found (announced_of spir) (turns_since grant);
  }

  next_later : (taken : Taken) (c : Counter) → greatest (greatest (five_at taken.bases c) (map (λ n. n + 1) (filter_map (number_of spir c) (turn ∷ since spir past)))) (filter_map (jump_of spir c) (turn ∷ since spir past))
      ≡ after_jump (jump_of spir c turn) (after_number (number_of spir c turn) (five_at (holding size spir past taken).nexts c))
  next_later taken c =
      jumps-cons_option (jump_of spir c turn) (number_of spir c turn) (five_at taken.bases c) (filter_map (number_of spir c) (since spir past)) (filter_map (jump_of spir c) (since spir past))
      ∙ ap (λ next. after_jump (jump_of spir c turn) (after_number (number_of spir c turn) next)) (sym (five_at-five_of (λ d. next_number_of spir d taken.bases past) c))

  high_later : (taken : Taken) (c : Counter) → greatest (five_at taken.bases c) (flat_map (covers_of spir c) (turn ∷ since spir past)) ≡ greatest (five_at (holding size spir past taken).highs c) (covers_of spir c turn)
  high_later taken c =
      greatest-append (five_at taken.bases c) (covers_of spir c turn) (flat_map (covers_of spir c) (since spir past))
      ∙ ap (λ least. greatest least (covers_of spir c turn)) (sym (five_at-five_of (λ d. high_of spir d taken.bases past) c))

  window_later : (taken : Taken) → window_of size taken.bases.esp_in (filter_map (received_of spir) (turn ∷ since spir past)) ≡ after_received (received_in spir (member_task turn.event) turn.step.verdict) (holding size spir past taken).window
  window_later taken =
      window_of-cons_option (received_of spir turn) size taken.bases.esp_in (filter_map (received_of spir) (since spir past))
      ∙ ap (λ n. after_received n (holding size spir past taken).window) (received-member spir turn.event turn.step.verdict)

  later : (taken : Taken) → held_as None taken ≡ advanced spir (member_task turn.event) turn.calls turn.step (holding size spir past taken)
  later taken i = record {
    sa = taken.sa;
    epoch = taken.epoch;
    bases = taken.bases;
    nexts = five_of-same _ _ (next_later taken) i;
    highs = five_of-same _ _ (high_later taken) i;
    window = window_later taken i;
    asked = outstanding_of member_task spir (turn ∷ since spir past);
    answered = responses-cons_option (turn_agreed member_task spir turn) (turn_response member_task spir turn) taken.bases.answer (agreements_of spir past) (filter_map (turn_response member_task spir) (since spir past)) i;
    synced = synced-cons_option (turn_agreed member_task spir turn) (agreements_of spir past) (synced_at_once taken) i;
    attempt = first_some (announced_of spir turn) (found (announced_of spir) (since spir past));
  }

  later_found : (taken : Option Taken) → option_map (held_as None) taken ≡ option_map (advanced spir (member_task turn.event) turn.calls turn.step) (option_map (holding size spir past) taken)
  later_found None = refl
  later_found (Some taken) = ap Some (later taken)

  granted_first : (grant : Option Taken) → option_map (held_as grant) (first_some grant (found (grant_of spir) past)) ≡ first_some (option_map (held_begun size) grant) (option_map (advanced spir (member_task turn.event) turn.calls turn.step) (held_by size past spir))
  granted_first None = later_found (found (grant_of spir) past)
  granted_first (Some taken) = refl

-- what is held after one more turn
pub held_by-cons : (size spir : ℕ) (turn : Turn) (past : List Turn) → held_by size (turn ∷ past) spir ≡ held_after size spir (member_task turn.event) turn.calls turn.step (held_by size past spir)
held_by-cons size spir turn past = granted_first size spir turn past (grant_of spir turn)

-- where nothing was sealed, no IV was used
pub used-unsealed : (user : End) (spir : ℕ) (c : Counter) (asked : Task) (step : Step) → step.seals ≡ [] → said_in spir c asked step.verdict ≡ None → used_in user spir c asked step ≡ None
used-unsealed user spir counter.Iv asked step sealed said = ap (iv_in user spir) sealed
used-unsealed user spir counter.EspOut asked step sealed said = said
used-unsealed user spir counter.EspIn asked step sealed said = said
used-unsealed user spir counter.Ask asked step sealed said = said
used-unsealed user spir counter.Answer asked step sealed said = said

-- what is refused uses and receives nothing
said-refused : (spir : ℕ) (c : Counter) (asked : Task) (why : Refusal) → said_in spir c asked (out.Refused why) ≡ None
said-refused spir counter.EspOut (task.Draw other) why = refl
said-refused spir counter.EspOut (task.Send other payload) why = refl
said-refused spir counter.Ask (task.Ask other request) why = refl
said-refused spir c asked why = refl

pub used-refused : (user : End) (spir : ℕ) (c : Counter) (asked : Task) (why : Refusal) (step : Step) → Says (out.Refused why) step → used_in user spir c asked step ≡ None
used-refused user spir c asked why step says = used-unsealed user spir c asked step says.quiet.seals (ap (said_in spir c asked) says.said ∙ said-refused spir c asked why)

pub received-refused : (spir : ℕ) (asked : Task) (why : Refusal) → received_in spir asked (out.Refused why) ≡ None
received-refused spir task.Receive why = refl
received-refused spir asked why = refl

abbrev no_message : Option KeptMessage
no_message = None

none-either : (b : Bool) → (if b then no_message else no_message) ≡ no_message
none-either true = refl
none-either false = refl

-- it sends no request, ends none, and answers none
pub request-refused : (spir : ℕ) (asked : Task) (why : Refusal) (step : Step) → step.verdict ≡ out.Refused why → request_in spir asked step ≡ None
request-refused spir (task.Ask other request) why step said = ap (λ verdict. if other == spir then request_sent verdict step.gives else None) said ∙ none-either (other == spir)
request-refused spir asked why step said = refl

pub replied-refused : (spir : ℕ) (asked : Task) (why : Refusal) → replied_in spir asked (out.Refused why) ≡ None
replied-refused spir task.Receive why = refl
replied-refused spir asked why = refl

pub response-refused : (spir : ℕ) (asked : Task) (why : Refusal) (step : Step) → step.verdict ≡ out.Refused why → response_in spir asked step ≡ None
response-refused spir task.Receive why step said = ap (λ verdict. response_to (taken_id spir verdict) step.gives) said
response-refused spir asked why step said = refl

-- what is received uses no number that is counted up, unless something is sealed
pub said-receiving : (spir : ℕ) (c : Counter) (verdict : Verdict) → said_in spir c task.Receive verdict ≡ None
said-receiving spir counter.EspOut verdict = refl
said-receiving spir counter.Ask verdict = refl
said-receiving spir c verdict = refl

pub used-receiving : (user : End) (spir : ℕ) (c : Counter) (step : Step) → IsQuiet step → used_in user spir c task.Receive step ≡ None
used-receiving user spir c step quiet = used-unsealed user spir c task.Receive step quiet.seals (said-receiving spir c step.verdict)
