-- The numbers of a counter that the turns of a run used.
use Rattle.std.proofs.Common.{◌≡◌, ◌≢◌, ℕ, Option, Some, None, option_to_list, List, [], ◌∷◌, ◌++◌, map, refl, ap, sym, ◌∙◌, subst}
use Rattle.std.specs.Prelude.{reverse}
use Rattle.std.specs.List.{cons_option, filter_map}
use Rattle.events.specs.declared.event.Event.{Event}
use Rattle.events.specs.declared.turn.Step.{Step}
use Rattle.events.specs.declared.turn.Turn.{Turn}
use Rattle.keeper_book.specs.declared.calls.Call.{Call}
use Rattle.keeper_book.specs.declared.counters.Counter.{Counter}
use Rattle.keeper_book.specs.declared.counters.Counter.TheVariants as counter
use Rattle.turn_laws.proofs.Deeds.{rest_of, PeerNeed, spent_theirs, untaken-ticket}
use Rattle.keeper_book.specs.declared.pools.Pool.TheVariants as pools
use Rattle.turn_rules.specs.TicketNumbers.{ticket_number}
use Rattle.turn_laws.proofs.Listed.{moved, turn-numbers}
use Rattle.turn_laws.proofs.Moved.{rest-listed}
use Rattle.turn_laws.proofs.Outcomes.{idle-untaken, Idle, Ours_used, Outcome, Over, Theirs_used, idle-used, outcome-of, over-rest, over-used, rests-rest}
use Rattle.turn_laws.proofs.Records.{deed-of}
use Rattle.turn_laws.proofs.Uses.{uses-moved, spent_at}
use Rattle.turn_laws.specs.Acts.{numbers_at}
use Rattle.turn_laws.specs.Listed.{request_at}
use Rattle.turn_rules.specs.Safe.{taken_as, taken_in}
use Rattle.turn_laws.specs.Places.{Ours, Place, Pooled}
use Rattle.turn_laws.specs.Turns.{acts_of, number_taken}
use Rattle.turn_rules.specs.Held.{number_of, used}
use Rattle.turn_rules.specs.Local.{Explained}

-- a counter of which members receive no numbers
abbrev IsToldUsed : ℕ → Counter → Type 0
IsToldUsed spir c = (event : Event) (step : Step) → number_taken spir c event step ≡ used spir c event step

-- the Message IDs that members answer are those of the requests that turns take there
module _ (spir : ℕ) where
  abbrev p : Place
  p = Ours spir counter.Answer

  moved-answered : (past : List Turn) (event : Event) (calls : List Call) (step : Step) → Outcome past event calls step → moved p (rest_of event step) ≡ option_to_list (request_at p (taken_as step.verdict))
  moved-answered past event calls step (Idle rests) = ap (moved p) (rests-rest event step rests) ∙ ap (λ x. option_to_list (request_at p x)) (sym (idle-untaken step.verdict rests.idle))
  moved-answered past event calls step (Over member said ends quiet) = ap (moved p) (over-rest event step member said ends quiet) ∙ ap (λ v. option_to_list (request_at p (taken_as v))) (sym said)
  moved-answered past event calls step (Ours_used u needed it) = uses-moved p it.ss (rest_of event step) it.uses_them ∙ (it.told spir counter.Answer ∙ ap option_to_list (it.answers spir))
  moved-answered past event calls step (Theirs_used u) = uses-moved p (map spent_theirs u.needs) (rest_of event step) u.uses_them ∙ (none u.needs ∙ ap option_to_list (sym (u.not_answered spir)))
    where
      none : (needs : List (PeerNeed past)) → spent_at p (map spent_theirs needs) ≡ []
      none [] = refl
      none (need ∷ needs) = none needs

  one-answered : (x : Option ℕ) (ns : List ℕ) → reverse (option_to_list x) ++ ns ≡ cons_option x ns
  one-answered None ns = refl
  one-answered (Some n) ns = refl

  pub answered-numbers : (boxes : ℕ) (past : List Turn) → Explained boxes past → numbers_at p (acts_of past) ≡ filter_map (λ turn. request_at p (taken_in turn)) past
  answered-numbers boxes [] local = refl
  answered-numbers boxes (turn ∷ past) local =
      turn-numbers p turn past
      ∙ (ap (λ ns. ns ++ numbers_at p (acts_of past)) (sym (rest-listed p turn)
      ∙ ap reverse (moved-answered past turn.event turn.calls turn.step (outcome-of past turn.event turn.calls turn.step (deed-of boxes past turn local.0 local.1))))
      ∙ (ap (λ ns. reverse (option_to_list (request_at p (taken_in turn))) ++ ns) (answered-numbers boxes past local.1)
      ∙ one-answered (request_at p (taken_in turn)) (filter_map (λ turn. request_at p (taken_in turn)) past)))

-- the numbers of tickets are those that the verdicts tell
abbrev tickets : Place
tickets = Pooled pools.Ticket

abbrev pub turn_ticket : Turn → Option ℕ
turn_ticket turn = ticket_number turn.step.verdict

moved-ticket : (past : List Turn) (event : Event) (calls : List Call) (step : Step) → Outcome past event calls step → moved tickets (rest_of event step) ≡ option_to_list (ticket_number step.verdict)
moved-ticket past event calls step (Idle rests) = ap (moved tickets) (rests-rest event step rests) ∙ ap option_to_list (sym (untaken-ticket step.verdict (idle-untaken step.verdict rests.idle)))
moved-ticket past event calls step (Over member said ends quiet) = ap (moved tickets) (over-rest event step member said ends quiet) ∙ ap (λ v. option_to_list (ticket_number v)) (sym said)
moved-ticket past event calls step (Ours_used u needed it) = uses-moved tickets it.ss (rest_of event step) it.uses_them ∙ it.tickets
moved-ticket past event calls step (Theirs_used u) = uses-moved tickets (map spent_theirs u.needs) (rest_of event step) u.uses_them ∙ (none u.needs ∙ ap option_to_list (sym u.no_ticket))
  where
    none : (needs : List (PeerNeed past)) → spent_at tickets (map spent_theirs needs) ≡ []
    none [] = refl
    none (need ∷ needs) = none needs

pub ticket-numbers : (boxes : ℕ) (past : List Turn) → Explained boxes past → numbers_at tickets (acts_of past) ≡ filter_map turn_ticket past
ticket-numbers boxes [] local = refl
ticket-numbers boxes (turn ∷ past) local =
    turn-numbers tickets turn past
    ∙ (ap (λ ns. ns ++ numbers_at tickets (acts_of past)) (sym (rest-listed tickets turn)
    ∙ ap reverse (moved-ticket past turn.event turn.calls turn.step (outcome-of past turn.event turn.calls turn.step (deed-of boxes past turn local.0 local.1))))
    ∙ (ap (λ ns. reverse (option_to_list (turn_ticket turn)) ++ ns) (ticket-numbers boxes past local.1)
    ∙ one-more (turn_ticket turn) (filter_map turn_ticket past)))
  where
    one-more : (x : Option ℕ) (ns : List ℕ) → reverse (option_to_list x) ++ ns ≡ cons_option x ns
    one-more None ns = refl
    one-more (Some n) ns = refl

module _ (spir : ℕ) (c : Counter) (told_used : IsToldUsed spir c) where
  moved-used : (past : List Turn) (event : Event) (calls : List Call) (step : Step) → Outcome past event calls step → moved (Ours spir c) (rest_of event step) ≡ option_to_list (used spir c event step)
  moved-used past event calls step (Idle rests) = ap (moved (Ours spir c)) (rests-rest event step rests) ∙ ap option_to_list (sym (idle-used spir c event step rests))
  moved-used past event calls step (Over member said ends quiet) = ap (moved (Ours spir c)) (over-rest event step member said ends quiet) ∙ ap option_to_list (sym (over-used spir c event step said quiet))
  moved-used past event calls step (Ours_used u needed it) = uses-moved (Ours spir c) it.ss (rest_of event step) it.uses_them ∙ (it.told spir c ∙ ap option_to_list (told_used event step))
  moved-used past event calls step (Theirs_used u) = uses-moved (Ours spir c) (map spent_theirs u.needs) (rest_of event step) u.uses_them ∙ (none u.needs ∙ ap option_to_list (sym (u.not_ours spir c)))
    where
      none : (needs : List (PeerNeed past)) → spent_at (Ours spir c) (map spent_theirs needs) ≡ []
      none [] = refl
      none (need ∷ needs) = none needs

  one-used : (x : Option ℕ) (ns : List ℕ) → reverse (option_to_list x) ++ ns ≡ cons_option x ns
  one-used None ns = refl
  one-used (Some n) ns = refl

  run-numbers : (boxes : ℕ) (past : List Turn) → Explained boxes past → numbers_at (Ours spir c) (acts_of past) ≡ filter_map (number_of spir c) past
  run-numbers boxes [] local = refl
  run-numbers boxes (turn ∷ past) local =
      turn-numbers (Ours spir c) turn past
      ∙ (ap (λ ns. ns ++ numbers_at (Ours spir c) (acts_of past)) (sym (rest-listed (Ours spir c) turn)
      ∙ ap reverse (moved-used past turn.event turn.calls turn.step (outcome-of past turn.event turn.calls turn.step (deed-of boxes past turn local.0 local.1))))
      ∙ (ap (λ ns. reverse (option_to_list (number_of spir c turn)) ++ ns) (run-numbers boxes past local.1)
      ∙ one-used (number_of spir c turn) (filter_map (number_of spir c) past)))

-- the numbers by which members send
pub sent-numbers : (boxes : ℕ) (past : List Turn) → Explained boxes past → (spir : ℕ) (c : Counter) → c ≢ counter.EspIn → c ≢ counter.Answer → numbers_at (Ours spir c) (acts_of past) ≡ filter_map (number_of spir c) past
sent-numbers boxes past local spir counter.EspOut sent asked = run-numbers spir counter.EspOut (λ event step. refl) boxes past local
sent-numbers boxes past local spir counter.EspIn sent asked = absurd (sent refl)
sent-numbers boxes past local spir counter.Iv sent asked = run-numbers spir counter.Iv (λ event step. refl) boxes past local
sent-numbers boxes past local spir counter.Ask sent asked = run-numbers spir counter.Ask (λ event step. refl) boxes past local
sent-numbers boxes past local spir counter.Answer sent asked = absurd (asked refl)

none-received : (spir : ℕ) (past : List Turn) → filter_map (number_of spir counter.EspIn) past ≡ []
none-received spir [] = refl
none-received spir (turn ∷ past) = none-received spir past

none-asked : (spir : ℕ) (past : List Turn) → filter_map (number_of spir counter.Answer) past ≡ []
none-asked spir [] = refl
none-asked spir (turn ∷ past) = none-asked spir past

-- what holds of the numbers of a counter holds of those that members used
pub counters-hold : (P : List ℕ → Type 0) → P [] → (boxes : ℕ) (past : List Turn) → Explained boxes past → (spir : ℕ) (c : Counter) → P (numbers_at (Ours spir c) (acts_of past)) → P (filter_map (number_of spir c) past)
counters-hold P none boxes past local spir counter.EspOut holds = subst P (run-numbers spir counter.EspOut (λ event step. refl) boxes past local) holds
counters-hold P none boxes past local spir counter.EspIn holds = subst P (sym (none-received spir past)) none
counters-hold P none boxes past local spir counter.Iv holds = subst P (run-numbers spir counter.Iv (λ event step. refl) boxes past local) holds
counters-hold P none boxes past local spir counter.Ask holds = subst P (run-numbers spir counter.Ask (λ event step. refl) boxes past local) holds
counters-hold P none boxes past local spir counter.Answer holds = subst P (sym (none-asked spir past)) none
