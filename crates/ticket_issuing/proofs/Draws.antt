-- What a draw of a number of a pool was.
use Rattle.std.proofs.Common.{◌≡◌, ℕ, ◌≤◌, List, [], ◌∷◌, None, Result, Ok, Err, ⊎_elim, refl, ap, subst, ◌∙◌, arith}
use Rattle.std.specs.List.{cons_option}
use Rattle.std.proofs.lemmas.Bool.{cases_lt}
use Rattle.keeper_book.proofs.Passed.{seen-answer}
use Rattle.keeper_book.specs.Told.{AreAnswers, IsAnswerOf, IsRefusalOf, seen}
use Rattle.keeper_book.specs.declared.calls.Call.{Call}
use Rattle.keeper_book.specs.declared.calls.KeeperAnswer.{KeeperAnswer}
use Rattle.keeper_book.specs.declared.calls.KeeperAnswer.TheVariants as answer
use Rattle.keeper_book.specs.declared.calls.KeeperAsk.TheVariants as ask
use Rattle.keeper_book.specs.declared.counters.Counter.{Counter}
use Rattle.keeper_book.specs.declared.faults.KeeperFault.{KeeperFault}
use Rattle.keeper_book.specs.declared.pools.Pool.{Pool}
use Rattle.pool_lots.specs.Lots.{DrawsPooled, Leased, Leases, LeavesLot, LotReady, drawn_once, leased_lot}
use Rattle.pool_lots.specs.declared.lots.TheConstants.{LEASED_NUMBERS}
use Rattle.spend_once.specs.Lot.{Drawn, Remaining}
use Rattle.turn_rules.specs.Held.{covered, covers_in, first_some, grant_in, granted}

-- the same draw in other words
module _ {P Q : KeeperFault → List Call → Type 0} {G H : ℕ → Remaining → List Call → Type 0}
    (stops : (why : KeeperFault) (rest : List Call) → P why rest → Q why rest)
    (goes : (number : ℕ) (lot : Remaining) (rest : List Call) → G number lot rest → H number lot rest) where
  leased-map : (answered : KeeperAnswer) (lot : Remaining) (rest : List Call)
      → Leased answered (λ why. P why rest) (λ first. G first (drawn_once (leased_lot lot first)) rest)
      → Leased answered (λ why. Q why rest) (λ first. H first (drawn_once (leased_lot lot first)) rest)
  leased-map answer.Done lot rest a = absurd a
  leased-map (answer.Taken taken) lot rest a = absurd a
  leased-map (answer.First first) lot rest a = goes first (drawn_once (leased_lot lot first)) rest a
  leased-map (answer.Look spent) lot rest a = absurd a
  leased-map (answer.Refused why) lot rest a = stops why rest a

  leases-map : (p : Pool) (lot : Remaining) (calls : List Call) → Leases p lot calls P G → Leases p lot calls Q H
  leases-map p lot [] l = absurd l
  leases-map p lot (call ∷ rest) l = (l.0, leased-map (seen call) lot rest l.1)

  pub lot-map : (p : Pool) (lot : Remaining) (calls : List Call) → LotReady p lot calls P G → LotReady p lot calls Q H
  lot-map p lot calls r = record {
    left = λ l. goes lot.next (drawn_once lot) calls (r.left l);
    none_left = λ e. leases-map p lot calls (r.none_left e);
  }

-- the number is the next one of the lot, or the first of a range that was leased, or none was leased
module _ {X : Type 0} (p : Pool) (old new : Remaining) (calls : List Call) (drawn : Result Drawn KeeperFault)
    (next : calls ≡ [] → drawn ≡ Ok (record { name = old.name; value = old.next }) → new ≡ drawn_once old → X)
    (first : (call : Call) (n : ℕ) → calls ≡ call ∷ [] → call.asked ≡ ask.Lease p LEASED_NUMBERS → seen call ≡ answer.First n
    → drawn ≡ Ok (record { name = old.name; value = n }) → new ≡ drawn_once (leased_lot old n) → X)
    (none : (call : Call) (why : KeeperFault) → calls ≡ call ∷ [] → call.asked ≡ ask.Lease p LEASED_NUMBERS → seen call ≡ answer.Refused why
    → drawn ≡ Err why → new ≡ old → X) where
  abbrev Stops : KeeperFault → List Call → Type 0
  Stops why rest = LeavesLot rest drawn (Err why) new old

  abbrev Goes : ℕ → Remaining → List Call → Type 0
  Goes n lot rest = LeavesLot rest drawn (Ok (record { name = old.name; value = n })) new lot

  leased-elim : (call : Call) (rest : List Call) (answered : KeeperAnswer) → calls ≡ call ∷ rest → call.asked ≡ ask.Lease p LEASED_NUMBERS
      → seen call ≡ answered → Leased answered (λ why. Stops why rest) (λ n. Goes n (drawn_once (leased_lot old n)) rest) → X
  leased-elim call rest answer.Done is asked sees a = absurd a
  leased-elim call rest (answer.Taken taken) is asked sees a = absurd a
  leased-elim call rest (answer.First n) is asked sees a = first call n (is ∙ ap (λ r. call ∷ r) a.no_more) asked sees a.answered a.after
  leased-elim call rest (answer.Look spent) is asked sees a = absurd a
  leased-elim call rest (answer.Refused why) is asked sees a = none call why (is ∙ ap (λ r. call ∷ r) a.no_more) asked sees a.answered a.after

  leases-elim : (cs : List Call) → calls ≡ cs → Leases p old cs Stops Goes → X
  leases-elim [] is l = absurd l
  leases-elim (call ∷ rest) is l = leased-elim call rest (seen call) is l.0 refl l.1

  pub draw-elim : old.next ≤ old.end → DrawsPooled p old calls drawn new → X
  draw-elim ordered draws = ⊎_elim
      (λ less. let it = draws.left less in next it.no_more it.answered it.after)
      (λ more. leases-elim calls refl (draws.none_left (omega (arith, more, ordered))))
      (cases_lt old.next old.end)

-- a lease grants and covers nothing
module _ (call : Call) (p : Pool) (count : ℕ) (asked : call.asked ≡ ask.Lease p count) where
  pub lease-grants : (spir : ℕ) → grant_in spir (call ∷ []) ≡ None
  lease-grants spir = ap (λ a. first_some (granted spir a (seen call)) None) asked

  pub lease-covers : (spir : ℕ) (c : Counter) → covers_in spir c (call ∷ []) ≡ []
  lease-covers spir c = ap (λ a. cons_option (covered spir c a (seen call)) []) asked

-- a lease is refused only where its call failed, or the pool is used up
seen-refusal : (call : Call) (why : KeeperFault) → AreAnswers (call ∷ []) → seen call ≡ answer.Refused why → IsRefusalOf call.asked why
seen-refusal call why answers sees = subst (IsAnswerOf call.asked) sees (seen-answer call answers.0)

-- so it is of a draw
pub draw-refusal : (p : Pool) (old new : Remaining) (calls : List Call) (drawn : Result Drawn KeeperFault) → old.next ≤ old.end
    → DrawsPooled p old calls drawn new → AreAnswers calls → (why : KeeperFault) → drawn ≡ Err why → IsRefusalOf (ask.Lease p LEASED_NUMBERS) why
draw-refusal p old new calls drawn ordered draws answers why is = draw-elim p old new calls drawn
    (λ none given after. absurd (cc))
    (λ call n called asked sees given after. absurd (cc))
    (λ call other called asked sees refused after.
    let refuses : IsRefusalOf call.asked other = seen-refusal call other (subst AreAnswers called answers) sees in
    let same : other ≡ why = cc in
    subst (λ f. IsRefusalOf (ask.Lease p LEASED_NUMBERS) f) same (subst (λ a. IsRefusalOf a other) asked refuses))
    ordered draws

-- the number is of the counter of the lot
pub drawn-name : (p : Pool) (old new : Remaining) (calls : List Call) (drawn : Result Drawn KeeperFault) → old.next ≤ old.end
    → DrawsPooled p old calls drawn new → (number : Drawn) → drawn ≡ Ok number → number.name ≡ old.name
drawn-name p old new calls drawn ordered draws number is = draw-elim p old new calls drawn
    (λ none given after. same (record { name = old.name; value = old.next }) given)
    (λ call n called asked sees given after. same (record { name = old.name; value = n }) given)
    (λ call why called asked sees refused after. absurd (cc))
    ordered draws
  where
    same : (other : Drawn) → drawn ≡ Ok other → number.name ≡ other.name
    same other given = let one : number ≡ other = cc in ap (λ (n : Drawn). n.name) one

-- where none is given, the lot is as it was
pub draw-stopped : (p : Pool) (old new : Remaining) (calls : List Call) (drawn : Result Drawn KeeperFault) → old.next ≤ old.end
    → DrawsPooled p old calls drawn new → (why : KeeperFault) → drawn ≡ Err why → new ≡ old
draw-stopped p old new calls drawn ordered draws why is = draw-elim p old new calls drawn
    (λ none given after. absurd (cc))
    (λ call n called asked sees given after. absurd (cc))
    (λ call other called asked sees refused after. after)
    ordered draws
