-- A number is made ready, and then another one.
use Rattle.std.proofs.Common.{◌≡◌, ℕ, ◌+◌, ◌<◌, ◌≤◌, ◌++◌, Option, Some, None, MatchOption, List, [], ◌∷◌, Result, Ok, Err, ⊎_elim, refl, subst, sym, arith, ap, ◌∙◌}
use Rattle.std.proofs.lemmas.Bool.{cases_lt}
use Rattle.events.specs.declared.turn.Step.{Step}
use Rattle.events.specs.declared.verdict.Verdict.TheVariants as out
use Rattle.horizons.specs.Reaches.{Reach, cover_of}
use Rattle.horizons.specs.Ready.{Answered, Covers, Leaves, Readies, ReadiesNext, Ready, next_number}
use Rattle.horizons.specs.Stops.{stop_of}
use Rattle.horizons.specs.declared.stop.Stop.{Stop}
use Rattle.horizons.specs.declared.stop.Stop.TheVariants as stop
use Rattle.keeper_book.specs.CounterEnds.{end_of}
use Rattle.keeper_book.specs.Counters.{five_at}
use Rattle.keeper_book.specs.Told.{seen}
use Rattle.keeper_book.specs.declared.calls.Call.{Call}
use Rattle.keeper_book.specs.declared.calls.KeeperAnswer.{KeeperAnswer}
use Rattle.keeper_book.specs.declared.calls.KeeperAnswer.TheVariants as answer
use Rattle.keeper_book.specs.declared.counters.Counter.{Counter}
use Rattle.spend_once.specs.Lot.{Drawn}
use Rattle.turn_rules.proofs.Readies.{AreCovers, AreVain, ready-elim, ready-map}
use Rattle.turn_rules.specs.Draws.{reach_of, refusal_of_stop}
use Rattle.turn_rules.specs.Held.{Held}
use Rattle.turn_rules.specs.Steps.{Says}
use Rattle.cluster_member.specs.Numbers.{CoversBoth, LeavesBoth, ReadiesBoth}

-- what follows an answer, in other words
pub answered-onto : {P Q : Stop → Type 0} {A B : Type 0} → ((why : Stop) → P why → Q why) → (A → B) → (answered : KeeperAnswer) → Answered answered P A
    → Answered answered Q B
answered-onto stops goes answer.Done a = goes a
answered-onto stops goes (answer.Taken taken) a = absurd a
answered-onto stops goes (answer.First first) a = absurd a
answered-onto stops goes (answer.Look spent) a = absurd a
answered-onto {P} {Q} stops goes (answer.Refused fault) a = go (stop_of fault) a
  where
    go : (x : Option Stop) → MatchOption x ⊥ P → MatchOption x ⊥ Q
    go None a = absurd a
    go (Some why) a = stops why a

-- a number that is ready, with more calls after those that made it so
module _ {P Q : Stop → List Call → Type 0} {G H : ℕ → List Call → Type 0} (more : List Call)
    (stops : (why : Stop) (rest : List Call) → P why rest → Q why (rest ++ more))
    (goes : (high : ℕ) (rest : List Call) → G high rest → H high (rest ++ more)) where
  pub ready-then : (h : Reach) (at : ℕ) (calls : List Call) → Ready h at calls P G → Ready h at (calls ++ more) Q H
  ready-then h at calls r = record {
    within = λ w. goes h.high calls (r.within w);
    ended = λ l e. stops stop.Exhausted calls (r.ended l e);
    asked = λ l e. covers calls (r.asked l e);
  }
    where
      covers : (calls : List Call) → Covers h at calls P G → Covers h at (calls ++ more) Q H
      covers [] c = absurd c
      covers (call ∷ rest) c = (c.0, answered-onto (λ why. stops why rest) (goes (cover_of h at) rest) (seen call) c.1)

pub no-stop : (admitted : Result (Unit {0}) Stop) (why : Stop) → admitted ≡ Ok tt → admitted ≡ Err why → ⊥
no-stop admitted why is other = cc

pub no-number : (number : Drawn) (result : Result Drawn Stop) (why : Stop) → result ≡ Ok number → result ≡ Err why → ⊥
no-number number result why is other = cc

pub same-refusal : (result : Result Drawn Stop) (stopped why : Stop) (step : Step) → result ≡ Err stopped → result ≡ Err why
    → Says (out.Refused (refusal_of_stop stopped)) step → Says (out.Refused (refusal_of_stop why)) step
same-refusal result stopped why step is other = let same : stopped ≡ why = cc in subst (λ s. Says (out.Refused (refusal_of_stop s)) step) same

same-stop : {T : Type 0} (admitted : Result (Unit {0}) Stop) (result : Result T Stop) (e why : Stop) → admitted ≡ Err e → result ≡ Err e → admitted ≡ Err why
    → result ≡ Err why
same-stop admitted result e why is gives other = let same : e ≡ why = cc in gives ∙ ap Err same

module _ (old new iv iv_new : Reach) (at : ℕ) (xs : List Call) (admitted : Result (Unit {0}) Stop) (result : Result Drawn Stop)
    (first : Readies old at xs admitted new) where
  -- the number stops
  pub readies-first : (e : Stop) → admitted ≡ Err e → result ≡ Err e → ReadiesBoth old at iv xs result new iv
  readies-first e is gives = ready-map
      {P = λ why rest. Leaves rest admitted (Err why) new old}
      {G = λ high rest. Leaves rest admitted (Ok tt) new (record old { high = high })}
      (λ why rest l. record { no_more = l.no_more; answered = same-stop admitted result e why is gives l.answered; first_after = l.after; second_after = refl })
      (λ high rest l. absurd (no-stop admitted e l.answered is))
      old at xs first

  -- what is left once it is ready
  abbrev After : ℕ → List Call → Type 0
  After high rest = Ready iv iv.next rest
      (λ why rest. LeavesBoth rest result (Err why) new (record old { high = high }) iv_new iv)
      (λ iv_high rest. LeavesBoth rest result (Ok (next_number iv)) new (record old { high = high }) iv_new (record iv { next = iv.next + 1; high = iv_high }))

  -- the number is ready, and the next IV is asked for
  pub readies-both : (ys : List Call) → admitted ≡ Ok tt → ReadiesNext iv ys result iv_new → ReadiesBoth old at iv (xs ++ ys) result new iv_new
  readies-both ys is next = ready-then
      {P = λ why rest. Leaves rest admitted (Err why) new old}
      {Q = λ why rest. LeavesBoth rest result (Err why) new old iv_new iv}
      {G = λ high rest. Leaves rest admitted (Ok tt) new (record old { high = high })}
      {H = After}
      ys
      (λ why rest l. absurd (no-stop admitted why is l.answered))
      (λ high rest l. subst (λ r. After high (r ++ ys)) (sym l.no_more) (ready-map
      {P = λ why rest. Leaves rest result (Err why) iv_new iv}
      {G = λ iv_high rest. Leaves rest result (Ok (next_number iv)) iv_new (record iv { next = iv.next + 1; high = iv_high })}
      (λ why rest m. record { no_more = m.no_more; answered = m.answered; first_after = l.after; second_after = m.after })
      (λ iv_high rest m. record { no_more = m.no_more; answered = m.answered; first_after = l.after; second_after = m.after })
      iv iv.next ys next))
      old at xs first

-- where a number of what is held is made ready before other calls, it stops with calls by which nothing was covered, or it goes on behind those that cover it
module _ (held : Held) (c : Counter) (at : ℕ) (S : Stop → List Call → Type 0) (G : ℕ → List Call → Type 0) (P : Type 0) where
  abbrev Stopped : List Call → Type 0
  Stopped calls = (why : Stop) (first rest : List Call) → calls ≡ first ++ rest → AreVain first → S why rest → P

  abbrev Went : List Call → Type 0
  Went calls = (high : ℕ) (first rest : List Call) → calls ≡ first ++ rest → AreCovers held c first high → G high rest → P

  -- one call, or none, and what is left
  with-few : (few rest : List Call) → Stopped (few ++ rest) → Went (few ++ rest)
      → Ready (reach_of held c) at few (λ why none. (none ≡ []) × S why rest) (λ high none. (none ≡ []) × G high rest) → P
  with-few few rest stops goes = ready-elim held c at
      (λ why none. (none ≡ []) × S why rest) (λ high none. (none ≡ []) × G high rest) (λ why none s. s.0) (λ high none g. g.0) few
      (λ why none vain s. stops why few rest refl vain s.1) (λ high none covers g. goes high few rest refl covers g.1)

  first-covers : (calls : List Call) → Stopped calls → Went calls → five_at held.highs c ≤ at → at < end_of held.sa c
      → Covers (reach_of held c) at calls S G → P
  first-covers [] stops goes low below a = absurd a
  first-covers (call ∷ rest) stops goes low below a = with-few (call ∷ []) rest stops goes (record {
    within = λ w. absurd (omega (arith, w, low));
    ended = λ l e. absurd (omega (arith, e, below));
    asked = λ l b. (a.0, answered-onto (λ why s. (refl, s)) (λ g. (refl, g)) (seen call) a.1);
  })

  pub ready-first : (calls : List Call) → Stopped calls → Went calls → Ready (reach_of held c) at calls S G → P
  ready-first calls stops goes r = ⊎_elim
      (λ within. none (record {
        within = λ w. (refl, r.within w);
        ended = λ l e. absurd (omega (arith, within, l));
        asked = λ l b. absurd
            (omega (arith, within, l));
      }))
      (λ low. ⊎_elim
      (λ below. first-covers calls stops goes low below (r.asked low below))
      (λ ended. none (record {
        within = λ w. absurd (omega (arith, w, low));
        ended = λ l e. (refl, r.ended l e);
        asked = λ l b. absurd
            (omega (arith, b, ended));
      }))
      (cases_lt at (end_of held.sa c)))
      (cases_lt at (five_at held.highs c))
    where
      none : Ready (reach_of held c) at [] (λ why none. (none ≡ []) × S why calls) (λ high none. (none ≡ []) × G high calls) → P
      none = with-few [] calls stops goes

-- ---- what follows in each case of a number that is made ready

module _ {P : Type 0} where
  pub answered-any : (answered : KeeperAnswer) → Answered answered (λ why. P) P → P
  answered-any answer.Done a = a
  answered-any (answer.Taken taken) a = absurd a
  answered-any (answer.First first) a = absurd a
  answered-any (answer.Look spent) a = absurd a
  answered-any (answer.Refused fault) a = go (stop_of fault) a
    where
      go : (x : Option Stop) → MatchOption x ⊥ (λ why. P) → P
      go None a = absurd a
      go (Some why) a = a

  covers-any : (h : Reach) (at : ℕ) (calls : List Call) → Covers h at calls (λ why rest. P) (λ high rest. P) → P
  covers-any h at [] c = absurd c
  covers-any h at (call ∷ rest) c = answered-any (seen call) c.1

  -- what follows in each case
  pub ready-any : (h : Reach) (at : ℕ) (calls : List Call) → Ready h at calls (λ why rest. P) (λ high rest. P) → P
  ready-any h at calls r = ⊎_elim r.within (λ low. ⊎_elim (λ below. covers-any h at calls (r.asked low below)) (r.ended low) (cases_lt at h.end)) (cases_lt at h.high)

-- ---- both are made ready, and none is given

module _ (old new iv iv_new : Reach) (at : ℕ) (xs : List Call) (admitted result : Result (Unit {0}) Stop) (first : Readies old at xs admitted new) where
  -- the number stops
  pub covers-first : (e : Stop) → admitted ≡ Err e → result ≡ Err e → CoversBoth old at iv xs result new iv
  covers-first e is gives = ready-map
      {P = λ why rest. Leaves rest admitted (Err why) new old}
      {G = λ high rest. Leaves rest admitted (Ok tt) new (record old { high = high })}
      (λ why rest l. record { no_more = l.no_more; answered = same-stop admitted result e why is gives l.answered; first_after = l.after; second_after = refl })
      (λ high rest l. absurd (no-stop admitted e l.answered is))
      old at xs first

  -- what is left once it is ready
  abbrev Covered : ℕ → List Call → Type 0
  Covered high rest = Ready iv iv.next rest
      (λ why rest. LeavesBoth rest result (Err why) new (record old { high = high }) iv_new iv)
      (λ iv_high rest. LeavesBoth rest result (Ok tt) new (record old { high = high }) iv_new (record iv { high = iv_high }))

  -- the number is ready, and the next IV is asked for
  pub covers-both : (ys : List Call) → admitted ≡ Ok tt → Readies iv iv.next ys result iv_new → CoversBoth old at iv (xs ++ ys) result new iv_new
  covers-both ys is next = ready-then
      {P = λ why rest. Leaves rest admitted (Err why) new old}
      {Q = λ why rest. LeavesBoth rest result (Err why) new old iv_new iv}
      {G = λ high rest. Leaves rest admitted (Ok tt) new (record old { high = high })}
      {H = Covered}
      ys
      (λ why rest l. absurd (no-stop admitted why is l.answered))
      (λ high rest l. subst (λ r. Covered high (r ++ ys)) (sym l.no_more) (ready-map
      {P = λ why rest. Leaves rest result (Err why) iv_new iv}
      {G = λ iv_high rest. Leaves rest result (Ok tt) iv_new (record iv { high = iv_high })}
      (λ why rest m. record { no_more = m.no_more; answered = m.answered; first_after = l.after; second_after = m.after })
      (λ iv_high rest m. record { no_more = m.no_more; answered = m.answered; first_after = l.after; second_after = m.after })
      iv iv.next ys next))
      old at xs first
