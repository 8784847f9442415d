-- A Message ID is made ready to be answered, and the next IV.
use Rattle.std.proofs.Common.{◌≡◌, ℕ, List, [], ◌++◌, None, Result, Ok, Err, append-nil, ap, sym, ◌∙◌, subst}
use Rattle.events.specs.declared.turn.Step.{Step}
use Rattle.events.specs.declared.verdict.Verdict.TheVariants as out
use Rattle.horizons.specs.Ready.{Ready}
use Rattle.horizons.specs.declared.stop.Stop.{Stop}
use Rattle.keeper_book.specs.Counters.{with_five}
use Rattle.keeper_book.specs.declared.calls.Call.{Call}
use Rattle.keeper_book.specs.declared.counters.Counter.TheVariants as counter
use Rattle.keeper_book.specs.declared.counters.Five.{Five}
use Rattle.turn_rules.proofs.Readies.{ready-map}
use Rattle.turn_rules.specs.Draws.{reach_of, refusal_of_stop}
use Rattle.turn_rules.specs.Held.{Held}
use Rattle.turn_rules.specs.MemberMessages.{ReadiesThen}
use Rattle.turn_rules.specs.Steps.{RefusesThen, Says}
use Rattle.turn_rules.specs.TicketNumbers.{lease_in}
use Rattle.cluster_member.proofs.Covering.{AreCoversTo, one-covers, then-covers, vain-covers}
use Rattle.cluster_member.proofs.Readying.{ready-first, ready-then}
use Rattle.cluster_member.proofs.Unticketed.{none-unleased, ready-unleased}
use Rattle.cluster_member.specs.Answering.{LeavesHeld, ReadiesAnswer, covered_below}

-- ---- what was made ready

module _ (held now : Held) (id : ℕ) (calls : List Call) (result : Result (Unit {0}) Stop) (readies : ReadiesAnswer held id calls result now) where
  abbrev Stops : Stop → List Call → Type 0
  Stops why rest = LeavesHeld rest result (Err why) now held

  abbrev StopsIv : ℕ → Stop → List Call → Type 0
  StopsIv high why rest = LeavesHeld rest result (Err why) now (covered_below counter.Answer high held)

  abbrev Goes : ℕ → ℕ → List Call → Type 0
  Goes high above rest = LeavesHeld rest result (Ok tt) now (covered_below counter.Iv above (covered_below counter.Answer high held))

  abbrev GoesOn : ℕ → List Call → Type 0
  GoesOn high rest = Ready (reach_of held counter.Iv) held.nexts.iv rest (StopsIv high) (Goes high)

  -- no number of a ticket was leased
  pub readies-unleased : lease_in calls ≡ None
  readies-unleased = ready-unleased {S = Stops} {G = GoesOn}
      (λ why rest s. none-unleased rest s.no_more)
      (λ high rest g. ready-unleased {S = StopsIv high} {G = Goes high} (λ why more s. none-unleased more s.no_more) (λ above more g. none-unleased more g.no_more)
      (reach_of held counter.Iv) held.nexts.iv rest g)
      (reach_of held counter.Answer) id calls readies

  -- it is refused where one of them stopped
  pub readies-refused : (step : Step) (goes : List Call → Type 0) (why : Stop) → result ≡ Err why → Says (out.Refused (refusal_of_stop why)) step
      → ReadiesThen held counter.Answer id calls step goes
  readies-refused step goes why is says = ready-map {P = Stops} {G = GoesOn}
      (λ other rest s. (s.no_more, refused other s.answered))
      (λ high rest g. ready-map {P = StopsIv high} {G = Goes high}
      (λ other more s. (s.no_more, refused other s.answered))
      (λ above more g. absurd (no-stop g.answered)) (reach_of held counter.Iv) held.nexts.iv rest g)
      (reach_of held counter.Answer) id calls readies
    where
      refused : (other : Stop) → result ≡ Err other → Says (out.Refused (refusal_of_stop other)) step
      refused other gives = let same : why ≡ other = cc in subst (λ s. Says (out.Refused (refusal_of_stop s)) step) same says

      no-stop : result ≡ Ok tt → ⊥
      no-stop gives = cc

  -- else it goes on with the calls behind them
  pub readies-then : (step : Step) (goes : List Call → Type 0) (more : List Call) → result ≡ Ok tt → goes more
      → ReadiesThen held counter.Answer id (calls ++ more) step goes
  readies-then step goes more is on = ready-then {P = Stops} {Q = λ why rest. RefusesThen (refusal_of_stop why) rest step} {G = GoesOn}
      {H = λ high rest. Ready (reach_of held counter.Iv) held.nexts.iv rest (λ why rest. RefusesThen (refusal_of_stop why) rest step) (λ above rest. goes rest)} more
      (λ why rest s. absurd (no-stop why s.answered))
      (λ high rest g. ready-then {P = StopsIv high} {Q = λ why rest. RefusesThen (refusal_of_stop why) rest step} {G = Goes high} {H = λ above rest. goes rest} more
      (λ why rest s. absurd (no-stop why s.answered))
      (λ above rest g. subst (λ r. goes (r ++ more)) (sym g.no_more) on)
      (reach_of held counter.Iv) held.nexts.iv rest g)
      (reach_of held counter.Answer) id calls readies
    where
      no-stop : (why : Stop) → result ≡ Err why → ⊥
      no-stop why gives = cc

  -- what is held then, by what the calls covered
  pub record Raised : Type 0 where
    pub highs : Five
    pub covers : AreCoversTo held calls highs
    pub after : now ≡ record held { highs = highs }

  ends : (first rest : List Call) → rest ≡ [] → first ++ rest ≡ first
  ends first rest none = ap (λ r. first ++ r) none ∙ append-nil first

  raises-iv : (high : ℕ) (first rest : List Call) → calls ≡ first ++ rest → AreCoversTo held first (with_five counter.Answer high held.highs) → GoesOn high rest → Raised
  raises-iv high first rest is covers g = ready-first (covered_below counter.Answer high held) counter.Iv held.nexts.iv (StopsIv high) (Goes high) Raised rest
      (λ why few more here vain s. record {
        highs = with_five counter.Answer high held.highs;
        covers = all few more here s.no_more (with_five counter.Answer high held.highs) (vain-covers (covered_below counter.Answer high held) few vain);
        after = s.after;
      })
      (λ above few more here second g. record {
        highs = with_five counter.Iv above (with_five counter.Answer high held.highs);
        covers = all few more here g.no_more (with_five counter.Iv above (with_five counter.Answer high held.highs))
            (one-covers (covered_below counter.Answer high held) counter.Iv above few second);
        after = g.after;
      })
      g
    where
      all : (few more : List Call) → rest ≡ few ++ more → more ≡ [] → (highs : Five) → AreCoversTo (covered_below counter.Answer high held) few highs
          → AreCoversTo held calls highs
      all few more here none highs second = subst (λ cs. AreCoversTo held cs highs) (sym (is ∙ ap (λ r. first ++ r) (here ∙ ends few more none)))
          (then-covers held first few (with_five counter.Answer high held.highs) covers highs second)

  pub readies-raised : Raised
  readies-raised = ready-first held counter.Answer id Stops GoesOn Raised calls
      (λ why first rest is vain s. record {
        highs = held.highs;
        covers = subst (λ cs. AreCoversTo held cs held.highs) (sym (is ∙ ends first rest s.no_more)) (vain-covers held first vain);
        after = s.after;
      })
      (λ high first rest is covers g. raises-iv high first rest is (one-covers held counter.Answer high first covers) g)
      readies
