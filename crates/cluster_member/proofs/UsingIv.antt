-- A number and the next IV are used, by the calls that made them ready.
use Rattle.std.proofs.Common.{◌≡◌, ℕ, ◌+◌, List, [], ◌++◌, Result, Ok, Err, append-nil, ap, sym, ◌∙◌, subst}
use Rattle.events.specs.declared.turn.Step.{Step}
use Rattle.events.specs.declared.verdict.Verdict.TheVariants as out
use Rattle.horizons.specs.Reaches.{Reach}
use Rattle.horizons.specs.Ready.{Ready, next_number}
use Rattle.horizons.specs.declared.stop.Stop.{Stop}
use Rattle.keeper_book.specs.Counters.{with_five}
use Rattle.keeper_book.specs.declared.calls.Call.{Call}
use Rattle.keeper_book.specs.declared.counters.Counter.{Counter}
use Rattle.keeper_book.specs.declared.counters.Counter.TheVariants as counter
use Rattle.keeper_book.specs.declared.counters.Five.{Five}
use Rattle.spend_once.specs.Lot.{Drawn}
use Rattle.turn_rules.proofs.Readies.{ready-map}
use Rattle.turn_rules.specs.Draws.{reach_of, refusal_of_stop}
use Rattle.turn_rules.specs.Held.{Held}
use Rattle.turn_rules.specs.MemberMessages.{ReadiesWithIv}
use Rattle.turn_rules.specs.Steps.{RefusesThen, Says}
use Rattle.cluster_member.proofs.Covering.{AreCoversTo, one-covers, then-covers, vain-covers}
use Rattle.cluster_member.proofs.Readying.{no-number, ready-first, same-refusal}
use Rattle.cluster_member.proofs.Uses.{UsesWithIv}
use Rattle.cluster_member.specs.Answering.{covered_below}
use Rattle.cluster_member.specs.Numbers.{LeavesBoth, ReadiesBoth}

-- two horizons are those of what is held
module _ (held now : Held) (c : Counter) (at : ℕ) (done : ℕ → ℕ → Type 0) (calls : List Call) (step : Step) where
  -- the same words of two horizons
  abbrev Uses : Reach → Reach → Type 0
  Uses one other = Ready one at calls
      (λ why rest. RefusesThen (refusal_of_stop why) rest step × (now ≡ held))
      (λ high rest. Ready other other.next rest
      (λ why more. RefusesThen (refusal_of_stop why) more step × (now ≡ covered_below c high held))
      (λ above more. (more ≡ []) × done high above))

  module _ (one other one_now other_now : Reach) (result : Result Drawn Stop) (one_is : one ≡ reach_of held c)
      (other_is : other ≡ reach_of held counter.Iv) (both : ReadiesBoth one at other calls result one_now other_now) where
    as-held : Uses one other → UsesWithIv held c at done calls step now
    as-held uses = subst (λ r. Uses r (reach_of held counter.Iv)) one_is (subst (Uses one) other_is uses)

    -- both were given, and used
    pub uses-given : (number : Drawn) → result ≡ Ok number
        → ((high above : ℕ) → one_now ≡ record one { high = high } → other_now ≡ record other { next = other.next + 1; high = above } → done high above)
        → UsesWithIv held c at done calls step now
    uses-given number is then = as-held (ready-map
        {P = λ why rest. LeavesBoth rest result (Err why) one_now one other_now other}
        {G = λ high rest. Ready other other.next rest
        (λ why more. LeavesBoth more result (Err why) one_now (record one { high = high }) other_now other)
        (λ above more. LeavesBoth more result (Ok (next_number other)) one_now (record one { high = high }) other_now
        (record other { next = other.next + 1; high = above }))}
        (λ why rest l. absurd (no-number number result why is l.answered))
        (λ high rest r. ready-map
        {P = λ why more. LeavesBoth more result (Err why) one_now (record one { high = high }) other_now other}
        {G = λ above more. LeavesBoth more result (Ok (next_number other)) one_now (record one { high = high }) other_now
        (record other { next = other.next + 1; high = above })}
        (λ why more l. absurd (no-number number result why is l.answered))
        (λ above more l. (l.no_more, then high above l.first_after l.second_after)) other other.next rest r) one at calls both)

    -- one of them stopped
    pub uses-stopped : (stopped : Stop) → result ≡ Err stopped → Says (out.Refused (refusal_of_stop stopped)) step
        → (one_now ≡ one → other_now ≡ other → now ≡ held)
        → ((high : ℕ) → one_now ≡ record one { high = high } → other_now ≡ other → now ≡ covered_below c high held) → UsesWithIv held c at done calls step now
    uses-stopped stopped is says first second = as-held (ready-map
        {P = λ why rest. LeavesBoth rest result (Err why) one_now one other_now other}
        {G = λ high rest. Ready other other.next rest
        (λ why more. LeavesBoth more result (Err why) one_now (record one { high = high }) other_now other)
        (λ above more. LeavesBoth more result (Ok (next_number other)) one_now (record one { high = high }) other_now
        (record other { next = other.next + 1; high = above }))}
        (λ why rest l. ((l.no_more, same-refusal result stopped why step is l.answered says), first l.first_after l.second_after))
        (λ high rest r. ready-map
        {P = λ why more. LeavesBoth more result (Err why) one_now (record one { high = high }) other_now other}
        {G = λ above more. LeavesBoth more result (Ok (next_number other)) one_now (record one { high = high }) other_now
        (record other { next = other.next + 1; high = above })}
        (λ why more l. ((l.no_more, same-refusal result stopped why step is l.answered says), second high l.first_after l.second_after))
        (λ above more l. absurd (no-number (next_number other) result stopped l.answered is)) other other.next rest r) one at calls both)

  -- the rule of it
  pub with-iv-rule : (D : Type 0) → ((high above : ℕ) → done high above → D) → UsesWithIv held c at done calls step now → ReadiesWithIv held c at calls step D
  with-iv-rule D does = ready-map
      {P = λ why rest. RefusesThen (refusal_of_stop why) rest step × (now ≡ held)}
      {G = λ high rest. Ready (reach_of held counter.Iv) held.nexts.iv rest
      (λ why more. RefusesThen (refusal_of_stop why) more step × (now ≡ covered_below c high held)) (λ above more. (more ≡ []) × done high above)}
      (λ why rest s. s.0)
      (λ high rest r. ready-map
      {P = λ why more. RefusesThen (refusal_of_stop why) more step × (now ≡ covered_below c high held)} {G = λ above more. (more ≡ []) × done high above}
      (λ why more s. s.0) (λ above more g. (g.0, does high above g.1)) (reach_of held counter.Iv) held.nexts.iv rest r) (reach_of held c) at calls

  -- the numbers are refused, with the highs that the calls made, or they are used below them
  module _ (P : Type 0) (apart : (high : ℕ) → (with_five c high held.highs).iv ≡ held.highs.iv)
      (stops : (why : Stop) (highs : Five) → AreCoversTo held calls highs → Says (out.Refused (refusal_of_stop why)) step
      → now ≡ record held { highs = highs } → P)
      (goes : (high above : ℕ) → AreCoversTo held calls (with_five counter.Iv above (with_five c high held.highs)) → done high above → P) where
    ends : (first rest : List Call) → rest ≡ [] → first ++ rest ≡ first
    ends first rest none = ap (λ r. first ++ r) none ∙ append-nil first

    iv-elim : (high : ℕ) (first rest : List Call) → calls ≡ first ++ rest → AreCoversTo held first (with_five c high held.highs)
        → Ready (reach_of (covered_below c high held) counter.Iv) held.nexts.iv rest
        (λ why more. RefusesThen (refusal_of_stop why) more step × (now ≡ covered_below c high held)) (λ above more. (more ≡ []) × done high above) → P
    iv-elim high first rest is covers r = ready-first (covered_below c high held) counter.Iv held.nexts.iv
        (λ why more. RefusesThen (refusal_of_stop why) more step × (now ≡ covered_below c high held)) (λ above more. (more ≡ []) × done high above) P rest
        (λ why few more here vain s. stops why (with_five c high held.highs)
        (all few more here s.0.0 (with_five c high held.highs) (vain-covers (covered_below c high held) few vain)) s.0.1 s.1)
        (λ above few more here second g. goes high above
        (all few more here g.0 (with_five counter.Iv above (with_five c high held.highs))
        (one-covers (covered_below c high held) counter.Iv above few second)) g.1)
        r
      where
        all : (few more : List Call) → rest ≡ few ++ more → more ≡ [] → (highs : Five) → AreCoversTo (covered_below c high held) few highs
            → AreCoversTo held calls highs
        all few more here none highs second =
            subst (λ cs. AreCoversTo held cs highs) (sym (is ∙ ap (λ r. first ++ r) (here ∙ ends few more none)))
            (then-covers held first few (with_five c high held.highs) covers highs second)

    pub with-iv-elim : UsesWithIv held c at done calls step now → P
    with-iv-elim = ready-first held c at
        (λ why rest. RefusesThen (refusal_of_stop why) rest step × (now ≡ held))
        (λ high rest. Ready (reach_of held counter.Iv) held.nexts.iv rest
        (λ why more. RefusesThen (refusal_of_stop why) more step × (now ≡ covered_below c high held)) (λ above more. (more ≡ []) × done high above)) P calls
        (λ why first rest is vain s. stops why held.highs
        (subst (λ cs. AreCoversTo held cs held.highs) (sym (is ∙ ends first rest s.0.0)) (vain-covers held first vain)) s.0.1 s.1)
        (λ high first rest is covers g. iv-elim high first rest is (one-covers held c high first covers)
        (subst (λ r. Ready r held.nexts.iv rest
        (λ why more. RefusesThen (refusal_of_stop why) more step × (now ≡ covered_below c high held)) (λ above more. (more ≡ []) × done high above))
        (λ i. record (reach_of held counter.Iv) { high = sym (apart high) i }) g))
