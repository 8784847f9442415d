-- A redirect has one decision.
use Rattle.std.proofs.Common.{◌≡◌, ℕ, ◌<◌, nat_le, Bool, true, false, List, count_by, ◌∙◌, refl, sym, arith}
use Rattle.std.proofs.lemmas.Bool.Decides.{nat_tests}
use Rattle.std.specs.Bool.{Decides}
use Rattle.std.proofs.lemmas.Bool.{false≢true}
use Rattle.std.specs.Str.{bytes_eq}
use Rattle.std.proofs.lemmas.Slice.Eq.{bytes_eq-Decides}
use Rattle.redirects.specs.Follows.{AnswersAsked, IsDecision, IsLoop, is_recent}
use Rattle.redirects.specs.declared.asked.Asked.{Asked}
use Rattle.redirects.specs.declared.asked.Asked.TheVariants.{No, Session, Resumption}
use Rattle.redirects.specs.declared.decision.Decision.{Decision}
use Rattle.redirects.specs.Laws.{DecisionIsUnique}

-- where the redirect answers what was asked, the follows decide
decided_same : (follows : List ℕ) (now : ℕ) (asked : Asked) (nonce : List ℕ) (first second : Decision) → AnswersAsked asked nonce →
    IsDecision follows now asked nonce first → IsDecision follows now asked nonce second → first ≡ second
decided_same follows now asked nonce first second answers one other = go (nat_le 5 (count_by (is_recent now) follows)) refl
  where
    go : (b : Bool) → nat_le 5 (count_by (is_recent now) follows) ≡ b → first ≡ second
    go true is = let loop : IsLoop follows now = grind (arith, nat_tests) in one.loops.1 (answers, loop) ∙ sym (other.loops.1 (answers, loop))
    go false is =
        let few : count_by (is_recent now) follows < 5 = grind (arith, nat_tests) in
        let none : ¬ IsLoop follows now = λ loop. omega arith in
        one.followed.1 (answers, none) ∙ sym (other.followed.1 (answers, none))

pub decision_unique : DecisionIsUnique
decision_unique follows now No nonce first second one other = one.unasked.1 refl ∙ sym (other.unasked.1 refl)
decision_unique follows now Session nonce first second one other = decided_same follows now Session nonce first second tt one other
decision_unique follows now (Resumption ni) nonce first second one other = go (bytes_eq nonce ni) (bytes_eq-Decides nonce ni)
  where
    go : (b : Bool) → Decides b (nonce ≡ ni) → first ≡ second
    go true same = decided_same follows now (Resumption ni) nonce first second (same.0 refl) one other
    go false same = let differs : ¬ (nonce ≡ ni) = λ e. false≢true (same.1 e) in one.other_nonce.1 differs ∙ sym (other.other_nonce.1 differs)
