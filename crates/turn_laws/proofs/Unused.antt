-- Numbers that were not used: the next one of a counter, and those that a window judges to be fresh.
use Rattle.std.proofs.Common.{◌≡◌, ℕ, zero, suc, ◌+◌, ◌<◌, ◌≤◌, List, [], ◌∷◌, map, length, ⊎_elim, sym, ◌∙◌, arith}
use Rattle.std.proofs.lemmas.Bool.{cases_lt}
use Rattle.std.specs.List.{Contains}
use Rattle.replay_set.proofs.Numbers.{judging_by}
use Rattle.replay_set.specs.Laws.{IsJudgedBy}
use Rattle.replay_set.specs.Window.{judged, next_noted, window_of}
use Rattle.replay_set.specs.declared.judgement.Judgement.TheVariants.{Fresh, Seen, Stale}
use Rattle.turn_laws.proofs.Runs.{greatest-least}
use Rattle.turn_laws.specs.Holdings.{IsNotIn}
use Rattle.turn_rules.specs.Held.{greatest}

-- a number from the next one of a counter on was not used: it is above each that was
above-used : (base n : ℕ) (numbers : List ℕ) → greatest base (map (λ k. k + 1) numbers) ≤ n → IsNotIn n numbers
above-used base n [] is = tt
above-used base n (k ∷ ks) is =
    ((λ same. absurd (omega arith)), all_below ks (let rest : greatest base (map (λ k. k + 1) ks) ≤ n = omega arith in rest))
  where
    all_below : (ks : List ℕ) → greatest base (map (λ k. k + 1) ks) ≤ n → IsNotIn n ks
    all_below [] below = tt
    all_below (k ∷ ks) below = ((λ same. absurd (omega arith)), all_below ks (omega arith))

pub next-unused : (base n : ℕ) (numbers : List ℕ) → greatest base (map (λ k. k + 1) numbers) ≤ n → (base ≤ n) × IsNotIn n numbers
next-unused base n numbers is = ((let low : base ≤ greatest base (map (λ k. k + 1) numbers) = greatest-least base (map (λ k. k + 1) numbers) in omega arith), above-used base n numbers is)

pub not-among : (n : ℕ) (numbers : List ℕ) → ¬ Contains numbers n → IsNotIn n numbers
not-among n [] none = tt
not-among n (k ∷ ks) none = ((λ same. none (zero, omega arith, same)), not-among n ks (λ among. none (suc among.0, (let low : among.0 < length ks = among.1 in omega arith), among.2)))

-- a number that a window judges to be fresh is not below its base, and was not noted
pub fresh-unused : (size base n : ℕ) (numbers : List ℕ) → judged (window_of size base numbers) n ≡ Fresh → (base ≤ n) × IsNotIn n numbers
fresh-unused size base n numbers fresh =
    let by : IsJudgedBy size base numbers n (judged (window_of size base numbers) n) = judging_by size base numbers n in
    let low : base ≤ n = ⊎_elim (λ below. absurd (not_stale (sym (by.below_base below) ∙ fresh))) (λ above. above) (cases_lt n base) in
    let reached : next_noted base numbers ≤ n + size = ⊎_elim (λ below. absurd (not_stale (sym (by.below_window below) ∙ fresh))) (λ above. above) (cases_lt (n + size) (next_noted base numbers)) in
    (low, not-among n numbers (λ among. not_seen (sym (by.noted low reached among) ∙ fresh)))
  where
    not_stale : Stale ≡ Fresh → ⊥
    not_stale same = absurd (cc)

    not_seen : Seen ≡ Fresh → ⊥
    not_seen same = absurd (cc)
