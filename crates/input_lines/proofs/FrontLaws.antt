-- The first line of an input, as slices say it.
use Rattle.std.proofs.Common.{◌≡◌, ◌≢◌, ℕ, zero, suc, ◌+◌, ◌-◌, ◌<◌, List, [], ◌∷◌, length, get_or, take, drop, refl, sym, ap, ◌∙◌, arith}
use Rattle.std.proofs.lemmas.Bool.{ne_eqb}
use Rattle.std.proofs.Math.Seq.{drop-length}
use Rattle.std.proofs.lemmas.List.{take_all, take_rest}
use Rattle.input_lines.specs.Lines.{lines_of, without_line_feed}

-- an input is parted behind its first line feed
lines_split : (octets : List ℕ) (n : ℕ) → n < length octets → ((k : ℕ) → k < n → get_or octets k 0 ≢ 10) → get_or octets n 0 ≡ 10 → lines_of octets ≡ take (n + 1) octets ∷ lines_of (drop (n + 1) octets)
unfolding lines_of
lines_split [] n lt before found = absurd (omega arith)
lines_split (c ∷ cs) zero lt before found = rw found refl
lines_split (c ∷ cs) (suc n) lt before found =
    let rest = lines_split cs n (omega arith) (λ k h. before (suc k) (omega arith)) found in
    let other = ne_eqb c 10 (before 0 (omega arith)) in
    let next : suc n + 1 ≡ suc (n + 1) = omega arith in
    rw (other, rest, next) refl

-- an input without a line feed is one line
lines_whole : (octets : List ℕ) → 0 < length octets → ((k : ℕ) → k < length octets → get_or octets k 0 ≢ 10) → lines_of octets ≡ octets ∷ []
unfolding lines_of
lines_whole [] some before = absurd (omega arith)
lines_whole (c ∷ []) some before = rw (ne_eqb c 10 (before 0 (omega arith))) refl
lines_whole (c ∷ d ∷ cs) some before =
    let rest = lines_whole (d ∷ cs) (omega arith) (λ k h. before (suc k) (omega arith)) in
    let other = ne_eqb c 10 (before 0 (omega arith)) in
    rw (other, rest) refl

pub unfed_split : (octets : List ℕ) (n : ℕ) → n < length octets → ((k : ℕ) → k < n → get_or octets k 0 ≢ 10) → get_or octets n 0 ≡ 10 → without_line_feed (take (n + 1) octets) ≡ take n octets
unfed_split [] n lt before found = absurd (omega arith)
unfed_split (c ∷ cs) zero lt before found = rw found refl
unfed_split (c ∷ cs) (suc n) lt before found =
    let rest = unfed_split cs n (omega arith) (λ k h. before (suc k) (omega arith)) found in
    let other = ne_eqb c 10 (before 0 (omega arith)) in
    let next : suc n + 1 ≡ suc (n + 1) = omega arith in
    rw (next, other, rest) refl

pub unfed_whole : (octets : List ℕ) → ((k : ℕ) → k < length octets → get_or octets k 0 ≢ 10) → without_line_feed octets ≡ octets
unfed_whole [] before = refl
unfed_whole (c ∷ cs) before =
    rw (ne_eqb c 10 (before 0 (omega arith)), unfed_whole cs (λ k h. before (suc k) (omega arith))) refl

-- the front of an input at its first line feed, as slices say it
pub front_fed : (octets : List ℕ) (n : ℕ) → n < length octets → ((k : ℕ) → k < n → get_or octets k 0 ≢ 10) → get_or octets n 0 ≡ 10 → lines_of octets ≡ take (n + 1) octets ∷ lines_of (take (length octets - (n + 1)) (drop (n + 1) octets))
front_fed octets n lt before found = lines_split octets n lt before found ∙ ap (λ (t : List ℕ). take (n + 1) octets ∷ lines_of t) (sym (take_rest octets (n + 1)))

nothing_behind : (octets : List ℕ) (n : ℕ) → n ≡ length octets → take (length octets - n) (drop n octets) ≡ []
nothing_behind octets n e = take_rest octets n ∙ ap (λ (k : ℕ). drop k octets) e ∙ drop-length octets

pub front_whole : (octets : List ℕ) (n : ℕ) → 0 < length octets → n ≡ length octets → ((k : ℕ) → k < n → get_or octets k 0 ≢ 10) → lines_of octets ≡ take n octets ∷ lines_of (take (length octets - n) (drop n octets))
unfolding lines_of
front_whole octets n some e before =
    let all = take_all n octets (omega arith) in
    rw (nothing_behind octets n e, all) (lines_whole octets some (λ k h. before k (omega arith)))

pub unfed_front : (octets : List ℕ) (n : ℕ) → n ≡ length octets → ((k : ℕ) → k < n → get_or octets k 0 ≢ 10) → without_line_feed (take n octets) ≡ octets
unfed_front octets n e before =
    let all = take_all n octets (omega arith) in
    rw all (unfed_whole octets (λ k h. before k (omega arith)))
