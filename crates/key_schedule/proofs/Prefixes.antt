-- The first octets of prf+, as its blocks are made one after the other.
use Rattle.std.proofs.Common.{inl, inr, length-take-le, ◌≡◌, ℕ, zero, suc, ◌+◌, ◌-◌, ◌*◌, ◌≤◌, min, List, [], ◌++◌, length, take, sym, ◌∙◌, ap, subst, refl, arith, length-append, take_all, length-take, length-drop}
use Rattle.std.proofs.lemmas.List.{take-take, take_min, take-append-le}
use Rattle.std.proofs.lemmas.Slice.{take-put_mid}
use Rattle.std.proofs.Math.Seq.{take-append-add}
use Rattle.std.proofs.Math.Nat.{eq-or-lt_of_le}
use borrow.Rule.Slice.PartMut.{put_mid}
use Rattle.sha2.proofs.Facts256.{length-sha256}
use Rattle.key_schedule.specs.Hmac.{hmac}
use Rattle.key_schedule.specs.PrfPlus.{block, blocks, prf_plus}

pub length-hmac : (key text : List ℕ) → length (hmac key text) ≡ 32
unfolding hmac
length-hmac key text = length-sha256 _

pub length-block : (key seed : List ℕ) (n : ℕ) → length (block key seed (suc n)) ≡ 32
unfolding block
length-block key seed n = length-hmac key _

pub length-blocks : (key seed : List ℕ) (n : ℕ) → length (blocks key seed n) ≡ 32 * n
unfolding blocks
length-blocks key seed zero = refl
length-blocks key seed (suc n) =
    rw length-append (omega (arith, length-blocks key seed n, length-block key seed n))

-- fewer blocks are a prefix of more
pub take-blocks : (key seed : List ℕ) (m n : ℕ) → m ≤ n → take (32 * m) (blocks key seed n) ≡ blocks key seed m
unfolding blocks
take-blocks key seed m zero le =
    let none : m ≡ 0 = omega arith in
    subst (λ k. take (32 * k) [] ≡ blocks key seed k) (sym none) refl
take-blocks key seed m (suc n) le =
    elim (eq-or-lt_of_le le) [
      | inl same ↦ subst (λ k. take (32 * k) (blocks key seed (suc n)) ≡ blocks key seed k) (sym same)
          (take_all (32 * suc n) (blocks key seed (suc n)) (omega (arith, length-blocks key seed (suc n))))
      | inr less ↦ take-append-le (32 * m) (blocks key seed n) (block key seed (suc n))
          (omega (arith, length-blocks key seed n))
          ∙ take-blocks key seed m n (omega arith)
    ]

-- a prefix of few octets is made by few blocks
pub take-blocks_fewer : (key seed : List ℕ) (m n k : ℕ) → m ≤ n → k ≤ 32 * m → take k (blocks key seed n) ≡ take k (blocks key seed m)
take-blocks_fewer key seed m n k le within =
    sym (take-take k (32 * m) (blocks key seed n) within) ∙ ap (take k) (take-blocks key seed m n le)

pub prf_plus-blocks : (key seed : List ℕ) (m k : ℕ) → m ≤ 255 → k ≤ 32 * m → prf_plus key seed k ≡ take k (blocks key seed m)
unfolding prf_plus
prf_plus-blocks key seed m k le within = take-blocks_fewer key seed m 255 k le within

-- one block more is written behind those that the list begins with
pub take_piece : (out next before : List ℕ) (i len end : ℕ) → length out ≡ len → length next ≡ 32 → length before ≡ 32 * i
    → 32 * i ≤ len → end ≡ min len (32 * i + 32) → take (32 * i) out ≡ take len before
    → take (32 * (i + 1)) (put_mid (32 * i) (end - 32 * i) out (take (end - 32 * i) next)) ≡ take len (before ++ next)
take_piece out next before i len end long whole made start stop same =
    let piece = take (end - 32 * i) next in
    let after = put_mid (32 * i) (end - 32 * i) out piece in
    let written : length piece ≡ end - 32 * i = length-take-le (end - 32 * i) next (omega arith) in
    let whole_after : length after ≡ len = simp (length-append, length-take, length-drop) (omega arith) in
    let front : take (32 * (i + 1)) after ≡ take end after =
    sym (take_min (32 * (i + 1)) after) ∙ ap (λ k. take k after) (omega arith) in
    let rest : take (end - 32 * i) next ≡ take (len - 32 * i) next =
    ap (λ k. take k next) (omega arith) ∙ take_min (len - 32 * i) next in
    let kept : take (32 * i) out ≡ before = same ∙ take_all len before (omega arith) in
    let behind : take len (before ++ next) ≡ before ++ take (len - 32 * i) next =
    ap (λ k. take k (before ++ next)) (omega arith) ∙ take-append-add before next (len - 32 * i) in
    front
    ∙ take-put_mid (32 * i) (end - 32 * i) out piece end (omega arith) (omega arith)
    ∙ (λ j. kept j ++ rest j)
    ∙ sym behind
