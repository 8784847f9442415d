use Rattle.std.proofs.Common.{◌≡◌, ℕ, ◌+◌, ◌-◌, ◌<◌, min, List, [], ◌++◌, length, take, drop, subst, ap, arith, length-drop, take-append-drop, sym}
use Rattle.std.proofs.lemmas.List.{drop-drop, nil_from_length}
use Rattle.std.proofs.Math.Seq.{take-add, take-length}

-- the slice from a place on is the rest of the list
pub take_rest : (xs : List ℕ) (at : ℕ) → take (length xs - at) (drop at xs) ≡ drop at xs
take_rest xs at = subst (λ k. take k (drop at xs) ≡ drop at xs) (length-drop at xs) (take-length (drop at xs))

-- the first octets of the slice from a place on are those that come next
pub take_next : (xs : List ℕ) (at n : ℕ) → take (at + n) xs ≡ take at xs ++ take n (take (length xs - at) (drop at xs))
take_next xs at n = rw (take_rest xs at) (take-add at n xs)

-- what is left from a place on begins with the first octets of the slice
pub drop_next : (xs : List ℕ) (at n : ℕ) → drop at xs ≡ take n (take (length xs - at) (drop at xs)) ++ drop (at + n) xs
drop_next xs at n = rw (take_rest xs at, ← drop-drop n at xs) (sym (take-append-drop n (drop at xs)))

-- a read of none with room for some found none
pub drop_none : (xs : List ℕ) (at n most room : ℕ) → n ≡ min (min most room) (length (take (length xs - at) (drop at xs))) → 0 < most → 0 < room → n ≡ 0 → drop (at + n) xs ≡ []
drop_none xs at n most room e m r z = nil_from_length (drop (at + n) xs) (omega (arith, e, m, r, z, length-drop (at + n) xs, length-drop at xs, ap length (take_rest xs at)))
