-- What stands in front of equal lists, and behind.
use Rattle.std.proofs.Common.{◌≡◌, ℕ, List, ◌++◌, length, arith}
use Rattle.std.proofs.Math.Seq.{take-append_seam, drop-append_seam}

-- of equal lists the fronts of equal length are equal, and so are the rests
pub front_same : (xs ys behind other : List ℕ) → length xs ≡ length ys → xs ++ behind ≡ ys ++ other → xs ≡ ys
front_same xs ys behind other long same = grind (arith, take-append_seam xs behind, take-append_seam ys other)

pub rest_same : (xs ys behind other : List ℕ) → length xs ≡ length ys → xs ++ behind ≡ ys ++ other → behind ≡ other
rest_same xs ys behind other long same = grind (arith, drop-append_seam xs behind, drop-append_seam ys other)
