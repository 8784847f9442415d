-- Octets at the front of a list, and numbers in two of them.
use Rattle.std.proofs.Common.{◌≡◌, ℕ, zero, suc, ◌+◌, ◌*◌, ◌/◌, ◌%◌, ◌≤◌, ◌<◌, List, [], ◌∷◌, ◌++◌, length, take, drop, refl, sym, arith, inl, inr}
use Rattle.std.specs.Prelude.{slice_index}
use Rattle.std.proofs.lemmas.Bool.{cases_lt}
use Rattle.std.proofs.lemmas.List.{take-append-drop, length-take, length-drop, get_or-drop, get_or-take, get_or_past}
use Rattle.ike_values.specs.Spelling.{two}
use Rattle.ike_grammar.specs.Faults.{two_at}
use Rattle.ike_grammar.specs.OctetRange.{IsOctets}

pub IsOctets-drop : (n : ℕ) (bytes : List ℕ) → IsOctets bytes → IsOctets (drop n bytes)
IsOctets-drop n bytes h i = rw get_or-drop (h (n + i))

pub IsOctets-take : (n : ℕ) (bytes : List ℕ) → IsOctets bytes → IsOctets (take n bytes)
IsOctets-take n bytes h i =
    elim (cases_lt i n) [
      | inl lt ↦ rw (get_or-take n bytes i 0 lt) (h i)
      | inr le ↦ rw (get_or_past (take n bytes) i 0 (omega (arith, length-take n bytes))) (omega arith)
    ]

pub heads4 : (bytes : List ℕ) → 4 ≤ length bytes → bytes ≡ slice_index bytes 0 ∷ slice_index bytes 1 ∷ slice_index bytes 2 ∷ slice_index bytes 3 ∷ drop 4 bytes
heads4 [] l = absurd (omega arith)
heads4 (a ∷ []) l = absurd (omega arith)
heads4 (a ∷ b ∷ []) l = absurd (omega arith)
heads4 (a ∷ b ∷ c ∷ []) l = absurd (omega arith)
heads4 (a ∷ b ∷ c ∷ d ∷ bytes) l = refl

pub heads8 : (bytes : List ℕ) → 8 ≤ length bytes
    → bytes ≡ slice_index bytes 0 ∷ slice_index bytes 1 ∷ slice_index bytes 2 ∷ slice_index bytes 3 ∷ slice_index bytes 4 ∷ slice_index bytes 5 ∷ slice_index bytes 6 ∷ slice_index bytes 7 ∷ drop 8 bytes
heads8 [] l = absurd (omega arith)
heads8 (a ∷ []) l = absurd (omega arith)
heads8 (a ∷ b ∷ []) l = absurd (omega arith)
heads8 (a ∷ b ∷ c ∷ []) l = absurd (omega arith)
heads8 (a ∷ b ∷ c ∷ d ∷ []) l = absurd (omega arith)
heads8 (a ∷ b ∷ c ∷ d ∷ e ∷ []) l = absurd (omega arith)
heads8 (a ∷ b ∷ c ∷ d ∷ e ∷ f ∷ []) l = absurd (omega arith)
heads8 (a ∷ b ∷ c ∷ d ∷ e ∷ f ∷ g ∷ []) l = absurd (omega arith)
heads8 (a ∷ b ∷ c ∷ d ∷ e ∷ f ∷ g ∷ h ∷ bytes) l = refl

pub same4 : {a b c d a' b' c' d' : ℕ} {r r' : List ℕ} → a ≡ a' → b ≡ b' → c ≡ c' → d ≡ d' → r ≡ r' → a ∷ b ∷ c ∷ d ∷ r ≡ a' ∷ b' ∷ c' ∷ d' ∷ r'
same4 p q r s t = cc

-- ---- numbers in two octets

pub high : (x y : ℕ) → y < 256 → (256 * x + y) / 256 ≡ x
high x y l = omega arith

pub low : (x y : ℕ) → y < 256 → (256 * x + y) % 256 ≡ y
low x y l = omega arith

pub two_again : (n : ℕ) → 256 * (n / 256) + n % 256 ≡ n
two_again n = omega arith

pub two_back : (bytes : List ℕ) (i : ℕ) → IsOctets bytes → two (two_at bytes i) ≡ slice_index bytes i ∷ slice_index bytes (i + 1) ∷ []
two_back bytes i fits = rw (high (slice_index bytes i) (slice_index bytes (i + 1)) (fits (i + 1)), low (slice_index bytes i) (slice_index bytes (i + 1)) (fits (i + 1))) refl

pub two_below : (bytes : List ℕ) (i : ℕ) → IsOctets bytes → two_at bytes i < 65536
two_below bytes i fits = omega (arith, fits i, fits (i + 1))

-- ---- what stands inside a length, and behind it

pub split_within : (k n : ℕ) (bytes : List ℕ) → k ≤ n → drop k bytes ≡ drop k (take n bytes) ++ drop n bytes
split_within zero n bytes l = sym (take-append-drop n bytes)
split_within (suc k) zero bytes l = absurd (omega arith)
split_within (suc k) (suc n) [] l = refl
split_within (suc k) (suc n) (b ∷ bytes) l = split_within k n bytes (omega arith)

pub length-within : (k n : ℕ) (bytes : List ℕ) → k ≤ n → n ≤ length bytes → k + length (drop k (take n bytes)) ≡ n
length-within k n bytes l m = omega (arith, length-drop k (take n bytes), length-take n bytes)
