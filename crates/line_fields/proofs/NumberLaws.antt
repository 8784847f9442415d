-- A number and its decimal word determine each other.
use Rattle.std.proofs.Common.{◌≡◌, ◌≢◌, ℕ, ◌^◌, ◌<◌, true, List, [], ◌∷◌, length, get_or, Some, Result, Ok, Err, refl, ap, subst, arith, inl, inr, rules}
use Rattle.std.proofs.lemmas.Bool.{and_parts, lt-ltb, cases_lt, le-ltb}
use Rattle.std.proofs.lemmas.Fmt.{IsAscii-from_digits}
use Rattle.std.proofs.lemmas.Str.{IsUtf8-from_ascii}
use Rattle.std.proofs.lemmas.Str.Parse.{IsNumeralModel, numerals_by_value, parse_plain}
use Rattle.std.specs.List.{list_all}
use Rattle.std.specs.Result.{OkIff, result_ok}
use Rattle.std.specs.Str.{IsUtf8}
use Rattle.std.specs.Str.Parse.{digits_value, ParsesUnsigned}
use Rattle.line_fields.specs.Numbers.{is_digit, begins_well, is_numeral, numeral_of}

pub own : IsNumeralModel (λ ds. list_all is_digit ds ≡ true) (digits_value 10)
own = numerals_by_value _ (search rules)

-- a test that means what it says
pub record IsNumeralWord (w : List ℕ) : Type 0 where
  pub digits : list_all is_digit w ≡ true
  pub some : 0 < length w
  pub zero_alone : get_or w 0 0 ≡ 48 → length w ≡ 1

well_some : (w : List ℕ) → begins_well w ≡ true → 0 < length w
well_some [] h = absurd cc
well_some (c ∷ cs) h = omega arith

well_zero : (w : List ℕ) → begins_well w ≡ true → get_or w 0 0 ≡ 48 → length w ≡ 1
well_zero [] h z = absurd cc
well_zero (c ∷ []) h z = refl
well_zero (c ∷ d ∷ cs) h z = absurd (let k : begins_well (48 ∷ d ∷ cs) ≡ true = subst (λ (x : ℕ). begins_well (x ∷ d ∷ cs) ≡ true) z h in cc k)

pub numeral_parts : (w : List ℕ) → is_numeral w ≡ true → IsNumeralWord w
numeral_parts w h =
    let parts = and_parts (list_all is_digit w) (begins_well w) h in
    record { digits = parts.0; some = well_some w parts.1; zero_alone = well_zero w parts.1 }

first_digit : (w : List ℕ) → list_all is_digit w ≡ true → get_or w 0 0 ≢ 43
first_digit [] h e = absurd (omega arith)
first_digit (c ∷ cs) h e = let first = and_parts (is_digit c) (list_all is_digit cs) h in absurd (let k : is_digit 43 ≡ true = subst (λ (x : ℕ). is_digit x ≡ true) e first.0 in cc k)

pub numeral_utf8 : (w : List ℕ) → is_numeral w ≡ true → IsUtf8 w
numeral_utf8 w h = IsUtf8-from_ascii w (IsAscii-from_digits w (own.to w (numeral_parts w h).digits))

numeral_cases : {E : Type 0} (w : List ℕ) (r : Result ℕ E) → OkIff r ((list_all is_digit w ≡ true) × (0 < length w) × (digits_value 10 w < 2 ^ 64)) (digits_value 10 w) → is_numeral w ≡ true → result_ok r ≡ numeral_of w
numeral_cases w (Ok x) k num = rw (num, lt-ltb (digits_value 10 w) (2 ^ 64) k.0.2) (ap Some k.1)
numeral_cases w (Err e) k num =
    let parts = numeral_parts w num in
    elim (cases_lt (digits_value 10 w) (2 ^ 64)) [
      | inl lt ↦ absurd (k (parts.digits, parts.some, lt))
      | inr le ↦ rw (num, le-ltb (digits_value 10 w) (2 ^ 64) le) refl
    ]

-- what `parse` reads of a numeral is its number
pub numeral_from : {E : Type 0} (w : List ℕ) (r : Result ℕ E) → ParsesUnsigned 64 10 w r → is_numeral w ≡ true → result_ok r ≡ numeral_of w
numeral_from {E} w r h num = numeral_cases w r (parse_plain own {E = E} 64 w r h (first_digit w (numeral_parts w num).digits)) num
