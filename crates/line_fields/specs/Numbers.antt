-- Decimal numbers without leading zeros.
use Rattle.std.specs.Prelude.{ℕ, ◌^◌, ◌==◌, ◌&&◌, nat_lt, nat_le, not, Bool, true, false, List, [], ◌∷◌, Option, Some, None, Result, Ok, Err, if◌then◌else◌}
use Rattle.std.specs.List.{list_all}
use Rattle.std.specs.Str.Parse.{digits_value}
use Rattle.line_fields.specs.declared.fault.LineReason.{LineReason}
use Rattle.line_fields.specs.declared.fault.LineReason.TheVariants.{Number}

abbrev pub is_digit : ℕ → Bool
is_digit c = nat_le 48 c && nat_le c 57

-- digits of which the first is no zero, or one digit
abbrev pub begins_well : List ℕ → Bool
begins_well [] = false
begins_well (c ∷ []) = true
begins_well (c ∷ d ∷ cs) = not (c == 48)

abbrev pub is_numeral : List ℕ → Bool
is_numeral w = list_all is_digit w && begins_well w

-- the number that a word spells, in 64 bits
abbrev pub numeral_of : List ℕ → Option ℕ
numeral_of w = if is_numeral w && nat_lt (digits_value 10 w) (2 ^ 64) then Some (digits_value 10 w)
    else None

abbrev pub in_range : ℕ → ℕ → Option ℕ → Result ℕ LineReason
in_range least limit None = Err Number
in_range least limit (Some n) = if nat_le least n && nat_lt n limit then Ok n else Err Number

-- a number from least on and below limit
abbrev pub number_in_word : ℕ → ℕ → List ℕ → Result ℕ LineReason
number_in_word least limit w = in_range least limit (numeral_of w)
