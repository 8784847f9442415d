-- The values that are valid are those that have a spelling.
use Rattle.std.proofs.Common.{ℕ, Bool, false, List, [], ◌∷◌, refl, arith}
use Rattle.ike_values.specs.Values.{PayloadValue, sk, other}
use Rattle.ike_values.specs.Writing.{first_type_of, chain_written}
use Rattle.ike_values.specs.Validity.{AreValid}
use Rattle.ike_values.specs.Chains.{MayHave, HaveFlags, Spells, HasSpelling}

no_flag : (item : PayloadValue) → MayHave item 0
no_flag (other x) = omega arith
no_flag item = omega arith

no_flags : (items : List PayloadValue) → HaveFlags [] items
no_flags [] = tt
no_flags (item ∷ items) = (no_flag item, no_flags items)

pub chain_spelled : (inner : Bool) (items : List PayloadValue) → AreValid inner items → Spells items (first_type_of items) inner (chain_written items)
chain_spelled inner items valid = ([], record { first_is = refl; bytes_are = refl; flags_fit = no_flags items; valid = valid })

pub spelled_fits : (inner : Bool) (items : List PayloadValue) (first : ℕ) (bytes : List ℕ) → Spells items first inner bytes → AreValid inner items
spelled_fits inner items first bytes s = s.1.valid

valid_outside : (inner : Bool) (items : List PayloadValue) → AreValid inner items → AreValid false items
valid_outside inner [] valid = tt
valid_outside inner (sk x ∷ items) valid = (valid.0, (refl, valid.1.1), valid_outside inner items valid.2)
valid_outside inner (item ∷ items) valid = (valid.0, tt, valid_outside inner items valid.2)

pub valid_has_spelling : (items : List PayloadValue) → AreValid false items → HasSpelling items
valid_has_spelling items valid = (first_type_of items, false, chain_written items, chain_spelled false items valid)

pub spelled_is_valid : (items : List PayloadValue) → HasSpelling items → AreValid false items
spelled_is_valid items s = valid_outside s.1 items s.3.1.valid
