-- Which octets spell a chain of payloads (RFC 7296, section 3.2), as a relation between values and
-- lists of octets.
use Rattle.std.specs.Prelude.{◌≡◌, ℕ, ◌<◌, Bool, List, [], ◌∷◌}
use Rattle.ike_values.specs.Values.{PayloadValue, other}
use Rattle.ike_values.specs.Spelling.{first_or, behind_first, Ignored, nothing_ignored, leading_type, chain_spelling}
use Rattle.ike_values.specs.Validity.{AreValid}

-- The critical bit and seven reserved bits: a payload of unknown type is not critical, else all are
-- free.
abbrev pub MayHave : PayloadValue → ℕ → Type 0
MayHave (other x) flags = flags < 128
MayHave item flags = flags < 256

abbrev pub HaveFlags : List Ignored → List PayloadValue → Type 0
HaveFlags ignored [] = Unit {0}
HaveFlags ignored (item ∷ items) = MayHave item (first_or nothing_ignored ignored).flags
    × HaveFlags (behind_first ignored) items

-- These octets are the payloads with what a reader ignores, the first of which has this type. Behind
-- them stands one of the type behind, 0 for none.
pub record AreSpelled (items : List PayloadValue) (first behind : ℕ) (inner : Bool)
    (bytes : List ℕ) (ignored : List Ignored) : Type 0 where
  pub first_is : first ≡ leading_type behind items
  pub bytes_are : bytes ≡ chain_spelling behind ignored items
  pub flags_fit : HaveFlags ignored items
  pub valid : AreValid inner items

-- the octets spell payloads that lead to one of the type behind
abbrev pub SpellsTo : ℕ → List PayloadValue → ℕ → Bool → List ℕ → Type 0
SpellsTo behind items first inner bytes = (ignored : List Ignored)
    × AreSpelled items first behind inner bytes ignored

-- The octets spell the payloads, the first of which has this type, 0 where there is none. An inner
-- chain is the content of an SK payload.
abbrev pub Spells : List PayloadValue → ℕ → Bool → List ℕ → Type 0
Spells items first inner bytes = SpellsTo 0 items first inner bytes

-- some octets spell the payloads
abbrev pub HasSpelling : List PayloadValue → Type 0
HasSpelling payloads = (first : ℕ) × (inner : Bool) × (bytes : List ℕ)
    × Spells payloads first inner bytes
