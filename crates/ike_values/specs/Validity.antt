-- Which values have a spelling. A field of a value lies in the range of its type; what is said here
-- are the lengths and the counts, which no value has, and the values that have fewer bits than their
-- type. All spellings of a value are equally long.
use Rattle.std.specs.Prelude.{◌≡◌, ℕ, ◌+◌, ◌*◌, ◌<◌, ◌≤◌, ◌^◌, Bool, false, ◌||◌, ◌&&◌, ◌==◌, nat_lt, IsTrue, List, [], ◌∷◌, length}
use Rattle.std.specs.List.{AllByRecursion}
use Rattle.ike_values.specs.declared.lengths.TheConstants.{LENGTH_END}
use Rattle.ike_values.specs.Values.{AttributeValue, fixed, free, TransformValue, ProposalValue, SelectorValue, SkValue, PayloadValue, sa, nonce, notify, delete, tsi, tsr, sk, other}
use Rattle.ike_values.specs.Spelling.{attributes_spelling, address_len}
use Rattle.ike_values.specs.Writing.{transforms_written, body_written}

abbrev pub FitsAttribute : AttributeValue → Type 0
FitsAttribute (fixed kind value) = kind < 32768
FitsAttribute (free kind value) = (kind < 32768) × (length value < LENGTH_END)

pub record FitsTransform (x : TransformValue) : Type 0 where
  pub attributes : AllByRecursion FitsAttribute x.attributes
  pub length_fits : 8 + length (attributes_spelling x.attributes) < LENGTH_END

pub record FitsProposal (x : ProposalValue) : Type 0 where
  pub spi_fits : length x.spi < 256
  pub count_fits : length x.transforms < 256
  pub transforms : AllByRecursion FitsTransform x.transforms
  pub length_fits : 8 + (length x.spi + length (transforms_written x.transforms)) < LENGTH_END

pub record FitsSelector (x : SelectorValue) : Type 0 where
  pub kind_known : IsTrue (x.kind == 7 || x.kind == 8)
  pub start_len : length x.start ≡ address_len x.kind
  pub end_len : length x.end ≡ address_len x.kind

pub record FitsSelectors (xs : List SelectorValue) : Type 0 where
  pub some : 0 < length xs
  pub count_fits : length xs < 256
  pub selectors : AllByRecursion FitsSelector xs

-- With no padding the ciphertext still has the pad length, so it is not empty.
pub record FitsSk (x : SkValue) : Type 0 where
  pub iv_fits : x.iv < 2 ^ 64
  pub some : 0 < length x.ciphertext
  pub icv_len : length x.icv ≡ 16

-- a type that is neither none nor known
abbrev pub is_unknown : ℕ → Bool
is_unknown kind = nat_lt 0 kind && (nat_lt kind 33 || nat_lt 48 kind)

abbrev pub FitsBody : PayloadValue → Type 0
FitsBody (sa x) = (0 < length x) × AllByRecursion FitsProposal x
FitsBody (nonce x) = (16 ≤ length x) × (length x ≤ 256)
FitsBody (notify x) = length x.spi < 256
FitsBody (delete x) = length x.spis ≡ x.size * x.number
FitsBody (tsi x) = FitsSelectors x
FitsBody (tsr x) = FitsSelectors x
FitsBody (sk x) = FitsSk x
FitsBody (other x) = IsTrue (is_unknown x.kind)
FitsBody item = Unit {0}

pub record FitsPayload (item : PayloadValue) : Type 0 where
  pub body : FitsBody item
  pub length_fits : 4 + length (body_written item) < LENGTH_END

-- SK stands in no inner chain, and is the last of an outer one
abbrev pub MayStand : PayloadValue → Bool → List PayloadValue → Type 0
MayStand (sk x) inner items = (inner ≡ false) × (items ≡ [])
MayStand item inner items = Unit {0}

abbrev pub AreValid : Bool → List PayloadValue → Type 0
AreValid inner [] = Unit {0}
AreValid inner (item ∷ items) = FitsPayload item × MayStand item inner items × AreValid inner items
