-- Reading the proposals of an SA payload. What is read ends at the place end.
use Rattle.std.specs.Prelude.{ℕ, zero, suc, ◌+◌, ◌-◌, Bool, ◌||◌, ◌&&◌, ◌==◌, nat_lt, not, if◌then◌else◌, List, [], ◌∷◌, length, slice_index, take, drop, Result, Ok}
use Rattle.ike_values.specs.Values.{AttributeValue, fixed, free, TransformValue, ProposalValue}
use Rattle.ike_values.specs.Spelling.{last_mark}
use Rattle.ike_values.specs.declared.fault.Bad.{Bad}
use Rattle.ike_values.specs.declared.fault.Reason.TheVariants.{Short, Length, Field, Trailing}
use Rattle.ike_grammar.specs.Faults.{◌>>=◌, refuse, unless, two_at, many}

-- ---- attributes: type and value, or type, length and value; the first bit tells which

abbrev pub fixed_read : List ℕ → AttributeValue × List ℕ
fixed_read bytes = (fixed (two_at bytes 0 - 32768) (two_at bytes 2), drop 4 bytes)

abbrev pub free_tests : ℕ → List ℕ → List (Bool × Bad)
free_tests end bytes = refuse (nat_lt (length (drop 4 bytes)) (two_at bytes 2))
    (end - length bytes + 2) Length ∷ []

abbrev pub free_read : List ℕ → AttributeValue × List ℕ
free_read bytes = (
  free (two_at bytes 0) (take (two_at bytes 2) (drop 4 bytes)),
  drop
      (two_at bytes 2) (drop 4 bytes),
)

abbrev pub attribute_tests : ℕ → List ℕ → List (Bool × Bad)
attribute_tests end bytes = refuse (nat_lt (length bytes) 4) (end - length bytes) Short ∷ []

abbrev pub formed_at : ℕ → List ℕ → Result (AttributeValue × List ℕ) Bad
formed_at end bytes = if nat_lt (two_at bytes 0) 32768
    then unless (free_tests end bytes) (Ok (free_read bytes)) else Ok (fixed_read bytes)

unfoldable pub attribute_at : ℕ → List ℕ → Result (AttributeValue × List ℕ) Bad
attribute_at end bytes = unless (attribute_tests end bytes) (formed_at end bytes)

-- ---- what transforms and proposals begin with: 0 at the last and else more, reserved, length;
-- least octets at least

abbrev pub item_tests : ℕ → ℕ → ℕ → Bool → List ℕ → List (Bool × Bad)
item_tests end more least last bytes =
    refuse (nat_lt (length bytes) 8) (end - length bytes) Short
    ∷ refuse (not (slice_index bytes 0 == 0) && not (slice_index bytes 0 == more))
    (end - length bytes) Field
    ∷ refuse (nat_lt (two_at bytes 2) least || nat_lt (length bytes) (two_at bytes 2))
    (end - length bytes + 2) Length
    ∷ refuse (not (slice_index bytes 0 == last_mark more last)) (end - length bytes) Field
    ∷ []

-- what stands in an item behind its first eight octets, and what stands behind it
abbrev pub within : List ℕ → List ℕ
within bytes = drop 8 (take (two_at bytes 2) bytes)

abbrev pub behind_item : List ℕ → List ℕ
behind_item bytes = drop (two_at bytes 2) bytes

-- ---- transforms: 0 or 3, reserved, length, type, reserved, ID, attributes

abbrev pub transform_read : List ℕ → List AttributeValue → TransformValue × List ℕ
transform_read bytes attributes = (
  record {
    kind = slice_index bytes 4;
    id = two_at bytes 6;
    attributes = attributes;
  },
  behind_item bytes,
)

unfoldable pub transform_at : ℕ → Bool → List ℕ → Result (TransformValue × List ℕ) Bad
transform_at end last bytes = unless (item_tests end 3 8 last bytes) (do
  attributes ← many (attribute_at (end - length (behind_item bytes))) (within bytes)
  Ok (transform_read bytes attributes))

-- this many transforms, and what stands behind them
unfoldable pub transforms_at : ℕ → ℕ → List ℕ → Result (List TransformValue × List ℕ) Bad
transforms_at end zero bytes = Ok ([], bytes)
transforms_at end (suc n) bytes = do
  first ← transform_at end (n == 0) bytes
  others ← transforms_at end n first.1
  Ok (first.0 ∷ others.0, others.1)

-- ---- proposals: 0 or 2, reserved, length, number, protocol, SPI size, number of transforms, SPI,
-- transforms

abbrev pub proposal_tests : ℕ → List ℕ → List (Bool × Bad)
proposal_tests end bytes = item_tests end 2 (8 + slice_index bytes 6)
    (length (behind_item bytes) == 0) bytes

abbrev pub left_tests : ℕ → List ℕ → List (Bool × Bad)
left_tests end left = refuse (nat_lt 0 (length left)) (end - length left) Trailing ∷ []

abbrev pub proposal_read : List ℕ → List TransformValue → ProposalValue × List ℕ
proposal_read bytes transforms = (
  record {
    number = slice_index bytes 4;
    protocol = slice_index bytes 5;
    spi = take (slice_index bytes 6) (within bytes);
    transforms = transforms;
  },
  behind_item bytes,
)

abbrev pub inside_at : ℕ → List ℕ → Result (List TransformValue × List ℕ) Bad
inside_at end bytes = transforms_at (end - length (behind_item bytes)) (slice_index bytes 7)
    (drop (slice_index bytes 6) (within bytes))

abbrev pub proposal_made : ℕ → List ℕ → List TransformValue × List ℕ
    → Result (ProposalValue × List ℕ) Bad
proposal_made end bytes inside = unless (left_tests (end - length (behind_item bytes)) inside.1)
    (Ok (proposal_read bytes inside.0))

unfoldable pub proposal_at : ℕ → List ℕ → Result (ProposalValue × List ℕ) Bad
proposal_at end bytes = unless (proposal_tests end bytes) (do
  inside ← inside_at end bytes
  proposal_made end bytes inside)

abbrev pub proposals_tests : ℕ → List ℕ → List (Bool × Bad)
proposals_tests end body = refuse (length body == 0) (end - length body) Short ∷ []

unfoldable pub proposals_at : ℕ → List ℕ → Result (List ProposalValue) Bad
proposals_at end body = unless (proposals_tests end body) (many (proposal_at end) body)
