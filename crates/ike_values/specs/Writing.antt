-- The spelling with reserved bits 0.
use Rattle.std.specs.Prelude.{ℕ, Bool, List, []}
use Rattle.ike_values.specs.Values.{TransformValue, ProposalValue, PayloadValue}
use Rattle.ike_values.specs.Spelling.{transform_spelling, transforms_spelling, proposal_spelling, proposals_spelling, numbered_spelling, nothing_ignored, body_spelling, leading_type, next_field, chain_spelling}

abbrev pub transform_written : TransformValue → Bool → List ℕ
transform_written x last = transform_spelling x last 0 0

abbrev pub transforms_written : List TransformValue → List ℕ
transforms_written xs = transforms_spelling [] xs

abbrev pub proposal_written : ProposalValue → Bool → List ℕ
proposal_written x last = proposal_spelling x last 0 (transforms_written x.transforms)

abbrev pub proposals_written : List ProposalValue → List ℕ
proposals_written xs = proposals_spelling [] xs

abbrev pub numbered_written : ℕ → List ℕ → List ℕ
numbered_written number content = numbered_spelling number (0, 0, 0) content

abbrev pub body_written : PayloadValue → List ℕ
body_written item = body_spelling nothing_ignored item

-- the type of the first payload, 0 where there is none
abbrev pub first_type_of : List PayloadValue → ℕ
first_type_of items = leading_type 0 items

abbrev pub next_type_of : PayloadValue → List PayloadValue → ℕ
next_type_of item items = next_field 0 item items

abbrev pub chain_written : List PayloadValue → List ℕ
chain_written items = chain_spelling 0 [] items
