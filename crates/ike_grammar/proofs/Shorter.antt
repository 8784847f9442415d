-- Each reader of an item takes octets from the front.
use Rattle.std.proofs.Common.{◌≡◌, ℕ, ◌+◌, ◌-◌, ◌≤◌, ◌<◌, Bool, List, length, drop, Ok, refl, subst, arith, inl, inr}
use Rattle.std.specs.Prelude.{◌==◌, slice_index, nat_lt}
use Rattle.std.proofs.lemmas.Bool.{ltb-false, or_parts}
use Rattle.std.proofs.lemmas.List.{length-drop}
use Rattle.ike_values.specs.Values.{AttributeValue, TransformValue, ProposalValue, SelectorValue}
use Rattle.ike_values.specs.Spelling.{address_len}
use Rattle.ike_grammar.specs.Faults.{◌>>=◌, unless, Passes, two_at, many, so_many}
use Rattle.ike_grammar.specs.Proposals.{attribute_tests, attribute_at, formed_at, free_tests, free_read, fixed_read, item_tests, within, behind_item, transform_at, transform_read, transforms_at, proposal_tests, proposal_at, proposal_read, proposal_made, inside_at, left_tests}
use Rattle.ike_grammar.specs.Selectors.{selector_tests, selector_read, selector_at}
use Rattle.ike_grammar.proofs.Binds.{bind_ok, ok_is, unless_ok, chosen}
use Rattle.ike_grammar.proofs.Many.{Shortens}
use Rattle.ike_grammar.proofs.Counted.{Counts}

attribute_shortens : (end : ℕ) (bytes : List ℕ) (x : AttributeValue × List ℕ) → attribute_at end bytes ≡ Ok x → length x.1 < length bytes
unfolding attribute_at
attribute_shortens end bytes x e =
    let u = unless_ok (attribute_tests end bytes) (formed_at end bytes) x e in
    let long : 4 ≤ length bytes = ltb-false _ _ u.0.0 in
    elim (chosen (nat_lt (two_at bytes 0) 32768) (unless (free_tests end bytes) (Ok (free_read bytes))) (Ok (fixed_read bytes)) (Ok x) u.1) [
      | inl h ↦
          let v = unless_ok (free_tests end bytes) (Ok (free_read bytes)) x h.1 in
          subst (λ (y : AttributeValue × List ℕ). length y.1 < length bytes) (ok_is (free_read bytes) x v.1) (omega (arith, length-drop (two_at bytes 2) (drop 4 bytes), length-drop 4 bytes))
      | inr h ↦ subst (λ (y : AttributeValue × List ℕ). length y.1 < length bytes) (ok_is (fixed_read bytes) x h.1) (omega (arith, length-drop 4 bytes))
    ]

pub attributes_shorten : (end : ℕ) → Shortens (attribute_at end)
attributes_shorten end = record { by = attribute_shortens end }

-- what an item's length tells
pub item_length : (end more least : ℕ) (last : Bool) (bytes : List ℕ) → 8 ≤ least → Passes (item_tests end more least last bytes) → (8 ≤ length bytes) × (least ≤ two_at bytes 2) × (two_at bytes 2 ≤ length bytes)
item_length end more least last bytes l p =
    let t = or_parts _ _ p.1.1.0 in
    (ltb-false _ _ p.0, ltb-false _ _ t.0, ltb-false _ _ t.1)

transform_shortens : (end : ℕ) (last : Bool) (bytes : List ℕ) (x : TransformValue × List ℕ) → transform_at end last bytes ≡ Ok x → length x.1 < length bytes
unfolding transform_at
transform_shortens end last bytes x e =
    let u = unless_ok (item_tests end 3 8 last bytes) (many (attribute_at (end - length (behind_item bytes))) (within bytes) >>= λ attributes. Ok (transform_read bytes attributes)) x e in
    let b = bind_ok (many (attribute_at (end - length (behind_item bytes))) (within bytes)) (λ attributes. Ok (transform_read bytes attributes)) x u.1 in
    let l = item_length end 3 8 last bytes (omega arith) u.0 in
    subst (λ (y : TransformValue × List ℕ). length y.1 < length bytes) (ok_is (transform_read bytes b.0) x b.2) (omega (arith, l.0, l.1, l.2, length-drop (two_at bytes 2) bytes))

proposal_shortens : (end : ℕ) (bytes : List ℕ) (x : ProposalValue × List ℕ) → proposal_at end bytes ≡ Ok x → length x.1 < length bytes
unfolding proposal_at
proposal_shortens end bytes x e =
    let u = unless_ok (proposal_tests end bytes) (inside_at end bytes >>= λ inside. proposal_made end bytes inside) x e in
    let b = bind_ok (inside_at end bytes) (λ inside. proposal_made end bytes inside) x u.1 in
    let v = unless_ok (left_tests (end - length (behind_item bytes)) b.0.1) (Ok (proposal_read bytes b.0.0)) x b.2 in
    let l = item_length end 2 (8 + slice_index bytes 6) (length (behind_item bytes) == 0) bytes (omega arith) u.0 in
    subst (λ (y : ProposalValue × List ℕ). length y.1 < length bytes) (ok_is (proposal_read bytes b.0.0) x v.1) (omega (arith, l.0, l.1, l.2, length-drop (two_at bytes 2) bytes))

pub proposals_shorten : (end : ℕ) → Shortens (proposal_at end)
proposals_shorten end = record { by = proposal_shortens end }

selector_shortens : (end : ℕ) (bytes : List ℕ) (x : SelectorValue × List ℕ) → selector_at end bytes ≡ Ok x → length x.1 < length bytes
unfolding selector_at
selector_shortens end bytes x e =
    let u = unless_ok (selector_tests end bytes) (Ok (selector_read bytes)) x e in
    let long : 8 ≤ length bytes = ltb-false _ _ u.0.0 in
    let len = address_len (slice_index bytes 0) in
    subst (λ (y : SelectorValue × List ℕ). length y.1 < length bytes) (ok_is (selector_read bytes) x u.1) (omega (arith, length-drop len (drop len (drop 8 bytes)), length-drop len (drop 8 bytes), length-drop 8 bytes))

-- ---- lists with a count

pub transforms_count : (end : ℕ) → Counts (λ k. transform_at end (k == 0)) (transforms_at end)
unfolding transforms_at
transforms_count end = record { none = λ bytes. refl; more = λ k bytes. refl }

pub selectors_count : (end : ℕ) → Counts (λ k. selector_at end) (so_many (selector_at end))
unfolding so_many
selectors_count end = record { none = λ bytes. refl; more = λ k bytes. refl }

pub transform_within : (end : ℕ) (last : Bool) (bytes after : List ℕ) (x : TransformValue) → transform_at end last bytes ≡ Ok (x, after) → length after ≤ length bytes
transform_within end last bytes after x e = let l = transform_shortens end last bytes (x, after) e in omega arith

pub selector_within : (end : ℕ) (bytes after : List ℕ) (x : SelectorValue) → selector_at end bytes ≡ Ok (x, after) → length after ≤ length bytes
selector_within end bytes after x e = let l = selector_shortens end bytes (x, after) e in omega arith
