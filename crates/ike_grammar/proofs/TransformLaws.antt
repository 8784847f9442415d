-- Transforms that are read are spelled so, and what is spelled so is read.
use Rattle.std.proofs.Common.{◌≡◌, ℕ, zero, suc, ◌+◌, ◌-◌, ◌/◌, ◌%◌, ◌<◌, Bool, eqb, List, [], ◌∷◌, ◌++◌, length, Result, Ok, refl, sym, ap, subst, ◌∙◌, arith}
use Rattle.std.specs.Prelude.{slice_index, ◌==◌}
use Rattle.std.proofs.lemmas.List.{nil_from_length}
use Rattle.ike_values.specs.Values.{AttributeValue, TransformValue}
use Rattle.ike_values.specs.Spelling.{two, is_last, last_mark, attributes_spelling}
use Rattle.ike_grammar.proofs.Steps.{TransformParts, SpellsTransform, SpellsTransforms}
use Rattle.ike_values.specs.declared.fault.Bad.{Bad}
use Rattle.ike_grammar.specs.OctetRange.{IsOctets}
use Rattle.ike_grammar.specs.Faults.{◌>>=◌, two_at, many}
use Rattle.ike_grammar.specs.Proposals.{attribute_at, item_tests, within, behind_item, transform_read, transform_at, transforms_at}
use Rattle.ike_grammar.proofs.Binds.{done, bind_ok, ok_is, unless_ok, unless_passes, not_none}
use Rattle.ike_grammar.proofs.Cells.{IsOctets-drop, IsOctets-take, two_again, two_back}
use Rattle.ike_grammar.proofs.AttributeLaws.{attributes_found, attributes_again}
use Rattle.ike_grammar.proofs.ItemLaws.{item_found, item_octets, item_again}

-- a transform with its free parts, and what stands behind it
abbrev FoundTransform : Bool → List ℕ → TransformValue × List ℕ → Type 0
FoundTransform last bytes x = (p : TransformParts) × SpellsTransform x.0 last bytes p × (p.rest ≡ x.1) × IsOctets x.1

pub transform_found : (end : ℕ) (last : Bool) (bytes : List ℕ) (x : TransformValue × List ℕ) → IsOctets bytes → transform_at end last bytes ≡ Ok x
    → (p : TransformParts) × SpellsTransform x.0 last bytes p × (p.rest ≡ x.1) × IsOctets x.1
unfolding transform_at
transform_found end last bytes x fits e =
    let inside = many (attribute_at (end - length (behind_item bytes))) (within bytes) in
    let u = unless_ok (item_tests end 3 8 last bytes) (inside >>= λ attributes. Ok (transform_read bytes attributes)) x e in
    let b = bind_ok inside (λ attributes. Ok (transform_read bytes attributes)) x u.1 in
    let item = item_found end 3 8 last bytes fits (omega arith) u.0 in
    let all = attributes_found (end - length (behind_item bytes)) (within bytes) b.0 (IsOctets-drop 8 _ (IsOctets-take (two_at bytes 2) bytes fits)) b.1 in
    let spelled = attributes_spelling b.0 in
    subst (FoundTransform last bytes) (ok_is (transform_read bytes b.0) x b.2) (
      record { reserved = slice_index bytes 1; reserved_behind = slice_index bytes 5; rest = behind_item bytes },
      record {
        bytes_are = item.bytes_are ∙
            ap (λ (i : List ℕ). item_octets 3 last (slice_index bytes 1) (slice_index bytes 4) (slice_index bytes 5) (slice_index bytes 6) (slice_index bytes 7) i (behind_item bytes)) all.bytes_are ∙
            ap (λ (id : List ℕ). last_mark 3 last ∷ slice_index bytes 1 ∷ two (8 + length spelled) ++ (slice_index bytes 4 ∷ slice_index bytes 5 ∷ id) ++ spelled ++ behind_item bytes) (sym (two_back bytes 6 fits));
        length_fits = subst (λ (i : List ℕ). 8 + length i < 65536) all.bytes_are item.fits;
        attributes = all.fit;
      },
      refl,
      IsOctets-drop (two_at bytes 2) bytes fits,
    )

transform_same : (kind id id' : ℕ) (attributes : List AttributeValue) (rest rest' : List ℕ) → id ≡ id' → rest ≡ rest'
    → (let made : TransformValue × List ℕ = (record { kind = kind; id = id; attributes = attributes }, rest) in done made) ≡ (let made : TransformValue × List ℕ = (record { kind = kind; id = id'; attributes = attributes }, rest') in done made)
transform_same kind id id' attributes rest rest' e f = rw (e, f) refl

pub transform_again : (end : ℕ) (last : Bool) (bytes : List ℕ) (x : TransformValue) (p : TransformParts) → SpellsTransform x last bytes p → transform_at end last bytes ≡ Ok (x, p.rest)
unfolding transform_at
transform_again end last bytes x p s =
    let spelled = attributes_spelling x.attributes in
    let octets = item_octets 3 last p.reserved x.kind p.reserved_behind (x.id / 256) (x.id % 256) spelled p.rest in
    let item = item_again end 3 8 last p.reserved x.kind p.reserved_behind (x.id / 256) (x.id % 256) spelled p.rest (omega arith) in
    let inside : many (attribute_at (end - length (behind_item octets))) (within octets) ≡ Ok x.attributes = attributes_again (end - length (behind_item octets)) (within octets) x.attributes (record { bytes_are = item.within_is; fit = s.attributes }) in
    ap (transform_at end last) s.bytes_are ∙
    unless_passes (item_tests end 3 8 last octets) (many (attribute_at (end - length (behind_item octets))) (within octets) >>= λ attributes. Ok (transform_read octets attributes)) item.passes ∙
    ap (λ (r : Result (List AttributeValue) Bad). r >>= λ attributes. Ok (transform_read octets attributes)) inside ∙
    transform_same x.kind _ x.id x.attributes _ p.rest (two_again x.id) item.behind_is

-- ---- lists of transforms: the one that is the last by its place is the last of the list

last_by_length : (xs : List TransformValue) (n : ℕ) → length xs ≡ n → eqb n 0 ≡ is_last xs
last_by_length [] n e = rw (← e) refl
last_by_length (x ∷ xs) n e = not_none n (omega arith)

pub transforms_found : (n end : ℕ) (bytes : List ℕ) (x : List TransformValue × List ℕ) → IsOctets bytes → transforms_at end n bytes ≡ Ok x → length x.1 ≡ 0 → SpellsTransforms x.0 bytes × (length x.0 ≡ n)
unfolding transforms_at
transforms_found zero end bytes x fits e none =
    let is = ok_is ([], bytes) x e in
    let nothing : bytes ≡ [] = nil_from_length bytes (ap (λ (y : List TransformValue × List ℕ). length y.1) is ∙ none) in
    subst (λ (y : List TransformValue × List ℕ). SpellsTransforms y.0 bytes × (length y.0 ≡ 0)) is (nothing, refl)
transforms_found (suc n) end bytes x fits e none =
    let first = bind_ok (transform_at end (n == 0) bytes) (λ y. transforms_at end n y.1 >>= λ others. Ok (y.0 ∷ others.0, others.1)) x e in
    let others = bind_ok (transforms_at end n first.0.1) (λ ys. Ok (first.0.0 ∷ ys.0, ys.1)) x first.2 in
    let is = ok_is (first.0.0 ∷ others.0.0, others.0.1) x others.2 in
    let found = transform_found end (n == 0) bytes first.0 fits first.1 in
    let more = transforms_found n end first.0.1 others.0 found.3 others.1 (ap (λ (y : List TransformValue × List ℕ). length y.1) is ∙ none) in
    let spelled : SpellsTransform first.0.0 (is_last others.0.0) bytes found.0 = subst (λ (last : Bool). SpellsTransform first.0.0 last bytes found.0) (last_by_length others.0.0 n more.1) found.1 in
    let behind_it : SpellsTransforms others.0.0 found.0.rest = subst (λ (rest : List ℕ). SpellsTransforms others.0.0 rest) (sym found.2) more.0 in
    subst (λ (y : List TransformValue × List ℕ). SpellsTransforms y.0 bytes × (length y.0 ≡ suc n)) is ((found.0, spelled, behind_it), ap suc more.1)

pub transforms_again : (end : ℕ) (xs : List TransformValue) (bytes : List ℕ) → SpellsTransforms xs bytes → transforms_at end (length xs) bytes ≡ Ok (xs, [])
unfolding transforms_at
transforms_again end [] bytes s = ap (λ (b : List ℕ). (let made : List TransformValue × List ℕ = ([], b) in done made)) s
transforms_again end (x ∷ xs) bytes s =
    let one : transform_at end (length xs == 0) bytes ≡ Ok (x, s.0.rest) = ap (λ (last : Bool). transform_at end last bytes) (last_by_length xs (length xs) refl) ∙ transform_again end (is_last xs) bytes x s.0 s.1 in
    ap (λ (r : Result (TransformValue × List ℕ) Bad). r >>= λ first. transforms_at end (length xs) first.1 >>= λ others. Ok (first.0 ∷ others.0, others.1)) one ∙
    ap (λ (r : Result (List TransformValue × List ℕ) Bad). r >>= λ others. Ok (x ∷ others.0, others.1)) (transforms_again end xs s.0.rest s.2)
