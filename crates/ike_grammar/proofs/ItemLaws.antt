-- What transforms and proposals begin with.
use Rattle.std.proofs.Common.{◌≡◌, ℕ, ◌+◌, ◌*◌, ◌/◌, ◌%◌, ◌≤◌, ◌<◌, Bool, true, false, eq-eqb, List, [], ◌∷◌, ◌++◌, length, drop, refl, sym, ap, ◌∙◌, arith, length-append}
use Rattle.std.specs.Prelude.{slice_index, not, ◌&&◌, ◌==◌}
use Rattle.std.proofs.lemmas.Bool.{le-ltb, eqb-true, not-false, not_from_true, or_from, and_right}
use Rattle.std.proofs.lemmas.List.{take_at, drop_at}
use Rattle.ike_values.specs.Spelling.{two, last_mark}
use Rattle.ike_grammar.specs.OctetRange.{IsOctets}
use Rattle.ike_grammar.specs.Faults.{Passes, two_at}
use Rattle.ike_grammar.specs.Proposals.{item_tests, within, behind_item}
use Rattle.ike_grammar.proofs.Cells.{heads8, high, low, two_again, split_within, length-within}
use Rattle.ike_grammar.proofs.Shorter.{item_length}

pub record FoundItem (more least : ℕ) (last : Bool) (bytes : List ℕ) : Type 0 where
  pub bytes_are : bytes ≡ last_mark more last ∷ slice_index bytes 1 ∷ two (8 + length (within bytes)) ++ (slice_index bytes 4 ∷ slice_index bytes 5 ∷ slice_index bytes 6 ∷ slice_index bytes 7 ∷ []) ++ within bytes ++ behind_item bytes
  pub len : 8 + length (within bytes) ≡ two_at bytes 2
  pub least_fits : least ≤ 8 + length (within bytes)
  pub fits : 8 + length (within bytes) < 65536

same8 : {a b c d e f g h a' b' c' d' : ℕ} {r r' : List ℕ} → a ≡ a' → b ≡ b' → c ≡ c' → d ≡ d' → r ≡ r' → a ∷ b ∷ c ∷ d ∷ e ∷ f ∷ g ∷ h ∷ r ≡ a' ∷ b' ∷ c' ∷ d' ∷ e ∷ f ∷ g ∷ h ∷ r'
same8 p q r s t = cc

pub item_found : (end more least : ℕ) (last : Bool) (bytes : List ℕ) → IsOctets bytes → 8 ≤ least → Passes (item_tests end more least last bytes) → FoundItem more least last bytes
item_found end more least last bytes fits l p =
    let lens = item_length end more least last bytes l p in
    let n = two_at bytes 2 in
    let len : 8 + length (within bytes) ≡ n = length-within 8 n bytes (omega (arith, lens.1)) lens.2 in
    let first : slice_index bytes 0 ≡ last_mark more last = eqb-true _ _ (not-false _ p.1.1.1.0) in
    let upper : (8 + length (within bytes)) / 256 ≡ slice_index bytes 2 = ap (λ (k : ℕ). k / 256) len ∙ high (slice_index bytes 2) (slice_index bytes 3) (fits 3) in
    let lower : (8 + length (within bytes)) % 256 ≡ slice_index bytes 3 = ap (λ (k : ℕ). k % 256) len ∙ low (slice_index bytes 2) (slice_index bytes 3) (fits 3) in
    record {
      bytes_are = heads8 bytes lens.0 ∙ same8 first refl (sym upper) (sym lower) (split_within 8 n bytes (omega (arith, lens.1)));
      len = len;
      least_fits = omega (arith, len, lens.1);
      fits = omega (arith, len, fits 2, fits 3);
    }

-- the octets of an item, its parts given
abbrev pub item_octets : ℕ → Bool → ℕ → ℕ → ℕ → ℕ → ℕ → List ℕ → List ℕ → List ℕ
item_octets more last reserved c4 c5 c6 c7 inside rest = last_mark more last ∷ reserved ∷ two (8 + length inside) ++ (c4 ∷ c5 ∷ c6 ∷ c7 ∷ []) ++ inside ++ rest

pub record ItemAgain (end more least : ℕ) (last : Bool) (inside rest bytes : List ℕ) : Type 0 where
  pub passes : Passes (item_tests end more least last bytes)
  pub within_is : within bytes ≡ inside
  pub behind_is : behind_item bytes ≡ rest

first_passes : (more : ℕ) (last : Bool) → (not (last_mark more last == 0) && not (last_mark more last == more)) ≡ false
first_passes more true = refl
first_passes more false = and_right (not (more == 0)) (not (more == more)) (not_from_true _ (eq-eqb more more refl))

pub item_again : (end more least : ℕ) (last : Bool) (reserved c4 c5 c6 c7 : ℕ) (inside rest : List ℕ) → least ≤ 8 + length inside
    → ItemAgain end more least last inside rest (item_octets more last reserved c4 c5 c6 c7 inside rest)
item_again end more least last reserved c4 c5 c6 c7 inside rest l =
    let bytes = item_octets more last reserved c4 c5 c6 c7 inside rest in
    let whole : List ℕ = last_mark more last ∷ reserved ∷ (8 + length inside) / 256 ∷ (8 + length inside) % 256 ∷ c4 ∷ c5 ∷ c6 ∷ c7 ∷ inside in
    let n : 256 * ((8 + length inside) / 256) + (8 + length inside) % 256 ≡ 8 + length inside = two_again (8 + length inside) in
    let whole_len : length whole ≡ 256 * ((8 + length inside) / 256) + (8 + length inside) % 256 = omega (arith, n) in
    record {
      passes = (le-ltb (length bytes) 8 (omega arith), (first_passes more last, (or_from _ _ (le-ltb _ _ (omega (arith, n, l))) (le-ltb (length bytes) _ (omega (arith, n, length-append inside rest))), (not_from_true _ (eq-eqb _ _ refl), tt))));
      within_is = ap (λ (t : List ℕ). drop 8 t) (take_at whole rest _ whole_len);
      behind_is = drop_at whole rest _ whole_len;
    }
