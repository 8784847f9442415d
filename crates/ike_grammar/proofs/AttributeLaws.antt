-- Attributes that are read are spelled so, and what is spelled so is read.
use Rattle.std.proofs.Common.{◌≡◌, ℕ, ◌+◌, ◌-◌, ◌*◌, ◌/◌, ◌%◌, ◌≤◌, ◌<◌, Bool, true, false, cond, List, ◌++◌, length, take, drop, Ok, refl, sym, ap, subst, ◌∙◌, arith, inl, inr, length-append}
use Rattle.std.specs.Prelude.{slice_index, nat_lt}
use Rattle.std.specs.List.{AllByRecursion}
use Rattle.std.proofs.lemmas.Bool.{ltb-true, ltb-false, le-ltb, lt-ltb}
use Rattle.std.proofs.lemmas.List.{take-append-drop, take_at, drop_at, length-take}
use Rattle.ike_values.specs.Values.{AttributeValue, fixed, free}
use Rattle.ike_values.specs.Spelling.{two, attribute_spelling, attributes_spelling}
use Rattle.ike_values.specs.Validity.{FitsAttribute}
use Rattle.ike_grammar.specs.OctetRange.{IsOctets}
use Rattle.ike_grammar.specs.Faults.{unless, Passes, two_at, many}
use Rattle.ike_grammar.specs.Proposals.{fixed_read, free_tests, free_read, attribute_tests, formed_at, attribute_at}
use Rattle.ike_grammar.proofs.Binds.{done, ok_is, unless_ok, unless_passes, chosen}
use Rattle.ike_grammar.proofs.Cells.{IsOctets-drop, heads4, same4, high, low, two_again, two_below}
use Rattle.ike_grammar.proofs.Shorter.{attributes_shorten}
use Rattle.ike_grammar.proofs.ManyLaws.{Items, many_found, many_again}

pub record TakesAttribute (bytes : List ℕ) (x : AttributeValue × List ℕ) : Type 0 where
  pub parts : bytes ≡ attribute_spelling x.0 ++ x.1
  pub fits : FitsAttribute x.0
  pub rest_fits : IsOctets x.1

free_takes : (end : ℕ) (bytes : List ℕ) → IsOctets bytes → 4 ≤ length bytes → two_at bytes 0 < 32768 → Passes (free_tests end bytes) → TakesAttribute bytes (free_read bytes)
free_takes end bytes fits long small p =
    let size = two_at bytes 2 in
    let size_fits : size ≤ length (drop 4 bytes) = ltb-false _ _ p.0 in
    let len : length (take size (drop 4 bytes)) ≡ size = omega (arith, length-take size (drop 4 bytes)) in
    let upper : length (take size (drop 4 bytes)) / 256 ≡ slice_index bytes 2 = ap (λ (n : ℕ). n / 256) len ∙ high (slice_index bytes 2) (slice_index bytes 3) (fits 3) in
    let lower : length (take size (drop 4 bytes)) % 256 ≡ slice_index bytes 3 = ap (λ (n : ℕ). n % 256) len ∙ low (slice_index bytes 2) (slice_index bytes 3) (fits 3) in
    record {
      parts = heads4 bytes long ∙ same4 (sym (high (slice_index bytes 0) (slice_index bytes 1) (fits 1))) (sym (low (slice_index bytes 0) (slice_index bytes 1) (fits 1))) (sym upper) (sym lower) (sym (take-append-drop size (drop 4 bytes)));
      fits = (small, omega (arith, len, two_below bytes 2 fits));
      rest_fits = IsOctets-drop size (drop 4 bytes) (IsOctets-drop 4 bytes fits);
    }

fixed_takes : (bytes : List ℕ) → IsOctets bytes → 4 ≤ length bytes → 32768 ≤ two_at bytes 0 → TakesAttribute bytes (fixed_read bytes)
fixed_takes bytes fits long large =
    let kind : 32768 + (two_at bytes 0 - 32768) ≡ two_at bytes 0 = omega arith in
    let upper : (32768 + (two_at bytes 0 - 32768)) / 256 ≡ slice_index bytes 0 = ap (λ (n : ℕ). n / 256) kind ∙ high (slice_index bytes 0) (slice_index bytes 1) (fits 1) in
    let lower : (32768 + (two_at bytes 0 - 32768)) % 256 ≡ slice_index bytes 1 = ap (λ (n : ℕ). n % 256) kind ∙ low (slice_index bytes 0) (slice_index bytes 1) (fits 1) in
    record {
      parts = heads4 bytes long ∙ same4 (sym upper) (sym lower) (sym (high (slice_index bytes 2) (slice_index bytes 3) (fits 3))) (sym (low (slice_index bytes 2) (slice_index bytes 3) (fits 3))) refl;
      fits = omega (arith, two_below bytes 0 fits);
      rest_fits = IsOctets-drop 4 bytes fits;
    }

pub attribute_takes : (end : ℕ) (bytes : List ℕ) (x : AttributeValue × List ℕ) → IsOctets bytes → attribute_at end bytes ≡ Ok x → TakesAttribute bytes x
unfolding attribute_at
attribute_takes end bytes x fits e =
    let u = unless_ok (attribute_tests end bytes) (formed_at end bytes) x e in
    let long : 4 ≤ length bytes = ltb-false _ _ u.0.0 in
    elim (chosen (nat_lt (two_at bytes 0) 32768) (unless (free_tests end bytes) (Ok (free_read bytes))) (Ok (fixed_read bytes)) (Ok x) u.1) [
      | inl h ↦
          let v = unless_ok (free_tests end bytes) (Ok (free_read bytes)) x h.1 in
          subst (TakesAttribute bytes) (ok_is (free_read bytes) x v.1) (free_takes end bytes fits long (ltb-true _ _ h.0) v.0)
      | inr h ↦ subst (TakesAttribute bytes) (ok_is (fixed_read bytes) x h.1) (fixed_takes bytes fits long (ltb-false _ _ h.0))
    ]

fixed_same : (k k' v v' : ℕ) (r : List ℕ) → k ≡ k' → v ≡ v' → (let made : AttributeValue × List ℕ = (fixed k v, r) in done made) ≡ (let made : AttributeValue × List ℕ = (fixed k' v', r) in done made)
fixed_same k k' v v' r e f = rw (e, f) refl

free_same : (k k' : ℕ) (v v' r r' : List ℕ) → k ≡ k' → v ≡ v' → r ≡ r' → (let made : AttributeValue × List ℕ = (free k v, r) in done made) ≡ (let made : AttributeValue × List ℕ = (free k' v', r') in done made)
free_same k k' v v' r r' e f g = rw (e, f, g) refl

pub when_true : {A : Type 0} (b : Bool) (x y : A) → b ≡ true → cond b x y ≡ x
when_true true x y e = refl
when_true false x y e = absurd cc

when_false : {A : Type 0} (b : Bool) (x y : A) → b ≡ false → cond b x y ≡ y
when_false true x y e = absurd cc
when_false false x y e = refl

pub attribute_again : (end : ℕ) (x : AttributeValue) (rest : List ℕ) → FitsAttribute x → attribute_at end (attribute_spelling x ++ rest) ≡ Ok (x, rest)
unfolding attribute_at
attribute_again end (fixed kind value) rest fits =
    let bytes : List ℕ = (two (32768 + kind) ++ two value) ++ rest in
    let n : 256 * ((32768 + kind) / 256) + (32768 + kind) % 256 ≡ 32768 + kind = two_again (32768 + kind) in
    unless_passes (attribute_tests end bytes) (formed_at end bytes) (le-ltb (length bytes) 4 (omega arith), tt) ∙
    when_false (nat_lt (two_at bytes 0) 32768) (unless (free_tests end bytes) (Ok (free_read bytes))) (Ok (fixed_read bytes)) (le-ltb _ _ (omega (arith, n))) ∙
    fixed_same _ kind _ value rest (omega (arith, n)) (two_again value)
attribute_again end (free kind value) rest fits =
    let bytes : List ℕ = (two kind ++ two (length value) ++ value) ++ rest in
    let k : 256 * (kind / 256) + kind % 256 ≡ kind = two_again kind in
    let n : 256 * (length value / 256) + length value % 256 ≡ length value = two_again (length value) in
    unless_passes (attribute_tests end bytes) (formed_at end bytes) (le-ltb (length bytes) 4 (omega arith), tt) ∙
    when_true (nat_lt (two_at bytes 0) 32768) (unless (free_tests end bytes) (Ok (free_read bytes))) (Ok (fixed_read bytes)) (lt-ltb _ _ (omega (arith, k, fits.0))) ∙
    unless_passes (free_tests end bytes) (Ok (free_read bytes)) (le-ltb _ _ (omega (arith, n, length-append value rest)), tt) ∙
    free_same _ kind _ value _ rest k (take_at value rest _ (sym n)) (drop_at value rest _ (sym n))

pub record SpellsAttributes (xs : List AttributeValue) (bytes : List ℕ) : Type 0 where
  pub bytes_are : bytes ≡ attributes_spelling xs
  pub fit : AllByRecursion FitsAttribute xs

attributes_items : (end : ℕ) → Items (attribute_at end) SpellsAttributes
attributes_items end =
    record {
      shortens = attributes_shorten end;
      rest_fits = λ bytes x fits e. (attribute_takes end bytes x fits e).rest_fits;
      none = record { bytes_are = refl; fit = tt };
      found = λ bytes x xs fits e s.
          let t = attribute_takes end bytes x fits e in
          record { bytes_are = t.parts ∙ ap (λ (r : List ℕ). attribute_spelling x.0 ++ r) s.bytes_are; fit = (t.fits, s.fit) };
      empty = λ bytes s. s.bytes_are;
      again = λ bytes x xs s.
          (attributes_spelling xs, ap (attribute_at end) s.bytes_are ∙ attribute_again end x (attributes_spelling xs) s.fit.0, record { bytes_are = refl; fit = s.fit.1 });
    }

pub attributes_found : (end : ℕ) (bytes : List ℕ) (xs : List AttributeValue) → IsOctets bytes → many (attribute_at end) bytes ≡ Ok xs → SpellsAttributes xs bytes
attributes_found end bytes xs fits e = many_found (attribute_at end) SpellsAttributes (attributes_items end) bytes xs fits e

pub attributes_again : (end : ℕ) (bytes : List ℕ) (xs : List AttributeValue) → SpellsAttributes xs bytes → many (attribute_at end) bytes ≡ Ok xs
attributes_again end bytes xs s = many_again (attribute_at end) SpellsAttributes (attributes_items end) bytes xs s
