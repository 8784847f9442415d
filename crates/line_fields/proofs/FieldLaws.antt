-- A field that is read is spelled by the word that stood there, and a field's word is read as the field.
use Rattle.std.proofs.Common.{◌≡◌, ℕ, zero, suc, ◌+◌, ◌/◌, ◌^◌, ◌<◌, ◌≤◌, Bool, true, false, ◌&&◌, ◌||◌, cond, eqb, ltb, leb, List, [], ◌∷◌, ◌++◌, length, get_or, Option, Some, None, Result, Ok, Err, refl, sym, ap, ◌∙◌, subst, arith, inl, inr, ◌⊎◌, codes}
use Rattle.std.proofs.lemmas.Bool.{and_parts, cases_Bool, eqb-true, le-leb, leb-true, lt-ltb, ltb-true, ne_eqb}
use Rattle.std.proofs.lemmas.Fmt.{decimal-digits_value, digits_decimal, digits_value-decimal, decimal_nonempty, first_decimal, decimal_digit}
use Rattle.std.proofs.lemmas.Nat.{be_bytes_4, be_bytes_8, from_be_bytes-to_be_bytes_4, from_be_bytes-to_be_bytes_8}
use Rattle.std.proofs.lemmas.Slice.Eq.{bytes_eq-Decides}
use Rattle.std.specs.Fmt.{decimal}
use Rattle.std.specs.Prelude.{slice_index}
use Rattle.std.specs.Int.{w32, w64, byte_at, bytes_high_first, from_be_bytes, to_be_bytes}
use Rattle.std.specs.Str.{bytes_eq}
use Rattle.std.specs.Str.Parse.{digits_value}
use Rattle.hex.specs.Hex.{IsBytes, encode_lower, lower_digits}
use Rattle.hex.proofs.HexLemmas.{length-encode_with}
use Rattle.ha_base.specs.declared.identities.Identity.{Identity}
use Rattle.ha_base.specs.declared.key_material.KeySize.{KeySize}
use Rattle.ha_base.specs.declared.key_material.KeySize.TheVariants.{Bits128, Bits256}
use Rattle.line_fields.specs.declared.fault.LineFault.{LineFault}
use Rattle.line_fields.specs.declared.fault.LineReason.{LineReason}
use Rattle.line_fields.specs.declared.fault.LineReason.TheVariants as reasons
use Rattle.line_fields.specs.Words.{Cursor}
use Rattle.line_fields.specs.Numbers.{begins_well, is_numeral, numeral_of, in_range, number_in_word}
use Rattle.line_fields.specs.Octets.{IsOctetField, dash, decoded, octet_in, octet_of, esp_spi_of, esp_spi_text, is_hex, octets_in, octets_text, size_of, sized, spells_octets, spi_in_word, spi_text}
use Rattle.ha_base.specs.IdForms.{Form, fqdn, identity_forms, word_by}
use Rattle.line_fields.specs.Identities.{HasForm, HasFormOf, IsDomainName, IsIdentity, behind_prefix, domain_name_of, id_of, id_text, identity_in, identity_of, identity_text, of_form, with_kind}
use Rattle.line_fields.specs.Fields.{◌>>=◌, behind_field, field, key_size_of, located, word_at, word_in}
use Rattle.line_fields.specs.Fields.{size_text}
use Rattle.line_fields.proofs.NumberLaws.{numeral_parts, own}
use Rattle.line_fields.proofs.OctetLaws.{bytes-decoded, decoded-encode, encode-decoded, hex-encode, hex_parts, length-decoded}
use Rattle.line_fields.proofs.IdentityLaws.{prefix_takes}

-- one kind of field: its reader, its word, and what it may be
pub record IsField {A : Type 0} (read : List ℕ → Result A LineReason) (text : A → List ℕ) (fits : A → Type 0) : Type 0 where
  pub takes : (w : List ℕ) (x : A) → read w ≡ Ok x → (w ≡ text x) × fits x
  pub again : (x : A) → fits x → read (text x) ≡ Ok x

abbrev pub done : {A E : Type 0} → A → Result A E
done x = Ok x

pub ok_is : {A E : Type 0} (x y : A) → done {E = E} x ≡ done y → x ≡ y
ok_is x y e = cc

-- which way a test went
pub pick : {A P : Type 0} (b : Bool) (x y z : A) → cond b x y ≡ z → (b ≡ true → x ≡ z → P) → (b ≡ false → y ≡ z → P) → P
pick true x y z e hit miss = hit refl e
pick false x y z e hit miss = miss refl e

-- ---- numbers

some_is : (b : Bool) (v n : ℕ) → cond b (Some v) None ≡ Some n → (b ≡ true) × (v ≡ n)
some_is true v n e = (refl, cc)
some_is false v n e = absurd cc

in_range_takes : (least limit : ℕ) (o : Option ℕ) (n : ℕ) → in_range least limit o ≡ Ok n → (o ≡ Some n) × (least ≤ n) × (n < limit)
in_range_takes least limit None n e = absurd cc
in_range_takes least limit (Some m) n e =
    pick (leb least m && ltb m limit) (Ok m) (Err reasons.Number) (Ok n) e
    (λ hit same.
    let tests = and_parts (leb least m) (ltb m limit) hit in
    subst (λ (k : ℕ). (Some m ≡ Some k) × (least ≤ k) × (k < limit)) (ok_is m n same) (refl, leb-true least m tests.0, ltb-true m limit tests.1))
    (λ miss same. absurd cc)

number_takes : (least limit : ℕ) (w : List ℕ) (n : ℕ) → number_in_word least limit w ≡ Ok n → (w ≡ decimal n) × (least ≤ n) × (n < limit)
number_takes least limit w n e =
    let range = in_range_takes least limit (numeral_of w) n e in
    let some = some_is (is_numeral w && ltb (digits_value 10 w) (2 ^ 64)) (digits_value 10 w) n range.0 in
    let tests = and_parts (is_numeral w) (ltb (digits_value 10 w) (2 ^ 64)) some.0 in
    let parts = numeral_parts w tests.0 in
    let back = decimal-digits_value own w parts.digits parts.some parts.zero_alone (ltb-true _ _ tests.1) in
    (sym back ∙ ap decimal some.1, range.1, range.2)

well_from : (w : List ℕ) → 0 < length w → (get_or w 0 0 ≡ 48 → length w ≡ 1) → begins_well w ≡ true
well_from [] some zero_alone = absurd (omega arith)
well_from (c ∷ []) some zero_alone = refl
well_from (c ∷ d ∷ cs) some zero_alone = rw (ne_eqb c 48 (λ e. let one = zero_alone e in omega arith)) refl

decimal_well : (n : ℕ) → n < 2 ^ 64 → get_or (decimal n) 0 0 ≡ 48 → length (decimal n) ≡ 1
decimal_well zero lt e = ap length (decimal_digit 0 (omega arith))
decimal_well (suc n) lt e = let first = first_decimal (suc n) (omega arith) lt in absurd (omega arith)

number_again : (least limit n : ℕ) → limit ≤ 2 ^ 64 → least ≤ n → n < limit → number_in_word least limit (decimal n) ≡ Ok n
number_again least limit n small le lt =
    let wide : n < 2 ^ 64 = omega arith in
    let digits = digits_decimal own n wide in
    let well = well_from (decimal n) (decimal_nonempty n wide) (decimal_well n wide) in
    let value = digits_value-decimal own n wide in
    rw (digits, well, value, lt-ltb n (2 ^ 64) wide, le-leb least n le, lt-ltb n limit lt) refl

pub number_field : (limit : ℕ) → limit ≤ 2 ^ 64 → IsField (number_in_word 0 limit) decimal (λ n. n < limit)
number_field limit small =
    record { takes = λ w n e. let took = number_takes 0 limit w n e in (took.0, took.2); again = λ n lt. number_again 0 limit n small (omega arith) lt }

pub range_field : (least limit : ℕ) → limit ≤ 2 ^ 64 → IsField (number_in_word least limit) decimal (λ n. (least ≤ n) × (n < limit))
range_field least limit small =
    record { takes = λ w n e. let took = number_takes least limit w n e in (took.0, (took.1, took.2)); again = λ n h. number_again least limit n small h.0 h.1 }

-- ---- octets

octets_in_is : (w xs : List ℕ) (r : Result ℕ LineReason) → octets_in w r ≡ Ok xs → (n : ℕ) × (r ≡ Ok n) × (decoded w ≡ xs)
octets_in_is w xs (Ok n) e = (n, refl, ok_is (decoded w) xs e)
octets_in_is w xs (Err reason) e = absurd cc

text_of_some : (xs : List ℕ) → 0 < length xs → octets_text xs ≡ encode_lower xs
text_of_some [] some = absurd (omega arith)
text_of_some (b ∷ bs) some = refl

-- a word for octets is that of its octets
text-decoded : (w : List ℕ) → spells_octets w ≡ true → (w ≡ octets_text (decoded w)) × IsBytes (decoded w)
unfolding decoded
text-decoded w h =
    elim (cases_Bool (bytes_eq w dash)) [
      | inl hit ↦ let is_dash = (bytes_eq-Decides w dash).0 hit in rw is_dash (refl, λ i. omega arith)
      | inr miss ↦
          let hex : is_hex w ≡ true = rw miss at h in
          let parts = hex_parts w hex in
          let back = encode-decoded w parts.digits parts.even in
          let long : 0 < length (decoded w) = omega (arith, length-decoded w, parts.some, parts.even) in
          (sym back ∙ sym (text_of_some (decoded w) long), bytes-decoded w parts.digits)
    ]

sized_takes : (least most : ℕ) (w xs : List ℕ) → sized least most w ≡ Ok xs → (w ≡ octets_text xs) × IsOctetField least most xs
sized_takes least most w xs e =
    let parts = octets_in_is w xs (size_of least most w) e in
    pick (spells_octets w) (cond (leb least (length w / 2) && leb (length w / 2) most) (Ok (length w / 2)) (Err reasons.Size)) (Err reasons.Hex) (Ok parts.0) parts.1
    (λ hit rest. pick (leb least (length w / 2) && leb (length w / 2) most) (Ok (length w / 2)) (Err reasons.Size) (Ok parts.0) rest
    (λ within same.
    let text = text-decoded w hit in
    let tests = and_parts (leb least (length w / 2)) (leb (length w / 2) most) within in
    let size = length-decoded w in
    subst (λ (ys : List ℕ). (w ≡ octets_text ys) × IsOctetField least most ys) parts.2
    (text.0, record { least_size = omega (arith, size, leb-true _ _ tests.0); most_size = omega (arith, size, leb-true _ _ tests.1); bytes = text.1 }))
    (λ without same. absurd cc))
    (λ miss rest. absurd cc)

or_right : (a b : Bool) → b ≡ true → (a || b) ≡ true
or_right true b h = refl
or_right false b h = h

sized_again : (least most : ℕ) (xs : List ℕ) → IsOctetField least most xs → sized least most (octets_text xs) ≡ Ok xs
unfolding decoded
sized_again least most [] fits = rw (le-leb least 0 fits.least_size, le-leb 0 most fits.most_size) refl
sized_again least most (b ∷ bs) fits =
    let xs = b ∷ bs in
    let hex = or_right (bytes_eq (encode_lower xs) dash) (is_hex (encode_lower xs)) (hex-encode xs fits.bytes (omega arith)) in
    let long = length-encode_with lower_digits xs in
    let half : length (encode_lower xs) / 2 ≡ length xs = omega (arith, long) in
    rw (hex, half, le-leb least (length xs) fits.least_size, le-leb (length xs) most fits.most_size, decoded-encode xs fits.bytes) refl

pub sized_field : (least most : ℕ) → IsField (sized least most) octets_text (IsOctetField least most)
sized_field least most = record { takes = sized_takes least most; again = sized_again least most }

octet_is : (r : Result (List ℕ) LineReason) (n : ℕ) → octet_in r ≡ Ok n → (xs : List ℕ) × (r ≡ Ok xs) × (slice_index xs 0 ≡ n)
octet_is (Ok xs) n e = (xs, refl, ok_is (slice_index xs 0) n e)
octet_is (Err reason) n e = absurd cc

-- a list of one octet is that octet's
one_octet : (xs : List ℕ) (n : ℕ) → IsOctetField 1 1 xs → slice_index xs 0 ≡ n → (xs ≡ n ∷ []) × (n < 256)
one_octet [] n h e = absurd (let some = h.least_size in omega arith)
one_octet (b ∷ []) n h e = (ap (λ (c : ℕ). c ∷ []) e, rw (← e) (h.bytes 0))
one_octet (b ∷ c ∷ cs) n h e = absurd (let few = h.most_size in omega arith)

octet_takes : (w : List ℕ) (n : ℕ) → octet_of w ≡ Ok n → (w ≡ octets_text (n ∷ [])) × (n < 256)
octet_takes w n e =
    let is = octet_is (sized 1 1 w) n e in
    let took = sized_takes 1 1 w is.0 is.1 in
    let one = one_octet is.0 n took.1 is.2 in
    (took.0 ∙ ap octets_text one.0, one.1)

pub one_byte : (n : ℕ) → n < 256 → IsBytes (n ∷ [])
one_byte n lt zero = lt
one_byte n lt (suc i) = omega arith

octet_again : (n : ℕ) → n < 256 → octet_of (octets_text (n ∷ [])) ≡ Ok n
octet_again n lt = ap octet_in (sized_again 1 1 (n ∷ []) (record { least_size = omega arith; most_size = omega arith; bytes = one_byte n lt }))

pub octet_field : IsField octet_of (λ n. octets_text (n ∷ [])) (λ n. n < 256)
octet_field = record { takes = octet_takes; again = octet_again }

-- ---- SPIs

byte_below : (k n : ℕ) → byte_at k n < 256
byte_below zero n = omega arith
byte_below (suc k) n = omega arith

pub bytes_high : (k n : ℕ) → IsBytes (bytes_high_first k n)
bytes_high zero n i = omega arith
bytes_high (suc k) n zero = byte_below k n
bytes_high (suc k) n (suc i) = bytes_high k n i

spi_takes : (w : List ℕ) (n : ℕ) → spi_in_word w ≡ Ok n → (w ≡ spi_text n) × (n < 2 ^ 64)
spi_takes w n e =
    pick (is_hex w) (cond (eqb (length w / 2) 8) (Ok (from_be_bytes w64 (decoded w))) (Err reasons.Size)) (Err reasons.Hex) (Ok n) e
    (λ hit rest. pick (eqb (length w / 2) 8) (Ok (from_be_bytes w64 (decoded w))) (Err reasons.Size) (Ok n) rest
    (λ long same.
    let parts = hex_parts w hit in
    let bytes = bytes-decoded w parts.digits in
    let size : length (decoded w) ≡ 8 = length-decoded w ∙ eqb-true _ _ long in
    let value = ok_is (from_be_bytes w64 (decoded w)) n same in
    let back = be_bytes_8 (decoded w) n size bytes (sym value) in (
      sym (ap encode_lower back ∙ encode-decoded w parts.digits parts.even),
      rw (← value) (omega (arith, bytes 0, bytes 1, bytes 2, bytes 3, bytes 4, bytes 5, bytes 6, bytes 7)),
    ))
    (λ short same. absurd cc))
    (λ miss rest. absurd cc)

spi_again : (n : ℕ) → n < 2 ^ 64 → spi_in_word (spi_text n) ≡ Ok n
spi_again n lt =
    let bytes = bytes_high 8 n in
    let hex = hex-encode (to_be_bytes w64 n) bytes (omega arith) in
    let long = length-encode_with lower_digits (to_be_bytes w64 n) in
    let half : length (spi_text n) / 2 ≡ 8 = omega (arith, long) in
    rw (hex, half, decoded-encode (to_be_bytes w64 n) bytes, from_be_bytes-to_be_bytes_8 n lt) refl

pub spi_field : IsField spi_in_word spi_text (λ n. n < 2 ^ 64)
spi_field = record { takes = spi_takes; again = spi_again }

esp_spi_takes : (w : List ℕ) (n : ℕ) → esp_spi_of w ≡ Ok n → (w ≡ esp_spi_text n) × (n < 2 ^ 32)
esp_spi_takes w n e =
    pick (is_hex w) (cond (eqb (length w / 2) 4) (Ok (from_be_bytes w32 (decoded w))) (Err reasons.Size)) (Err reasons.Hex) (Ok n) e
    (λ hit rest. pick (eqb (length w / 2) 4) (Ok (from_be_bytes w32 (decoded w))) (Err reasons.Size) (Ok n) rest
    (λ long same.
    let parts = hex_parts w hit in
    let bytes = bytes-decoded w parts.digits in
    let size : length (decoded w) ≡ 4 = length-decoded w ∙ eqb-true _ _ long in
    let value = ok_is (from_be_bytes w32 (decoded w)) n same in
    let back = be_bytes_4 (decoded w) n size bytes (sym value) in (
      sym (ap encode_lower back ∙ encode-decoded w parts.digits parts.even),
      rw (← value) (omega (arith, bytes 0, bytes 1, bytes 2, bytes 3)),
    ))
    (λ short same. absurd cc))
    (λ miss rest. absurd cc)

esp_spi_again : (n : ℕ) → n < 2 ^ 32 → esp_spi_of (esp_spi_text n) ≡ Ok n
esp_spi_again n lt =
    let bytes = bytes_high 4 n in
    let hex = hex-encode (to_be_bytes w32 n) bytes (omega arith) in
    let long = length-encode_with lower_digits (to_be_bytes w32 n) in
    let half : length (esp_spi_text n) / 2 ≡ 4 = omega (arith, long) in
    rw (hex, half, decoded-encode (to_be_bytes w32 n) bytes, from_be_bytes-to_be_bytes_4 n lt) refl

pub esp_spi_field : IsField esp_spi_of esp_spi_text (λ n. n < 2 ^ 32)
esp_spi_field = record { takes = esp_spi_takes; again = esp_spi_again }

-- ---- the size of a key

key_size_takes : (w : List ℕ) (size : KeySize) → key_size_of w ≡ Ok size → (w ≡ size_text size) × Unit {0}
key_size_takes w size e =
    pick (bytes_eq w (codes "128")) (Ok Bits128) (cond (bytes_eq w (codes "256")) (Ok Bits256) (Err reasons.Word)) (Ok size) e
    (λ hit same. ((bytes_eq-Decides w (codes "128")).0 hit ∙ ap size_text (ok_is Bits128 size same), tt))
    (λ miss rest. pick (bytes_eq w (codes "256")) (Ok Bits256) (Err reasons.Word) (Ok size) rest
    (λ hit same. ((bytes_eq-Decides w (codes "256")).0 hit ∙ ap size_text (ok_is Bits256 size same), tt))
    (λ neither same. absurd cc))

key_size_again : (size : KeySize) → Unit {0} → key_size_of (size_text size) ≡ Ok size
key_size_again Bits128 h = refl
key_size_again Bits256 h = refl

pub key_size_field : IsField key_size_of size_text (λ _. Unit {0})
key_size_field = record { takes = key_size_takes; again = key_size_again }

-- ---- identities

-- a word that was read by a table is that of a form, and its octets are in the form's range
IsReadBy : List Form → List ℕ → ℕ × List ℕ → Type 0
IsReadBy [] w id = ⊥
IsReadBy (form ∷ forms) w id = ((w ≡ form.word ++ octets_text id.1) × HasForm form id.0 id.1) ⊎ IsReadBy forms w id

with_kind_is : (kind : ℕ) (r : Result (List ℕ) LineReason) (id : ℕ × List ℕ) → with_kind kind r ≡ Ok id → (r ≡ Ok id.1) × (id.0 ≡ kind)
with_kind_is kind (Ok octets) id e =
    let same = ok_is (kind, octets) id e in
    (ap (λ (j : ℕ × List ℕ). Ok j.1) same, sym (ap (λ (j : ℕ × List ℕ). j.0) same))
with_kind_is kind (Err reason) id e = absurd cc

form_takes : (form : Form) (forms : List Form) (w : List ℕ) (id : ℕ × List ℕ) → (id_of forms w ≡ Ok id → IsReadBy forms w id) → (o : Option (List ℕ)) → behind_prefix form.word w ≡ o → of_form form o (id_of forms w) ≡ Ok id → IsReadBy (form ∷ forms) w id
unfolding IsReadBy
form_takes form forms w id others None found e = inr (others e)
form_takes form forms w id others (Some octets) found e =
    let parts = with_kind_is form.kind (sized form.least form.most octets) id e in
    let took = sized_takes form.least form.most octets id.1 parts.0 in
    let word = prefix_takes form.word w octets found ∙ ap (λ (t : List ℕ). form.word ++ t) took.0 in
    inl (word, record { kind = parts.1; octets = took.1 })

id_takes : (forms : List Form) (w : List ℕ) (id : ℕ × List ℕ) → id_of forms w ≡ Ok id → IsReadBy forms w id
unfolding IsReadBy
id_takes [] w id e = absurd cc
id_takes (form ∷ forms) w id e = form_takes form forms w id (λ rest. id_takes forms w id rest) (behind_prefix form.word w) refl e

-- an ID type has the word of its form
worded : (forms : List Form) (form : Form) (w : List ℕ) (id : ℕ × List ℕ) → form.word ≡ word_by forms form.kind
    → (w ≡ form.word ++ octets_text id.1) × HasForm form id.0 id.1 → w ≡ id_text forms id.0 id.1
worded forms form w id is h =
    h.0 ∙ ap (λ (t : List ℕ). t ++ octets_text id.1) (is ∙ ap (word_by forms) (sym h.1.kind))

identity_is : (r : Result (ℕ × List ℕ) LineReason) (i : Identity) → identity_in r ≡ Ok i → r ≡ Ok (i.kind, i.octets)
identity_is (Ok id) i e =
    ap (λ (j : Identity). done (j.kind, j.octets)) (ok_is (record { kind = id.0; octets = id.1 }) i e)
identity_is (Err reason) i e = absurd cc

-- a word that was read by the table of identities
identity_read : (w : List ℕ) (id : ℕ × List ℕ) → IsReadBy identity_forms w id → (w ≡ id_text identity_forms id.0 id.1) × HasFormOf identity_forms id.0 id.1
unfolding IsReadBy
identity_read w id (inl h) = (worded identity_forms _ w id refl h, inl h.1)
identity_read w id (inr (inl h)) = (worded identity_forms _ w id refl h, inr (inl h.1))
identity_read w id (inr (inr (inl h))) = (worded identity_forms _ w id refl h, inr (inr (inl h.1)))
identity_read w id (inr (inr (inr (inl h)))) = (worded identity_forms _ w id refl h, inr (inr (inr (inl h.1))))
identity_read w id (inr (inr (inr (inr (inl h))))) = (worded identity_forms _ w id refl h, inr (inr (inr (inr (inl h.1)))))
identity_read w id (inr (inr (inr (inr (inr h))))) = absurd h

identity_takes : (w : List ℕ) (i : Identity) → identity_of w ≡ Ok i → (w ≡ identity_text i) × IsIdentity i
identity_takes w i e =
    identity_read w (i.kind, i.octets) (id_takes identity_forms w (i.kind, i.octets) (identity_is (id_of identity_forms w) i e))

identity_again : (i : Identity) → IsIdentity i → identity_of (identity_text i) ≡ Ok i
identity_again i (inl h) = rw (h.kind, sized_again 4 4 i.octets h.octets) refl
identity_again i (inr (inl h)) = rw (h.kind, sized_again 16 16 i.octets h.octets) refl
identity_again i (inr (inr (inl h))) = rw (h.kind, sized_again 1 64 i.octets h.octets) refl
identity_again i (inr (inr (inr (inl h)))) = rw (h.kind, sized_again 1 64 i.octets h.octets) refl
identity_again i (inr (inr (inr (inr (inl h))))) = rw (h.kind, sized_again 1 64 i.octets h.octets) refl
identity_again i (inr (inr (inr (inr (inr h))))) = absurd h

pub identity_field : IsField identity_of identity_text IsIdentity
identity_field = record { takes = identity_takes; again = identity_again }

domain_name_read : (w : List ℕ) (id : ℕ × List ℕ) → IsReadBy (fqdn ∷ []) w id → (w ≡ id_text identity_forms id.0 id.1) × HasForm fqdn id.0 id.1
unfolding IsReadBy
domain_name_read w id (inl h) = (worded identity_forms fqdn w id refl h, h.1)
domain_name_read w id (inr h) = absurd h

domain_name_takes : (w : List ℕ) (i : Identity) → domain_name_of w ≡ Ok i → (w ≡ identity_text i) × IsDomainName i
domain_name_takes w i e =
    domain_name_read w (i.kind, i.octets) (id_takes (fqdn ∷ []) w (i.kind, i.octets) (identity_is (id_of (fqdn ∷ []) w) i e))

domain_name_again : (i : Identity) → IsDomainName i → domain_name_of (identity_text i) ≡ Ok i
domain_name_again i h = rw (h.kind, sized_again 1 64 i.octets h.octets) refl

pub domain_name_field : IsField domain_name_of identity_text IsDomainName
domain_name_field = record { takes = domain_name_takes; again = domain_name_again }

-- ---- words in a row

-- the column behind some words
abbrev pub column_behind : ℕ → List (List ℕ) → ℕ
column_behind c [] = c
column_behind c (w ∷ ws) = column_behind (c + length w + 1) ws

-- a reader of one word or several: its words, and what it may give
pub record IsReader {A : Type 0} (read : Cursor → Result (A × Cursor) LineFault) (text : A → List (List ℕ)) (fits : A → Type 0) : Type 0 where
  pub takes : (s : Cursor) (x : A) (t : Cursor) → read s ≡ Ok (x, t) → (s.words ≡ text x ++ t.words) × fits x
  pub again : (x : A) → fits x → (c : ℕ) (ws : List (List ℕ)) → read (record { column = c; words = text x ++ ws }) ≡ Ok (x, record { column = column_behind c (text x); words = ws })

walk_on : {A B P : Type 0} {read : Cursor → Result (A × Cursor) LineFault} {text : A → List (List ℕ)} {fits : A → Type 0} → IsReader read text fits → (s : Cursor) (r : Result (A × Cursor) LineFault) → read s ≡ r → (k : A × Cursor → Result B LineFault) (y : B) → (r >>= k) ≡ Ok y → ((x : A) (t : Cursor) → s.words ≡ text x ++ t.words → fits x → k (x, t) ≡ Ok y → P) → P
walk_on is s (Err f) ran k y e go = absurd cc
walk_on is s (Ok p) ran k y e go = let took = is.takes s p.0 p.1 ran in go p.0 p.1 took.0 took.1 e

-- a reader was run, and then the rest
pub walk : {A B P : Type 0} {read : Cursor → Result (A × Cursor) LineFault} {text : A → List (List ℕ)} {fits : A → Type 0} → IsReader read text fits → (s : Cursor) (k : A × Cursor → Result B LineFault) (y : B) → (read s >>= k) ≡ Ok y → ((x : A) (t : Cursor) → s.words ≡ text x ++ t.words → fits x → k (x, t) ≡ Ok y → P) → P
walk {read = read} is s k y e go = walk_on is s (read s) refl k y e go

located_is : {A : Type 0} (c : ℕ) (r : Result A LineReason) (x : A) → located c r ≡ Ok x → r ≡ Ok x
located_is c (Ok y) x e = ap done (ok_is y x e)
located_is c (Err reason) x e = absurd cc

bind_ok : {A B : Type 0} (r : Result A LineFault) (f : A → Result B LineFault) (y : B) → (r >>= f) ≡ Ok y → (x : A) × (r ≡ Ok x) × (f x ≡ Ok y)
bind_ok (Ok x) f y e = (x, refl, e)
bind_ok (Err d) f y e = absurd cc

word_takes : (c : ℕ) (ws : List (List ℕ)) (w : List ℕ) (t : Cursor) → word_in c ws ≡ Ok (w, t) → ws ≡ w ∷ t.words
word_takes c [] w t e = absurd cc
word_takes c (v ∷ vs) w t e = let same = ok_is (v, behind_field c v vs) (w, t) e in ap (λ (p : List ℕ × Cursor). p.0 ∷ p.1.words) same

field_takes : {A : Type 0} {read : List ℕ → Result A LineReason} {text : A → List ℕ} {fits : A → Type 0} → IsField read text fits → (s : Cursor) (x : A) (t : Cursor) → field read s ≡ Ok (x, t) → (s.words ≡ text x ∷ t.words) × fits x
unfolding field
field_takes {read = read} {text = text} {fits = fits} is s x t e =
    let a = bind_ok (word_at s) (λ w. located s.column (read w.0) >>= λ v. Ok (v, w.1)) (x, t) e in
    let b = bind_ok (located s.column (read a.0.0)) (λ v. Ok (v, a.0.1)) (x, t) a.2 in
    let same = ok_is (b.0, a.0.1) (x, t) b.2 in
    let took = is.takes a.0.0 b.0 (located_is s.column (read a.0.0) b.0 b.1) in
    let word = word_takes s.column s.words a.0.0 a.0.1 a.1 in
    subst (λ (p : _ × Cursor). (s.words ≡ text p.0 ∷ p.1.words) × fits p.0) same (word ∙ ap (λ (v : List ℕ). v ∷ a.0.1.words) took.0, took.1)

pub reader : {A : Type 0} {read : List ℕ → Result A LineReason} {text : A → List ℕ} {fits : A → Type 0} → IsField read text fits → IsReader (field read) (λ x. text x ∷ []) fits
unfolding field
reader is = record { takes = λ s x t e. field_takes is s x t e; again = λ x h c ws. rw (is.again x h) refl }

pub field_again : {A : Type 0} {read : List ℕ → Result A LineReason} {text : A → List ℕ} {fits : A → Type 0} → IsField read text fits → (x : A) → fits x → (c : ℕ) (ws : List (List ℕ)) → field read (record { column = c; words = text x ∷ ws }) ≡ Ok (x, behind_field c (text x) ws)
unfolding field
field_again is x h c ws = rw (is.again x h) refl

pub then_words : (text : List (List ℕ)) {ws vs us : List (List ℕ)} → ws ≡ text ++ vs → vs ≡ us → ws ≡ text ++ us
then_words text p q = p ∙ ap (λ (v : List (List ℕ)). text ++ v) q

pub then_word : (w : List ℕ) {ws vs us : List (List ℕ)} → ws ≡ w ∷ vs → vs ≡ us → ws ≡ w ∷ us
then_word w p q = p ∙ ap (λ (v : List (List ℕ)). w ∷ v) q
