-- Messages that are read are spelled so, and what is spelled so is read.
use Rattle.std.proofs.Common.{◌≡◌, ℕ, ◌+◌, ◌/◌, ◌^◌, ◌≤◌, ◌<◌, ◌⊎◌, Bool, false, eq-eqb, List, [], ◌∷◌, ◌++◌, length, take, drop, Result, Ok, Err, refl, sym, ap, subst, ◌∙◌, append_assoc, arith, inl, inr}
use Rattle.std.specs.Prelude.{slice_index}
use Rattle.std.specs.Int.{w32, w64, to_be_bytes, from_be_bytes}
use Rattle.std.proofs.lemmas.Bool.{ltb-false, le-ltb, eqb-true, not-false, not_from_true}
use Rattle.std.proofs.lemmas.List.{length-drop, length-take, get_or-drop, drop-drop, take-append-drop}
use Rattle.std.proofs.lemmas.Nat.{be_bytes_4, be_bytes_8, from_be_bytes-to_be_bytes_4, from_be_bytes-to_be_bytes_8}
use Rattle.ike_values.specs.Values.{PayloadValue}
use Rattle.ike_values.specs.Headers.{HeaderParts, SpellsHeader, IsMessage}
use Rattle.ike_values.specs.declared.header.Header.{Header}
use Rattle.ike_values.specs.declared.header.Message.{Message}
use Rattle.ike_values.specs.declared.fault.Bad.{Bad}
use Rattle.ike_values.specs.declared.fault.Reason.{Reason}
use Rattle.ike_grammar.specs.OctetRange.{IsOctets}
use Rattle.ike_grammar.specs.Faults.{◌>>=◌}
use Rattle.ike_grammar.specs.Chain.{chain_at}
use Rattle.ike_grammar.specs.Messages.{header_tests, header_read, header_at, message_at, MessageRefused}
use Rattle.ike_grammar.proofs.Binds.{done, bind_ok, ok_is, unless_ok, unless_passes, differ}
use Rattle.ike_grammar.proofs.Cells.{IsOctets-drop, IsOctets-take, heads4, same4}
use Rattle.ike_grammar.proofs.BodyLaws.{eight_below}
use Rattle.ike_grammar.proofs.ChainLaws.{chain_found, chain_again}

-- ---- numbers in four and in eight octets

next_part : (bytes : List ℕ) (i n : ℕ) → drop i bytes ≡ take n (drop i bytes) ++ drop (i + n) bytes
next_part bytes i n = sym (take-append-drop n (drop i bytes)) ∙ ap (λ (t : List ℕ). take n (drop i bytes) ++ t) (drop-drop n i bytes)

part-length : (bytes : List ℕ) (i n : ℕ) → i + n ≤ length bytes → length (take n (drop i bytes)) ≡ n
part-length bytes i n long = omega (arith, length-take n (drop i bytes), length-drop i bytes)

part_fits : (bytes : List ℕ) (i n : ℕ) → IsOctets bytes → IsOctets (take n (drop i bytes))
part_fits bytes i n fits = IsOctets-take n (drop i bytes) (IsOctets-drop i bytes fits)

four_below : (bytes : List ℕ) → IsOctets bytes → from_be_bytes w32 bytes < 2 ^ 32
four_below bytes fits = omega (arith, fits 0, fits 1, fits 2, fits 3)

four_back : (xs : List ℕ) (n : ℕ) → length xs ≡ 4 → IsOctets xs → n ≡ from_be_bytes w32 xs → to_be_bytes w32 n ≡ xs
four_back xs n long fits e = be_bytes_4 xs n long fits e

eight_back : (xs : List ℕ) → length xs ≡ 8 → IsOctets xs → to_be_bytes w64 (from_be_bytes w64 xs) ≡ xs
eight_back xs long fits = be_bytes_8 xs (from_be_bytes w64 xs) long fits refl

-- ---- headers

abbrev header_octets : List ℕ → List ℕ → List ℕ → List ℕ → List ℕ → List ℕ → List ℕ
header_octets spii spir marks id len rest = spii ++ spir ++ marks ++ id ++ len ++ rest

regrouped : (a b c d e f : List ℕ) → ((((a ++ b) ++ c) ++ d) ++ e) ++ f ≡ a ++ (b ++ (c ++ (d ++ (e ++ f))))
regrouped a b c d e f = simp append_assoc

-- next payload, version, exchange and flags
abbrev marks_of : List ℕ → List ℕ
marks_of bytes = slice_index bytes 16 ∷ slice_index bytes 17 ∷ slice_index bytes 18 ∷ slice_index bytes 19 ∷ []

four_cells : (bytes : List ℕ) → 20 ≤ length bytes → drop 16 bytes ≡ marks_of bytes ++ drop 20 bytes
four_cells bytes l =
    heads4 (drop 16 bytes) (omega (arith, length-drop 16 bytes)) ∙
    same4 (get_or-drop 16 bytes 0 0) (get_or-drop 16 bytes 1 0) (get_or-drop 16 bytes 2 0) (get_or-drop 16 bytes 3 0) (drop-drop 4 16 bytes)

header_parts : (bytes : List ℕ) → 28 ≤ length bytes
    → bytes ≡ header_octets (take 8 bytes) (take 8 (drop 8 bytes)) (marks_of bytes) (take 4 (drop 20 bytes)) (take 4 (drop 24 bytes)) (drop 28 bytes)
header_parts bytes l =
    sym (take-append-drop 8 bytes) ∙
    ap (λ (t : List ℕ). take 8 bytes ++ t) (next_part bytes 8 8 ∙
    ap (λ (t : List ℕ). take 8 (drop 8 bytes) ++ t) (four_cells bytes (omega arith) ∙
    ap (λ (t : List ℕ). marks_of bytes ++ t) (next_part bytes 20 4 ∙
    ap (λ (t : List ℕ). take 4 (drop 20 bytes) ++ t) (next_part bytes 24 4)))) ∙
    sym (regrouped (take 8 bytes) (take 8 (drop 8 bytes)) (marks_of bytes) (take 4 (drop 20 bytes)) (take 4 (drop 24 bytes)) (drop 28 bytes))

-- what is free in a header that is read
abbrev parts_of : List ℕ → HeaderParts
parts_of bytes = record { first = slice_index bytes 16; version = slice_index bytes 17; flags = slice_index bytes 19; rest = drop 28 bytes }

pub header_found : (bytes : List ℕ) (h : Header) → IsOctets bytes → header_at bytes ≡ Ok h → SpellsHeader h bytes (record { first = slice_index bytes 16; version = slice_index bytes 17; flags = slice_index bytes 19; rest = drop 28 bytes })
unfolding header_at
header_found bytes h fits e =
    let u = unless_ok (header_tests bytes) (Ok (header_read bytes)) h e in
    let long : 28 ≤ length bytes = ltb-false _ _ u.0.0 in
    let version : slice_index bytes 17 / 16 ≡ 2 = eqb-true _ _ (not-false _ u.0.1.0) in
    let spii = take 8 bytes in
    let spir = take 8 (drop 8 bytes) in
    let marks = marks_of bytes in
    let id = take 4 (drop 20 bytes) in
    let size = take 4 (drop 24 bytes) in
    let rest = drop 28 bytes in
    let len : from_be_bytes w32 size ≡ length bytes = eqb-true _ _ (not-false _ u.0.1.1.0) in
    let whole : 28 + length rest ≡ from_be_bytes w32 size = omega (arith, len, long, length-drop 28 bytes) in
    let spii_fit : IsOctets spii = IsOctets-take 8 bytes fits in
    let spir_fit : IsOctets spir = part_fits bytes 8 8 fits in
    let id_fit : IsOctets id = part_fits bytes 20 4 fits in
    let size_fit : IsOctets size = part_fits bytes 24 4 fits in
    let spii_long : length spii ≡ 8 = omega (arith, length-take 8 bytes) in
    let spii_back : spii ≡ to_be_bytes w64 (from_be_bytes w64 spii) = sym (eight_back spii spii_long spii_fit) in
    let spir_back : spir ≡ to_be_bytes w64 (from_be_bytes w64 spir) = sym (eight_back spir (part-length bytes 8 8 (omega arith)) spir_fit) in
    let id_back : id ≡ to_be_bytes w32 (from_be_bytes w32 id) = sym (four_back id (from_be_bytes w32 id) (part-length bytes 20 4 (omega arith)) id_fit refl) in
    let size_back : size ≡ to_be_bytes w32 (28 + length rest) = sym (four_back size (28 + length rest) (part-length bytes 24 4 long) size_fit whole) in
    subst (λ (y : Header). SpellsHeader y bytes (parts_of bytes)) (ok_is (header_read bytes) h u.1)
    (record {
      bytes_are = header_parts bytes long ∙ (λ i. header_octets (spii_back i) (spir_back i) marks (id_back i) (size_back i) rest);
      fits = record { spii = eight_below spii spii_fit; spir = eight_below spir spir_fit; id = four_below id id_fit };
      length_fits = (let below = four_below size size_fit in omega (arith, whole, below));
      version_is = version;
      initiator_is = refl;
      response_is = refl;
    })

header_same : (a a' b b' exchange c c' : ℕ) (i i' r r' : Bool) → a ≡ a' → b ≡ b' → c ≡ c' → i ≡ i' → r ≡ r'
    → (let made : Header = record { spii = a; spir = b; exchange = exchange; initiator = i; response = r; id = c } in done made) ≡ (let made : Header = record { spii = a'; spir = b'; exchange = exchange; initiator = i'; response = r'; id = c' } in done made)
header_same a a' b b' exchange c c' i i' r r' d e f g h = rw (d, e, f, g, h) refl

abbrev octets_of_header : Header → HeaderParts → List ℕ
octets_of_header h p = to_be_bytes w64 h.spii ++ to_be_bytes w64 h.spir ++ (p.first ∷ p.version ∷ h.exchange ∷ p.flags ∷ []) ++ to_be_bytes w32 h.id ++ to_be_bytes w32 (28 + length p.rest) ++ p.rest

pub header_again : (bytes : List ℕ) (h : Header) (p : HeaderParts) → SpellsHeader h bytes p → header_at bytes ≡ Ok h
unfolding header_at
header_again bytes h p s =
    let octets = octets_of_header h p in
    let len : from_be_bytes w32 (to_be_bytes w32 (28 + length p.rest)) ≡ 28 + length p.rest = from_be_bytes-to_be_bytes_4 (28 + length p.rest) s.length_fits in
    let whole : length octets ≡ 28 + length p.rest = omega arith in
    ap header_at s.bytes_are ∙
    unless_passes (header_tests octets) (Ok (header_read octets)) (le-ltb (length octets) 28 (omega arith), (not_from_true _ (eq-eqb _ _ s.version_is), (not_from_true _ (eq-eqb _ _ (len ∙ sym whole)), tt))) ∙
    header_same _ h.spii _ h.spir h.exchange _ h.id _ h.initiator _ h.response (from_be_bytes-to_be_bytes_8 h.spii s.fits.spii) (from_be_bytes-to_be_bytes_8 h.spir s.fits.spir) (from_be_bytes-to_be_bytes_4 h.id s.fits.id) (sym s.initiator_is) (sym s.response_is)

-- ---- messages

pub message_found : (bytes : List ℕ) (m : Message) → IsOctets bytes → message_at bytes ≡ Ok m → IsMessage m bytes
unfolding message_at
message_found bytes m fits e =
    let read = chain_at (length bytes) false (slice_index bytes 16) (drop 28 bytes) in
    let header = bind_ok (header_at bytes) (λ h. read >>= λ payloads. (let made : Message = record { header = h; payloads = payloads } in done made)) m e in
    let payloads = bind_ok read (λ xs. (let made : Message = record { header = header.0; payloads = xs } in done made)) m header.2 in
    let made : Message = record { header = header.0; payloads = payloads.0 } in
    subst (λ (y : Message). IsMessage y bytes) (ok_is made m payloads.2)
    (parts_of bytes, header_found bytes header.0 fits header.1, chain_found (length bytes) false (slice_index bytes 16) (drop 28 bytes) payloads.0 (IsOctets-drop 28 bytes fits) payloads.1)

pub message_again : (bytes : List ℕ) (m : Message) → IsMessage m bytes → message_at bytes ≡ Ok m
unfolding message_at
message_again bytes m s =
    let octets = octets_of_header m.header s.0 in
    let header : header_at octets ≡ Ok m.header = ap header_at (sym s.1.bytes_are) ∙ header_again bytes m.header s.0 s.1 in
    ap message_at s.1.bytes_are ∙
    ap (λ (r : Result Header Bad). r >>= λ h. chain_at (length octets) false s.0.first s.0.rest >>= λ payloads. (let made : Message = record { header = h; payloads = payloads } in done made)) header ∙
    ap (λ (r : Result (List PayloadValue) Bad). r >>= λ payloads. (let made : Message = record { header = m.header; payloads = payloads } in done made)) (chain_again (length octets) false m.payloads s.0.first s.0.rest s.2)

-- ---- one reading

either : (bytes : List ℕ) (r : Result Message Bad) → IsOctets bytes → message_at bytes ≡ r → ((m : Message) × IsMessage m bytes) ⊎ ((place : ℕ) × (reason : Reason) × MessageRefused bytes place reason)
either bytes (Ok m) fits e = inl (m, message_found bytes m fits e)
either bytes (Err b) fits e = inr (b.place, b.reason, e)

pub some_message : (bytes : List ℕ) → IsOctets bytes → ((m : Message) × IsMessage m bytes) ⊎ ((place : ℕ) × (reason : Reason) × MessageRefused bytes place reason)
some_message bytes fits = either bytes (message_at bytes) fits refl

pub one_message_value : (bytes : List ℕ) (m n : Message) → IsMessage m bytes → IsMessage n bytes → m ≡ n
one_message_value bytes m n s t = ok_is m n (sym (message_again bytes m s) ∙ message_again bytes n t)

pub not_both_messages : (bytes : List ℕ) (m : Message) (place : ℕ) (reason : Reason) → IsMessage m bytes → MessageRefused bytes place reason → ⊥
not_both_messages bytes m place reason s r = differ m (record { place = place; reason = reason }) (message_at bytes) (message_again bytes m s) r
