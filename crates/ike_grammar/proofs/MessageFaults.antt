-- What the place of a refusal means in a whole message.
use Rattle.std.proofs.Common.{◌≡◌, ℕ, ◌+◌, ◌-◌, ◌≤◌, ◌<◌, Bool, true, false, List, [], ◌∷◌, length, take, drop, Result, Ok, Err, refl, sym, ap, ◌∙◌, arith, inl, inr}
use Rattle.std.specs.Prelude.{slice_index, nat_lt, not, ◌==◌, ◌/◌}
use Rattle.std.specs.Int.{w32, from_be_bytes}
use Rattle.std.proofs.lemmas.Bool.{ltb-false}
use Rattle.std.proofs.lemmas.List.{length-drop}
use Rattle.ike_values.specs.Values.{PayloadValue}
use Rattle.ike_values.specs.declared.header.Header.{Header}
use Rattle.ike_values.specs.declared.header.Message.{Message}
use Rattle.ike_values.specs.declared.fault.Bad.{Bad}
use Rattle.ike_values.specs.declared.fault.Reason.{Reason}
use Rattle.ike_values.specs.declared.fault.Reason.TheVariants.{Short, Length, Version}
use Rattle.ike_grammar.specs.OctetRange.{IsOctets}
use Rattle.ike_grammar.specs.Faults.{◌>>=◌, refuse, unless}
use Rattle.ike_grammar.specs.Chain.{chain_by, chain_at}
use Rattle.ike_grammar.specs.Messages.{header_tests, header_read, header_at, message_at, MessageRefused}
use Rattle.ike_grammar.specs.Places.{IsFaultOfMessage, fixed_len, BeginAlike}
use Rattle.ike_grammar.proofs.Binds.{differ, unless_ok, unless_passes}
use Rattle.ike_grammar.proofs.Cells.{IsOctets-drop}
use Rattle.ike_grammar.proofs.MessageLaws.{header_found, header_again}
use Rattle.ike_grammar.proofs.Alike.{Alike, begin_alike, alike_drop, same_take}
use Rattle.ike_grammar.proofs.Faulty.{placed, bad_is, bind_err, no_fault, made_err, err_first, err_then}
use Rattle.ike_grammar.proofs.PlaceLaws.{ChainFault, chain_fault}

-- ---- headers

-- the first test is the same where it refuses, and where those behind it do, which then stay
stays_by : {A : Type 0} (test test' : Bool) (d : Bad) (ts ts' : List (Bool × Bad)) (read read' : Result A Bad) (b : Bad) → (d ≡ b → test' ≡ test) → (unless ts read ≡ Err b → (test' ≡ test) × (unless ts' read' ≡ Err b))
    → unless ((test, d) ∷ ts) read ≡ Err b → unless ((test', d) ∷ ts') read' ≡ Err b
stays_by true test' d ts ts' read read' b first later e = let is = bad_is d b e in rw (first is) (ap (λ (c : Bad). Err c) is)
stays_by false test' d ts ts' read read' b first later e = let m = later e in rw m.0 m.1

version_same : (n : ℕ) (bytes others : List ℕ) → Alike n bytes others → 17 < n → not (slice_index others 17 / 16 == 2) ≡ not (slice_index bytes 17 / 16 == 2)
version_same n bytes others a l = ap (λ (v : ℕ). not (v / 16 == 2)) (a.same 17 l)

size_same : (n : ℕ) (bytes others : List ℕ) → Alike n bytes others → 28 ≤ n → not (from_be_bytes w32 (take 4 (drop 24 others)) == length others) ≡ not (from_be_bytes w32 (take 4 (drop 24 bytes)) == length bytes)
size_same n bytes others a l =
    let same : take 4 (drop 24 others) ≡ take 4 (drop 24 bytes) = same_take 4 (n - 24) (drop 24 bytes) (drop 24 others) (alike_drop 24 n bytes others a) (omega arith) in
    ap (λ (t : List ℕ). not (from_be_bytes w32 t == length others)) same ∙ ap (λ (m : ℕ). not (from_be_bytes w32 (take 4 (drop 24 bytes)) == m)) a.long

abbrev size_tests : List ℕ → List (Bool × Bad)
size_tests bytes = refuse (not (from_be_bytes w32 (take 4 (drop 24 bytes)) == length bytes)) 24 Length ∷ []

abbrev version_tests : List ℕ → List (Bool × Bad)
version_tests bytes = refuse (not (slice_index bytes 17 / 16 == 2)) 17 Version ∷ size_tests bytes

size_place : (bytes : List ℕ) (h : Header) (b : Bad) → unless (size_tests bytes) (Ok h) ≡ Err b → b.place ≡ 24
size_place bytes h b e =
    let at = placed 24 24 (size_tests bytes) (Ok h) b (λ t. (omega arith, omega arith), λ f. tt) (λ _ f. no_fault h b f) e in
    omega (arith, at.0, at.1)

size_stays : (bytes others : List ℕ) (h h' : Header) (b : Bad) (n : ℕ) → Alike n bytes others → b.place + 8 ≤ n → unless (size_tests bytes) (Ok h) ≡ Err b → unless (size_tests others) (Ok h') ≡ Err b
size_stays bytes others h h' b n a l e =
    let place = size_place bytes h b e in
    stays_by (not (from_be_bytes w32 (take 4 (drop 24 bytes)) == length bytes)) (not (from_be_bytes w32 (take 4 (drop 24 others)) == length others)) (record { place = 24; reason = Length }) [] [] (Ok h) (Ok h') b
    (λ _. size_same n bytes others a (omega (arith, place, l))) (λ f. no_fault h b f) e

version_stays : (bytes others : List ℕ) (h h' : Header) (b : Bad) (n : ℕ) → Alike n bytes others → b.place + 8 ≤ n → unless (version_tests bytes) (Ok h) ≡ Err b → unless (version_tests others) (Ok h') ≡ Err b
version_stays bytes others h h' b n a l e =
    stays_by (not (slice_index bytes 17 / 16 == 2)) (not (slice_index others 17 / 16 == 2)) (record { place = 17; reason = Version }) (size_tests bytes) (size_tests others) (Ok h) (Ok h') b
    (λ is. version_same n bytes others a (let place : b.place ≡ 17 = ap (λ (c : Bad). c.place) (sym is) in omega (arith, place, l)))
    (λ f. (version_same n bytes others a (let place = size_place bytes h b f in omega (arith, place, l)), size_stays bytes others h h' b n a l f)) e

header_stays : (bytes others : List ℕ) (b : Bad) (n : ℕ) → Alike n bytes others → b.place + 8 ≤ n → header_at bytes ≡ Err b → header_at others ≡ Err b
unfolding header_at
header_stays bytes others b n a l e =
    let short : nat_lt (length others) 28 ≡ nat_lt (length bytes) 28 = ap (λ (m : ℕ). nat_lt m 28) a.long in
    stays_by (nat_lt (length bytes) 28) (nat_lt (length others) 28) (record { place = 0; reason = Short }) (version_tests bytes) (version_tests others) (Ok (header_read bytes)) (Ok (header_read others)) b
    (λ _. short) (λ f. (short, version_stays bytes others (header_read bytes) (header_read others) b n a l f)) e

header_place : (bytes : List ℕ) (b : Bad) → header_at bytes ≡ Err b → b.place < 28
unfolding header_at
header_place bytes b e =
    let at = placed 0 24 (header_tests bytes) (Ok (header_read bytes)) b (λ t. (omega arith, omega arith), λ f. (λ t. (omega arith, omega arith), λ g. (λ t. (omega arith, omega arith), λ h. tt))) (λ _ f. no_fault (header_read bytes) b f) e in
    omega (arith, at.1)

header_goes_on : (bytes others : List ℕ) (h : Header) (n : ℕ) → Alike n bytes others → 28 ≤ n → header_at bytes ≡ Ok h → (28 ≤ length bytes) × (header_at others ≡ Ok (header_read others))
unfolding header_at
header_goes_on bytes others h n a l e =
    let u = unless_ok (header_tests bytes) (Ok (header_read bytes)) h e in (
      ltb-false (length bytes) 28 u.0.0,
      unless_passes (header_tests others) (Ok (header_read others))
          (ap (λ (m : ℕ). nat_lt m 28) a.long ∙ u.0.0, (version_same n bytes others a (omega (arith, l)) ∙ u.0.1.0, (size_same n bytes others a l ∙ u.0.1.1.0, tt))),
    )

-- ---- messages

abbrev chain_of : List ℕ → Result (List PayloadValue) Bad
chain_of bytes = chain_at (length bytes) false (slice_index bytes 16) (drop 28 bytes)

abbrev message_made : Header → List PayloadValue → Message
message_made header payloads = record { header = header; payloads = payloads }

chain_is_at_fault : (bytes : List ℕ) (b : Bad) → IsOctets bytes → chain_of bytes ≡ Err b → ChainFault (length (drop 28 bytes) + 1) (length bytes) false (slice_index bytes 16) (drop 28 bytes) b
chain_is_at_fault bytes b fits e = chain_fault (length (drop 28 bytes) + 1) (length bytes) false (slice_index bytes 16) (drop 28 bytes) b (IsOctets-drop 28 bytes fits) (omega arith) (omega (arith, length-drop 28 bytes)) e

chain_same : (n n' end end' first first' : ℕ) (bytes : List ℕ) → n' ≡ n → end' ≡ end → first' ≡ first → chain_by (n' + 1) end' false first' bytes ≡ chain_by (n + 1) end false first bytes
chain_same n n' end end' first first' bytes e f g = rw (e, f, g) refl

pub fault_is_found : (bytes : List ℕ) (place : ℕ) (reason : Reason) → IsOctets bytes → MessageRefused bytes place reason → IsFaultOfMessage bytes place reason
unfolding message_at
fault_is_found bytes place reason fits e =
    let b : Bad = record { place = place; reason = reason } in
    elim (bind_err (header_at bytes) (λ header. chain_of bytes >>= λ payloads. Ok (message_made header payloads)) b e) [
      | inl h ↦ inl (header_place bytes b h, λ header s. differ header b (header_at bytes) (header_again bytes header s.0 s.1) h)
      | inr h ↦
          let c = chain_is_at_fault bytes b fits (made_err (chain_of bytes) (message_made h.0) b h.2) in
          let long : 28 ≤ length bytes = (header_goes_on bytes bytes h.0 28 (record { long = refl; same = λ i l. refl }) (omega arith) h.1).0 in
          inr (h.0, record { first = slice_index bytes 16; version = slice_index bytes 17; flags = slice_index bytes 19; rest = drop 28 bytes }, header_found bytes h.0 fits h.1, c.place, c.found, omega (arith, c.place_is, long, length-drop 28 bytes))
    ]

pub behind_is_same : (bytes others : List ℕ) (place : ℕ) (reason : Reason) → IsOctets bytes → MessageRefused bytes place reason → BeginAlike (place + fixed_len) bytes others → MessageRefused others place reason
unfolding message_at
behind_is_same bytes others place reason fits e begins =
    let b : Bad = record { place = place; reason = reason } in
    let n = place + 8 in
    let a = begin_alike n bytes others begins in
    let made = λ (header : Header). chain_of others >>= λ payloads. Ok (message_made header payloads) in
    elim (bind_err (header_at bytes) (λ header. chain_of bytes >>= λ payloads. Ok (message_made header payloads)) b e) [
      | inl h ↦ err_first (header_at others) made b (header_stays bytes others b n a (omega arith) h)
      | inr h ↦
          let c = chain_is_at_fault bytes b fits (made_err (chain_of bytes) (message_made h.0) b h.2) in
          let same = header_goes_on bytes bytes h.0 28 (record { long = refl; same = λ i l. refl }) (omega arith) h.1 in
          let far : 28 ≤ place = omega (arith, c.place_is, same.0, length-drop 28 bytes) in
          let behind = alike_drop 28 n bytes others a in
          let chain : chain_of others ≡ Err b =
          chain_same (length (drop 28 bytes)) _ (length bytes) _ (slice_index bytes 16) _ (drop 28 others) behind.long a.long (a.same 16 (omega (arith, far))) ∙
          c.stays (n - 28) (drop 28 others) behind (omega (arith, c.place_is, far, length-drop 28 bytes)) in
          err_then (header_at others) made (header_read others) b (header_goes_on bytes others h.0 n a (omega (arith, far)) h.1).1
          (err_first (chain_of others) (λ payloads. Ok (message_made (header_read others) payloads)) b chain)
    ]
