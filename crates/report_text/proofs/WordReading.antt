-- Numbers, octets and names are read back from their words.
use Rattle.std.proofs.Common.{◌≡◌, ℕ, ◌^◌, true, false, eqb, List, [], ◌∷◌, ◌++◌, map, Result, Ok, Err, refl, codes, inl, inr, lit≤, if◌then◌else◌, append-nil}
use Rattle.std.proofs.lemmas.Bool.{and_parts}
use Rattle.std.proofs.lemmas.Bool.Decides.{eqb_tells}
use Rattle.std.proofs.lemmas.Fmt.{digits_decimal}
use Rattle.std.proofs.lemmas.List.Elements.{All-head, All-tail}
use Rattle.std.specs.Fmt.{decimal}
use Rattle.std.specs.List.{All, flat_map, list_all}
use Rattle.std.specs.Str.{bytes_eq}
use Rattle.keeper_book.specs.declared.counters.Counter.{Counter}
use Rattle.keeper_book.specs.declared.counters.Counter.TheVariants as counters
use Rattle.keeper_book.specs.declared.counters.Five.{Five}
use Rattle.ha_base.specs.declared.limits.TheConstants.{ALLOCATION_END}
use Rattle.events.specs.FieldWords.{five_words}
use Rattle.line_fields.specs.Numbers.{is_digit, number_in_word}
use Rattle.line_fields.specs.Octets.{octets_text, sized, spi_in_word, spi_text}
use Rattle.line_fields.specs.declared.fault.LineReason.{LineReason}
use Rattle.line_fields.specs.declared.fault.LineReason.TheVariants.{Word}
use Rattle.line_fields.proofs.FieldLaws.{number_field, sized_field, spi_field}
use Rattle.line_fields.proofs.NumberLaws.{own}
use Rattle.report_text.specs.LineRanges.{AreReportBases, AreReportOctets, IsReportNumber}
use Rattle.report_text.specs.Spelling.{comma_number, counter_word, numbers_text, part_word}
use Rattle.report_text.specs.declared.line.Part.{Part}
use Rattle.report_text.specs.declared.line.Part.TheVariants as parts

abbrev pub Reading : Type 0 → Type 0
Reading A = Result A LineReason

infixl 10 ◌>>=◌
abbrev pub ◌>>=◌ : {A B : Type 0} → Reading A → (A → Reading B) → Reading B
(Ok x) >>= f = f x
(Err e) >>= f = Err e

-- what a name stands for, by a table
abbrev pub named : {A : Type 0} → List (List ℕ × A) → List ℕ → Reading A
named [] w = Err Word
named (row ∷ rows) w = if bytes_eq w row.0 then Ok row.1 else named rows w

abbrev pub number_in : List ℕ → Reading ℕ
number_in w = number_in_word 0 (2 ^ 64) w

pub number_again : (n : ℕ) → IsReportNumber n → number_in (decimal n) ≡ Ok n
number_again n fits = (number_field (2 ^ 64) (lit≤ tt)).again n fits

-- a name and the number that it carries
abbrev pub numbered : {A : Type 0} → List (List ℕ × (ℕ → A)) → List ℕ → List ℕ → Reading A
numbered rows w n = named rows w >>= (λ made. number_in n >>= (λ number. Ok (made number)))

-- ---- numbers in one word

-- the pieces of a word between its commas: the first, and the others
abbrev pieces : List ℕ → List ℕ × List (List ℕ)
pieces [] = ([], [])
pieces (c ∷ cs) = if eqb c 44 then ([], (pieces cs).0 ∷ (pieces cs).1) else (c ∷ (pieces cs).0, (pieces cs).1)

digit_alone : (c : ℕ) → is_digit c ≡ true → eqb c 44 ≡ false
digit_alone c h =
    elim (eqb_tells c 44) [
      | inl comma ↦ absurd (let k : is_digit 44 ≡ true = rw comma.1 at h in cc k)
      | inr other ↦ other.0
    ]

-- digits have no comma
pieces_behind : (w rest : List ℕ) → list_all is_digit w ≡ true → pieces (w ++ rest) ≡ (w ++ (pieces rest).0, (pieces rest).1)
pieces_behind [] rest h = refl
pieces_behind (c ∷ cs) rest h =
    let digits = and_parts (is_digit c) (list_all is_digit cs) h in
    rw (digit_alone c digits.0, pieces_behind cs rest digits.1) refl

decimal_digits : (n : ℕ) → IsReportNumber n → list_all is_digit (decimal n) ≡ true
decimal_digits n fits = digits_decimal own n fits

others_pieces : (ns : List ℕ) → All IsReportNumber ns → pieces (flat_map comma_number ns) ≡ ([], map decimal ns)
others_pieces [] fits = refl
others_pieces (n ∷ ns) fits =
    let first = All-head IsReportNumber n ns fits in
    let others = others_pieces ns (All-tail IsReportNumber n ns fits) in
    let read = pieces_behind (decimal n) (flat_map comma_number ns) (decimal_digits n first) in
    rw (read, others, append-nil (decimal n)) refl

numbers_pieces : (n : ℕ) (ns : List ℕ) → All IsReportNumber (n ∷ ns) → pieces (numbers_text (n ∷ ns)) ≡ (decimal n, map decimal ns)
unfolding numbers_text
numbers_pieces n ns fits =
    let first = All-head IsReportNumber n ns fits in
    let others = others_pieces ns (All-tail IsReportNumber n ns fits) in
    let read = pieces_behind (decimal n) (flat_map comma_number ns) (decimal_digits n first) in
    rw (read, others, append-nil (decimal n)) refl

abbrev all_in : List (List ℕ) → Reading (List ℕ)
all_in [] = Ok []
all_in (w ∷ ws) = number_in w >>= (λ n. all_in ws >>= (λ ns. Ok (n ∷ ns)))

all_again : (ns : List ℕ) → All IsReportNumber ns → all_in (map decimal ns) ≡ Ok ns
all_again [] fits = refl
all_again (n ∷ ns) fits = rw (number_again n (All-head IsReportNumber n ns fits), all_again ns (All-tail IsReportNumber n ns fits)) refl

-- The dash is no number.
abbrev numbers_of : Reading ℕ → List (List ℕ) → Reading (List ℕ)
numbers_of (Ok n) ws = all_in ws >>= (λ ns. Ok (n ∷ ns))
numbers_of (Err dash) ws = Ok []

abbrev pub numbers_in : List ℕ → Reading (List ℕ)
numbers_in w = numbers_of (number_in (pieces w).0) (pieces w).1

pub numbers_again : (ns : List ℕ) → All IsReportNumber ns → numbers_in (numbers_text ns) ≡ Ok ns
unfolding numbers_text
numbers_again [] fits = refl
numbers_again (n ∷ ns) fits =
    rw (numbers_pieces n ns fits, number_again n (All-head IsReportNumber n ns fits), all_again ns (All-tail IsReportNumber n ns fits)) refl

-- ---- octets and names

pub spi_again : (n : ℕ) → IsReportNumber n → spi_in_word (spi_text n) ≡ Ok n
spi_again n fits = spi_field.again n fits

abbrev pub octets_in : List ℕ → Reading (List ℕ)
octets_in w = sized 0 ALLOCATION_END w

pub octets_again : (xs : List ℕ) → AreReportOctets xs → octets_in (octets_text xs) ≡ Ok xs
octets_again xs fits = (sized_field 0 ALLOCATION_END).again xs fits

abbrev pub five_in : List (List ℕ) → Reading Five
five_in (a ∷ b ∷ c ∷ d ∷ e ∷ []) = do
  esp_out ← number_in a
  esp_in ← number_in b
  iv ← number_in c
  ask ← number_in d
  answer ← number_in e
  Ok (record { esp_out = esp_out; esp_in = esp_in; iv = iv; ask = ask; answer = answer })
five_in other = Err Word

pub five_again : (five : Five) → AreReportBases five → five_in (five_words five) ≡ Ok five
five_again five fits =
    rw (number_again five.esp_out fits.esp_out, number_again five.esp_in fits.esp_in, number_again five.iv fits.iv, number_again five.ask fits.ask, number_again five.answer fits.answer) refl

abbrev pub counter_in : List ℕ → Reading Counter
counter_in w =
    named ((codes "esp-out", counters.EspOut) ∷ (codes "esp-in", counters.EspIn) ∷ (codes "iv", counters.Iv) ∷ (codes "ask", counters.Ask) ∷ (codes "answer", counters.Answer) ∷ []) w

pub counter_again : (counter : Counter) → counter_in (counter_word counter) ≡ Ok counter
counter_again counters.EspOut = refl
counter_again counters.EspIn = refl
counter_again counters.Iv = refl
counter_again counters.Ask = refl
counter_again counters.Answer = refl

abbrev pub part_in : List ℕ → Reading Part
part_in w =
    named ((codes "ike-c", parts.IkeC) ∷ (codes "ike-p", parts.IkeP) ∷ (codes "esp-c", parts.EspC) ∷ (codes "esp-p", parts.EspP) ∷ (codes "ticket", parts.Ticket) ∷ []) w

pub part_again : (part : Part) → part_in (part_word part) ≡ Ok part
part_again parts.IkeC = refl
part_again parts.IkeP = refl
part_again parts.EspC = refl
part_again parts.EspP = refl
part_again parts.Ticket = refl
