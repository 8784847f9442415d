-- What is read of a line is what it says, and what it says is read: one event of one moment, or a fault.
use Rattle.std.proofs.Common.{◌≡◌, ℕ, ◌+◌, ◌^◌, ◌<◌, ◌≤◌, true, not, eqb, ltb, List, [], ◌∷◌, ◌++◌, length, Result, Ok, Err, refl, sym, ap, ◌∙◌, subst, append-nil, lit≤}
use Rattle.std.proofs.lemmas.Bool.{and_parts, ltb-false, le-ltb}
use Rattle.std.specs.Fmt.{decimal}
use Rattle.std.specs.List.{list_all}
use Rattle.ha_base.specs.declared.outside.Moment.{Moment}
use Rattle.line_fields.specs.declared.fault.LineFault.{LineFault}
use Rattle.line_fields.specs.declared.fault.LineReason.TheVariants as reasons
use Rattle.line_fields.specs.Words.{Cursor, line_of, words_of}
use Rattle.line_fields.specs.Fields.{behind_field, ended_at, end_in, fault_at}
use Rattle.line_fields.proofs.FieldLaws.{field_again, ok_is, pick, reader, walk}
use Rattle.line_fields.proofs.SpacelessLaws.{all_also, is_plain, number_word, plain_octet}
use Rattle.line_fields.proofs.WordLaws.{are_words, is_word, line-words, no_space, words-line}
use Rattle.events.specs.Events.{PlainEvent}
use Rattle.events.specs.FilledRows.{event_words}
use Rattle.events.specs.Ranges.{Fits}
use Rattle.event_text.specs.Reading.{event_at, line_at, moment_at, moment_and_event_at}
use Rattle.event_text.specs.Grammar.{EventLine, line_words}
use Rattle.event_text.proofs.EventFieldLaws.{member_field}
use Rattle.event_text.proofs.EventLaws.{after, event_again, event_plain, event_takes}

line_plain : (m : Moment) (e : PlainEvent) → m.0 < 2 ^ 63 → Fits e → list_all is_plain (line_words m e) ≡ true
line_plain m e lt h = rw (number_word m.0 (2 ^ 63) lt (lit≤ tt)) (event_plain e h)

line_spaceless : (m : Moment) (e : PlainEvent) → m.0 < 2 ^ 63 → Fits e → are_words (line_words m e) ≡ true
line_spaceless m e lt h =
    all_also is_plain is_word (λ w plain. all_also plain_octet no_space (λ c both. (and_parts (not (eqb c 32)) (not (eqb c 10)) both).0) w plain) (line_words m e) (line_plain m e lt h)

moment_takes : (last : ℕ) (s : Cursor) (p : ℕ × Cursor) → moment_at last s ≡ Ok p → (s.words ≡ decimal p.0 ∷ p.1.words) × (p.0 < 2 ^ 63) × (last ≤ p.0)
unfolding moment_at
moment_takes last s p e =
    walk (reader member_field) s _ p e (λ n t w f e1.
    pick (ltb n last) (Err (fault_at s.column reasons.ClockBack)) (Ok (n, t)) (Ok p) e1
    (λ hit same. absurd cc)
    (λ miss same. subst (λ (q : ℕ × Cursor). (s.words ≡ decimal q.0 ∷ q.1.words) × (q.0 < 2 ^ 63) × (last ≤ q.0)) (ok_is (n, t) p same) (w, f, ltb-false n last miss)))

moment_again : (last n : ℕ) → n < 2 ^ 63 → last ≤ n → (c : ℕ) (ws : List (List ℕ)) → moment_at last (record { column = c; words = decimal n ∷ ws }) ≡ Ok (n, behind_field c (decimal n) ws)
unfolding moment_at
moment_again last n lt le c ws = rw (field_again member_field n lt, le-ltb n last le) refl

ended_is : (c : ℕ) (ws : List (List ℕ)) (x : Unit {0}) → end_in c ws ≡ Ok x → ws ≡ []
ended_is c [] x e = refl
ended_is c (w ∷ ws) x e = absurd cc

moment_and_event_takes : (last : ℕ) (s : Cursor) (y : Moment × PlainEvent) → moment_and_event_at last s ≡ Ok y → (s.words ≡ line_words y.0 y.1) × (last ≤ y.0.0) × (y.0.0 < 2 ^ 63) × Fits y.1
unfolding moment_and_event_at
moment_and_event_takes last s y e =
    after (moment_at last s) _ y e (λ m is_m e1.
    after (event_at m.1) _ y e1 (λ v is_v e2.
    after (ended_at v.1) _ y e2 (λ x is_x e3.
    let moment = moment_takes last s m is_m in
    let event = event_takes m.1 v is_v in
    let none = ended_is v.1.column v.1.words x is_x in
    let words : m.1.words ≡ event_words v.0 = event.0 ∙ ap (λ (t : List (List ℕ)). event_words v.0 ++ t) none ∙ append-nil (event_words v.0) in
    subst (λ (z : Moment × PlainEvent). (s.words ≡ line_words z.0 z.1) × (last ≤ z.0.0) × (z.0.0 < 2 ^ 63) × Fits z.1)
    (ok_is (record { 0 = m.0 }, v.0) y e3)
    (moment.0 ∙ ap (λ (t : List (List ℕ)). decimal m.0 ∷ t) words, moment.2, moment.1, event.1))))

-- what is read of a line is what the line says
pub line_takes : (last : ℕ) (line : List ℕ) (y : Moment × PlainEvent) → line_at last line ≡ Ok y → EventLine last line y.0 y.1
unfolding line_at
line_takes last line y e =
    pick (ltb 16384 (length line)) (Err (fault_at 16385 reasons.LineTooLong)) (moment_and_event_at last (record { column = 1; words = words_of line })) (Ok y) e
    (λ hit same. absurd cc)
    (λ miss same.
    let told = moment_and_event_takes last (record { column = 1; words = words_of line }) y same in
    record { text = sym (line-words line) ∙ ap line_of told.0; short = ltb-false 16384 (length line) miss; in_order = told.1; in_range = told.2; fits = told.3 })

moment_and_event_again : (last : ℕ) (m : Moment) (e : PlainEvent) → last ≤ m.0 → m.0 < 2 ^ 63 → Fits e → moment_and_event_at last (record { column = 1; words = line_words m e }) ≡ Ok (m, e)
unfolding moment_and_event_at
moment_and_event_again last m e late lt fits = rw (moment_again last m.0 lt late 1 (event_words e), event_again e fits (1 + length (decimal m.0) + 1)) refl

-- what a line says is read of it
pub line_again : (last : ℕ) (line : List ℕ) (m : Moment) (e : PlainEvent) → EventLine last line m e → line_at last line ≡ Ok (m, e)
unfolding line_at
line_again last line m e h =
    let words : words_of line ≡ line_words m e = ap words_of h.text ∙ words-line (decimal m.0) (event_words e) (line_spaceless m e h.in_range h.fits) in
    rw (le-ltb 16384 (length line) h.short, words) (moment_and_event_again last m e h.in_order h.in_range h.fits)

pub one_event : (last : ℕ) (line : List ℕ) (m n : Moment) (e d : PlainEvent) → line_at last line ≡ Ok (m, e) → EventLine last line n d → (m ≡ n) × (e ≡ d)
one_event last line m n e d read says =
    let same = ok_is (m, e) (n, d) (sym read ∙ line_again last line n d says) in
    (ap (λ (p : Moment × PlainEvent). p.0) same, ap (λ (p : Moment × PlainEvent). p.1) same)

err_is_not_ok : (f : LineFault) (x : Moment × PlainEvent) (r : Result (Moment × PlainEvent) LineFault) → r ≡ Err f → r ≡ Ok x → ⊥
err_is_not_ok f x (Ok y) e h = absurd cc
err_is_not_ok f x (Err g) e h = absurd cc

pub no_fault : (last : ℕ) (line : List ℕ) (f : LineFault) (n : Moment) (d : PlainEvent) → line_at last line ≡ Err f → EventLine last line n d → ⊥
no_fault last line f n d read says = err_is_not_ok f (n, d) (line_at last line) read (line_again last line n d says)
