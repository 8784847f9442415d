-- The texts of lines one after another.
use Rattle.std.proofs.Common.{◌≡◌, ℕ, ◌+◌, ◌<◌, codes, List, [], ◌∷◌, ◌++◌, length, take, Some, None, refl, ap, sym, ◌∙◌, append-nil, append_assoc, arith}
use Rattle.std.specs.Prelude.{slice_get, option_to_list}
use Rattle.std.specs.Option.{option_map}
use Rattle.std.specs.List.{flat_map}
use Rattle.std.specs.Fmt.{decimal}
use Rattle.std.proofs.lemmas.Grind.{flat_map-append}
use Rattle.std.proofs.lemmas.List.{take_more}
use Rattle.std.proofs.lemmas.Option.{get_or_from_slice_get, slice_get-get_or, slice_get_within}
use Rattle.events.specs.Events.{PlainEvent, plain}
use Rattle.events.specs.declared.turn.Turn.{Turn}
use Rattle.event_text.specs.Grammar.{EventLine}
use Rattle.ha_base.specs.declared.outside.Moment.{Moment}
use Rattle.report_text.specs.Lines.{EndLine, OutLine, ReportLine, TurnLine, plain_verdict}
use Rattle.report_text.specs.Report.{datagrams_given, keep_text, report, report_head, report_lines, seal_text, turn_text, turns_lines, turns_text}
use Rattle.report_text.specs.Spelling.{report_line_text, report_lines_text}
use Rattle.report_text.specs.TurnLines.{gives_line, keep_line, seal_line, serve_line, turn_lines}

-- the texts of one item more
pub one_more : {X : Type 0} (f : X → List ℕ) (xs : List X) (i : ℕ) (x : X) → slice_get xs i ≡ Some x → flat_map f (take (i + 1) xs) ≡ flat_map f (take i xs) ++ f x
one_more f xs i x e =
    let item = take_more xs i x (slice_get_within xs i x e) ∙ ap (λ (y : _). take i xs ++ y ∷ []) (get_or_from_slice_get xs i x x e) in
    ap (flat_map f) item ∙ flat_map-append f (take i xs) (x ∷ []) ∙ ap (λ (t : List ℕ). flat_map f (take i xs) ++ t) (append-nil (f x))

-- there is an item at each place
pub item_there : {X : Type 0} (xs : List X) (i : ℕ) → slice_get xs i ≡ None → i < length xs → ⊥
item_there [] i e lt = absurd (omega arith)
item_there (x ∷ xs) i e lt = let some = slice_get-get_or (x ∷ xs) i x lt in absurd cc

-- a line alone, and no line
pub line_alone : (line : ReportLine) → report_lines_text (line ∷ []) ≡ report_line_text line
line_alone line = append-nil (report_line_text line)

-- a word that is a prefix and what stands behind it
pub prefixed_word : (text prefix behind : List ℕ) → (text ++ (32 ∷ prefix)) ++ behind ≡ text ++ (32 ∷ (prefix ++ behind))
prefixed_word text prefix behind = append_assoc text (32 ∷ prefix) behind

-- the text of the lines of items is that of each item's lines
lines_of : {X : Type 0} (f : X → List ReportLine) (xs : List X) → report_lines_text (flat_map f xs) ≡ flat_map (λ x. report_lines_text (f x)) xs
lines_of f [] = refl
lines_of f (x ∷ xs) = flat_map-append report_line_text (f x) (flat_map f xs) ∙ ap (λ t. report_lines_text (f x) ++ t) (lines_of f xs)

-- a text to which parts were appended
pub six_parts : (t0 t1 t2 t3 t4 t5 t6 a b c d e f : List ℕ) → t0 ≡ [] → t1 ≡ t0 ++ a → t2 ≡ t1 ++ b → t3 ≡ t2 ++ c → t4 ≡ t3 ++ d → t5 ≡ t4 ++ e → t6 ≡ t5 ++ f → t6 ≡ a ++ (b ++ (c ++ (d ++ (e ++ f))))
six_parts t0 t1 t2 t3 t4 t5 t6 a b c d e f i0 i1 i2 i3 i4 i5 i6 =
    i6
    ∙ ap (λ t. t ++ f) (i5 ∙ ap (λ t. t ++ e) (i4 ∙ ap (λ t. t ++ d) (i3 ∙ ap (λ t. t ++ c) (i2 ∙ ap (λ t. t ++ b) (i1 ∙ ap (λ t. t ++ a) i0)))))
    ∙ append_assoc (((a ++ b) ++ c) ++ d) e f
    ∙ append_assoc ((a ++ b) ++ c) d (e ++ f)
    ∙ append_assoc (a ++ b) c (d ++ (e ++ f))
    ∙ append_assoc a b (c ++ (d ++ (e ++ f)))

-- the text of a turn, part by part
pub turn_text_parts : (number datagram : ℕ) (turn : Turn) → turn_text number datagram turn ≡ report_line_text (TurnLine number turn.moment (plain turn.event)) ++ (flat_map keep_text turn.calls ++ (report_lines_text (option_to_list (option_map serve_line turn.step.served)) ++ (flat_map seal_text turn.step.seals ++ (report_lines_text (option_to_list (option_map (gives_line datagram) turn.step.gives)) ++ report_line_text (OutLine (plain_verdict turn.step.verdict))))))
unfolding turn_text keep_text seal_text
turn_text_parts number datagram turn =
    let calls = flat_map (λ call. option_to_list (keep_line call)) turn.calls in
    let served = option_to_list (option_map serve_line turn.step.served) in
    let seals = flat_map (λ seal. option_to_list (seal_line seal)) turn.step.seals in
    let gives = option_to_list (option_map (gives_line datagram) turn.step.gives) in
    let out = OutLine (plain_verdict turn.step.verdict) ∷ [] in
    ap (λ t. report_line_text (TurnLine number turn.moment (plain turn.event)) ++ t)
    (flat_map-append report_line_text calls (served ++ (seals ++ (gives ++ out)))
    ∙ ap (λ t. t ++ report_lines_text (served ++ (seals ++ (gives ++ out)))) (lines_of (λ call. option_to_list (keep_line call)) turn.calls)
    ∙ ap (λ t. flat_map keep_text turn.calls ++ t)
    (flat_map-append report_line_text served (seals ++ (gives ++ out))
    ∙ ap (λ t. report_lines_text served ++ t)
    (flat_map-append report_line_text seals (gives ++ out)
    ∙ ap (λ t. t ++ report_lines_text (gives ++ out)) (lines_of (λ seal. option_to_list (seal_line seal)) turn.step.seals)
    ∙ ap (λ t. flat_map seal_text turn.step.seals ++ t)
    (flat_map-append report_line_text gives out
    ∙ ap (λ t. report_lines_text gives ++ t) (line_alone (OutLine (plain_verdict turn.step.verdict)))))))

-- the line of an event stands in its turn's line
pub turn_line : (last number : ℕ) (line : List ℕ) (moment : Moment) (event : PlainEvent) → EventLine last line moment event → report_line_text (TurnLine number moment event) ≡ (codes "turn" ++ ((32 ∷ decimal number) ++ (32 ∷ line))) ++ 10 ∷ []
turn_line last number line moment event says = rw says.text refl

turns_parts : (turns : List Turn) → turns_text turns ≡ report_lines_text (turns_lines turns)
unfolding turns_text turn_text
turns_parts [] = refl
turns_parts (turn ∷ past) =
    let lines = turn_lines (length past + 1) (datagrams_given past + 1) turn in
    ap (λ t. t ++ report_lines_text lines) (turns_parts past) ∙ sym (flat_map-append report_line_text (turns_lines past) lines)

-- a report is its first line and the lines behind it
pub report_parts : (turns : List Turn) → report turns ≡ report_head ++ report_lines_text (report_lines turns)
report_parts turns =
    let last = EndLine (length turns) in
    append_assoc report_head (turns_text turns) (report_line_text last)
    ∙ ap (λ t. report_head ++ t)
    (ap (λ t. t ++ report_line_text last) (turns_parts turns)
    ∙ ap (λ t. report_lines_text (turns_lines turns) ++ t) (sym (line_alone last))
    ∙ sym (flat_map-append report_line_text (turns_lines turns) (last ∷ [])))
