-- The lines of a turn fit where those of its parts do.
use Rattle.std.proofs.Common.{◌≡◌, ℕ, ◌+◌, List, [], ◌∷◌, ◌++◌, take, Some, refl, ap, sym, ◌∙◌, subst, append-nil, arith}
use Rattle.std.specs.Prelude.{slice_get}
use Rattle.std.specs.List.{AllByRecursion, flat_map}
use Rattle.std.proofs.lemmas.Grind.{flat_map-append}
use Rattle.std.proofs.lemmas.List.{take_more}
use Rattle.std.proofs.lemmas.Option.{get_or_from_slice_get, slice_get_within}
use Rattle.ha_base.specs.declared.outside.Moment.{Moment}
use Rattle.events.specs.Events.{PlainEvent}
use Rattle.event_text.specs.Grammar.{EventLine, line_words}
use Rattle.line_fields.specs.Words.{line_of}
use Rattle.report_text.specs.LineRanges.{FitsLine}
use Rattle.report_text.specs.Lines.{ReportLine}

pub all_append : (xs ys : List ReportLine) → AllByRecursion FitsLine xs → AllByRecursion FitsLine ys → AllByRecursion FitsLine (xs ++ ys)
all_append [] ys a b = b
all_append (x ∷ xs) ys a b = (a.0, all_append xs ys a.1 b)

-- the lines of one item more
pub fits_one_more : {X : Type 0} (f : X → List ReportLine) (xs : List X) (i : ℕ) (x : X) → slice_get xs i ≡ Some x
    → AllByRecursion FitsLine (flat_map f (take i xs)) → AllByRecursion FitsLine (f x) → AllByRecursion FitsLine (flat_map f (take (i + 1) xs))
fits_one_more f xs i x e before here =
    let item = take_more xs i x (slice_get_within xs i x e) ∙ ap (λ (y : _). take i xs ++ y ∷ []) (get_or_from_slice_get xs i x x e) in
    let lines = ap (flat_map f) item ∙ flat_map-append f (take i xs) (x ∷ []) ∙ ap (λ (t : List ReportLine). flat_map f (take i xs) ++ t) (append-nil (f x)) in
    subst (AllByRecursion FitsLine) (sym lines) (all_append (flat_map f (take i xs)) (f x) before here)

-- an event's line is one by itself
pub event_alone : (last : ℕ) (line : List ℕ) (moment : Moment) (event : PlainEvent) → EventLine last line moment event → EventLine 0 (line_of (line_words moment event)) moment event
event_alone last line moment event says = record { text = refl; short = rw (← says.text) says.short; in_order = omega arith; in_range = says.in_range; fits = says.fits }
