-- A line of a report is read back from its words, so that no two lines have the same ones.
use Rattle.std.proofs.Common.{◌≡◌, ℕ, List, [], ◌∷◌, Result, Ok, Err, refl, sym, ap, ◌∙◌, codes, if◌then◌else◌}
use Rattle.std.specs.Str.{bytes_eq}
use Rattle.ha_base.specs.declared.outside.Moment.{Moment}
use Rattle.events.specs.EventFields.{medium_of}
use Rattle.events.specs.Events.{PlainEvent}
use Rattle.event_text.specs.Grammar.{line_words}
use Rattle.event_text.specs.Reading.{line_at}
use Rattle.event_text.proofs.EventFieldLaws.{medium_field}
use Rattle.event_text.proofs.LineLaws.{line_again}
use Rattle.line_fields.specs.Words.{line_of}
use Rattle.line_fields.specs.declared.fault.LineFault.{LineFault}
use Rattle.line_fields.specs.declared.fault.LineReason.TheVariants.{Word}
use Rattle.line_fields.proofs.FieldLaws.{ok_is}
use Rattle.report_text.specs.LineRanges.{FitsLine}
use Rattle.report_text.specs.Lines.{ReportLine, TurnLine, KeepLine, ServeLine, SealLine, GivesLine, OutLine, EndLine}
use Rattle.report_text.specs.Spelling.{report_words}
use Rattle.report_text.proofs.CallReading.{keep_again, keep_in}
use Rattle.report_text.proofs.OriginReading.{origin_again, origin_in}
use Rattle.report_text.proofs.VerdictReading.{verdict_again, verdict_in}
use Rattle.report_text.proofs.WordReading.{◌>>=◌, Reading, number_again, number_in, octets_again, octets_in, part_again, part_in}

abbrev event_line : ℕ → Result (Moment × PlainEvent) LineFault → Reading ReportLine
event_line number (Ok x) = Ok (TurnLine number x.0 x.1)
event_line number (Err fault) = Err Word

abbrev turn_in : List (List ℕ) → Reading ReportLine
turn_in (n ∷ ws) = number_in n >>= (λ number. event_line number (line_at 0 (line_of ws)))
turn_in other = Err Word

abbrev serve_in : List (List ℕ) → Reading ReportLine
serve_in (a ∷ b ∷ []) = octets_in a >>= (λ request. octets_in b >>= (λ reply. Ok (ServeLine request reply)))
serve_in other = Err Word

abbrev seal_in : List (List ℕ) → Reading ReportLine
seal_in (o ∷ p ∷ c ∷ i ∷ t ∷ s ∷ []) = do
  origin ← origin_in o
  part ← part_in p
  child ← number_in c
  iv ← number_in i
  text ← octets_in t
  sealed ← octets_in s
  Ok (SealLine origin part child iv text sealed)
seal_in other = Err Word

abbrev gives_in : List (List ℕ) → Reading ReportLine
gives_in (n ∷ m ∷ o ∷ []) = do
  number ← number_in n
  medium ← medium_of m
  octets ← octets_in o
  Ok (GivesLine number medium octets)
gives_in other = Err Word

abbrev end_in : List (List ℕ) → Reading ReportLine
end_in (n ∷ []) = number_in n >>= (λ turns. Ok (EndLine turns))
end_in other = Err Word

abbrev line_in : List (List ℕ) → Reading ReportLine
line_in [] = Err Word
line_in (w ∷ ws) =
    if bytes_eq w (codes "turn") then turn_in ws
    else if bytes_eq w (codes "keep") then keep_in ws
    else if bytes_eq w (codes "serve") then serve_in ws
    else if bytes_eq w (codes "seal") then seal_in ws
    else if bytes_eq w (codes "gives") then gives_in ws
    else if bytes_eq w (codes "out") then verdict_in ws >>= (λ verdict. Ok (OutLine verdict))
    else if bytes_eq w (codes "end") then end_in ws
    else Err Word

line_again_of : (line : ReportLine) → FitsLine line → line_in (report_words line) ≡ Ok line
line_again_of (TurnLine number moment event) fits = rw (number_again number fits.0, line_again 0 (line_of (line_words moment event)) moment event fits.1) refl
line_again_of (KeepLine ask lost answer) fits = keep_again ask lost answer fits.0 fits.1
line_again_of (ServeLine request reply) fits = rw (octets_again request fits.0, octets_again reply fits.1) refl
line_again_of (SealLine origin part child iv text sealed) fits =
    rw (origin_again origin fits.0, part_again part, number_again child fits.1, number_again iv fits.2, octets_again text fits.3, octets_again sealed fits.4) refl
line_again_of (GivesLine number medium octets) fits = rw (number_again number fits.0, medium_field.again medium tt, octets_again octets fits.1) refl
line_again_of (OutLine verdict) fits = rw (verdict_again verdict fits) refl
line_again_of (EndLine turns) fits = rw (number_again turns fits) refl

-- lines with the same words are the same
pub one_line : (l m : ReportLine) → FitsLine l → FitsLine m → report_words l ≡ report_words m → l ≡ m
one_line l m fl fm e = ok_is l m (sym (line_again_of l fl) ∙ ap line_in e ∙ line_again_of m fm)
