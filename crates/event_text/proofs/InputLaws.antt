-- Inputs of which nothing is left.
use Rattle.std.proofs.Common.{◌≡◌, ℕ, List, [], ◌∷◌, length, refl, arith}
use Rattle.std.specs.Prelude.{None}
use Rattle.line_fields.specs.declared.fault.LineReason.TheVariants as reasons
use Rattle.event_text.specs.declared.place.Place.{Place}
use Rattle.line_fields.specs.Fields.{fault_at}
use Rattle.input_lines.specs.Lines.{lines_of}
use Rattle.event_text.specs.Input.{contents_at, contents_of, faulty_contents}

-- an empty input has a fault
pub contents_none : (input : List ℕ) → length input ≡ 0 → contents_of input ≡ faulty_contents 1 (fault_at 1 reasons.Missing)
unfolding lines_of
contents_none [] e = refl
contents_none (c ∷ cs) e = absurd (omega arith)

-- nothing is left
pub contents_end : (rest : List ℕ) (p : Place) → length rest ≡ 0 → contents_at (lines_of rest) p ≡ record { events = []; fault = None }
unfolding lines_of contents_at
contents_end [] p e = refl
contents_end (c ∷ cs) p e = absurd (omega arith)
