use Rattle.std.proofs.Common.{◌∙◌, sym}
use Rattle.std.proofs.lemmas.Bool.{eqb-true}
use Rattle.event_text.proofs.InputLaws.{contents_end}
use Rattle.event_text.proofs.input.EventReader.take_line.Goals as goal

pub returns-then-is_empty-clause-end : goal.returns-then-is_empty-clause-end
returns-then-is_empty-clause-end c =
    λ _. rw (← c.self.view_is) (contents_end c.self.inside.rest.now c.self.inside.place (eqb-true _ _ (sym c.is_empty.ensures ∙ c.if-is_empty.true)))
