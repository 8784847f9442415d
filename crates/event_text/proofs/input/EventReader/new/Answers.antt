use Rattle.std.proofs.Common.{◌∙◌, sym}
use Rattle.std.proofs.lemmas.Bool.{eqb-true}
use Rattle.event_text.proofs.InputLaws.{contents_none}
use Rattle.event_text.proofs.input.EventReader.new.Goals as goal

pub returns-then-is_empty : goal.returns-then-is_empty
returns-then-is_empty c = contents_none c.args.input.now (eqb-true _ _ (sym c.is_empty.ensures ∙ c.if-is_empty.true))
