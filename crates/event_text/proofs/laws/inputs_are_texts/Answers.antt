use Rattle.event_text.proofs.FileLaws.{text_again, text_found}
use Rattle.event_text.proofs.laws.inputs_are_texts.Goals as goal

pub returns-clause-found : goal.returns-clause-found
returns-clause-found c = text_found

pub returns-clause-only : goal.returns-clause-only
returns-clause-only c = text_again
