use Rattle.message_text.proofs.TextLaws.{text_of_message, text_of_refusal}
use Rattle.message_text.proofs.message.write_message.Goals as goal

pub returns-clause-ok : goal.returns-clause-ok
returns-clause-ok c = text_of_message c.put_message.result _ _ c.args.octets.now c.put_message.ensures.shown

pub returns-clause-bad : goal.returns-clause-bad
returns-clause-bad c = text_of_refusal c.put_message.result _ _ c.args.octets.now c.put_message.ensures.shown
