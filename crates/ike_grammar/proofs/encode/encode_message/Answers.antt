use Rattle.ike_grammar.proofs.Decoded.{message_is_again}
use Rattle.ike_grammar.proofs.encode.encode_message.Goals as goal

pub returns-clause-again : goal.returns-clause-again
returns-clause-again c = message_is_again c.args.message.now c.encode_message.result c.encode_message.ensures.spells
