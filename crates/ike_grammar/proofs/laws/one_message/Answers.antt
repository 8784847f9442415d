use Rattle.ike_grammar.proofs.MessageLaws.{some_message, one_message_value, not_both_messages}
use Rattle.ike_grammar.proofs.laws.one_message.Goals as goal

pub returns-clause-some : goal.returns-clause-some
returns-clause-some c = some_message

pub returns-clause-one_value : goal.returns-clause-one_value
returns-clause-one_value c = one_message_value

pub returns-clause-not_both : goal.returns-clause-not_both
returns-clause-not_both c = not_both_messages
