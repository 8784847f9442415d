use Rattle.ike_grammar.proofs.MessageFaults.{fault_is_found, behind_is_same}
use Rattle.ike_grammar.proofs.laws.first_fault_of_message.Goals as goal

pub returns-clause-before : goal.returns-clause-before
returns-clause-before c = fault_is_found

pub returns-clause-behind : goal.returns-clause-behind
returns-clause-behind c = behind_is_same
