use Rattle.ike_grammar.proofs.PlaceLaws.{first_is_found, behind_is_same}
use Rattle.ike_grammar.proofs.laws.first_fault.Goals as goal

pub returns-clause-before : goal.returns-clause-before
returns-clause-before c = first_is_found

pub returns-clause-behind : goal.returns-clause-behind
returns-clause-behind c = behind_is_same
