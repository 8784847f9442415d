use Rattle.ike_grammar.proofs.ChainLaws.{some_reading, one_value, not_both}
use Rattle.ike_grammar.proofs.laws.one_reading.Goals as goal

pub returns-clause-some : goal.returns-clause-some
returns-clause-some c = some_reading

pub returns-clause-one_value : goal.returns-clause-one_value
returns-clause-one_value c = one_value

pub returns-clause-not_both : goal.returns-clause-not_both
returns-clause-not_both c = not_both
