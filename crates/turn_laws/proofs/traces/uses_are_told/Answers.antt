use Rattle.turn_laws.proofs.Listed.{numbers-listed}
use Rattle.turn_laws.proofs.Numbers.{answered-numbers, sent-numbers, ticket-numbers}
use Rattle.turn_laws.proofs.traces.uses_are_told.Goals as goal

pub returns-clause-listed : goal.returns-clause-listed
returns-clause-listed c past p = numbers-listed p past

pub returns-clause-sent : goal.returns-clause-sent
returns-clause-sent c = sent-numbers

pub returns-clause-taken : goal.returns-clause-taken
returns-clause-taken c boxes past local spir = answered-numbers spir boxes past local

pub returns-clause-tickets : goal.returns-clause-tickets
returns-clause-tickets c = ticket-numbers
