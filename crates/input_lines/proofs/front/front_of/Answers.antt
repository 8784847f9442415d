use Rattle.std.proofs.Common.{arith}
use Rattle.input_lines.proofs.FrontLaws.{front_fed, front_whole, unfed_front, unfed_split}
use Rattle.input_lines.proofs.front.front_of.Goals as goal

pub returns-then-len-octets-clause-lines : goal.returns-then-len-octets-clause-lines
returns-then-len-octets-clause-lines c =
    front_fed c.args.octets.now _ c.if-len-octets.true c.octets_before-len.ensures.before (c.octets_before-len.ensures.found c.if-len-octets.true)

pub returns-then-len-octets-clause-line : goal.returns-then-len-octets-clause-line
returns-then-len-octets-clause-line c =
    unfed_split c.args.octets.now _ c.if-len-octets.true c.octets_before-len.ensures.before (c.octets_before-len.ensures.found c.if-len-octets.true)

pub returns-else-len-octets-clause-lines : goal.returns-else-len-octets-clause-lines
returns-else-len-octets-clause-lines c = front_whole c.args.octets.now _ c.requires (omega arith) c.octets_before-len.ensures.before

pub returns-else-len-octets-clause-line : goal.returns-else-len-octets-clause-line
returns-else-len-octets-clause-line c = unfed_front c.args.octets.now _ (omega arith) c.octets_before-len.ensures.before
