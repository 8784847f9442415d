use Rattle.ike_values.specs.Values.{ProposalValue}
use Rattle.ike_values.specs.declared.proposal.Proposal.{Proposal}

-- what a proposal of the code is
abbrev pub proposal_value : Proposal → ProposalValue
proposal_value x = record {
  number = x.number;
  protocol = x.protocol;
  spi = x.spi.octets;
  transforms = x.transforms;
}
