use Rattle.std.proofs.Common.{arith}
use Rattle.std.proofs.lemmas.Result.{err_from_is_err_and}
use Rattle.ike_values.specs.ProposalView.{proposal_value}
use Rattle.ike_grammar.specs.Faults.{many}
use Rattle.ike_grammar.specs.Proposals.{proposal_at}
use Rattle.ike_grammar.proofs.Binds.{some_left, none_left}
use Rattle.ike_grammar.proofs.Many.{goes_on, ends, is_done}
use Rattle.ike_grammar.proofs.Shorter.{proposals_shorten}
use Rattle.ike_grammar.proofs.proposals.all_proposals.Goals as goal

pub returns-in_err-proposal : goal.returns-in_err-proposal
returns-in_err-proposal c =
    let p = err_from_is_err_and c.from_residual.result c.from_residual.ensures.1 in
    let some = some_left c.loop-rest.rest.now _ c.is_empty.ensures c.loop-rest-test.true in
    rw (p.1, p.2) (ends (proposal_at c.args.end) (proposals_shorten c.args.end) c.in_err-proposal.field-0.0 c.loop-rest.proposals c.loop-rest.rest.now (many (proposal_at c.args.end) c.args.body.now) some c.in_err-proposal.ensures c.loop-rest.invariant.read)

pub loop-rest-smaller : goal.loop-rest-smaller
loop-rest-smaller c = (proposals_shorten c.args.end).by c.loop-rest.rest.now (proposal_value c.in_ok-proposal.proposal, c.in_ok-proposal.behind.now) c.in_ok-proposal.ensures

pub loop-rest-preserved : goal.loop-rest-preserved
loop-rest-preserved c =
    let item = proposal_value c.in_ok-proposal.proposal in
    let some = some_left c.loop-rest.rest.now _ c.is_empty.ensures c.loop-rest-test.true in
    let shorter = (proposals_shorten c.args.end).by c.loop-rest.rest.now (item, c.in_ok-proposal.behind.now) c.in_ok-proposal.ensures in
    record {
      read = rw c.in_ok-push.ensures.ok (goes_on (proposal_at c.args.end) (proposals_shorten c.args.end) c.loop-rest.proposals c.loop-rest.rest.now item c.in_ok-proposal.behind.now (many (proposal_at c.args.end) c.args.body.now) some c.in_ok-proposal.ensures c.loop-rest.invariant.read);
      within = omega (arith, shorter);
    }

pub returns : goal.returns
returns c = is_done (proposal_at c.args.end) c.loop-rest.proposals c.loop-rest.rest.now (many (proposal_at c.args.end) c.args.body.now) (none_left c.loop-rest.rest.now _ c.is_empty.ensures c.loop-rest-test.false) c.loop-rest.invariant.read
