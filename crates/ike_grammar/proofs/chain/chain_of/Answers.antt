use Rattle.std.proofs.Common.{◌<◌, arith}
use Rattle.std.proofs.lemmas.Result.{err_from_is_err_and}
use Rattle.ike_values.specs.PayloadView.{payload_value}
use Rattle.ike_grammar.specs.Chain.{chain_at}
use Rattle.ike_grammar.proofs.Chains.{payload_shortens, goes_on, ends}
use Rattle.ike_grammar.proofs.chain.chain_of.Goals as goal

pub returns-in_err-payload : goal.returns-in_err-payload
returns-in_err-payload c =
    let p = err_from_is_err_and c.from_residual.result c.from_residual.ensures.1 in
    let some : 0 < c.loop-number.number = omega (arith, c.loop-number-test.true) in
    rw (p.1, p.2) (ends c.args.end c.args.inner c.in_err-payload.field-0.0 c.loop-number.payloads c.loop-number.number c.loop-number.rest.now (chain_at c.args.end c.args.inner c.args.first c.args.bytes.now) some c.in_err-payload.ensures c.loop-number.invariant.read)

pub loop-number-smaller : goal.loop-number-smaller
loop-number-smaller c =
    let shorter = payload_shortens c.args.end c.loop-number.number c.args.inner c.loop-number.rest.now (payload_value c.in_ok-payload.payload, c.in_ok-payload.next, c.in_ok-payload.behind.now) c.in_ok-payload.ensures in
    omega (arith, shorter)

pub loop-number-preserved : goal.loop-number-preserved
loop-number-preserved c =
    let item = payload_value c.in_ok-payload.payload in
    let some : 0 < c.loop-number.number = omega (arith, c.loop-number-test.true) in
    let shorter = payload_shortens c.args.end c.loop-number.number c.args.inner c.loop-number.rest.now (item, c.in_ok-payload.next, c.in_ok-payload.behind.now) c.in_ok-payload.ensures in
    record {
      read = rw c.in_ok-push.ensures.ok (goes_on c.args.end c.args.inner c.loop-number.payloads c.loop-number.number c.loop-number.rest.now item c.in_ok-payload.next c.in_ok-payload.behind.now (chain_at c.args.end c.args.inner c.args.first c.args.bytes.now) some c.in_ok-payload.ensures c.loop-number.invariant.read);
      within = omega (arith, shorter, c.loop-number.invariant.within);
    }
