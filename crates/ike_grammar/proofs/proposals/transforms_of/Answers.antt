use Rattle.std.proofs.Common.{◌≡◌, suc, ◌+◌, ◌-◌, eqb, sym, ap, subst, ◌∙◌, arith}
use Rattle.std.proofs.lemmas.Result.{err_from_is_err_and}
use Rattle.ike_values.specs.TransformView.{transform_value}
use Rattle.ike_grammar.specs.Faults.{Fails}
use Rattle.ike_grammar.specs.Proposals.{transform_at, transforms_at}
use Rattle.ike_grammar.proofs.Binds.{one_left}
use Rattle.ike_grammar.proofs.Counted.{goes_on, ends, is_done}
use Rattle.ike_grammar.proofs.Shorter.{transforms_count, transform_within}
use Rattle.ike_grammar.proofs.proposals.transforms_of.Goals as goal

pub transform_of-requires : goal.transform_of-requires
transform_of-requires c = omega (arith, c.loop-index.invariant.within)

pub returns-in_err-transform-clause-given : goal.returns-in_err-transform-clause-given
returns-in_err-transform-clause-given c =
    let p = err_from_is_err_and c.from_residual.result c.from_residual.ensures.1 in
    let k = c.args.count - (c.loop-index.index + 1) in
    let left : c.args.count - c.loop-index.index ≡ suc k = omega (arith, c.loop-index-test.true) in
    let fails = subst (λ last. Fails c.in_err-transform.field-0.0 (transform_at c.args.end last c.loop-index.rest.now)) (one_left (c.args.count - c.loop-index.index) k left) c.in_err-transform.ensures in
    rw (p.1, p.2) (ends (λ n. transform_at c.args.end (eqb n 0)) (transforms_at c.args.end) (transforms_count c.args.end) c.in_err-transform.field-0.0 c.loop-index.transforms (c.args.count - c.loop-index.index) k c.loop-index.rest.now (transforms_at c.args.end c.args.count c.args.bytes.now) left fails c.loop-index.invariant.read)

pub loop-index-preserved : goal.loop-index-preserved
loop-index-preserved c =
    let k = c.args.count - (c.loop-index.index + 1) in
    let left : c.args.count - c.loop-index.index ≡ suc k = omega (arith, c.loop-index-test.true) in
    let item = transform_value c.in_ok-transform.transform in
    let read = ap (λ last. transform_at c.args.end last c.loop-index.rest.now) (sym (one_left (c.args.count - c.loop-index.index) k left)) ∙ c.in_ok-transform.ensures in
    let shorter = transform_within c.args.end (eqb k 0) c.loop-index.rest.now c.in_ok-transform.behind.now item read in
    record {
      read = rw c.in_ok-push.ensures.ok (goes_on (λ n. transform_at c.args.end (eqb n 0)) (transforms_at c.args.end) (transforms_count c.args.end) c.loop-index.transforms (c.args.count - c.loop-index.index) k c.loop-index.rest.now item c.in_ok-transform.behind.now (transforms_at c.args.end c.args.count c.args.bytes.now) left read c.loop-index.invariant.read);
      within = omega (arith, shorter, c.loop-index.invariant.within);
    }

pub returns-clause-given : goal.returns-clause-given
returns-clause-given c = is_done (λ n. transform_at c.args.end (eqb n 0)) (transforms_at c.args.end) (transforms_count c.args.end) c.loop-index.transforms (c.args.count - c.loop-index.index) c.loop-index.rest.now (transforms_at c.args.end c.args.count c.args.bytes.now) (omega (arith, c.loop-index-test.false)) c.loop-index.invariant.read
