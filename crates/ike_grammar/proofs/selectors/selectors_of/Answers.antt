use Rattle.std.proofs.Common.{◌≡◌, suc, ◌+◌, ◌-◌, arith}
use Rattle.std.proofs.lemmas.Result.{err_from_is_err_and}
use Rattle.ike_values.specs.SelectorView.{selector_value}
use Rattle.ike_grammar.specs.Faults.{so_many}
use Rattle.ike_grammar.specs.Selectors.{selector_at}
use Rattle.ike_grammar.proofs.Counted.{goes_on, ends, is_done}
use Rattle.ike_grammar.proofs.Shorter.{selectors_count, selector_within}
use Rattle.ike_grammar.proofs.selectors.selectors_of.Goals as goal

pub selector_of-requires : goal.selector_of-requires
selector_of-requires c = omega (arith, c.loop.invariant.within)

pub returns-in_err-selector-clause-given : goal.returns-in_err-selector-clause-given
returns-in_err-selector-clause-given c =
    let p = err_from_is_err_and c.from_residual.result c.from_residual.ensures.1 in
    let k = c.args.count - (c.loop.counter + 1) in
    let left : c.args.count - c.loop.counter ≡ suc k = omega (arith, c.loop-test.true) in
    rw (p.1, p.2) (ends (λ _. selector_at c.args.end) (so_many (selector_at c.args.end)) (selectors_count c.args.end) c.in_err-selector.field-0.0 c.loop.selectors (c.args.count - c.loop.counter) k c.loop.rest.now (so_many (selector_at c.args.end) c.args.count c.args.bytes.now) left c.in_err-selector.ensures c.loop.invariant.read)

pub loop-preserved : goal.loop-preserved
loop-preserved c =
    let k = c.args.count - (c.loop.counter + 1) in
    let left : c.args.count - c.loop.counter ≡ suc k = omega (arith, c.loop-test.true) in
    let item = selector_value c.in_ok-selector.selector in
    let shorter = selector_within c.args.end c.loop.rest.now c.in_ok-selector.behind.now item c.in_ok-selector.ensures in
    record {
      read = rw c.in_ok-push.ensures.ok (goes_on (λ _. selector_at c.args.end) (so_many (selector_at c.args.end)) (selectors_count c.args.end) c.loop.selectors (c.args.count - c.loop.counter) k c.loop.rest.now item c.in_ok-selector.behind.now (so_many (selector_at c.args.end) c.args.count c.args.bytes.now) left c.in_ok-selector.ensures c.loop.invariant.read);
      within = omega (arith, shorter, c.loop.invariant.within);
    }

pub returns-clause-given : goal.returns-clause-given
returns-clause-given c = is_done (λ _. selector_at c.args.end) (so_many (selector_at c.args.end)) (selectors_count c.args.end) c.loop.selectors (c.args.count - c.loop.counter) c.loop.rest.now (so_many (selector_at c.args.end) c.args.count c.args.bytes.now) (omega (arith, c.loop-test.false)) c.loop.invariant.read
