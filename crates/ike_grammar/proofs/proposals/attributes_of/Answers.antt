use Rattle.std.proofs.Common.{arith}
use Rattle.std.proofs.lemmas.Result.{err_from_is_err_and}
use Rattle.ike_values.specs.AttributeView.{attribute_value}
use Rattle.ike_grammar.specs.Faults.{many}
use Rattle.ike_grammar.specs.Proposals.{attribute_at}
use Rattle.ike_grammar.proofs.Binds.{some_left, none_left}
use Rattle.ike_grammar.proofs.Many.{goes_on, ends, is_done}
use Rattle.ike_grammar.proofs.Shorter.{attributes_shorten}
use Rattle.ike_grammar.proofs.proposals.attributes_of.Goals as goal

pub returns-in_err-attribute : goal.returns-in_err-attribute
returns-in_err-attribute c =
    let p = err_from_is_err_and c.from_residual.result c.from_residual.ensures.1 in
    let some = some_left c.loop-rest.rest.now _ c.is_empty.ensures c.loop-rest-test.true in
    rw (p.1, p.2) (ends (attribute_at c.args.end) (attributes_shorten c.args.end) c.in_err-attribute.field-0.0 c.loop-rest.attributes c.loop-rest.rest.now (many (attribute_at c.args.end) c.args.bytes.now) some c.in_err-attribute.ensures c.loop-rest.invariant.read)

pub loop-rest-smaller : goal.loop-rest-smaller
loop-rest-smaller c = (attributes_shorten c.args.end).by c.loop-rest.rest.now (attribute_value c.in_ok-attribute.attribute, c.in_ok-attribute.behind.now) c.in_ok-attribute.ensures

pub loop-rest-preserved : goal.loop-rest-preserved
loop-rest-preserved c =
    let item = attribute_value c.in_ok-attribute.attribute in
    let some = some_left c.loop-rest.rest.now _ c.is_empty.ensures c.loop-rest-test.true in
    let shorter = (attributes_shorten c.args.end).by c.loop-rest.rest.now (item, c.in_ok-attribute.behind.now) c.in_ok-attribute.ensures in
    record {
      read = rw c.in_ok-push.ensures.ok (goes_on (attribute_at c.args.end) (attributes_shorten c.args.end) c.loop-rest.attributes c.loop-rest.rest.now item c.in_ok-attribute.behind.now (many (attribute_at c.args.end) c.args.bytes.now) some c.in_ok-attribute.ensures c.loop-rest.invariant.read);
      within = omega (arith, shorter);
    }

pub returns : goal.returns
returns c = is_done (attribute_at c.args.end) c.loop-rest.attributes c.loop-rest.rest.now (many (attribute_at c.args.end) c.args.bytes.now) (none_left c.loop-rest.rest.now _ c.is_empty.ensures c.loop-rest-test.false) c.loop-rest.invariant.read
