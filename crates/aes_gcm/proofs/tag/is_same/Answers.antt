use Rattle.std.proofs.Common.{◌∙◌, sym, arith}
use Rattle.std.proofs.lemmas.List.{ext_get_or}
use Rattle.std.proofs.lemmas.Bool.{eqb-true, eq-eqb}
use Rattle.aes_gcm.proofs.Lists.{apart_more, together_more}
use Rattle.aes_gcm.proofs.tag.is_same.Goals as goal

pub loop-i-preserved : goal.loop-i-preserved
loop-i-preserved c = record {
  none = apart_more c.args.a.now c.args.b.now c.loop-i.i c.loop-i.apart c.loop-i.invariant.none;
  same = λ e. together_more c.args.a.now c.args.b.now c.loop-i.i c.loop-i.apart (c.loop-i.invariant.same e) e;
}

pub returns : goal.returns
returns c = (
  λ t. ext_get_or 0 c.args.a.now c.args.b.now (c.told-a ∙ sym c.told-b) (λ k h. c.loop-i.invariant.none (eqb-true c.loop-i.apart 0 t) k (omega arith)),
  λ e. eq-eqb c.loop-i.apart 0 (c.loop-i.invariant.same e),
)
