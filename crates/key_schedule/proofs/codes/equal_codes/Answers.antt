use Rattle.std.proofs.Common.{◌∙◌, sym, eq-eqb}
use Rattle.std.proofs.lemmas.Bool.{eqb-true}
use Rattle.key_schedule.proofs.Differences.{same_from_difference, difference-same}
use Rattle.key_schedule.proofs.codes.equal_codes.Goals as goal

pub returns-then-a-b : goal.returns-then-a-b
returns-then-a-b c = (
  λ h. same_from_difference c.args.a.now c.args.b.now c.if-a-b.true (sym c.difference.ensures ∙ eqb-true c.difference.result 0 h),
  λ h. eq-eqb c.difference.result 0 (c.difference.ensures ∙ difference-same c.args.a.now c.args.b.now h),
)
