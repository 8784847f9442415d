use Rattle.std.proofs.Common.{rules}
use Rattle.resume_answers.proofs.Looking.{draws_then}
use Rattle.resume_answers.proofs.unspent.draw_unless_spent.Goals as goal

pub returns-in_err-number-clause-draws : goal.returns-in_err-number-clause-draws
returns-in_err-number-clause-draws g c =
    draws_then g.K.Keeper c.args.keeper.now c.look.new.self c.draw_pooled.new.keeper c.look.ensures.call.0 c.args.ticket c.args.nonces.now c.draw_pooled.new.lot c.draw_pooled.result
    _ (search rules) c.look.ensures.call.2 c.look.ensures.held c.draw_pooled.ensures.draws (search rules)

pub returns-clause-draws : goal.returns-clause-draws
returns-clause-draws g c =
    draws_then g.K.Keeper c.args.keeper.now c.look.new.self c.draw_pooled.new.keeper c.look.ensures.call.0 c.args.ticket c.args.nonces.now c.draw_pooled.new.lot c.draw_pooled.result
    _ (search rules) c.look.ensures.call.2 c.look.ensures.held c.draw_pooled.ensures.draws (search rules)
