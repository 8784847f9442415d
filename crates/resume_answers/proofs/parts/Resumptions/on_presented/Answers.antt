use Rattle.std.proofs.Common.{rules}
use Rattle.resume_answers.proofs.Asked.{opens}
use Rattle.resume_answers.proofs.parts.Resumptions.on_presented.Goals as goal

pub returns-in-Ok-Some-clause-answers : goal.returns-in-Ok-Some-clause-answers
returns-in-Ok-Some-clause-answers g c =
    opens g.K.Keeper c.args.keeper.now c.draw_unless_spent.new.keeper c.args.own.now c.args.room.request.octets c.args.asked.now c.args.self.now c.in-Ok-Some.number
    c.opened-half_open.result.0 c.opened-half_open.result.1 c.draw_unless_spent.new.nonces c.put.new.self c.draw_unless_spent.result c.value-spir.result
    c.draw_unless_spent.ensures.draws (search rules) c.value-spir.ensures c.opened-half_open.ensures.opened c.opened-half_open.ensures.same c.put.ensures
