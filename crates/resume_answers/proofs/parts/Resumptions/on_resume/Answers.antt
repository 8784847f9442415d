use Rattle.std.proofs.Common.{rules}
use Rattle.resume_exchange.specs.declared.judging.Judged.TheVariants as judged
use Rattle.resume_answers.proofs.Asked.{presents, quiet}
use Rattle.resume_answers.proofs.parts.Resumptions.on_resume.Goals as goal
use Rattle.resume_answers.proofs.parts.Resumptions.on_resume.Goals.{in-Form, in-Full, in-Redirected, in-Nack, in-Presented}

pub returns-clause-answers : goal.returns-clause-answers
returns-clause-answers g c = elim c.match-judged.branch [
  | in-Form w ↦ quiet g.K.Keeper c.args.keeper.now c.match-judged.keeper c.args.own.now c.args.bytes.now c.args.now.0 c.args.message.now c.args.self.now
      c.judge.new.self c.match-judged.result c.match-judged.self judged.Form w.keeper-is (search rules) (search rules)
  | in-Full w ↦ quiet g.K.Keeper c.args.keeper.now c.match-judged.keeper c.args.own.now c.args.bytes.now c.args.now.0 c.args.message.now c.args.self.now
      c.judge.new.self c.match-judged.result c.match-judged.self judged.Full w.keeper-is (search rules) (search rules)
  | in-Redirected w ↦ quiet g.K.Keeper c.args.keeper.now c.match-judged.keeper c.args.own.now c.args.bytes.now c.args.now.0 c.args.message.now c.args.self.now
      c.judge.new.self c.match-judged.result c.match-judged.self judged.Redirected w.keeper-is (search rules) (search rules)
  | in-Nack w ↦ quiet g.K.Keeper c.args.keeper.now c.match-judged.keeper c.args.own.now c.args.bytes.now c.args.now.0 c.args.message.now c.args.self.now
      c.judge.new.self c.match-judged.result c.match-judged.self judged.Nack w.keeper-is (search rules) (search rules)
  | in-Presented w ↦ presents g.K.Keeper c.args.keeper.now c.match-judged.keeper c.args.own.now c.args.bytes.now c.args.now.0 c.args.message.now c.args.self.now
      c.judge.new.self c.match-judged.result c.match-judged.self w.in-Presented.number w.in-Presented.content
      (record { came = c.args.now; spii = c.args.message.now.header.spii; ni = c.nonce_of-ni.result; ticket = w.in-Presented.number; content = w.in-Presented.content })
      (search rules) (search rules) (let h = w.on_presented.ensures.answers in search rules)
]
