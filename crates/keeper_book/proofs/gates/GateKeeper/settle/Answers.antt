-- The call that was passed on is recorded as it was answered.
use Rattle.std.proofs.Common.{ap, ◌∙◌}
use Rattle.keeper_book.specs.declared.calls.KeeperAsk.TheVariants as ask
use Rattle.keeper_book.specs.declared.records.Record.{Record}
use Rattle.keeper_book.specs.Told.{done}
use Rattle.keeper_book.proofs.Passed.{passed, recorded}
use Rattle.keeper_book.proofs.gates.GateKeeper.settle.Goals as goal

pub returns-clause-call : goal.returns-clause-call
returns-clause-call g c =
    let call = c.settle-result.ensures.call in
    passed c.self.inside.keeper c.self.inside.calls c.self.inside.missed c.args.self.now c.record.new.self c.self.view_is (ask.Settle c.args.ticket c.args.old_spir c.args.sa.now c.args.member) (done c.settle-result.result) _ call.0 _
    call.1 call.2 c.record.ensures.keeper (ap (λ (sa : Record). recorded (ask.Settle c.args.ticket c.args.old_spir sa c.args.member) c.of_done.result) c.copied.ensures ∙ ap (recorded (ask.Settle c.args.ticket c.args.old_spir c.args.sa.now c.args.member)) c.of_done.ensures) c.record.ensures.calls c.record.ensures.missed
