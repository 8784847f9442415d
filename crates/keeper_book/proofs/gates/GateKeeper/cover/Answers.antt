-- The call that was passed on is recorded as it was answered.
use Rattle.std.proofs.Common.{ap}
use Rattle.keeper_book.specs.declared.calls.KeeperAsk.TheVariants as ask
use Rattle.keeper_book.specs.Told.{done}
use Rattle.keeper_book.proofs.Passed.{passed, recorded}
use Rattle.keeper_book.proofs.gates.GateKeeper.cover.Goals as goal

pub returns-clause-call : goal.returns-clause-call
returns-clause-call g c =
    let call = c.cover-result.ensures.call in
    passed c.self.inside.keeper c.self.inside.calls c.self.inside.missed c.args.self.now c.record.new.self c.self.view_is (ask.Cover c.args.spir c.args.kind c.args.child c.args.epoch c.args.upto) (done c.cover-result.result) _ call.0 _
    call.1 call.2 c.record.ensures.keeper (ap (recorded (ask.Cover c.args.spir c.args.kind c.args.child c.args.epoch c.args.upto)) c.of_done.ensures) c.record.ensures.calls c.record.ensures.missed
