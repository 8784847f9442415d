-- The call that was passed on is recorded as it was answered.
use Rattle.std.proofs.Common.{ap}
use Rattle.keeper_book.specs.declared.calls.KeeperAsk.TheVariants as ask
use Rattle.keeper_book.specs.Told.{first_answer}
use Rattle.keeper_book.proofs.Passed.{passed, recorded}
use Rattle.keeper_book.proofs.gates.GateKeeper.lease.Goals as goal

pub returns-clause-call : goal.returns-clause-call
returns-clause-call g c =
    let call = c.lease-result.ensures.call in
    passed c.self.inside.keeper c.self.inside.calls c.self.inside.missed c.args.self.now c.record.new.self c.self.view_is (ask.Lease c.args.pool c.args.count) (first_answer c.lease-result.result) _ call.0 _
    call.1 call.2 c.record.ensures.keeper (ap (recorded (ask.Lease c.args.pool c.args.count)) c.of_first.ensures) c.record.ensures.calls c.record.ensures.missed
