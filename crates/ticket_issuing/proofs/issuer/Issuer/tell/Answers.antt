-- A ticket that is due, and one that is not.
use Rattle.std.proofs.Common.{[], refl, sym, ◌∙◌}
use Rattle.keeper_book.proofs.Asking.{asks_for_none}
use Rattle.ticket_issuing.proofs.Telling.{due-without-key, no-key, tells-due}
use Rattle.ticket_issuing.proofs.issuer.Issuer.tell.Goals as goal

pub returns-in-Some-clause-tells : goal.returns-in-Some-clause-tells
returns-in-Some-clause-tells g c =
    let it = c.tell_due.ensures.tells in
    let due = sym c.is_ticket_due.ensures ∙ c.if-not-is_ticket_due.false in
    record {
      calls = it.calls;
      follows = tells-due c.args.self.now c.args.now c.args.sa.now c.args.request.now it.calls c.tell_due.result c.tell_due.new.self due it.follows;
      asked = it.asked;
      held = it.held;
    }

pub returns-in-None-clause-tells : goal.returns-in-None-clause-tells
returns-in-None-clause-tells g c =
    let due = sym c.is_ticket_due.ensures ∙ c.if-not-is_ticket_due.false in
    asks_for_none g.K.Keeper c.args.keeper.now
    (tells-due c.args.self.now c.args.now c.args.sa.now c.args.request.now [] _ c.args.self.now due
    (due-without-key c.args.self.now c.args.now c.args.sa.now [] _ c.args.self.now (no-key c.args.self.now.key c.args.request.now c.args.room due c.requires.room c.in-None.is) refl refl refl))
