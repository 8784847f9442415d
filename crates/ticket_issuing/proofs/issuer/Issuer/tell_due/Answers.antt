-- The ticket of the number that was drawn, or none where there is no number.
use Rattle.std.proofs.Common.{Some, Ok, refl, sym, subst, ◌∙◌}
use Rattle.keeper_book.specs.declared.pools.Pool.TheVariants as pool
use Rattle.ticket_issuing.proofs.Draws.{draw-refusal, draw-stopped, drawn-name}
use Rattle.ticket_issuing.proofs.Telling.{due-issued, due-without}
use Rattle.ticket_issuing.proofs.issuer.Issuer.tell_due.Goals as goal
use Rattle.ticket_issuing.specs.Issuing.{AreOfFirstKey, IsTicketCounter, Issuing, TellsDue}

pub issue_in-requires-clause-named : goal.issue_in-requires-clause-named
issue_in-requires-clause-named g c =
    let i = c.self.inside in
    let it = c.draw_pooled.ensures.draws in
    let first : IsTicketCounter (Some c.in-Some.key) = subst IsTicketCounter c.in-Some.is c.self.invariant.first in
    drawn-name pool.Ticket i.numbers c.draw_pooled.new.lot it.calls c.draw_pooled.result c.self.invariant.ordered it.follows c.in-Ok.number c.in-Ok.is
    ∙ c.self.invariant.named ∙ sym first

pub returns-in-Ok-clause-tells : goal.returns-in-Ok-clause-tells
returns-in-Ok-clause-tells g c =
    let i = c.self.inside in
    let it = c.draw_pooled.ensures.draws in
    let old : Issuing = record { key = i.key; lifetime = i.lifetime; numbers = i.numbers } in
    record {
      calls = it.calls;
      follows = subst (λ (o : Issuing). TellsDue o c.args.now c.args.sa.now it.calls (Ok (Some c.issue_in.result)) (record { key = i.key; lifetime = i.lifetime; numbers = c.draw_pooled.new.lot })) c.self.view_is
          (due-issued old c.args.now c.args.sa.now it.calls (Ok (Some c.issue_in.result)) (record old { numbers = c.draw_pooled.new.lot }) c.in-Some.key c.in-Some.is c.self.invariant.ordered
          c.draw_pooled.result it.follows refl c.in-Ok.number c.issue_in.result c.in-Ok.is refl c.issue_in.ensures.issues);
      asked = it.asked;
      held = it.held;
    }

pub without_number-requires : goal.without_number-requires
without_number-requires g c =
    let it = c.draw_pooled.ensures.draws in
    draw-refusal pool.Ticket c.self.inside.numbers c.draw_pooled.new.lot it.calls c.draw_pooled.result c.self.invariant.ordered it.follows it.asked.answers c.in-Err.why c.in-Err.is

pub invariant_of-self-in-Err : goal.invariant_of-self-in-Err
invariant_of-self-in-Err g c =
    let it = c.draw_pooled.ensures.draws in
    subst (AreOfFirstKey c.self.inside.key)
    (sym (draw-stopped pool.Ticket c.self.inside.numbers c.draw_pooled.new.lot it.calls c.draw_pooled.result c.self.invariant.ordered it.follows c.in-Err.why c.in-Err.is))
    c.self.invariant

pub returns-in-Err-clause-tells : goal.returns-in-Err-clause-tells
returns-in-Err-clause-tells g c =
    let i = c.self.inside in
    let it = c.draw_pooled.ensures.draws in
    let old : Issuing = record { key = i.key; lifetime = i.lifetime; numbers = i.numbers } in
    record {
      calls = it.calls;
      follows = subst (λ (o : Issuing). TellsDue o c.args.now c.args.sa.now it.calls c.without_number.result (record { key = i.key; lifetime = i.lifetime; numbers = c.draw_pooled.new.lot })) c.self.view_is
          (due-without old c.args.now c.args.sa.now it.calls c.without_number.result (record old { numbers = c.draw_pooled.new.lot }) c.in-Some.key c.in-Some.is c.self.invariant.ordered
          c.draw_pooled.result it.follows refl c.in-Err.why c.in-Err.is c.without_number.ensures);
      asked = it.asked;
      held = it.held;
    }
