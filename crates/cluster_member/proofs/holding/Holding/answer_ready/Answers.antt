-- It is known what is said of a ticket, or the request is refused.
use Rattle.std.proofs.Common.{◌≤◌, subst, rules}
use Rattle.ticket_issuing.specs.Issuing.{TellsOf}
use Rattle.turn_rules.specs.Held.{Held}
use Rattle.turn_rules.specs.Steps.{Says}
use Rattle.events.specs.declared.verdict.Verdict.TheVariants as out
use Rattle.ike_sas.specs.declared.ticket_messages.TheConstants.{TICKET_ANSWER_OCTETS}
use Rattle.cluster_member.proofs.RequestAnswers.{ready-answered, ready-refused, told-due}
use Rattle.cluster_member.proofs.holding.Holding.answer_ready.Goals as goal

pub returns-in-Ok-clause-answers : goal.returns-in-Ok-clause-answers
returns-in-Ok-clause-answers g c =
    let it = c.tell.ensures.tells in
    let old = c.args.self.now in
    let tells : TellsOf c.args.issuer.now c.args.now old.sa c.args.request.now it.calls c.tell.result c.tell.new.self =
    subst (λ (o : Held). TellsOf c.args.issuer.now c.args.now o.sa c.args.request.now it.calls c.tell.result c.tell.new.self) c.self.view_is it.follows in
    record {
      calls = it.calls;
      follows = ready-answered c.args.issuer.now c.tell.new.self c.args.now old c.respond.new.self c.args.request.now it.calls c.tell.result tells c.respond.result
          c.in-Ok.told c.in-Ok.is
          c.in-Ok.ensures.named
          c.respond.ensures.answers c.respond.ensures.after;
      asked = it.asked;
      held = it.held;
    }

pub respond-requires-clause-ticket_fits : goal.respond-requires-clause-ticket_fits
respond-requires-clause-ticket_fits g c =
    let it = c.tell.ensures.tells in
    told-due c.args.issuer.now c.tell.new.self c.args.now c.self.inside.sa c.args.request.now it.calls c.tell.result it.follows
    (TICKET_ANSWER_OCTETS ≤ c.args.rooms.answer) c.requires.rooms.answer c.in-Ok.told c.in-Ok.is

pub returns-in-Err-clause-answers : goal.returns-in-Err-clause-answers
returns-in-Err-clause-answers g c =
    let it = c.tell.ensures.tells in
    let old = c.args.self.now in
    let tells : TellsOf c.args.issuer.now c.args.now old.sa c.args.request.now it.calls c.tell.result c.tell.new.self =
    subst (λ (o : Held). TellsOf c.args.issuer.now c.args.now o.sa c.args.request.now it.calls c.tell.result c.tell.new.self) c.self.view_is it.follows in
    let says : Says (out.Refused c.in-Err.why) c.quiet.result = record {
      said = c.quiet.ensures.verdict;
      quiet = record { served = c.quiet.ensures.served; seals = c.quiet.ensures.seals; gives = c.quiet.ensures.gives };
    } in
    record {
      calls = it.calls;
      follows = ready-refused c.args.issuer.now c.tell.new.self c.args.now old _ c.args.request.now it.calls c.tell.result tells c.quiet.result
          c.in-Err.why c.in-Err.is says (search rules);
      asked = it.asked;
      held = it.held;
    }
