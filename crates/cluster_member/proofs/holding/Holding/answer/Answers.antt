-- The numbers are ready, or one of them stopped.
use Rattle.std.proofs.Common.{◌++◌, ◌∙◌, ap}
use Rattle.events.specs.declared.verdict.Refusal.{Refusal}
use Rattle.events.specs.declared.verdict.Verdict.TheVariants as out
use Rattle.keeper_book.proofs.Asking.{asks_then}
use Rattle.turn_rules.specs.Draws.{refusal_of_stop}
use Rattle.turn_rules.specs.Steps.{Says}
use Rattle.cluster_member.proofs.RequestAnswers.{answers-ready, answers-stopped}
use Rattle.cluster_member.proofs.holding.Holding.answer.Goals as goal

pub returns-in-Ok-clause-answers : goal.returns-in-Ok-clause-answers
returns-in-Ok-clause-answers g c =
    let it = c.ready_to_answer.ensures.calls in
    let next = c.answer_ready.ensures.answers in
    record {
      calls = it.calls ++ next.calls;
      follows = answers-ready c.args.issuer.now c.args.now c.args.self.now c.ready_to_answer.new.self c.args.request.now it.calls c.ready_to_answer.result it.follows
          c.answer_ready.result c.answer_ready.new.issuer c.answer_ready.new.self next.calls c.in-Ok.is next.follows;
      asked = asks_then it.asked next.asked;
      held = next.held ∙ it.held;
    }

pub returns-in-Err-clause-answers : goal.returns-in-Err-clause-answers
returns-in-Err-clause-answers g c =
    let it = c.ready_to_answer.ensures.calls in
    let says : Says (out.Refused (refusal_of_stop c.in-Err.stop)) c.quiet.result = record {
      said = c.quiet.ensures.verdict ∙ ap (λ (r : Refusal). out.Refused r) c.of_stop.ensures;
      quiet = record { served = c.quiet.ensures.served; seals = c.quiet.ensures.seals; gives = c.quiet.ensures.gives };
    } in
    record {
      calls = it.calls;
      follows = answers-stopped c.args.issuer.now c.args.now c.args.self.now c.ready_to_answer.new.self c.args.request.now it.calls c.ready_to_answer.result it.follows
          c.quiet.result c.in-Err.stop c.in-Err.is says;
      asked = it.asked;
      held = it.held;
    }
