-- The response takes the next IV.
use Rattle.std.proofs.Common.{◌≤◌, ap, arith, sym, subst, ◌∙◌}
use Rattle.ha_base.specs.declared.counter_names.CounterName.{CounterName}
use Rattle.ike_sas.specs.Held.{IkeHeld}
use Rattle.ike_window.specs.Windows.{ResponseWindow}
use Rattle.keeper_book.specs.declared.counters.Counter.TheVariants as counter
use Rattle.spend_once.specs.Lot.{Drawn}
use Rattle.turn_rules.specs.Held.{Held}
use Rattle.turn_rules.specs.IkeState.{kept_under}
use Rattle.turn_rules.specs.MemberMessages.{held_ike}
use Rattle.turn_rules.specs.Messages.{AnswersRequest}
use Rattle.cluster_member.proofs.Answers.{answered-low}
use Rattle.cluster_member.proofs.Asked.{held}
use Rattle.cluster_member.proofs.HeldMessages.{held_ike-is}
use Rattle.cluster_member.proofs.holding.Holding.respond.Goals as goal
use Rattle.cluster_member.specs.Answering.{AnswersHeld}
use Rattle.cluster_member.specs.Holdings.{IsHorizon}

pub invariant_of-self : goal.invariant_of-self
invariant_of-self g c =
    let old = c.self.inside in
    let is = c.self.invariant in
    let held = c.answer.ensures.held in
    let low : old.ike.answered.low ≤ c.answer.new.sa.answered.low =
    subst (λ (w : ResponseWindow). old.ike.answered.low ≤ w.low) (sym (ap (λ (x : IkeHeld). x.answered) held))
    (answered-low (kept_under c.args.request.now.header.id c.answer.result.gives) old.ike.answered) in
    record {
      horizons = record {
        of_esp_out = is.horizons.of_esp_out;
        of_esp_in = is.horizons.of_esp_in;
        of_iv = subst (IsHorizon old.sa old.epoch counter.Iv) (sym c.in-Some.ensures.after) (record {
          name = is.horizons.of_iv.name;
          counter = is.horizons.of_iv.counter;
          spir = is.horizons.of_iv.spir;
          epoch_is = is.horizons.of_iv.epoch_is;
          end_is = is.horizons.of_iv.end_is;
        });
        of_ask = is.horizons.of_ask;
        of_answer = is.horizons.of_answer;
      };
      packets = is.packets;
      messages = record {
        keys = ap (λ (x : IkeHeld). x.keys) held ∙ is.messages.keys;
        next = ap (λ (x : IkeHeld). x.next) held ∙ is.messages.next;
      };
      answered_from = omega (arith, is.answered_from, low);
    }

pub returns-in-Some-clause-answers : goal.returns-in-Some-clause-answers
returns-in-Some-clause-answers g c =
    let h = c.self.inside in
    let request = c.args.request.now in
    let step = c.answer.result in
    let old : Held = held h.sa h.epoch h.esp_out h.esp_in h.iv h.ask h.answer h.outbound h.inbound h.ike h.attempt c.self.invariant in
    subst (λ (o : Held). AnswersHeld o request step c.args.ticket) c.self.view_is
    (subst (λ (n : CounterName). AnswersRequest n (held_ike old) h.iv.next request c.args.ticket step) c.name_of-name.ensures
    (subst (λ (k : IkeHeld). AnswersRequest c.name_of-name.result k h.iv.next request c.args.ticket step) (sym (held_ike-is old h.ask h.ike c.self.invariant.messages))
    (subst (λ n. AnswersRequest c.name_of-name.result h.ike n request c.args.ticket step) (ap (λ (n : Drawn). n.value) c.in-Some.ensures.number) c.answer.ensures.answers)))
