-- The response is sealed under the next IV, with the keys of the record.
use Rattle.std.proofs.Common.{rules, ◌≡◌, ℕ, ◌+◌, ◌<◌, true, None, [], refl, ap, ◌∙◌, subst, arith}
use Rattle.ha_base.specs.declared.counter_names.CounterName.{CounterName}
use Rattle.ike_sas.specs.Held.{IkeHeld}
use Rattle.keeper_book.specs.CounterEnds.{end_of}
use Rattle.keeper_book.specs.declared.counters.Counter.TheVariants as counter
use Rattle.spend_once.specs.Lot.{Drawn}
use Rattle.sk_payload.specs.declared.open.Opened.{Opened}
use Rattle.events.specs.declared.turn.Step.{Step}
use Rattle.turn_rules.specs.IkeState.{with_taken, kept_under}
use Rattle.turn_rules.specs.Messages.{AnswersRequest}
use Rattle.turn_rules.specs.PeerMessages.{SlotAnswers, peer_keys, slot_ike}
use Rattle.turn_rules.specs.Slots.{Slot, peer_counter, slot_after}
use Rattle.turn_rules.specs.Tasks as task
use Rattle.cluster_peer.specs.Associations.{IsIkeOfRecord}
use Rattle.cluster_peer.proofs.MessageMoves.{answered-own}
use Rattle.cluster_peer.proofs.association.Association.answer.Goals as goal

-- what is held of IKE messages, with the keys of the record
ike-is : (slot : Slot) (ike : IkeHeld) → ike.keys ≡ peer_keys slot.sa → ike.synced ≡ true → ike.asked ≡ slot.asked → ike.next ≡ slot.ask → ike.answered ≡ slot.answered → ike ≡ slot_ike slot
ike-is slot ike keys synced asked next answered i = record { keys = keys i; asked = asked i; next = next i; answered = answered i; synced = synced i }

answers : (slot : Slot) (name : CounterName) (ike : IkeHeld) (iv : ℕ) (request : Opened) (step : Step) → name ≡ peer_counter slot.sa counter.Answer → ike ≡ slot_ike slot → iv ≡ slot.iv
    → AnswersRequest name ike iv request None step → AnswersRequest (peer_counter slot.sa counter.Answer) (slot_ike slot) slot.iv request None step
answers slot name ike iv request step named held numbered does =
    subst (λ n. AnswersRequest n (slot_ike slot) slot.iv request None step) named
    (subst (λ h. AnswersRequest name h slot.iv request None step) held
    (subst (λ n. AnswersRequest name ike n request None step) numbered does))

within : (old : Slot) (request : Opened) (step : Step) (now : Slot) → old ≡ now → AnswersRequest (peer_counter old.sa counter.Answer) (slot_ike old) old.iv request None step
    → old.iv < end_of old.sa counter.Iv → SlotAnswers now request [] step
within old request step now same does below = subst (λ slot. SlotAnswers slot request [] step) same
    (record { no_calls = refl; within = λ _. does; ended = λ above. absurd (omega arith) })

pub returns-in-Some-clause-answers : goal.returns-in-Some-clause-answers
returns-in-Some-clause-answers g c =
    let sa = c.self.inside.sa in
    let ike = c.self.inside.ike in
    let ivs = c.self.inside.ivs in
    let keeps : IsIkeOfRecord sa ivs ike = c.self.invariant.1 in
    let old : Slot = record { sa = sa; live = c.self.inside.live; next = c.self.inside.lot.next; window = c.self.inside.inbound.window; iv = ivs.next; ask = ike.next; asked = ike.asked; answered = ike.answered; highest = c.self.inside.highest; ticket = c.self.inside.ticket } in
    let numbered : c.in-Some.iv ≡ record { name = ivs.name; value = ivs.next } = c.in-Some.ensures.number in
    let does = answers old c.name_at-name.result ike c.in-Some.iv.value c.args.request.now c.answer.result c.name_at-name.ensures
    (ike-is old ike keeps.keys keeps.synced refl refl refl) (ap (λ (n : Drawn). n.value) numbered) c.answer.ensures.answers in
    let below : ivs.next < ivs.end = search rules in
    let end : ivs.end ≡ end_of sa counter.Iv = keeps.numbers.end in
    within old c.args.request.now c.answer.result c.args.self.now c.self.view_is does (omega arith)

pub returns-in-Some-clause-after : goal.returns-in-Some-clause-after
returns-in-Some-clause-after g c = λ now.
    let sa = c.self.inside.sa in
    let ike = c.self.inside.ike in
    let ivs = c.self.inside.ivs in
    let keeps : IsIkeOfRecord sa ivs ike = c.self.invariant.1 in
    let old : Slot = record { sa = sa; live = c.self.inside.live; next = c.self.inside.lot.next; window = c.self.inside.inbound.window; iv = ivs.next; ask = ike.next; asked = ike.asked; answered = ike.answered; highest = c.self.inside.highest; ticket = c.self.inside.ticket } in
    let numbered : c.in-Some.iv ≡ record { name = ivs.name; value = ivs.next } = c.in-Some.ensures.number in
    let does = answers old c.name_at-name.result ike c.in-Some.iv.value c.args.request.now c.answer.result c.name_at-name.ensures
    (ike-is old ike keeps.keys keeps.synced refl refl refl) (ap (λ (n : Drawn). n.value) numbered) c.answer.ensures.answers in
    let risen : c.draw.new.self ≡ record ivs { next = ivs.next + 1 } = c.in-Some.ensures.rises in
    let held : c.answer.new.sa ≡ record ike { answered = with_taken (kept_under c.args.request.now.header.id c.answer.result.gives) ike.answered } = c.answer.ensures.held in
    (λ i. record { sa = sa; live = c.self.inside.live; next = c.self.inside.lot.next; window = c.self.inside.inbound.window; iv = (risen i).next; ask = (held i).next; asked = (held i).asked; answered = (held i).answered; highest = c.higher.ensures i; ticket = c.self.inside.ticket })
    ∙ answered-own now old c.args.request.now c.answer.result does
    ∙ ap (slot_after now task.Receive c.answer.result) c.self.view_is
