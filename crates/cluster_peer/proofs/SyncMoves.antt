-- What a synchronisation changes in an association of the peer.
use Rattle.std.proofs.Common.{◌≡◌, ◌≢◌, ℕ, ◌+◌, ◌<◌, ◌==◌, max, true, Option, Some, None, Result, Ok, Err, [], ⊎_elim, refl, ap, ◌∙◌, subst, arith, if◌then◌else◌}
use Rattle.std.proofs.lemmas.Bool.{cases_lt, eq-eqb, ne_eqb}
use Rattle.events.specs.declared.ike_outcomes.IkeDrop.TheVariants as drop
use Rattle.events.specs.declared.turn.Step.{Step}
use Rattle.events.specs.declared.verdict.Refusal.TheVariants as refusal
use Rattle.ha_base.specs.declared.outside.Moment.{Moment}
use Rattle.ike_window.specs.Stored.{raised_to}
use Rattle.keeper_book.specs.CounterEnds.{end_of}
use Rattle.keeper_book.specs.declared.counters.Counter.TheVariants as counter
use Rattle.sk_payload.specs.declared.open.Opened.{Opened}
use Rattle.sync_exchange.specs.Answers.{IsPeerAnswer}
use Rattle.sync_exchange.specs.Counters.{rise_of}
use Rattle.sync_exchange.specs.declared.peer.Accepted.{Accepted}
use Rattle.sync_exchange.specs.declared.replay_counter.TheConstants.{DELTA_OCTETS}
use Rattle.sync_exchange.specs.declared.request.SyncRequest.{SyncRequest}
use Rattle.sync_exchange.specs.declared.sync_drop.SyncDrop.{SyncDrop}
use Rattle.sync_exchange.specs.declared.sync_drop.SyncDrop.TheVariants as why
use Rattle.turn_rules.specs.CountersOf.{is_of_spir}
use Rattle.turn_rules.specs.Held.{accepted}
use Rattle.turn_rules.specs.IkeState.{heard_in, replied_in, response_to, taken_id}
use Rattle.turn_rules.specs.PeerTickets.{ticket_in}
use Rattle.turn_rules.specs.PeerMessages.{AcceptsSync, AnswersSync, MayAcceptSync, SlotSynchronises, sync_state}
use Rattle.turn_rules.specs.Slots.{Slot, higher_of, slot_after}
use Rattle.turn_rules.specs.Synchronised.{Agreed, agreed_in, next_in}
use Rattle.turn_rules.specs.Tasks as task
use Rattle.cluster_peer.proofs.MessageMoves.{dropped-made, iv-sealed}
use Rattle.cluster_peer.proofs.Moves.{Made, Moves, moved-after, nothing, refused-made}

-- what the peer takes on
abbrev agreement : SyncRequest → Accepted → Agreed
agreement asked accepted = record { next = accepted.p2; floor = accepted.m2; delta = rise_of DELTA_OCTETS asked; ends_requests = true }

abbrev accepted_moves : Option ℕ → Option ℕ → Option Agreed → Moves
accepted_moves iv heard agreed = record nothing { iv = iv; heard = heard; agreed = agreed; jump = next_in agreed }

module _ (now : Moment) (other : ℕ) (slot : Slot) (request : Opened) (asked : SyncRequest) (accepts : Accepted) (step : Step) where
  abbrev its : {X : Type 0} → X → Option X
  its x = if slot.sa.spir == other then Some x else None

  pub accepts-made : AcceptsSync slot request asked accepts step → Made now task.Receive step other (accepted_moves (its slot.iv) (its accepts.m2) (its (agreement asked accepts)))
  accepts-made does = record {
    esp = refl;
    received = ap (accepted other) does.said;
    iv = iv-sealed other slot.iv slot _ _ step does.responds;
    ask = refl;
    request = refl;
    replied = ap (replied_in other task.Receive) does.said;
    response = ap (λ v. response_to (taken_id other v) step.gives) does.said;
    heard = ap (heard_in other task.Receive) does.said ∙ ap (λ (x : Option ℕ). if is_of_spir other x then Some accepts.m2 else None) slot.sa.origin_is_own;
    agreed = agreed_is;
    jump = ap next_in agreed_is;
    closed = refl;
    ticket = ap (ticket_in other now task.Receive) does.said;
  }
    where
      agreed_is : agreed_in other task.Receive step.verdict ≡ its (agreement asked accepts)
      agreed_is = ap (agreed_in other task.Receive) does.said ∙ ap (λ (x : Option ℕ). if is_of_spir other x then Some (agreement asked accepts) else None) slot.sa.origin_is_own

-- in the association
pub accepts-own : (now : Moment) (slot : Slot) (request : Opened) (asked : SyncRequest) (accepts : Accepted) (step : Step) → IsPeerAnswer (sync_state slot) asked (Ok accepts) → AcceptsSync slot request asked accepts step
    → record slot { next = accepts.next_esp; iv = slot.iv + 1; ask = accepts.p2; asked = []; answered = raised_to accepts.m2 slot.answered; highest = higher_of accepts.m2 slot.highest } ≡ slot_after now task.Receive step slot
accepts-own now slot request asked accepts step is does =
    let same : (slot.sa.spir == slot.sa.spir) ≡ true = eq-eqb slot.sa.spir slot.sa.spir refl in
    let more : slot.iv + 1 ≡ max (slot.iv + 1) slot.iv = omega arith in
    let risen : accepts.next_esp ≡ slot.next + rise_of DELTA_OCTETS asked = ap (λ (a : Accepted). a.next_esp) is.2 in
    let greater : accepts.p2 ≡ max asked.p1 slot.ask = ap (λ (a : Accepted). a.p2) is.2 in
    let jumps : accepts.p2 ≡ max accepts.p2 slot.ask = omega (arith, greater) in
    (λ i. record slot { next = risen i; iv = more i; ask = jumps i; asked = []; answered = raised_to accepts.m2 slot.answered; highest = higher_of accepts.m2 slot.highest })
    ∙ moved-after now task.Receive step slot (accepted_moves (Some slot.iv) (Some accepts.m2) (Some (agreement asked accepts)))
    (subst (λ b. Made now task.Receive step slot.sa.spir (accepted_moves (if b then Some slot.iv else None) (if b then Some accepts.m2 else None) (if b then Some (agreement asked accepts) else None))) same
    (accepts-made now slot.sa.spir slot request asked accepts step does))

-- and in no other
pub may-accept-others : (now : Moment) (other : ℕ) (slot : Slot) (request : Opened) (asked : SyncRequest) (accepts : Accepted) (step : Step) → slot.sa.spir ≢ other → MayAcceptSync slot request asked accepts step → Made now task.Receive step other nothing
may-accept-others now other slot request asked accepts step differs may = ⊎_elim went (λ above. refused-made now task.Receive step other refusal.Exhausted (may.ended above)) (cases_lt slot.iv (end_of slot.sa counter.Iv))
  where
    went : slot.iv < end_of slot.sa counter.Iv → Made now task.Receive step other nothing
    went below = subst (λ b. Made now task.Receive step other (accepted_moves (if b then Some slot.iv else None) (if b then Some accepts.m2 else None) (if b then Some (agreement asked accepts) else None))) (ne_eqb slot.sa.spir other differs)
        (accepts-made now other slot request asked accepts step (may.within below))

answers-others : (now : Moment) (other : ℕ) (slot : Slot) (request : Opened) (asked : SyncRequest) (answer : Result Accepted SyncDrop) (step : Step) → slot.sa.spir ≢ other → AnswersSync slot request asked answer step → Made now task.Receive step other nothing
answers-others now other slot request asked (Ok accepts) step differs may = may-accept-others now other slot request asked accepts step differs may
answers-others now other slot request asked (Err (why.NotAbove highest)) step differs says = dropped-made now (drop.SyncOld highest) step other says
answers-others now other slot request asked (Err why.Delta) step differs says = dropped-made now drop.Delta step other says
answers-others now other slot request asked (Err why.NotSync) step differs says = absurd says
answers-others now other slot request asked (Err why.Nonce) step differs says = absurd says

pub sync-others : (now : Moment) (other : ℕ) (slot : Slot) (request : Opened) (step : Step) → slot.sa.spir ≢ other → SlotSynchronises slot request [] step → Made now task.Receive step other nothing
sync-others now other slot request step differs does = answers-others now other slot request does.asked does.answer step differs does.answers
