-- What a turn of IKE messages changes in an association of the peer.
use Rattle.std.proofs.Common.{◌≡◌, ◌≢◌, ℕ, ◌+◌, ◌<◌, ◌==◌, max, inl, inr, Bool, true, false, Option, Some, None, Result, Ok, Err, List, [], MatchOption, ⊎_elim, refl, ap, ◌∙◌, subst, arith, if◌then◌else◌}
use Rattle.std.proofs.lemmas.Bool.{cases_lt, eq-eqb, ne_eqb}
use Rattle.std.specs.Option.{option_map}
use Rattle.events.specs.declared.ike_outcomes.IkeDrop.{IkeDrop}
use Rattle.events.specs.declared.seals.Seal.{Seal}
use Rattle.events.specs.declared.turn.Step.{Step}
use Rattle.events.specs.declared.verdict.Refusal.TheVariants as refusal
use Rattle.events.specs.declared.verdict.Verdict.{Verdict}
use Rattle.events.specs.declared.verdict.Verdict.TheVariants as out
use Rattle.events.specs.declared.ike_outcomes.Kept.{Kept}
use Rattle.events.specs.declared.ike_outcomes.Kept.TheVariants as kept
use Rattle.ha_base.specs.declared.counter_names.CounterName.{CounterName}
use Rattle.ha_base.specs.declared.counter_names.End.TheVariants as end
use Rattle.ha_base.specs.declared.outside.Moment.{Moment}
use Rattle.ike_sas.specs.Answers.{error_of}
use Rattle.ike_sas.specs.declared.answers.RequestError.{RequestError}
use Rattle.ike_values.specs.Values.{PayloadValue}
use Rattle.ike_values.specs.declared.fault.Bad.{Bad}
use Rattle.ike_values.specs.declared.header.Header.{Header}
use Rattle.ike_window.specs.Kept.{KeptMessage}
use Rattle.keeper_book.specs.CounterEnds.{end_of}
use Rattle.keeper_book.specs.declared.counters.Counter.TheVariants as counter
use Rattle.sk_payload.specs.declared.open.Opened.{Opened}
use Rattle.turn_rules.specs.Held.{accepted, first_some, iv_in, said_in, used_in}
use Rattle.turn_rules.specs.CountersOf.{is_of_spir, number_under}
use Rattle.turn_rules.specs.IkeState.{with_taken, without_replied, heard_in, is_same_end, kept_under, replied_in, request_sent, response_to, sealed_iv, taken_id}
use Rattle.turn_rules.specs.Messages.{AnswersRequest, ExecutesRequest, GivesAgain, RefusesRequest, SendsMessage, SendsRequest, TakesInner, TakesReply}
use Rattle.turn_rules.specs.PeerTickets.{KeptTicket, ticket_in, ticket_kept}
use Rattle.turn_rules.specs.PeerMessages.{KeepsTicket, SlotAnswers, SlotAsks, slot_ike}
use Rattle.turn_rules.specs.Slots.{Slot, higher_of, peer_counter, slot_after}
use Rattle.turn_rules.specs.Steps.{Says}
use Rattle.turn_rules.specs.Synchronised.{agreed_in, jumped_in}
use Rattle.turn_rules.specs.Tasks as task
use Rattle.cluster_peer.proofs.Moves.{Made, Moves, moved-after, nothing, received-made, refused-made}
use Rattle.cluster_peer.specs.KeptTickets.{kept_at, ticket_inside}

alone : (x : Option ℕ) → first_some x None ≡ x
alone None = refl
alone (Some n) = refl

-- a message was sealed in an association, and so in no other
pub iv-sealed : (other iv : ℕ) (slot : Slot) (header : Header) (payloads : List PayloadValue) (step : Step) → SendsMessage (slot_ike slot) iv header payloads step
    → used_in end.Peer other counter.Iv task.Receive step ≡ (if slot.sa.spir == other then Some iv else None)
iv-sealed other iv slot header payloads step sends =
    let seal : Seal = sends.sent.seal in
    ap (iv_in end.Peer other) sends.seals
    ∙ ap (λ (n : CounterName). first_some (sealed_iv end.Peer other seal n.kind) None) sends.sends.named
    ∙ ap (λ (n : CounterName). first_some (if is_same_end end.Peer n.end then number_under other n seal.iv else None) None) sends.sends.named
    ∙ ap (λ (x : Option ℕ). first_some (if is_of_spir other x then Some seal.iv else None) None) slot.sa.origin_is_own
    ∙ alone (if slot.sa.spir == other then Some seal.iv else None)
    ∙ ap (λ n. if slot.sa.spir == other then Some n else None) sends.sends.iv_is

-- a new request was answered in an association: its response is kept there, and its Message ID known
abbrev answered : Option ℕ → Option KeptMessage → Option ℕ → Moves
answered iv response heard = record nothing { iv = iv; response = response; heard = heard }

module _ (now : Moment) (other : ℕ) (slot : Slot) (request : Opened) (step : Step) where
  abbrev its : {X : Type 0} → X → X → X
  its x y = if slot.sa.spir == other then x else y

  abbrev taken : Option ℕ
  taken = if slot.sa.spir == other then Some request.header.id else None

  abbrev kept_response : Option KeptMessage
  kept_response = response_to taken step.gives

  stored : (verdict : Verdict) → step.verdict ≡ verdict → taken_id other verdict ≡ number_under other (peer_counter slot.sa counter.Answer) request.header.id
      → response_to (taken_id other step.verdict) step.gives ≡ kept_response
  stored verdict said taken =
      ap (λ v. response_to (taken_id other v) step.gives) said
      ∙ ap (λ id. response_to id step.gives) taken
      ∙ ap (λ (x : Option ℕ). response_to (if is_of_spir other x then Some request.header.id else None) step.gives) slot.sa.origin_is_own

  known : (verdict : Verdict) → step.verdict ≡ verdict → heard_in other task.Receive verdict ≡ number_under other (peer_counter slot.sa counter.Answer) request.header.id
      → heard_in other task.Receive step.verdict ≡ taken
  known verdict said heard =
      ap (heard_in other task.Receive) said ∙ heard
      ∙ ap (λ (x : Option ℕ). if is_of_spir other x then Some request.header.id else None) slot.sa.origin_is_own

  pub answered-made : AnswersRequest (peer_counter slot.sa counter.Answer) (slot_ike slot) slot.iv request None step
      → Made now task.Receive step other (answered (if slot.sa.spir == other then Some slot.iv else None) kept_response taken)
  answered-made answers = go (error_of request) answers
    where
      go : (error : Option RequestError) → MatchOption error (ExecutesRequest (peer_counter slot.sa counter.Answer) (slot_ike slot) slot.iv request None step)
          (λ e. RefusesRequest (peer_counter slot.sa counter.Answer) (slot_ike slot) slot.iv request e step)
          → Made now task.Receive step other (answered (if slot.sa.spir == other then Some slot.iv else None) kept_response taken)
      go None does = record {
        esp = refl;
        received = ap (accepted other) does.said;
        iv = iv-sealed other slot.iv slot _ _ step does.responds;
        ask = refl;
        request = refl;
        replied = ap (replied_in other task.Receive) does.said;
        response = stored _ does.said refl;
        heard = known _ does.said refl;
        agreed = ap (agreed_in other task.Receive) does.said;
        jump = ap (jumped_in other counter.Ask task.Receive) does.said;
        closed = refl;
        ticket = ap (ticket_in other now task.Receive) does.said;
      }
      go (Some error) does = record {
        esp = refl;
        received = ap (accepted other) does.said;
        iv = iv-sealed other slot.iv slot _ _ step does.responds;
        ask = refl;
        request = refl;
        replied = ap (replied_in other task.Receive) does.said;
        response = stored _ does.said refl;
        heard = known _ does.said refl;
        agreed = ap (agreed_in other task.Receive) does.said;
        jump = ap (jumped_in other counter.Ask task.Receive) does.said;
        closed = refl;
        ticket = ap (ticket_in other now task.Receive) does.said;
      }

-- in the association
pub answered-own : (now : Moment) (slot : Slot) (request : Opened) (step : Step) → AnswersRequest (peer_counter slot.sa counter.Answer) (slot_ike slot) slot.iv request None step
    → record slot { iv = slot.iv + 1; answered = with_taken (kept_under request.header.id step.gives) slot.answered; highest = higher_of request.header.id slot.highest } ≡ slot_after now task.Receive step slot
answered-own now slot request step answers =
    let same : (slot.sa.spir == slot.sa.spir) ≡ true = eq-eqb slot.sa.spir slot.sa.spir refl in
    let more : slot.iv + 1 ≡ max (slot.iv + 1) slot.iv = omega arith in
    (λ i. record slot { iv = more i; answered = with_taken (kept_under request.header.id step.gives) slot.answered; highest = higher_of request.header.id slot.highest })
    ∙ moved-after now task.Receive step slot (answered (Some slot.iv) (kept_under request.header.id step.gives) (Some request.header.id))
    (subst (λ b. Made now task.Receive step slot.sa.spir (answered (if b then Some slot.iv else None) (response_to (if b then Some request.header.id else None) step.gives) (if b then Some request.header.id else None))) same
    (answered-made now slot.sa.spir slot request step answers))

-- and in no other
pub answers-others : (now : Moment) (other : ℕ) (slot : Slot) (request : Opened) (step : Step) → slot.sa.spir ≢ other → SlotAnswers slot request [] step → Made now task.Receive step other nothing
answers-others now other slot request step differs answers = ⊎_elim went (λ above. refused-made now task.Receive step other refusal.Exhausted (answers.ended above)) (cases_lt slot.iv (end_of slot.sa counter.Iv))
  where
    went : slot.iv < end_of slot.sa counter.Iv → Made now task.Receive step other nothing
    went below = subst (λ b. Made now task.Receive step other (answered (if b then Some slot.iv else None) (response_to (if b then Some request.header.id else None) step.gives) (if b then Some request.header.id else None))) (ne_eqb slot.sa.spir other differs)
        (answered-made now other slot request step (answers.within below))

-- a request was sent in an association, and so in no other
pub asks-others : (now : Moment) (other spir : ℕ) (slot : Slot) (payloads : List PayloadValue) (step : Step) → slot.sa.spir ≡ spir → slot.sa.spir ≢ other → SlotAsks slot payloads step → Made now (task.Ask spir payloads) step other nothing
asks-others now other spir slot payloads step own differs (inr full) = refused-made now (task.Ask spir payloads) step other (refusal.WindowFull full.0) full.3
asks-others now other spir slot payloads step own differs (inl fits) =
    ⊎_elim (λ asks. ⊎_elim (went asks) (λ none. refused-made now (task.Ask spir payloads) step other refusal.Exhausted (fits.1.ended (inr none))) (cases_lt slot.iv (end_of slot.sa counter.Iv)))
    (λ none. refused-made now (task.Ask spir payloads) step other refusal.Exhausted (fits.1.ended (inl none))) (cases_lt slot.ask (end_of slot.sa counter.Ask))
  where
    another : (spir == other) ≡ false
    another = ne_eqb spir other (λ same. differs (own ∙ same))

    went : slot.ask < end_of slot.sa counter.Ask → slot.iv < end_of slot.sa counter.Iv → Made now (task.Ask spir payloads) step other nothing
    went asks ivs =
        let sent : SendsRequest (slot_ike slot) slot.ask slot.iv payloads step = fits.1.within asks ivs in
        record {
          esp = refl;
          received = refl;
          iv = iv-sealed other slot.iv slot _ _ step sent.sends ∙ ap (λ b. if b then Some slot.iv else None) (ne_eqb slot.sa.spir other differs);
          ask = ap (said_in other counter.Ask (task.Ask spir payloads)) sent.said ∙ ap (λ b. if b then Some slot.ask else None) another;
          request = ap (λ v. if spir == other then request_sent v step.gives else None) sent.said ∙ ap (λ b. if b then kept_under slot.ask step.gives else None) another;
          replied = refl;
          response = refl;
          heard = refl;
          agreed = refl;
          jump = refl;
          closed = refl;
          ticket = refl;
        }

-- a response came in an association: its request ends there, and what it gives is kept there
abbrev replied : Option ℕ → Option KeptTicket → Moves
replied id ticket = record nothing { replied = id; ticket = ticket }

module _ (now : Moment) (other : ℕ) (slot : Slot) (id : ℕ) (is : Kept) (payloads : List PayloadValue) (step : Step) where
  abbrev reply_of : Bool → Moves
  reply_of own = replied (if own then Some id else None) (if own then ticket_kept now is else None)

  reply-made : TakesReply is (peer_counter slot.sa counter.Ask) id payloads step → Made now task.Receive step other (reply_of (slot.sa.spir == other))
  reply-made takes = record {
    esp = refl;
    received = ap (accepted other) takes.says.said;
    iv = ap (iv_in end.Peer other) takes.says.quiet.seals;
    ask = refl;
    request = refl;
    replied = ap (replied_in other task.Receive) takes.says.said ∙ ap (λ (x : Option ℕ). if is_of_spir other x then Some id else None) slot.sa.origin_is_own;
    response = ap (λ v. response_to (taken_id other v) step.gives) takes.says.said;
    heard = ap (heard_in other task.Receive) takes.says.said;
    agreed = ap (agreed_in other task.Receive) takes.says.said;
    jump = ap (jumped_in other counter.Ask task.Receive) takes.says.said;
    closed = refl;
    ticket = ap (ticket_in other now task.Receive) takes.says.said ∙ ap (λ (x : Option ℕ). if is_of_spir other x then ticket_kept now is else None) slot.sa.origin_is_own;
  }

-- the ticket that is kept is the one that the response gives
ticket-given : (now : Moment) (payloads : List PayloadValue) (is : Kept) → KeepsTicket payloads is → ticket_inside now (Ok payloads) ≡ ticket_kept now is
ticket-given now payloads kept.Plain keeps = ap (option_map (kept_at now)) keeps.0
ticket-given now payloads (kept.Ticket lifetime ticket) keeps = ap (option_map (kept_at now)) keeps
ticket-given now payloads kept.Nack keeps = ap (option_map (kept_at now)) keeps.0

-- in the association
pub replied-own : (now : Moment) (slot : Slot) (id : ℕ) (inner : Result (List PayloadValue) Bad) (step : Step) → TakesInner KeepsTicket (peer_counter slot.sa counter.Ask) id inner step
    → record slot { asked = without_replied (Some id) slot.asked; ticket = first_some (ticket_inside now inner) slot.ticket } ≡ slot_after now task.Receive step slot
replied-own now slot id (Err bad) step takes = absurd takes
replied-own now slot id (Ok payloads) step (is, keeps, reply) =
    let same : (slot.sa.spir == slot.sa.spir) ≡ true = eq-eqb slot.sa.spir slot.sa.spir refl in
    ap (λ ticket. record slot { asked = without_replied (Some id) slot.asked; ticket = first_some ticket slot.ticket }) (ticket-given now payloads is keeps)
    ∙ moved-after now task.Receive step slot (replied (Some id) (ticket_kept now is))
    (subst (λ own. Made now task.Receive step slot.sa.spir (replied (if own then Some id else None) (if own then ticket_kept now is else None))) same (reply-made now slot.sa.spir slot id is payloads step reply))

-- and in no other
pub reply-others : (now : Moment) (other : ℕ) (slot : Slot) (id : ℕ) (inner : Result (List PayloadValue) Bad) (step : Step) → slot.sa.spir ≢ other
    → TakesInner KeepsTicket (peer_counter slot.sa counter.Ask) id inner step → Made now task.Receive step other nothing
reply-others now other slot id (Err bad) step differs takes = absurd takes
reply-others now other slot id (Ok payloads) step differs (is, keeps, reply) =
    subst (λ own. Made now task.Receive step other (replied (if own then Some id else None) (if own then ticket_kept now is else None))) (ne_eqb slot.sa.spir other differs) (reply-made now other slot id is payloads step reply)

-- what is dropped changes nothing
pub dropped-made : (now : Moment) (why : IkeDrop) (step : Step) (spir : ℕ) → Says (out.DroppedIke why) step → Made now task.Receive step spir nothing
dropped-made now why step spir says = received-made now spir step (out.DroppedIke why) None says.quiet says.said refl refl refl refl refl

-- nor what is given once more
pub repeated-made : (now : Moment) (id : ℕ) (octets : List ℕ) (step : Step) (spir : ℕ) → GivesAgain (out.Repeated id) octets step → Made now task.Receive step spir nothing
repeated-made now id octets step spir gives = record {
  esp = refl;
  received = ap (accepted spir) gives.said;
  iv = ap (iv_in end.Peer spir) gives.seals;
  ask = refl;
  request = refl;
  replied = ap (replied_in spir task.Receive) gives.said;
  response = ap (λ v. response_to (taken_id spir v) step.gives) gives.said;
  heard = ap (heard_in spir task.Receive) gives.said;
  agreed = ap (agreed_in spir task.Receive) gives.said;
  jump = ap (jumped_in spir counter.Ask task.Receive) gives.said;
  closed = refl;
  ticket = ap (ticket_in spir now task.Receive) gives.said;
}

pub resent-made : (now : Moment) (asked id : ℕ) (octets : List ℕ) (step : Step) (spir : ℕ) → GivesAgain (out.Resent id) octets step → Made now (task.Again asked id) step spir nothing
resent-made now asked id octets step spir gives = record {
  esp = refl;
  received = refl;
  iv = ap (iv_in end.Peer spir) gives.seals;
  ask = refl;
  request = refl;
  replied = refl;
  response = refl;
  heard = refl;
  agreed = refl;
  jump = refl;
  closed = refl;
  ticket = refl;
}
