-- What a holding is after it answered a request, or took a response.
use Rattle.std.proofs.Common.{◌≡◌, ◌≢◌, ◌++◌, IfSome, ℕ, ◌+◌, ◌==◌, ◌≤◌, max, Bool, true, false, Option, Some, None, MatchOption, List, [], ◌∷◌, Result, Ok, Err, refl, ap, sym, ◌∙◌, arith, if◌then◌else◌}
use Rattle.std.proofs.lemmas.Bool.{eq-eqb}
use Rattle.events.specs.declared.seals.Seal.{Seal}
use Rattle.events.specs.declared.turn.Step.{Step}
use Rattle.ha_base.specs.declared.counter_names.CounterName.{CounterName}
use Rattle.ha_base.specs.declared.counter_names.End.TheVariants as end
use Rattle.horizons.specs.Reaches.{Reach}
use Rattle.ike_sas.specs.Answers.{error_of}
use Rattle.ike_sas.specs.declared.answers.RequestError.{RequestError}
use Rattle.ike_sas.specs.declared.ticket_messages.TicketAnswer.{TicketAnswer}
use Rattle.ike_sas.specs.declared.ticket_messages.TicketAnswer.TheVariants.{Declined, Issued}
use Rattle.ticket_issuing.specs.Issuing.{IsOfFirstKey, number_told}
use Rattle.turn_rules.specs.TicketNumbers.{ticket_number}
use Rattle.ike_values.specs.Values.{PayloadValue}
use Rattle.ike_values.specs.declared.fault.Bad.{Bad}
use Rattle.ike_window.specs.Kept.{KeptMessage, with_kept}
use Rattle.ike_window.specs.Stored.{least_free}
use Rattle.ike_window.specs.Windows.{ResponseWindow}
use Rattle.keeper_book.specs.CounterEnds.{end_of}
use Rattle.keeper_book.specs.Counters.{five_at}
use Rattle.keeper_book.specs.declared.calls.Call.{Call}
use Rattle.keeper_book.specs.declared.counters.Counter.{Counter}
use Rattle.keeper_book.specs.declared.counters.Counter.TheVariants as counter
use Rattle.keeper_book.specs.declared.records.Record.{Record}
use Rattle.sk_payload.specs.declared.open.Opened.{Opened}
use Rattle.turn_rules.proofs.NoSynchronisation.{is_of_sync}
use Rattle.turn_rules.proofs.Readies.{none-vain}
use Rattle.turn_rules.proofs.Ties.{used-receiving}
use Rattle.turn_rules.specs.Draws.{counter_name}
use Rattle.turn_rules.specs.Held.{Held, accepted, after_number, first_some, five_of, iv_in, used_in}
use Rattle.turn_rules.specs.CountersOf.{is_of_spir, number_under}
use Rattle.turn_rules.specs.IkeState.{with_taken, is_same_end, kept_under, outstanding_after, replied_in, request_in, response_in, response_to, sealed_iv, taken_id, without_replied}
use Rattle.turn_rules.specs.MemberMessages.{KeepsNothing, held_ike}
use Rattle.turn_rules.specs.Messages.{ExecutesRequest, RefusesRequest, Responds, TakesInner, seals_of}
use Rattle.turn_rules.specs.Steps.{IsQuiet}
use Rattle.turn_rules.specs.Tasks as task
use Rattle.cluster_member.proofs.Covering.{AreCoversTo, IsOf, message-advances, vain-covers}
use Rattle.cluster_member.specs.Answering.{AnswersHeld, answered_with}
use Rattle.cluster_member.specs.Holdings.{IsHorizon}
use Rattle.cluster_member.specs.Advances.{Advances}

-- ---- the window rises

free-from : (b : Bool) (from next stays : ℕ) → from + 1 ≤ next → from ≤ stays → from ≤ (if b then next else stays)
free-from true from next stays up same = omega (arith, up)
free-from false from next stays up same = same

pub least-from : (from : ℕ) (kept : List KeptMessage) → from ≤ least_free from kept
least-from from [] = omega arith
least-from from (message ∷ rest) = free-from (message.id == from) from (least_free (from + 1) rest) (least_free from rest) (least-from (from + 1) rest)
    (least-from from rest)

-- one more response, or none, leaves the least Message ID that was not answered or raises it
pub answered-low : (response : Option KeptMessage) (window : ResponseWindow) → window.low ≤ (with_taken response window).low
answered-low None window = omega arith
answered-low (Some response) window = least-from window.low (with_kept response window.responses)

-- ---- horizons

pub horizon-reach : (sa : Record) (epoch : ℕ) (c : Counter) (h : Reach) → IsHorizon sa epoch c h
    → h ≡ record { name = counter_name sa c; counter = c; spir = sa.spir; epoch = epoch; base = h.base; next = h.next; high = h.high; end = end_of sa c }
horizon-reach sa epoch c h is i = record { name = is.name i; counter = is.counter i; spir = is.spir i; epoch = is.epoch_is i; base = h.base; next = h.next; high = h.high; end = is.end_is i }

-- ---- numbers of an association

own-number : (held : Held) (c : Counter) (spir n : ℕ) → number_under spir (counter_name held.sa c) n ≡ (if held.sa.spir == spir then Some n else None)
own-number held c spir n = ap (λ (x : Option ℕ). if is_of_spir spir x then Some n else None) held.sa.origin_is_own

mine : (held : Held) (n : ℕ) → (if held.sa.spir == held.sa.spir then Some n else None) ≡ Some n
mine held n = ap (λ b. if b then Some n else None) (eq-eqb held.sa.spir held.sa.spir refl)

others : (b : Bool) (n : ℕ) → b ≡ false → (if b then Some n else None) ≡ None
others b n other = ap (λ b. if b then Some n else None) other

some-none : (x : Option ℕ) → first_some x None ≡ x
some-none None = refl
some-none (Some x) = refl

-- a message was sealed under an IV of the association
iv-of : (held : Held) (n : ℕ) (seal : Seal) → seal.name ≡ counter_name held.sa counter.Iv → seal.iv ≡ n
    → (spir : ℕ) → iv_in end.Cluster spir (seal ∷ []) ≡ (if held.sa.spir == spir then Some n else None)
iv-of held n seal named iv spir =
    some-none (sealed_iv end.Cluster spir seal seal.name.kind)
    ∙ ap (sealed_iv end.Cluster spir seal) (ap (λ (name : CounterName). name.kind) named)
    ∙ ap (λ (name : CounterName). if is_same_end end.Cluster name.end then number_under spir name seal.iv else None) named
    ∙ ap (number_under spir (counter_name held.sa counter.Iv)) iv
    ∙ own-number held counter.Iv spir n

pub iv-sealed : (held : Held) (n : ℕ) (step : Step) (seal : Seal) → step.seals ≡ seal ∷ [] → seal.name ≡ counter_name held.sa counter.Iv → seal.iv ≡ n
    → (spir : ℕ) → iv_in end.Cluster spir step.seals ≡ (if held.sa.spir == spir then Some n else None)
iv-sealed held n step seal seals named iv spir = ap (iv_in end.Cluster spir) seals ∙ iv-of held n seal named iv spir

-- ---- a request is answered

-- what a step says of the request that it answered
pub record Answered (held : Held) (id : ℕ) (step : Step) : Type 0 where
  pub uses : (spir : ℕ) → iv_in end.Cluster spir step.seals ≡ (if held.sa.spir == spir then Some held.nexts.iv else None)
  pub taken : (spir : ℕ) → taken_id spir step.verdict ≡ number_under spir (counter_name held.sa counter.Answer) id
  pub unreplied : (spir : ℕ) → replied_in spir task.Receive step.verdict ≡ None
  pub unaccepted : (spir : ℕ) → accepted spir step.verdict ≡ None
  pub plain : is_of_sync step.verdict ≡ false

-- a ticket is sealed under no IV of an association
ticket-unused : (ticket : Option TicketAnswer) → IfSome ticket IsOfFirstKey → (spir : ℕ) (seal : Seal) → iv_in end.Cluster spir (seals_of ticket ++ seal ∷ []) ≡ iv_in end.Cluster spir (seal ∷ [])
ticket-unused None named spir seal = refl
ticket-unused (Some Declined) named spir seal = refl
ticket-unused (Some (Issued lifetime sealed)) named spir seal =
    ap (λ (name : CounterName). first_some (sealed_iv end.Cluster spir sealed name.kind) (iv_in end.Cluster spir (seal ∷ []))) named

responds-uses : (held : Held) (request : Opened) (reply : List ℕ) (ticket : Option TicketAnswer) (step : Step) → IfSome ticket IsOfFirstKey
    → Responds (held_ike held) held.nexts.iv request reply ticket step
    → (spir : ℕ) → iv_in end.Cluster spir step.seals ≡ (if held.sa.spir == spir then Some held.nexts.iv else None)
responds-uses held request reply ticket step named r spir =
    ap (iv_in end.Cluster spir) r.seals ∙ ticket-unused ticket named spir r.sent.seal
    ∙ iv-of held held.nexts.iv r.sent.seal r.sends.named r.sends.iv_is spir

pub answered-by : (held : Held) (request : Opened) (ticket : Option TicketAnswer) (step : Step) → IfSome ticket IsOfFirstKey → (error : Option RequestError)
    → MatchOption error (ExecutesRequest (counter_name held.sa counter.Answer) (held_ike held) held.nexts.iv request ticket step)
    (λ e. RefusesRequest (counter_name held.sa counter.Answer) (held_ike held) held.nexts.iv request e step) → Answered held request.header.id step
answered-by held request ticket step named None a = record {
  uses = responds-uses held request a.executed.reply.octets ticket step named a.responds;
  taken = λ spir. ap (taken_id spir) a.said;
  unreplied = λ spir. ap (replied_in spir task.Receive) a.said;
  unaccepted = λ spir. ap (accepted spir) a.said;
  plain = ap is_of_sync a.said;
}
answered-by held request ticket step named (Some error) a = record {
  uses = responds-uses held request [] None step tt a.responds;
  taken = λ spir. ap (taken_id spir) a.said;
  unreplied = λ spir. ap (replied_in spir task.Receive) a.said;
  unaccepted = λ spir. ap (accepted spir) a.said;
  plain = ap is_of_sync a.said;
}

module _ (held now : Held) (id : ℕ) (step : Step) (a : Answered held id step) where
  answers : (spir : ℕ) → response_in spir task.Receive step ≡ response_to (if held.sa.spir == spir then Some id else None) step.gives
  answers spir = ap (λ n. response_to n step.gives) (a.taken spir ∙ own-number held counter.Answer spir id)

  unused : (spir : ℕ) → (held.sa.spir == spir) ≡ false → (c : Counter) → used_in end.Cluster spir c task.Receive step ≡ None
  unused spir other counter.EspOut = refl
  unused spir other counter.EspIn = refl
  unused spir other counter.Iv = a.uses spir ∙ others (held.sa.spir == spir) held.nexts.iv other
  unused spir other counter.Ask = refl
  unused spir other counter.Answer = refl

  of : IsOf held.sa.spir task.Receive step
  of = record {
    plain = a.plain;
    unused = unused;
    unreceived = a.unaccepted;
    unsent = λ spir other. refl;
    unreplied = λ spir other. a.unreplied spir;
    unanswered = λ spir other. answers spir ∙ ap (λ n. response_to n step.gives) (others (held.sa.spir == spir) id other);
  }

  own_next : after_number (iv_in end.Cluster held.sa.spir step.seals) held.nexts.iv ≡ held.nexts.iv + 1
  own_next =
      let more : max (held.nexts.iv + 1) held.nexts.iv ≡ held.nexts.iv + 1 = omega arith in
      ap (λ n. after_number n held.nexts.iv) (a.uses held.sa.spir ∙ mine held held.nexts.iv) ∙ more

  own_response : response_in held.sa.spir task.Receive step ≡ kept_under id step.gives
  own_response = answers held.sa.spir ∙ ap (λ n. response_to n step.gives) (mine held id)

  pub answered-advances : (calls : List Call) → AreCoversTo held calls held.highs → now ≡ answered_with id step held → Advances held task.Receive calls step now
  answered-advances calls covers same = message-advances held now task.Receive calls step held.highs covers of
      (same ∙ sym (λ i. record held {
        nexts = record held.nexts { iv = own_next i };
        asked = asked_is i;
        answered = with_taken (own_response i) held.answered;
      }))
    where
      asked_is : outstanding_after false (request_in held.sa.spir task.Receive step) (replied_in held.sa.spir task.Receive step.verdict) held.asked ≡ held.asked
      asked_is = ap (λ r. outstanding_after false None r held.asked) (a.unreplied held.sa.spir)

-- the number of the ticket that a step says
pub ticket-said : (held : Held) (request : Opened) (ticket : Option TicketAnswer) (step : Step) → (ticket ≢ None → error_of request ≡ None) → AnswersHeld held request step ticket
    → ticket_number step.verdict ≡ number_told (Ok ticket)
ticket-said held request ticket step due answers = go ticket (error_of request) due answers
  where
    go : (ticket : Option TicketAnswer) (error : Option RequestError) → (ticket ≢ None → error ≡ None)
        → MatchOption error (ExecutesRequest (counter_name held.sa counter.Answer) (held_ike held) held.nexts.iv request ticket step)
        (λ e. RefusesRequest (counter_name held.sa counter.Answer) (held_ike held) held.nexts.iv request e step) → ticket_number step.verdict ≡ number_told (Ok ticket)
    go None None due a = ap ticket_number a.said
    go (Some Declined) None due a = ap ticket_number a.said
    go (Some (Issued lifetime seal)) None due a = ap ticket_number a.said
    go None (Some error) due a = ap ticket_number a.said
    go (Some told) (Some error) due a = let none : Some error ≡ None = due (λ no. cc) in absurd (cc)

-- ---- a response is taken

pub taken-quiet : (name : CounterName) (id : ℕ) (inner : Result (List PayloadValue) Bad) (step : Step) → TakesInner KeepsNothing name id inner step → IsQuiet step
taken-quiet name id (Err bad) step takes = absurd takes
taken-quiet name id (Ok payloads) step takes = takes.2.says.quiet

pub taken-advances : (held now : Held) (id : ℕ) (step : Step) (inner : Result (List PayloadValue) Bad)
    → TakesInner KeepsNothing (counter_name held.sa counter.Ask) id inner step → now ≡ record held { asked = without_replied (Some id) held.asked }
    → Advances held task.Receive [] step now
taken-advances held now id step (Err bad) takes same = absurd takes
taken-advances held now id step (Ok payloads) takes same = message-advances held now task.Receive [] step held.highs (vain-covers held [] (none-vain [] refl))
    (record {
      plain = ap is_of_sync takes.2.says.said;
      unused = λ spir other c. used-receiving end.Cluster spir c step takes.2.says.quiet;
      unreceived = λ spir. ap (accepted spir) takes.2.says.said;
      unsent = λ spir other. refl;
      unreplied = λ spir other. replies spir ∙ others (held.sa.spir == spir) id other;
      unanswered = λ spir other. ap (λ v. response_to (taken_id spir v) step.gives) takes.2.says.said;
    })
    (same ∙ sym (λ i. record held {
      nexts = five_of (λ c. after_number (used-receiving end.Cluster held.sa.spir c step takes.2.says.quiet i) (five_at held.nexts c));
      highs = held.highs;
      asked = outstanding_after false None ((replies held.sa.spir ∙ mine held id) i) held.asked;
      answered = with_taken (ap (λ v. response_to (taken_id held.sa.spir v) step.gives) takes.2.says.said i) held.answered;
    }))
  where
    replies : (spir : ℕ) → replied_in spir task.Receive step.verdict ≡ (if held.sa.spir == spir then Some id else None)
    replies spir = ap (replied_in spir task.Receive) takes.2.says.said ∙ own-number held counter.Ask spir id
