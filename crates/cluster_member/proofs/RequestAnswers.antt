-- A request is answered by the rule, once its numbers are ready and it is known what is said of a ticket.
use Rattle.std.proofs.Common.{◌≡◌, ◌≢◌, ℕ, ◌&&◌, Bool, true, false, MatchBool, MatchOption, IfSome, List, [], ◌++◌, Option, Some, None, is_none, Result, Ok, Err, refl, ap, sym, ◌∙◌, subst}
use Rattle.aes_gcm.specs.NamedKey.{NamedKey}
use Rattle.events.specs.declared.turn.Step.{Step}
use Rattle.events.specs.declared.verdict.Refusal.{Refusal}
use Rattle.events.specs.declared.verdict.Verdict.TheVariants as out
use Rattle.ha_base.specs.declared.identities.Identity.{Identity}
use Rattle.ha_base.specs.declared.outside.Moment.{Moment}
use Rattle.horizons.specs.Ready.{Ready}
use Rattle.horizons.specs.declared.stop.Stop.{Stop}
use Rattle.ike_sas.specs.Answers.{error_of}
use Rattle.ike_sas.specs.TicketMessages.{asks_ticket_inside, is_ticket_due}
use Rattle.ike_sas.specs.declared.answers.RequestError.{RequestError}
use Rattle.ike_sas.specs.declared.ticket_messages.TicketAnswer.{TicketAnswer}
use Rattle.ike_sas.specs.declared.ticket_messages.TicketAnswer.TheVariants.{Declined}
use Rattle.keeper_book.specs.Counters.{five_at}
use Rattle.keeper_book.specs.declared.calls.Call.{Call}
use Rattle.keeper_book.specs.declared.counters.Counter.TheVariants as counter
use Rattle.keeper_book.specs.declared.faults.KeeperFault.{KeeperFault}
use Rattle.keeper_book.specs.declared.faults.KeeperFault.TheVariants as fault
use Rattle.keeper_book.specs.declared.pools.Pool.TheVariants as pool
use Rattle.keeper_book.specs.declared.records.Record.{Record}
use Rattle.sk_payload.specs.declared.open.Opened.{Opened}
use Rattle.ticket_issuing.proofs.Draws.{lot-map}
use Rattle.ticket_issuing.specs.Issuing.{IsOfFirstKey, Issuing, TellsOf, member_issuing, number_told}
use Rattle.turn_rules.proofs.Readies.{ready-map}
use Rattle.turn_rules.specs.Configurations.{membership}
use Rattle.turn_rules.specs.Draws.{reach_of, refusal_of_stop}
use Rattle.turn_rules.specs.MemberMessages.{HeldAnswers}
use Rattle.turn_rules.specs.Held.{Held, five_of, greatest}
use Rattle.turn_rules.specs.MemberStates.{MemberHeld}
use Rattle.turn_rules.specs.MemberTickets.{IssuesTicket, Tells, TellsIssued, TellsTicket, TellsWithout, config_of}
use Rattle.turn_rules.specs.Steps.{RefusesThen, Says}
use Rattle.turn_rules.specs.Tasks as task
use Rattle.turn_rules.specs.TicketNumbers.{ticket_number}
use Rattle.cluster_member.proofs.Answers.{answered-advances, answered-by, ticket-said}
use Rattle.cluster_member.proofs.Covering.{AreCoversTo, then-advances}
use Rattle.cluster_member.proofs.ReadyAnswers.{readies-raised, readies-refused, readies-then, readies-unleased}
use Rattle.cluster_member.proofs.Requests.{raised-refused}
use Rattle.cluster_member.proofs.Unticketed.{numbers-then, unticketed-numbers}
use Rattle.cluster_member.specs.Answering.{AnswersHeld, AnswersReady, AnswersWith, ReadiesAnswer, answered_with}
use Rattle.cluster_member.specs.Members.{configuration_with}

-- ---- the same of a ticket in other words

module _ {P Q : Option TicketAnswer → Type 0} (onto : (ticket : Option TicketAnswer) → P ticket → Q ticket)
    (member : MemberHeld) (now : Moment) (sa : Record) (step : Step) where
  without-onto : (why : KeeperFault) (rest : List Call) → TellsWithout why rest step P → TellsWithout why rest step Q
  without-onto fault.Failed rest t = t
  without-onto (fault.Full limit) rest t = (t.0, onto _ t.1)
  without-onto (fault.Replaced epoch) rest t = absurd t
  without-onto fault.Unknown rest t = absurd t
  without-onto fault.Closed rest t = absurd t
  without-onto fault.Spent rest t = absurd t
  without-onto fault.SpiInUse rest t = absurd t
  without-onto fault.Memory rest t = absurd t

  issued-onto : (key : NamedKey) (calls : List Call) → TellsIssued member now sa key calls step P → TellsIssued member now sa key calls step Q
  issued-onto key calls = lot-map
      {P = λ why rest. TellsWithout why rest step P} {Q = λ why rest. TellsWithout why rest step Q}
      {G = λ number lot rest. IssuesTicket key (config_of member.given) now sa number rest P}
      {H = λ number lot rest. IssuesTicket key (config_of member.given) now sa number rest Q}
      without-onto
      (λ number lot rest t. record { no_more = t.no_more; seal = t.seal; sealed = t.sealed; does = onto _ t.does })
      pool.Ticket member.numbers calls

  keyed-onto : (key : Option NamedKey) (told : Option TicketAnswer) (calls : List Call)
      → MatchOption key (Tells told calls P) (λ k. TellsIssued member now sa k calls step P)
      → MatchOption key (Tells told calls Q) (λ k. TellsIssued member now sa k calls step Q)
  keyed-onto None told calls t = (t.0, onto told t.1)
  keyed-onto (Some key) told calls t = issued-onto key calls t

  abbrev Due : List Call → (Option TicketAnswer → Type 0) → Bool → Type 0
  Due calls done b = MatchBool b
      (MatchOption (config_of member.given).ticket_key (Tells (Some Declined) calls done) (λ k. TellsIssued member now sa k calls step done))
      (Tells None calls done)

  due-onto : (calls : List Call) (b : Bool) → Due calls P b → Due calls Q b
  due-onto calls true t = keyed-onto (config_of member.given).ticket_key (Some Declined) calls t
  due-onto calls false t = (t.0, onto None t.1)

  pub tells-onto : (request : Opened) (calls : List Call) → TellsTicket member now sa request calls step P → TellsTicket member now sa request calls step Q
  tells-onto request calls = due-onto calls (is_ticket_due request)

-- a request that asks for a ticket which is due is executed
due-good : (request : Opened) → is_ticket_due request ≡ true → error_of request ≡ None
due-good request due = go (error_of request) due
  where
    go : (error : Option RequestError) → (is_none error && asks_ticket_inside request.inner) ≡ true → error ≡ None
    go None is = refl
    go (Some error) is = absurd (cc)

-- ---- behind the calls that make the numbers ready

module _ (issuing left : Issuing) (now : Moment) (old new : Held) (request : Opened) (calls : List Call) (told : Result (Option TicketAnswer) Refusal)
    (tells : TellsOf issuing now old.sa request calls told left) (step : Step) where
  vain : AreCoversTo old calls old.highs
  vain = record {
    no_grant = tells.no_grant;
    elsewhere = λ spir other. tells.no_cover spir;
    here = λ i. five_of (λ c. greatest (five_at old.highs c) (tells.no_cover old.sa.spir c i));
  }

  abbrev Where : Bool → Type 0
  Where b = MatchBool b
      (MatchOption issuing.key (Tells (Some Declined) calls (λ t. told ≡ Ok t)) (λ key. TellsIssued (member_issuing issuing) now old.sa key calls step (λ t. told ≡ Ok t)))
      (Tells None calls (λ t. told ≡ Ok t))

  where-due : (ticket : Option TicketAnswer) → told ≡ Ok ticket → ticket ≢ None → (b : Bool) → is_ticket_due request ≡ b → Where b → is_ticket_due request ≡ true
  where-due ticket is some true due t = due
  where-due ticket is some false due t = let same : ticket ≡ None = no_ticket ticket is t.1 in absurd (some same)
    where
      no_ticket : (ticket : Option TicketAnswer) → told ≡ Ok ticket → told ≡ Ok None → ticket ≡ None
      no_ticket ticket is other = cc

  -- a ticket is said only where it is due
  said-due : (ticket : Option TicketAnswer) → told ≡ Ok ticket → ticket ≢ None → error_of request ≡ None
  said-due ticket is some = due-good request (where-due ticket is some (is_ticket_due request) refl (tells.follows step (λ why no. absurd (cc))))

  same_ticket : (ticket other : Option TicketAnswer) → told ≡ Ok ticket → told ≡ Ok other → ticket ≡ other
  same_ticket ticket other is gives = cc

  pub ready-answered : (ticket : Option TicketAnswer) → told ≡ Ok ticket → IfSome ticket IsOfFirstKey → AnswersHeld old request step ticket
      → new ≡ answered_with request.header.id step old → AnswersReady issuing now old request calls step left new
  ready-answered ticket is named answers after = record {
    tells = tells-onto {Q = AnswersHeld old request step} (λ t gives. subst (AnswersHeld old request step) (same_ticket ticket t is gives) answers) (member_issuing issuing) now old.sa step request calls
        (tells.follows step (λ why no. absurd (cc)));
    advances = answered-advances old new request.header.id step (answered-by old request ticket step named (error_of request) answers) calls vain after;
    issues = tells.left step (ticket-said old request ticket step (said-due ticket is) answers ∙ ap number_told (sym is));
  }

  pub ready-refused : (why : Refusal) → told ≡ Err why → Says (out.Refused why) step → new ≡ old → AnswersReady issuing now old request calls step left new
  ready-refused why is says same = record {
    tells = tells-onto {Q = AnswersHeld old request step} (λ t gives. absurd (no_told t gives)) (member_issuing issuing) now old.sa step request calls
        (tells.follows step (λ other no. let one : why ≡ other = cc in subst (λ w. Says (out.Refused w) step) one says));
    advances = raised-refused task.Receive calls step old new old.highs why vain says same;
    issues = tells.left step (ap ticket_number says.said ∙ ap number_told (sym is));
  }
    where
      no_told : (ticket : Option TicketAnswer) → told ≡ Ok ticket → ⊥
      no_told ticket gives = cc

-- where a ticket is told, it was due
pub told-due : (issuing left : Issuing) (now : Moment) (sa : Record) (request : Opened) (calls : List Call) (told : Result (Option TicketAnswer) Refusal)
    → TellsOf issuing now sa request calls told left → (P : Type 0) → (is_ticket_due request ≡ true → P) → (ticket : Option TicketAnswer) → told ≡ Ok ticket → IfSome ticket (λ _. P)
told-due issuing left now sa request calls told tells P fits None is = tt
told-due issuing left now sa request calls told tells P fits (Some ticket) is = fits (go (is_ticket_due request) refl
    (tells.follows (record { verdict = out.Configured; served = None; seals = []; gives = None }) (λ why other. absurd (no_refusal why other))))
  where
    no_refusal : (why : Refusal) → told ≡ Err why → ⊥
    no_refusal why other = cc

    no_ticket : told ≡ Ok None → ⊥
    no_ticket none = cc

    go : (b : Bool) → is_ticket_due request ≡ b → MatchBool b
        (MatchOption issuing.key (Tells (Some Declined) calls (λ t. told ≡ Ok t))
        (λ key. TellsIssued (member_issuing issuing) now sa key calls (record { verdict = out.Configured; served = None; seals = []; gives = None }) (λ t. told ≡ Ok t)))
        (Tells None calls (λ t. told ≡ Ok t)) → is_ticket_due request ≡ true
    go true due t = due
    go false due t = absurd (no_ticket t.1)

-- ---- a request

module _ (issuing : Issuing) (now : Moment) (old mid : Held) (request : Opened) (xs : List Call) (result : Result (Unit {0}) Stop)
    (readies : ReadiesAnswer old request.header.id xs result mid) (step : Step) where
  pub answers-ready : (left : Issuing) (new : Held) (ys : List Call) → result ≡ Ok tt → AnswersReady issuing now mid request ys step left new
      → AnswersWith issuing now old request (xs ++ ys) step left new
  answers-ready left new ys is it =
      let raised = readies-raised old mid request.header.id xs result readies in
      let here : AnswersReady issuing now (record old { highs = raised.highs }) request ys step left new =
      subst (λ (h : Held). AnswersReady issuing now h request ys step left new) raised.after it in
      record {
        answers = readies-then old mid request.header.id xs result readies step
            (λ rest. TellsTicket (member_issuing issuing) now old.sa request rest step (AnswersHeld old request step)) ys is here.tells;
        advances = then-advances old xs ys raised.highs raised.covers task.Receive step new here.advances;
        issues = here.issues
            ∙ (λ i. record issuing { numbers = sym (numbers-then xs ys step issuing.numbers (readies-unleased old mid request.header.id xs result readies)) i });
      }

  pub answers-stopped : (why : Stop) → result ≡ Err why → Says (out.Refused (refusal_of_stop why)) step → AnswersWith issuing now old request xs step issuing mid
  answers-stopped why is says =
      let raised = readies-raised old mid request.header.id xs result readies in
      record {
        answers = readies-refused old mid request.header.id xs result readies step
            (λ rest. TellsTicket (member_issuing issuing) now old.sa request rest step (AnswersHeld old request step)) why is says;
        advances = raised-refused task.Receive xs step old mid raised.highs (refusal_of_stop why) raised.covers says raised.after;
        issues = λ i. record issuing {
          numbers = unticketed-numbers xs step issuing.numbers (record {
            unleased = readies-unleased old mid request.header.id xs result readies;
            unused = ap ticket_number says.said;
          }) i;
        };
      }

-- ---- a member with what tickets are issued with

module _ (issuing : Issuing) (identity : Identity) (window : ℕ) (fresh : List ℕ) (holds : ℕ → Option Held) (now : Moment) (step : Step) where
  abbrev member : MemberHeld
  member = record { given = Some (membership (configuration_with identity window issuing) fresh); held = holds; numbers = issuing.numbers }

  module _ (done : Option TicketAnswer → Type 0) (sa : Record) (calls : List Call) where
    keyed-as : (key : Option NamedKey)
        → MatchOption key (Tells (Some Declined) calls done) (λ k. TellsIssued (member_issuing issuing) now sa k calls step done)
        → MatchOption key (Tells (Some Declined) calls done) (λ k. TellsIssued member now sa k calls step done)
    keyed-as None t = t
    keyed-as (Some key) t = lot-map
        {P = λ why rest. TellsWithout why rest step done} {Q = λ why rest. TellsWithout why rest step done}
        {G = λ number lot rest. IssuesTicket key (config_of (member_issuing issuing).given) now sa number rest done}
        {H = λ number lot rest. IssuesTicket key (configuration_with identity window issuing) now sa number rest done}
        (λ why rest t. t)
        (λ number lot rest t. record { no_more = t.no_more; seal = t.seal; sealed = t.sealed; does = t.does })
        pool.Ticket issuing.numbers calls t

    abbrev DueTo : MemberHeld → Bool → Type 0
    DueTo m b = MatchBool b
        (MatchOption issuing.key (Tells (Some Declined) calls done) (λ k. TellsIssued m now sa k calls step done))
        (Tells None calls done)

    due-as : (b : Bool) → DueTo (member_issuing issuing) b → DueTo member b
    due-as true t = keyed-as issuing.key t
    due-as false t = t

    tells-as : (request : Opened) → TellsTicket (member_issuing issuing) now sa request calls step done → TellsTicket member now sa request calls step done
    tells-as request = due-as (is_ticket_due request)

  -- a request is answered by the rule of the member
  answers-as : (held : Held) (request : Opened) (calls : List Call) → HeldAnswers (member_issuing issuing) now held request calls step
      → HeldAnswers member now held request calls step
  answers-as held request calls = ready-map
      {P = λ why rest. RefusesThen (refusal_of_stop why) rest step}
      {G = λ high rest. Ready (reach_of held counter.Iv) held.nexts.iv rest (λ why rest. RefusesThen (refusal_of_stop why) rest step)
      (λ above rest. TellsTicket (member_issuing issuing) now held.sa request rest step (AnswersHeld held request step))}
      (λ why rest s. s)
      (λ high rest r. ready-map
      {P = λ why rest. RefusesThen (refusal_of_stop why) rest step}
      {G = λ above rest. TellsTicket (member_issuing issuing) now held.sa request rest step (AnswersHeld held request step)}
      (λ why rest s. s)
      (λ above rest t. tells-as (AnswersHeld held request step) held.sa rest request t)
      (reach_of held counter.Iv) held.nexts.iv rest r)
      (reach_of held counter.Answer) request.header.id calls

  pub answers-where : (x : Option Held) (request : Opened) (calls : List Call)
      → MatchOption x ⊥ (λ held. HeldAnswers (member_issuing issuing) now held request calls step) → MatchOption x ⊥ (λ held. HeldAnswers member now held request calls step)
  answers-where None request calls t = t
  answers-where (Some held) request calls t = answers-as held request calls t
