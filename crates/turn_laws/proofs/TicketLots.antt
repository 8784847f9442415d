-- The number of a ticket that a member issues is the next one of its lot, or the first of a range that it leases.
use Rattle.std.proofs.Common.{◌≡◌, ℕ, ◌<◌, ◌≤◌, ◌⊎◌, inl, inr, Bool, true, false, unwrap_or, Option, Some, None, MatchBool, MatchOption, List, [], ◌∷◌, ⊎_elim, refl, ap, sym, ◌∙◌, subst, arith}
use Rattle.std.specs.Prelude.{is_none}
use Rattle.std.proofs.lemmas.Bool.{and_parts, cases_lt}
use Rattle.aes_gcm.specs.NamedKey.{NamedKey}
use Rattle.events.specs.declared.event.Event.{Event}
use Rattle.events.specs.declared.turn.Step.{Step}
use Rattle.events.specs.declared.turn.Turn.{Turn}
use Rattle.events.specs.declared.verdict.Refusal.TheVariants as refusal
use Rattle.events.specs.declared.verdict.Verdict.TheVariants as out
use Rattle.ha_base.specs.declared.outside.Moment.{Moment}
use Rattle.ike_sas.specs.Answers.{error_of}
use Rattle.ike_sas.specs.TicketMessages.{asks_ticket_inside, is_ticket_due}
use Rattle.ike_sas.specs.declared.ticket_messages.TicketAnswer.{TicketAnswer}
use Rattle.ike_sas.specs.declared.ticket_messages.TicketAnswer.TheVariants.{Declined, Issued}
use Rattle.keeper_book.specs.Told.{seen}
use Rattle.keeper_book.specs.declared.calls.Call.{Call}
use Rattle.keeper_book.specs.declared.calls.KeeperAnswer.{KeeperAnswer}
use Rattle.keeper_book.specs.declared.calls.KeeperAnswer.TheVariants as answer
use Rattle.keeper_book.specs.declared.faults.KeeperFault.{KeeperFault}
use Rattle.keeper_book.specs.declared.faults.KeeperFault.TheVariants as fault
use Rattle.keeper_book.specs.declared.pools.Pool.TheVariants as pools
use Rattle.keeper_book.specs.declared.records.Record.{Record}
use Rattle.pool_lots.specs.Lots as lots
use Rattle.sk_payload.specs.declared.open.Opened.{Opened}
use Rattle.spend_once.specs.Lot.{Remaining}
use Rattle.turn_laws.proofs.Deeds.{AreTicketsTold, InVain, IsLotReady, Leased, Left, LotNeed, LotReady, Rests, UsesIt, lots_of, says-rests, with_lot}
use Rattle.turn_laws.proofs.Pairs.{IsForExecuted, IsOfFirstKey, number_in, ticketed}
use Rattle.turn_laws.proofs.Uses.{Spent, spent_of}
use Rattle.turn_laws.specs.Holdings.{Holding}
use Rattle.turn_laws.specs.OwnTurns.{left_of_lot}
use Rattle.turn_laws.specs.Places.{Pooled}
use Rattle.turn_rules.specs.Configurations.{first_ticket_counter}
use Rattle.turn_rules.specs.Ends.{Member, own}
use Rattle.turn_rules.specs.MemberStates.{MemberHeld}
use Rattle.turn_rules.specs.MemberTickets.{IssuesTicket, Tells, TellsIssued, TellsTicket, TellsWithout, config_of}
use Rattle.turn_rules.specs.TicketNumbers.{no_ticket_numbers, numbers_by, ticket_number}

-- a request for which a ticket is due is executed
due-executed : (request : Opened) (ticket : Option TicketAnswer) → is_ticket_due request ≡ true → IsForExecuted request ticket
due-executed request ticket due error is =
    let none : is_none (error_of request) ≡ true = (and_parts (is_none (error_of request)) (asks_ticket_inside request.inner) due).0 in
    let some : is_none (error_of request) ≡ false = ap is_none is in
    absurd (cc)

module _ (past : List Turn) (member : ℕ) (told : AreTicketsTold past member) (m : MemberHeld)
    (numbers : m.numbers ≡ numbers_by (own (Member member) past))
    (first_key : (key : NamedKey) → (config_of m.given).ticket_key ≡ Some key → key.name ≡ first_ticket_counter)
    (now : Moment) (sa : Record) (request : Opened) (event : Event) (step : Step) (needed : List Spent)
    (done : Option TicketAnswer → Type 0)
    (uses : (ticket : Option TicketAnswer) → IsOfFirstKey ticket → IsForExecuted request ticket → done ticket
    → UsesIt (ticketed (number_in ticket) needed) event step)
    (said : (ticket : Option TicketAnswer) → IsOfFirstKey ticket → IsForExecuted request ticket → done ticket
    → ticket_number step.verdict ≡ number_in ticket) where
  abbrev number : ℕ
  number = unwrap_or (ticket_number step.verdict) 0

  abbrev need : LotNeed
  need = record { pool = pools.Ticket; number = number }

  abbrev Without : Type 0
  Without = Rests step ⊎ UsesIt needed event step

  abbrev With : Type 0
  With = UsesIt (spent_of (Pooled pools.Ticket) number ∷ needed) event step

  abbrev lot : Option Holding
  lot = lots_of past member pools.Ticket

  left : m.numbers ≡ left_of_lot lot
  left = numbers ∙ told.left

  within : m.numbers.next ≤ m.numbers.end
  within = subst (λ (r : Remaining). r.next ≤ r.end) (sym numbers) told.within

  -- a ticket that is issued has the number
  record IsIssued (n : ℕ) (rest : List Call) : Type 0 where
    ended : rest ≡ []
    is : number ≡ n
    used : With

  issued : is_ticket_due request ≡ true → (key : NamedKey) → (config_of m.given).ticket_key ≡ Some key → (n : ℕ) (rest : List Call)
      → IssuesTicket key (config_of m.given) now sa n rest done → IsIssued n rest
  issued due key has n rest issues = record {
    ended = issues.no_more;
    is = of_seal ∙ issues.sealed.iv_is;
    used = subst (λ k. UsesIt (spent_of (Pooled pools.Ticket) k ∷ needed) event step) (sym of_seal)
        (uses ticket first executed issues.does);
  }
    where
      ticket : Option TicketAnswer
      ticket = Some (Issued (config_of m.given).lifetime issues.seal)

      first : IsOfFirstKey ticket
      first = issues.sealed.named ∙ first_key key has

      executed : IsForExecuted request ticket
      executed = due-executed request ticket due

      of_seal : number ≡ issues.seal.iv
      of_seal = ap (λ x. unwrap_or x 0) (said ticket first executed issues.does)

  -- where no range was leased, the turn ends, or goes on without a ticket
  without : is_ticket_due request ≡ true → (why : KeeperFault) (rest : List Call) → TellsWithout why rest step done → (rest ≡ []) × Without
  without due (fault.Full limit) rest so = (so.0, inr (uses (Some Declined) tt (due-executed request (Some Declined) due) so.1))
  without due fault.Failed rest so = (so.0, inl (says-rests step (out.Refused refusal.KeeperFault) tt so.1))
  without due fault.SpiInUse rest so = absurd so
  without due fault.Unknown rest so = absurd so
  without due (fault.Replaced epoch) rest so = absurd so
  without due fault.Spent rest so = absurd so
  without due fault.Closed rest so = absurd so
  without due fault.Memory rest so = absurd so

  module _ (due : is_ticket_due request ≡ true) (key : NamedKey) (has : (config_of m.given).ticket_key ≡ Some key) where
    abbrev Stops : KeeperFault → List Call → Type 0
    Stops why rest = TellsWithout why rest step done

    abbrev Goes : ℕ → Remaining → List Call → Type 0
    Goes n then_ rest = IssuesTicket key (config_of m.given) now sa n rest done

    by-leasing : (calls : List Call) → lots.Leases pools.Ticket m.numbers calls Stops Goes → LotReady lot need calls Without With
    by-leasing [] so = absurd so
    by-leasing (call ∷ rest) so = by_answer (seen call) refl so.1
      where
        by_answer : (answered : KeeperAnswer) → seen call ≡ answered → lots.Leased answered (λ why. Stops why rest) (λ n. IssuesTicket key
            (config_of m.given) now sa n rest done) → LotReady lot need (call ∷ rest) Without With
        by_answer (answer.First n) sees issues =
            let it = issued due key has n rest issues in
            Leased call (ap (λ calls. call ∷ calls) it.ended) so.0 (sees ∙ ap answer.First (sym it.is)) it.used
        by_answer (answer.Refused why) sees stops =
            let it = without due why rest stops in
            InVain call why (ap (λ calls. call ∷ calls) it.0) so.0 sees it.1
        by_answer answer.Done sees none = absurd none
        by_answer (answer.Taken taken) sees none = absurd none
        by_answer (answer.Look spent) sees none = absurd none

    next-left : m.numbers.next < m.numbers.end → (calls : List Call) → IsIssued m.numbers.next calls → LotReady lot need calls Without With
    next-left below calls it = by_lot lot refl
      where
        by_lot : (x : Option Holding) → lot ≡ x → LotReady lot need calls Without With
        by_lot None e =
            let none : m.numbers ≡ no_ticket_numbers = left ∙ ap left_of_lot e in
            let next : m.numbers.next ≡ 1 = ap (λ (r : Remaining). r.next) none in
            let end : m.numbers.end ≡ 1 = ap (λ (r : Remaining). r.end) none in
            absurd (omega (arith, below, next, end))
        by_lot (Some h) e =
            let is : m.numbers ≡ left_of_lot (Some h) = left ∙ ap left_of_lot e in
            let next : m.numbers.next ≡ h.next = ap (λ (r : Remaining). r.next) is in
            let end : m.numbers.end ≡ h.high = ap (λ (r : Remaining). r.end) is in
            Left h e (omega (arith, below, next, end)) (it.is ∙ next) it.ended it.used

    is-ready : (calls : List Call) → TellsIssued m now sa key calls step done → LotReady lot need calls Without With
    is-ready calls ready = ⊎_elim
        (λ below. next-left below calls (issued due key has m.numbers.next calls (ready.left below)))
        (λ above. by-leasing calls (ready.none_left (let low : m.numbers.next ≤ m.numbers.end = within in omega arith)))
        (cases_lt m.numbers.next m.numbers.end)

  -- a number is needed where a ticket is due, and there is a key
  abbrev lot_for : Bool → Option NamedKey → Option LotNeed
  lot_for true (Some key) = Some need
  lot_for true None = None
  lot_for false key = None

  abbrev pub ticket_need : Option LotNeed
  ticket_need = lot_for (is_ticket_due request) (config_of m.given).ticket_key

  pub tells-ready : (calls : List Call) → TellsTicket m now sa request calls step done
      → IsLotReady ticket_need (lots_of past member) calls Without (UsesIt (with_lot ticket_need needed) event step)
  tells-ready calls tells = by_due (is_ticket_due request) refl tells
    where
      by_key : is_ticket_due request ≡ true → (key : Option NamedKey) → (config_of m.given).ticket_key ≡ key
          → MatchOption key (Tells (Some Declined) calls done) (λ key. TellsIssued m now sa key calls step done)
          → IsLotReady (lot_for true key) (lots_of past member) calls Without (UsesIt (with_lot (lot_for true key) needed) event step)
      by_key due None has tells = record {
        ended = tells.0;
        is = uses (Some Declined) tt (due-executed request (Some Declined) due) tells.1;
      }
      by_key due (Some key) has ready = is-ready due key has calls ready

      by_due : (due : Bool) → is_ticket_due request ≡ due → MatchBool due (MatchOption (config_of m.given).ticket_key
          (Tells (Some Declined) calls done) (λ key. TellsIssued m now sa key calls step done)) (Tells None calls done)
          → IsLotReady (lot_for due (config_of m.given).ticket_key) (lots_of past member) calls Without
          (UsesIt (with_lot (lot_for due (config_of m.given).ticket_key) needed) event step)
      by_due true due tells = by_key due (config_of m.given).ticket_key refl tells
      by_due false due tells = record { ended = tells.0; is = uses None tt (λ error is. refl) tells.1 }
