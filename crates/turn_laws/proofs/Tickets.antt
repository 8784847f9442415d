-- A turn in which a member says something of a ticket: its numbers get ready, and the calls are a lease or none.
use Rattle.std.proofs.Common.{◌≡◌, ℕ, ◌≤◌, Bool, true, false, Option, Some, None, MatchBool, MatchOption, List, [], ◌∷◌, ⊎_elim, sym, subst, arith}
use Rattle.std.proofs.lemmas.Bool.{cases_lt}
use Rattle.aes_gcm.specs.NamedKey.{NamedKey}
use Rattle.events.specs.declared.turn.Step.{Step}
use Rattle.events.specs.declared.verdict.Refusal.TheVariants as refusal
use Rattle.events.specs.declared.verdict.Verdict.TheVariants as out
use Rattle.ha_base.specs.declared.outside.Moment.{Moment}
use Rattle.ike_sas.specs.TicketMessages.{is_ticket_due}
use Rattle.ike_sas.specs.declared.ticket_messages.TicketAnswer.{TicketAnswer}
use Rattle.ike_sas.specs.declared.ticket_messages.TicketAnswer.TheVariants.{Declined, Issued}
use Rattle.keeper_book.specs.Told.{seen}
use Rattle.keeper_book.specs.declared.calls.Call.{Call}
use Rattle.keeper_book.specs.declared.calls.KeeperAnswer.{KeeperAnswer}
use Rattle.keeper_book.specs.declared.calls.KeeperAnswer.TheVariants as answer
use Rattle.keeper_book.specs.declared.faults.KeeperFault.{KeeperFault}
use Rattle.keeper_book.specs.declared.faults.KeeperFault.TheVariants as fault
use Rattle.keeper_book.specs.declared.pools.Pool.TheVariants as pools
use Rattle.keeper_book.specs.declared.records.Record.{Record}
use Rattle.pool_lots.specs.Lots.{Leased, Leases}
use Rattle.sk_payload.specs.declared.open.Opened.{Opened}
use Rattle.turn_laws.proofs.Covers.{IsLease}
use Rattle.turn_rules.specs.MemberStates.{MemberHeld}
use Rattle.turn_rules.specs.MemberTickets.{IssuesTicket, Tells, TellsIssued, TellsTicket, TellsWithout, config_of}
use Rattle.turn_rules.specs.Steps.{Says}

-- the next number is not above the end of the lot
abbrev pub HasLot : MemberHeld → Type 0
HasLot m = m.numbers.next ≤ m.numbers.end

-- what holds of the calls of such a turn
module _ (m : MemberHeld) (within : HasLot m) (now : Moment) (sa : Record) (request : Opened) (step : Step)
    (done : Option TicketAnswer → Type 0) (R : List Call → Type 0)
    (refused : Says (out.Refused refusal.KeeperFault) step → R [])
    (told : (ticket : Option TicketAnswer) → done ticket → R [])
    (leases : (call : Call) → IsLease call → R [] → R (call ∷ [])) where
  ended : {A : Type 0} (rest : List Call) → (A → R []) → (rest ≡ []) × A → R rest
  ended rest f so = subst R (sym so.0) (f so.1)

  without-calls : (why : KeeperFault) → (rest : List Call) → TellsWithout why rest step done → (rest ≡ []) × R []
  without-calls (fault.Full limit) rest so = (so.0, told (Some Declined) so.1)
  without-calls fault.Failed rest so = (so.0, refused so.1)
  without-calls fault.SpiInUse rest so = absurd so
  without-calls fault.Unknown rest so = absurd so
  without-calls (fault.Replaced epoch) rest so = absurd so
  without-calls fault.Spent rest so = absurd so
  without-calls fault.Closed rest so = absurd so
  without-calls fault.Memory rest so = absurd so

  issued-calls : (key : NamedKey) (number : ℕ) (rest : List Call) → IssuesTicket key (config_of m.given) now sa number rest done
      → (rest ≡ []) × R []
  issued-calls key number rest issues = (issues.no_more, told (Some (Issued (config_of m.given).lifetime issues.seal)) issues.does)

  leased-calls : (key : NamedKey) (calls : List Call) → Leases pools.Ticket m.numbers calls (λ why rest. TellsWithout why rest step done)
      (λ number lot rest. IssuesTicket key (config_of m.given) now sa number rest done) → R calls
  leased-calls key [] so = absurd so
  leased-calls key (call ∷ rest) so = by_answer (seen call) so.1
    where
      lease : IsLease call
      lease = record { pool = pools.Ticket; asked = so.0 }

      behind : (rest ≡ []) × R [] → R (call ∷ rest)
      behind more = subst (λ calls. R (call ∷ calls)) (sym more.0) (leases call lease more.1)

      by_answer : (answered : KeeperAnswer) → Leased answered (λ why. TellsWithout why rest step done) (λ first. IssuesTicket key
          (config_of m.given) now sa first rest done) → R (call ∷ rest)
      by_answer (answer.First first) issues = behind (issued-calls key first rest issues)
      by_answer (answer.Refused why) without = behind (without-calls why rest without)
      by_answer answer.Done none = absurd none
      by_answer (answer.Taken taken) none = absurd none
      by_answer (answer.Look spent) none = absurd none

  lot-calls : (key : NamedKey) (calls : List Call) → TellsIssued m now sa key calls step done → R calls
  lot-calls key calls ready = ⊎_elim
      (λ below. let issued = issued-calls key m.numbers.next calls (ready.left below) in subst R (sym issued.0) issued.1)
      (λ above. leased-calls key calls (ready.none_left (omega arith)))
      (cases_lt m.numbers.next m.numbers.end)

  pub tells-calls : (calls : List Call) → TellsTicket m now sa request calls step done → R calls
  tells-calls calls tells = by_due (is_ticket_due request) tells
    where
      by_key : (key : Option NamedKey) → MatchOption key (Tells (Some Declined) calls done) (λ key. TellsIssued m now sa key calls step
          done) → R calls
      by_key None tells = ended calls (told (Some Declined)) tells
      by_key (Some key) ready = lot-calls key calls ready

      by_due : (due : Bool) → MatchBool due (MatchOption (config_of m.given).ticket_key (Tells (Some Declined) calls done)
          (λ key. TellsIssued m now sa key calls step done)) (Tells None calls done) → R calls
      by_due true tells = by_key (config_of m.given).ticket_key tells
      by_due false tells = ended calls (told None) tells
