-- What a member says of a ticket, by what it drew.
use Rattle.std.proofs.Common.{◌≡◌, ℕ, ◌+◌, ◌≤◌, true, false, Bool, MatchBool, MatchOption, IsSome, List, [], ◌∷◌, Option, Some, None, Result, Ok, Err, refl, ap, sym, subst, ◌∙◌}
use Rattle.aes_gcm.specs.NamedKey.{NamedKey}
use Rattle.events.specs.declared.turn.Step.{Step}
use Rattle.events.specs.declared.verdict.Refusal.{Refusal}
use Rattle.events.specs.declared.verdict.Refusal.TheVariants as refusal
use Rattle.ha_base.specs.declared.outside.Moment.{Moment}
use Rattle.ike_sas.specs.TicketMessages.{is_ticket_due}
use Rattle.ike_sas.specs.declared.ticket_messages.TicketAnswer.{TicketAnswer}
use Rattle.ike_sas.specs.declared.ticket_messages.TicketAnswer.TheVariants.{Declined}
use Rattle.keeper_book.specs.Told.{seen}
use Rattle.keeper_book.specs.declared.calls.Call.{Call}
use Rattle.keeper_book.specs.declared.calls.KeeperAnswer.TheVariants as answer
use Rattle.keeper_book.specs.declared.calls.KeeperAsk.TheVariants as ask
use Rattle.keeper_book.specs.declared.faults.KeeperFault.{KeeperFault}
use Rattle.keeper_book.specs.declared.faults.KeeperFault.TheVariants as fault
use Rattle.keeper_book.specs.declared.pools.Pool.TheVariants as pool
use Rattle.keeper_book.specs.declared.records.Record.{Record}
use Rattle.pool_lots.specs.Lots.{DrawsPooled, LeavesLot}
use Rattle.pool_lots.specs.declared.lots.TheConstants.{LEASED_NUMBERS}
use Rattle.sk_payload.specs.declared.open.Opened.{Opened}
use Rattle.spend_once.specs.Lot.{Drawn, Remaining}
use Rattle.turn_rules.specs.Held.{covers_in, first_some, grant_in}
use Rattle.turn_rules.specs.MemberTickets.{SealsTicket, Tells, TellsIssued, TellsWithout, content_of}
use Rattle.turn_rules.specs.TicketNumbers.{after_lease, after_ticket, first_leased, lease_in, numbers_after, ticket_number}
use Rattle.ticket_issuing.proofs.Draws.{draw-elim, lease-covers, lease-grants, lot-map}
use Rattle.ticket_issuing.specs.Issuing.{IsRefusedAs, IsRoomFor, Issues, Issuing, TellsDue, TellsNoNumber, TellsOf, configuration_for, issuing_after, member_issuing, number_told}

abbrev Told : Type 0
Told = Result (Option TicketAnswer) Refusal

-- ---- the numbers that are left

left-none : (n : Option ℕ) (lot : Remaining) → n ≡ None → after_ticket n lot ≡ lot
left-none n lot none = ap (λ m. after_ticket m lot) none

left-one : (n : Option ℕ) (lot : Remaining) (number : ℕ) → n ≡ Some number → after_ticket n lot ≡ record lot { next = number + 1 }
left-one n lot number one = ap (λ m. after_ticket m lot) one

-- the range that one call leased
lease-one : (call : Call) (n : ℕ) → call.asked ≡ ask.Lease pool.Ticket LEASED_NUMBERS → seen call ≡ answer.First n → lease_in (call ∷ []) ≡ Some n
lease-one call n asked sees = ap (λ a. first_some (first_leased a (seen call)) None) asked
    ∙ ap (λ s. first_some (first_leased (ask.Lease pool.Ticket LEASED_NUMBERS) s) None) sees

lease-none : (call : Call) (why : KeeperFault) → call.asked ≡ ask.Lease pool.Ticket LEASED_NUMBERS → seen call ≡ answer.Refused why → lease_in (call ∷ []) ≡ None
lease-none call why asked sees = ap (λ a. first_some (first_leased a (seen call)) None) asked
    ∙ ap (λ s. first_some (first_leased (ask.Lease pool.Ticket LEASED_NUMBERS) s) None) sees

-- a ticket of the number that was drawn leaves the lot so, and so does none where none was drawn
drawn-left : (old new : Remaining) (calls : List Call) (drawn : Result Drawn KeeperFault) → old.next ≤ old.end → DrawsPooled pool.Ticket old calls drawn new
    → (step : Step) → ((number : Drawn) → drawn ≡ Ok number → ticket_number step.verdict ≡ Some number.value)
    → ((why : KeeperFault) → drawn ≡ Err why → ticket_number step.verdict ≡ None) → new ≡ numbers_after calls step old
drawn-left old new calls drawn ordered draws step given refused = draw-elim pool.Ticket old new calls drawn
    (λ none is after. after ∙ sym (left-one (ticket_number step.verdict) (after_lease (lease_in calls) old) old.next (given _ is)
    ∙ ap (λ cs. record (after_lease (lease_in cs) old) { next = old.next + 1 }) none))
    (λ call n called asked sees is after. after ∙ sym (left-one (ticket_number step.verdict) (after_lease (lease_in calls) old) n (given _ is)
    ∙ ap (λ l. record (after_lease l old) { next = n + 1 }) (ap lease_in called ∙ lease-one call n asked sees)))
    (λ call why called asked sees is after. after ∙ sym (left-none (ticket_number step.verdict) (after_lease (lease_in calls) old) (refused why is)
    ∙ ap (λ l. after_lease l old) (ap lease_in called ∙ lease-none call why asked sees)))
    ordered draws

drawn-grants : (old new : Remaining) (calls : List Call) (drawn : Result Drawn KeeperFault) → old.next ≤ old.end → DrawsPooled pool.Ticket old calls drawn new
    → (spir : ℕ) → grant_in spir calls ≡ None
drawn-grants old new calls drawn ordered draws spir = draw-elim pool.Ticket old new calls drawn
    (λ none is after. ap (grant_in spir) none)
    (λ call n called asked sees is after. ap (grant_in spir) called ∙ lease-grants call pool.Ticket LEASED_NUMBERS asked spir)
    (λ call why called asked sees is after. ap (grant_in spir) called ∙ lease-grants call pool.Ticket LEASED_NUMBERS asked spir)
    ordered draws

drawn-covers : (old new : Remaining) (calls : List Call) (drawn : Result Drawn KeeperFault) → old.next ≤ old.end → DrawsPooled pool.Ticket old calls drawn new
    → (spir : ℕ) (c : _) → covers_in spir c calls ≡ []
drawn-covers old new calls drawn ordered draws spir c = draw-elim pool.Ticket old new calls drawn
    (λ none is after. ap (covers_in spir c) none)
    (λ call n called asked sees is after. ap (covers_in spir c) called ∙ lease-covers call pool.Ticket LEASED_NUMBERS asked spir c)
    (λ call why called asked sees is after. ap (covers_in spir c) called ∙ lease-covers call pool.Ticket LEASED_NUMBERS asked spir c)
    ordered draws

-- ---- a ticket that is due

module _ (old : Issuing) (now : Moment) (sa : Record) (calls : List Call) (result : Told) (new : Issuing) where
  -- without a key there is none
  pub due-without-key : old.key ≡ None → calls ≡ [] → result ≡ Ok (Some Declined) → new ≡ old → TellsDue old now sa calls result new
  due-without-key none quiet is same = record {
    follows = λ step refused. subst (λ k. MatchOption k (Tells (Some Declined) calls (λ t. result ≡ Ok t)) (λ key. TellsIssued (member_issuing old) now sa key calls step (λ t. result ≡ Ok t)))
        (sym none) (quiet, is);
    no_grant = λ spir. ap (grant_in spir) quiet;
    no_cover = λ spir c. ap (covers_in spir c) quiet;
    left = λ step said. same ∙ sym (ap (λ cs. issuing_after cs step old) quiet
        ∙ (λ i. record old { numbers = left-none (ticket_number step.verdict) old.numbers (said ∙ ap number_told is) i }));
  }

  module _ (key : NamedKey) (has : old.key ≡ Some key) (ordered : old.numbers.next ≤ old.numbers.end) (drawn : Result Drawn KeeperFault)
      (draws : DrawsPooled pool.Ticket old.numbers calls drawn new.numbers) (same : new ≡ record old { numbers = new.numbers }) where
    abbrev Rule : Step → Option NamedKey → Type 0
    Rule step k = MatchOption k (Tells (Some Declined) calls (λ t. result ≡ Ok t)) (λ key. TellsIssued (member_issuing old) now sa key calls step (λ t. result ≡ Ok t))

    tells : ((step : Step) → IsRefusedAs result step → TellsIssued (member_issuing old) now sa key calls step (λ t. result ≡ Ok t))
        → ((step : Step) → ticket_number step.verdict ≡ number_told result → new.numbers ≡ numbers_after calls step old.numbers) → TellsDue old now sa calls result new
    tells follows left = record {
      follows = λ step refused. subst (Rule step) (sym has) (follows step refused);
      no_grant = drawn-grants old.numbers new.numbers calls drawn ordered draws;
      no_cover = drawn-covers old.numbers new.numbers calls drawn ordered draws;
      left = λ step said. same ∙ (λ i. record old { numbers = left step said i });
    }

    -- the ticket of the number that was drawn
    pub due-issued : (number : Drawn) (told : TicketAnswer) → drawn ≡ Ok number → result ≡ Ok (Some told) → Issues key old.lifetime now sa number.value told → TellsDue old now sa calls result new
    due-issued number told is gives issues = tells
        (λ step refused. lot-map
        {P = λ why rest. LeavesLot rest drawn (Err why) new.numbers old.numbers}
        {G = λ n lot rest. LeavesLot rest drawn (Ok (record { name = old.numbers.name; value = n })) new.numbers lot}
        (λ why rest l. absurd (no_error number why is l.answered))
        (λ n lot rest l. record {
          no_more = l.no_more;
          seal = issues.seal;
          sealed = subst (λ m. SealsTicket key m (content_of (configuration_for old.lifetime) now sa) issues.seal) (value_is number n is l.answered) issues.sealed;
          does = gives ∙ ap (λ t. Ok (Some t)) issues.is;
        })
        pool.Ticket old.numbers calls draws)
        (λ step said. drawn-left old.numbers new.numbers calls drawn ordered draws step
        (λ other given. said ∙ ap number_told (gives ∙ ap (λ t. Ok (Some t)) issues.is) ∙ ap Some (issues.sealed.iv_is ∙ same_value number other is given))
        (λ why refuses. absurd (no_error number why is refuses)))
      where
        no_error : (number : Drawn) (why : KeeperFault) → drawn ≡ Ok number → drawn ≡ Err why → ⊥
        no_error number why is other = cc

        same_value : (number other : Drawn) → drawn ≡ Ok number → drawn ≡ Ok other → number.value ≡ other.value
        same_value number other is given = let same : number ≡ other = cc in ap (λ (n : Drawn). n.value) same

        value_is : (number : Drawn) (n : ℕ) → drawn ≡ Ok number → drawn ≡ Ok (record { name = old.numbers.name; value = n }) → number.value ≡ n
        value_is number n is given = same_value number (record { name = old.numbers.name; value = n }) is given

    no_number : (number : Drawn) (why : KeeperFault) → drawn ≡ Err why → drawn ≡ Ok number → ⊥
    no_number number why is other = cc

    same_fault : (why other : KeeperFault) → drawn ≡ Err why → drawn ≡ Err other → why ≡ other
    same_fault why other is given = cc

    -- no number was drawn
    without : (why : KeeperFault) → drawn ≡ Err why → number_told result ≡ None
        → ((step : Step) (rest : List Call) → IsRefusedAs result step → rest ≡ [] → TellsWithout why rest step (λ t. result ≡ Ok t)) → TellsDue old now sa calls result new
    without why is none says = tells
        (λ step refused. lot-map
        {P = λ why rest. LeavesLot rest drawn (Err why) new.numbers old.numbers}
        {G = λ n lot rest. LeavesLot rest drawn (Ok (record { name = old.numbers.name; value = n })) new.numbers lot}
        (λ other rest l. subst (λ w. TellsWithout w rest step (λ t. result ≡ Ok t)) (same_fault why other is l.answered) (says step rest refused l.no_more))
        (λ n lot rest l. absurd (no_number (record { name = old.numbers.name; value = n }) why is l.answered))
        pool.Ticket old.numbers calls draws)
        (λ step said. drawn-left old.numbers new.numbers calls drawn ordered draws step
        (λ number given. absurd (no_number number why is given))
        (λ other refuses. said ∙ none))

    -- the pool is used up, or a keeper's call failed
    pub due-without : (why : KeeperFault) → drawn ≡ Err why → TellsNoNumber why result → TellsDue old now sa calls result new
    due-without fault.Failed is gives = without fault.Failed is (ap number_told gives) (λ step rest refused none. (none, refused refusal.KeeperFault gives))
    due-without (fault.Full limit) is gives = without (fault.Full limit) is (ap number_told gives) (λ step rest refused none. (none, gives))
    due-without (fault.Replaced epoch) is gives = absurd gives
    due-without fault.Unknown is gives = absurd gives
    due-without fault.Closed is gives = absurd gives
    due-without fault.Spent is gives = absurd gives
    due-without fault.SpiInUse is gives = absurd gives
    due-without fault.Memory is gives = absurd gives

-- ---- a ticket that may be due

module _ (old : Issuing) (now : Moment) (sa : Record) (request : Opened) (calls : List Call) (result : Told) (new : Issuing) where
  abbrev Where : Step → Bool → Type 0
  Where step due = MatchBool due
      (MatchOption old.key (Tells (Some Declined) calls (λ t. result ≡ Ok t)) (λ key. TellsIssued (member_issuing old) now sa key calls step (λ t. result ≡ Ok t)))
      (Tells None calls (λ t. result ≡ Ok t))

  pub tells-due : is_ticket_due request ≡ true → TellsDue old now sa calls result new → TellsOf old now sa request calls result new
  tells-due due tells = record {
    follows = λ step refused. subst (Where step) (sym due) (tells.follows step refused);
    no_grant = tells.no_grant;
    no_cover = tells.no_cover;
    left = tells.left;
  }

  -- nothing is said where none is due
  pub tells-nothing : is_ticket_due request ≡ false → calls ≡ [] → result ≡ Ok None → new ≡ old → TellsOf old now sa request calls result new
  tells-nothing due quiet is same = record {
    follows = λ step refused. subst (Where step) (sym due) (quiet, is);
    no_grant = λ spir. ap (grant_in spir) quiet;
    no_cover = λ spir c. ap (covers_in spir c) quiet;
    left = λ step said. same ∙ sym (ap (λ cs. issuing_after cs step old) quiet
        ∙ (λ i. record old { numbers = left-none (ticket_number step.verdict) old.numbers (said ∙ ap number_told is) i }));
  }

-- there is no key where there is no room for a ticket that is due
pub no-key : (key : Option NamedKey) (request : Opened) (room : Option (Unit {0})) → is_ticket_due request ≡ true → IsRoomFor key request room → room ≡ None → key ≡ None
no-key None request room due fits none = refl
no-key (Some key) request room due fits none = let some : IsSome room = fits due refl in absurd (cc)
