-- What members hold are records of the associations that they asked for, and each turn is a deed.
use Rattle.std.proofs.Common.{arith, ◌≡◌, ℕ, Bool, Option, Some, None, List, [], ◌∷◌, refl, sym, ◌∙◌, subst}
use Rattle.std.proofs.lemmas.Option.{same_Some}
use Rattle.std.specs.List.{AllByRecursion, filter}
use Rattle.std.specs.Option.{option_map}
use Rattle.events.specs.declared.event.Event.{Event}
use Rattle.events.specs.declared.turn.Step.{Step}
use Rattle.events.specs.declared.turn.Turn.{Turn}
use Rattle.keeper_book.specs.Told.{seen}
use Rattle.keeper_book.specs.declared.calls.Call.{Call}
use Rattle.keeper_book.specs.declared.records.Taken.{Taken}
use Rattle.turn_laws.proofs.Answered.{AreAnswering}
use Rattle.turn_laws.proofs.Outcomes.{outcome-answering, outcome-of}
use Rattle.turn_laws.proofs.Covers.{used-calls}
use Rattle.turn_laws.proofs.Deeds.{AreTicketsTold, Asked, Deed, Ended, HasItsRecord, MemberUses, Rested, Used, Used_theirs}
use Rattle.turn_laws.proofs.Explained.{fits-deed}
use Rattle.turn_laws.proofs.Members.{told-lot}
use Rattle.turn_laws.proofs.Tickets.{HasLot}
use Rattle.turn_laws.proofs.TicketTurns.{tickets-told}
use Rattle.turn_rules.specs.States.{told_state}
use Rattle.turn_laws.proofs.Lists.{all-filter}
use Rattle.turn_rules.proofs.SlotTies.{all-weaker}
use Rattle.turn_rules.proofs.StateLaws.{does-told}
use Rattle.turn_rules.specs.Ends.{Member, is_by, own}
use Rattle.turn_rules.specs.Held.{Held, first_some, found, grant_of, granted, held_by, holding, window_by}
use Rattle.turn_rules.specs.Local.{IsByRule, Explained}

abbrev pub HaveTheirRecords : List Turn → Type 0
HaveTheirRecords past = AllByRecursion (λ turn. AllByRecursion HasItsRecord turn.calls) past

-- what holds of all that is found holds of what is found first
pub found-holds : {X Y : Type 0} (P : Y → Type 0) (f : X → Option Y) (xs : List X) (y : Y) → AllByRecursion (λ x. (z : Y) → f x ≡ Some z → P z) xs → found f xs ≡ Some y → P y
found-holds P f [] y all is = absurd (cc)
found-holds {X} {Y} P f (x ∷ xs) y all is = go (found-holds P f xs y all.1) (f x) refl is
  where
    go : (found f xs ≡ Some y → P y) → (o : Option Y) → f x ≡ o → first_some o (found f xs) ≡ Some y → P y
    go later None e is = later is
    go later (Some z) e is = all.0 y (e ∙ is)

-- the record of what was granted last, in some of the turns
granted-spir : (test : Turn → Bool) (past : List Turn) → HaveTheirRecords past → (spir : ℕ) (taken : Taken) → found (grant_of spir) (filter test past) ≡ Some taken → taken.sa.spir ≡ spir
granted-spir test past records spir taken is = found-holds (λ t. t.sa.spir ≡ spir) (grant_of spir) (filter test past) taken
    (all-weaker (filter test past) (λ turn calls z e. found-holds (λ t. t.sa.spir ≡ spir) (λ call. granted spir call.asked (seen call)) turn.calls z (all-weaker turn.calls (λ call has w g. has spir w g) calls) e)
    (all-filter (λ (turn : Turn). AllByRecursion HasItsRecord turn.calls) test past records)) is

-- what a member holds of an association is the association's
pub own-spir : (size : ℕ) (past : List Turn) → HaveTheirRecords past → (member spir : ℕ) (held : Held) → held_by size (own (Member member) past) spir ≡ Some held → held.sa.spir ≡ spir
own-spir size past records member spir held = go (found (grant_of spir) (own (Member member) past)) refl
  where
    go : (x : Option Taken) → found (grant_of spir) (own (Member member) past) ≡ x → option_map (holding size spir (own (Member member) past)) x ≡ Some held → held.sa.spir ≡ spir
    go None e is = absurd (cc)
    go (Some taken) e is = subst (λ (h : Held). h.sa.spir ≡ spir) (same_Some (holding size spir (own (Member member) past) taken) held is) (granted-spir (is_by (Member member)) past records spir taken e)

module _ (past : List Turn) (event : Event) (step : Step) where
  covers-records : (calls : List Call) → MemberUses past event calls step → AllByRecursion HasItsRecord calls
  covers-records calls u = used-calls (AllByRecursion HasItsRecord)
      (λ call rest cover more. ((λ spir taken is. absurd (let none : granted spir call.asked (seen call) ≡ None = (let asked : _ = cover.asked in rw asked refl) in cc)), more))
      (λ call lease. ((λ spir taken is. absurd (let none : granted spir call.asked (seen call) ≡ None = (let asked : _ = lease.asked in rw asked refl) in cc)), tt))
      tt calls u

  deed-records : (calls : List Call) → Deed past event calls step → AllByRecursion HasItsRecord calls
  deed-records calls (Rested none rests no_entry) = subst (λ calls. AllByRecursion HasItsRecord calls) (sym none) tt
  deed-records calls (Asked asks) = subst (λ calls. AllByRecursion HasItsRecord calls) (sym asks.one) (asks.own_record, tt)
  deed-records calls (Ended member by none said ends quiet) = subst (λ calls. AllByRecursion HasItsRecord calls) (sym none) tt
  deed-records calls (Used u) = covers-records calls u
  deed-records calls (Used_theirs u) = subst (λ calls. AllByRecursion HasItsRecord calls) (sym u.no_calls) tt

-- what the deeds of turns before show
record Shown (past : List Turn) : Type 0 where
  records : HaveTheirRecords past
  tickets : (member : ℕ) → AreTicketsTold past member

deed-with : (boxes : ℕ) (past : List Turn) (turn : Turn) → Shown past → IsByRule boxes past turn → Explained boxes past → Deed past turn.event turn.calls turn.step
deed-with boxes past turn shown explained local = fits-deed boxes past (own-spir (window_by past) past shown.records) shown.tickets turn.moment turn.calls turn.step turn.event (does-told boxes past turn explained local)

shown-by : (boxes : ℕ) (past : List Turn) → Explained boxes past → Shown past
shown-by boxes [] local = record { records = tt; tickets = λ member. record { left = refl; within = omega arith } }
shown-by boxes (turn ∷ past) local =
    let shown : Shown past = shown-by boxes past local.1 in
    let deed : Deed past turn.event turn.calls turn.step = deed-with boxes past turn shown local.0 local.1 in
    record {
      records = (deed-records past turn.event turn.step turn.calls deed, shown.records);
      tickets = tickets-told past turn deed shown.tickets;
    }

pub local-records : (boxes : ℕ) (past : List Turn) → Explained boxes past → HaveTheirRecords past
local-records boxes past local = (shown-by boxes past local).records

-- what own turns tell of lots of tickets is what the acts of all turns make of them
pub tickets-by : (boxes : ℕ) (past : List Turn) → Explained boxes past → (member : ℕ) → AreTicketsTold past member
tickets-by boxes past local = (shown-by boxes past local).tickets

-- no member's next number is above the end of its lot
pub lots-told : (boxes : ℕ) (past : List Turn) → Explained boxes past → (member : ℕ) → HasLot ((told_state boxes past).members member)
lots-told boxes past local = told-lot boxes past (tickets-by boxes past local)

-- a turn that is explained is a deed
pub deed-of : (boxes : ℕ) (past : List Turn) (turn : Turn) → IsByRule boxes past turn → Explained boxes past → Deed past turn.event turn.calls turn.step
deed-of boxes past turn explained local = deed-with boxes past turn (shown-by boxes past local) explained local

-- in each turn what is executed is a request that is taken, which is answered
pub answering-run : (boxes : ℕ) (past : List Turn) → Explained boxes past → AreAnswering past
answering-run boxes [] local = tt
answering-run boxes (turn ∷ past) local = (
  outcome-answering past turn.event turn.calls turn.step (outcome-of past turn.event turn.calls turn.step (deed-of boxes past turn local.0 local.1)),
  answering-run boxes past local.1,
)
