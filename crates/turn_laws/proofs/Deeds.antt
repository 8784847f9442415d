-- What a turn may be: it makes no call or one, a member ends, or numbers of a member or of the peer are used.
use Rattle.keeper_book.specs.declared.faults.KeeperFault.{KeeperFault}
use Rattle.keeper_book.specs.declared.calls.KeeperAnswer.TheVariants as answer
use Rattle.keeper_book.specs.declared.calls.KeeperAsk.TheVariants as ask
use Rattle.keeper_book.specs.declared.pools.Pool.{Pool}
use Rattle.keeper_book.specs.declared.pools.Pool.TheVariants as pools
use Rattle.pool_lots.specs.declared.lots.TheConstants.{LEASED_NUMBERS}
use Rattle.turn_laws.specs.OwnTurns.{left_of_lot}
use Rattle.turn_rules.specs.TicketNumbers.{first_leased, numbers_by, ticket_number}
use Rattle.std.specs.List.{AllByRecursion}
use Rattle.std.specs.Prelude.{IsSome, is_some}
use Rattle.ike_window.specs.Requests.{IsNewRequest}
use Rattle.ike_window.specs.Windows.{IsAnswered}
use Rattle.ha_base.specs.declared.counter_names.End.TheVariants as end
use Rattle.turn_rules.specs.Tasks.{peer_task}
use Rattle.events.specs.declared.turn.Served.{Served}
use Rattle.std.proofs.Common.{refl, [], ◌++◌, ◌<◌, ◌∷◌, ◌≡◌, Bool, true, List, None, Option, Some, map, option_to_list, subst, sym, ℕ, ◌⊎◌, ◌≤◌}
use Rattle.events.specs.declared.event.Event.{Event}
use Rattle.events.specs.declared.turn.Step.{Step}
use Rattle.events.specs.declared.turn.Turn.{Turn}
use Rattle.events.specs.declared.verdict.Verdict.{Verdict}
use Rattle.events.specs.declared.verdict.Verdict.TheVariants as out
use Rattle.ha_base.specs.declared.counter_names.CounterName.{CounterName}
use Rattle.horizons.specs.Ready.{Ready}
use Rattle.keeper_book.specs.CounterEnds.{end_of}
use Rattle.keeper_book.specs.Counters.{five_at}
use Rattle.keeper_book.specs.Told.{seen}
use Rattle.keeper_book.specs.declared.calls.Call.{Call}
use Rattle.keeper_book.specs.declared.counters.Counter.{Counter}
use Rattle.keeper_book.specs.declared.counters.Counter.TheVariants as counter
use Rattle.keeper_book.specs.declared.records.Taken.{Taken}
use Rattle.replay_set.specs.Window.{judged}
use Rattle.replay_set.specs.declared.judgement.Judgement.TheVariants.{Fresh}
use Rattle.turn_laws.proofs.Uses.{AreElsewhere, AreUses, Spent, number_at, spent_at, spent_of, IsAmong}
use Rattle.turn_laws.specs.Acts.{Act, IsUnstarted, MayAsk, Move, Seals, entered_as, settled_as, holding_at, lot_of}
use Rattle.turn_laws.specs.Holdings.{Actor, Holding, End}
use Rattle.turn_laws.specs.Listed.{request_at}
use Rattle.turn_laws.specs.Places.{Ours, Place, Theirs, place_of, Pooled}
use Rattle.turn_laws.specs.Turns.{answered, key_iv, number_taken, uses_of, acts_of}
use Rattle.turn_rules.specs.Draws.{reach_of}
use Rattle.turn_rules.specs.Ends.{Member, Peer, own, performer_at}
use Rattle.turn_rules.specs.Held.{Held, granted, held_by, received, used, used_in, window_by}
use Rattle.turn_rules.specs.Peers.{record_entered}
use Rattle.turn_rules.specs.Safe.{Packet, Request, accepted_as, taken_as}
use Rattle.turn_rules.specs.Slots.{Slot, first_slot, peer_counter, slots_by}
use Rattle.turn_rules.specs.States.{ended_by}
use Rattle.turn_rules.specs.Steps.{IsQuiet, Says}

-- the verdict uses no number, and ends no member
abbrev pub IsIdle : Verdict → Type 0
IsIdle (out.Number n) = ⊥
IsIdle (out.Sent n) = ⊥
IsIdle (out.Asked id) = ⊥
IsIdle (out.Accepted name n next_header payload) = ⊥
IsIdle (out.Executed name id mark) = ⊥
IsIdle (out.Refusing name id notify) = ⊥
IsIdle out.Down = ⊥
IsIdle verdict = Unit {0}

-- the moves of a turn beside its calls
abbrev pub rest_of : Event → Step → List Move
rest_of event step = uses_of event step.verdict step.seals ++ map (λ seal. Seals (key_iv seal)) step.seals

-- the number of the peer's counter of the association that an event used
abbrev pub number_theirs : ℕ → Counter → Event → Step → Option ℕ
number_theirs spir counter.EspIn event step = received spir event step.verdict
number_theirs spir counter.Answer event step = answered spir event step.verdict
number_theirs spir c event step = used_in end.Peer spir c (peer_task event) step

abbrev pub number_theirs_of : ℕ → Counter → Turn → Option ℕ
number_theirs_of spir c turn = number_theirs spir c turn.event turn.step

-- no association was begun by a resumption
abbrev pub NoneStarted : List Act → Type 0
NoneStarted acts = (name : CounterName) → IsUnstarted name acts

-- what a call grants is a record with the SPI that was asked for
abbrev pub HasItsRecord : Call → Type 0
HasItsRecord call = (spir : ℕ) (taken : Taken) → granted spir call.asked (seen call) ≡ Some taken → taken.sa.spir ≡ spir

-- nothing is sealed or executed, and nothing is used
pub record Rests (step : Step) : Type 0 where
  pub idle : IsIdle step.verdict
  pub served : step.served ≡ None
  pub seals : step.seals ≡ []

pub quiet-rests : (step : Step) → IsIdle step.verdict → IsQuiet step → Rests step
quiet-rests step idle quiet = record { idle = idle; served = quiet.served; seals = quiet.seals }

pub says-rests : (step : Step) (verdict : Verdict) → IsIdle verdict → Says verdict step → Rests step
says-rests step verdict idle says = quiet-rests step (subst (λ v. IsIdle v) (sym says.said) idle) says.quiet

-- a service executes only where a request is taken, and a datagram is given where one is
pub record IsAnswering (step : Step) : Type 0 where
  pub takes : IsSome step.served → IsSome (taken_as step.verdict)
  pub gives : IsSome (taken_as step.verdict) → IsSome step.gives

-- so it is where nothing is executed and none is taken
pub none-answering : (step : Step) → step.served ≡ None → taken_as step.verdict ≡ None → IsAnswering step
none-answering step served taken = record {
  takes = λ some. let no : is_some {T = Served} None ≡ true = subst (λ o. is_some o ≡ true) served some in absurd (cc);
  gives = λ some. let no : is_some {T = Request} None ≡ true = subst (λ o. is_some o ≡ true) taken some in absurd (cc);
}

-- where no request is taken, there is no ticket
pub untaken-ticket : (verdict : Verdict) → taken_as verdict ≡ None → ticket_number verdict ≡ None
untaken-ticket (out.Executed name id mark) none = absurd (cc)
untaken-ticket verdict none = refl

-- the numbers that a member may use of what it holds: those from the next one that it sends on, those that it did not receive, and those of new requests
abbrev pub IsOpen : Held → Counter → ℕ → Type 0
IsOpen held counter.EspIn n = judged held.window n ≡ Fresh
IsOpen held counter.Answer n = IsNewRequest held.answered.low (IsAnswered held.answered) n
IsOpen held c n = five_at held.nexts c ≤ n

-- and those that the peer may use
abbrev pub IsOpenTo : Slot → Counter → ℕ → Type 0
IsOpenTo slot counter.EspOut n = (n ≡ slot.next) × (n < end_of slot.sa counter.EspOut)
IsOpenTo slot counter.EspIn n = (n < end_of slot.sa counter.EspIn) × (judged slot.window n ≡ Fresh)
IsOpenTo slot counter.Answer n = (n < end_of slot.sa counter.Answer) × IsNewRequest slot.answered.low (IsAnswered slot.answered) n
IsOpenTo slot counter.Iv n = (n ≡ slot.iv) × (n < end_of slot.sa counter.Iv)
IsOpenTo slot counter.Ask n = (n ≡ slot.ask) × (n < end_of slot.sa counter.Ask)

-- a number of a place is used, and no request is taken; a packet that was accepted has this number
pub record Spends (place : Place) (n : ℕ) (event : Event) (step : Step) : Type 0 where
  pub served : step.served ≡ None
  pub untaken : taken_as step.verdict ≡ None
  pub uses_it : AreUses (spent_of place n ∷ []) (rest_of event step)
  pub of_packet : (packet : Packet) → accepted_as step.verdict ≡ Some packet → (place_of packet.name ≡ place) × (packet.number ≡ n)

-- a number of the association is used, and own turns tell it
pub record UsesOne (spir : ℕ) (c : Counter) (n : ℕ) (event : Event) (step : Step) : Type 0 where
  pub spends : Spends (Ours spir c) n event step
  pub told : (other : ℕ) (d : Counter) → number_taken other d event step ≡ number_at (Ours other d) (Ours spir c) n

-- Numbers of different places are used that were needed, in some order, and own turns tell them. A packet that was received is of the association's counter.
pub record UsesIt (needed : List Spent) (event : Event) (step : Step) : Type 0 where
  pub ss : List Spent
  pub were_needed : AllByRecursion (λ s. IsAmong s needed) ss
  pub answering : IsAnswering step
  pub uses_them : AreUses ss (rest_of event step)
  pub apart : AreElsewhere ss
  pub told : (other : ℕ) (d : Counter) → spent_at (Ours other d) ss ≡ option_to_list (number_taken other d event step)
  pub answers : (spir : ℕ) → answered spir event step.verdict ≡ request_at (Ours spir counter.Answer) (taken_as step.verdict)
  pub not_theirs : (name : CounterName) → spent_at (Theirs name) ss ≡ []
  pub tickets : spent_at (Pooled pools.Ticket) ss ≡ option_to_list (ticket_number step.verdict)
  pub named : (packet : Packet) → accepted_as step.verdict ≡ Some packet → (other n : ℕ) → received other event step.verdict ≡ Some n → place_of packet.name ≡ Ours other counter.EspIn

-- a number that a member needs of what it holds
pub record Need (past : List Turn) (member : ℕ) : Type 0 where
  pub held : Held
  pub c : Counter
  pub number : ℕ
  pub is_held : held_by (window_by past) (own (Member member) past) held.sa.spir ≡ Some held
  pub is_open : IsOpen held c number

abbrev pub spent_by : {past : List Turn} {member : ℕ} → Need past member → Spent
spent_by need = spent_of (Ours need.held.sa.spir need.c) need.number

-- the turn ends here
pub record Last (rest : List Call) (so : Type 0) : Type 0 where
  pub ended : rest ≡ []
  pub is : so

-- the numbers get ready one after another, up to the first that does not, and then the turn ends
abbrev pub AreReady : {past : List Turn} {member : ℕ} → List (Need past member) → List Call → Type 0 → (List Call → Type 0) → Type 0
AreReady [] calls stops goes = goes calls
AreReady (need ∷ needs) calls stops goes = Ready (reach_of need.held need.c) need.number calls
    (λ why rest. Last rest stops)
    (λ high rest. AreReady needs rest stops goes)

-- a number of a pool that a member needs
pub record LotNeed : Type 0 where
  pub pool : Pool
  pub number : ℕ

-- It is the next one of the lot that is held, or the first of a range that is leased, and then the turn ends. A lease that was refused may leave the turn without it.
pub data LotReady (held : Option Holding) (need : LotNeed) (calls : List Call) (without goes : Type 0) : Type 0 where
  Left : (h : Holding) → held ≡ Some h → h.next < h.high → need.number ≡ h.next → calls ≡ [] → goes → LotReady held need calls without goes
  Leased : (call : Call) → calls ≡ call ∷ [] → call.asked ≡ ask.Lease need.pool LEASED_NUMBERS → seen call ≡ answer.First need.number → goes → LotReady held need calls without goes
  InVain : (call : Call) (why : KeeperFault) → calls ≡ call ∷ [] → call.asked ≡ ask.Lease need.pool LEASED_NUMBERS → seen call ≡ answer.Refused why → without → LotReady held need calls without goes

-- where a number of a pool is needed, it gets ready behind the others
abbrev pub IsLotReady : Option LotNeed → (Pool → Option Holding) → List Call → Type 0 → Type 0 → Type 0
IsLotReady None held calls without goes = Last calls goes
IsLotReady (Some need) held calls without goes = LotReady (held need.pool) need calls without goes

abbrev pub with_lot : Option LotNeed → List Spent → List Spent
with_lot None ss = ss
with_lot (Some need) ss = spent_of (Pooled need.pool) need.number ∷ ss

-- the lots that a member holds before the turn
abbrev pub lots_of : List Turn → ℕ → Pool → Option Holding
lots_of past member pool = holding_at (Pooled pool) (acts_of past) (End (Member member))

-- what a member's own turns say that is left of its lot of tickets is what is left of it, and the next number is not above its end
pub record AreTicketsTold (past : List Turn) (member : ℕ) : Type 0 where
  pub left : numbers_by (own (Member member) past) ≡ left_of_lot (lots_of past member pools.Ticket)
  pub within : (numbers_by (own (Member member) past)).next ≤ (numbers_by (own (Member member) past)).end

-- A member that holds associations uses numbers of them, and of a pool, once all are ready.
pub record MemberUses (past : List Turn) (event : Event) (calls : List Call) (step : Step) : Type 0 where
  pub member : ℕ
  pub needs : List (Need past member)
  pub lot : Option LotNeed
  pub by_it : performer_at event step.verdict ≡ Some (Member member)
  pub ready : AreReady needs calls (Rests step) (λ rest. IsLotReady lot (lots_of past member) rest
      (Rests step ⊎ UsesIt (map spent_by needs) event step)
      (UsesIt (with_lot lot (map spent_by needs)) event step))

-- a number that the peer needs, of the first of its associations that passes a test
pub record PeerNeed (past : List Turn) : Type 0 where
  pub test : Slot → Bool
  pub slot : Slot
  pub c : Counter
  pub number : ℕ
  pub is_first : first_slot test (slots_by (window_by past) (own Peer past)) ≡ Some slot
  pub is_open : IsOpenTo slot c number

abbrev pub spent_theirs : {past : List Turn} → PeerNeed past → Spent
spent_theirs need = spent_of (Theirs (peer_counter need.slot.sa need.c)) need.number

-- the same by the responder's SPI
abbrev pub spent_by_spir : {past : List Turn} → PeerNeed past → Spent
spent_by_spir need = spent_of (Ours need.slot.sa.spir need.c) need.number

-- a packet is of one of these associations, the one with this responder's SPI
abbrev pub IsOfOne : {past : List Turn} → Packet → ℕ → List (PeerNeed past) → Type 0
IsOfOne packet spir [] = ⊥
IsOfOne packet spir (need ∷ needs) =
    ((need.slot.sa.spir ≡ spir) × (place_of packet.name ≡ Theirs (peer_counter need.slot.sa counter.EspIn)))
    ⊎ IsOfOne packet spir needs

-- The peer uses numbers of different counters, and own turns tell them. A packet that was received is of the association's counter.
pub record PeerUses (past : List Turn) (event : Event) (calls : List Call) (step : Step) : Type 0 where
  pub needs : List (PeerNeed past)
  pub by_it : performer_at event step.verdict ≡ Some Peer
  pub no_calls : calls ≡ []
  pub answering : IsAnswering step
  pub uses_them : AreUses (map spent_theirs needs) (rest_of event step)
  pub apart : AreElsewhere (map spent_theirs needs)
  pub not_ours : (spir : ℕ) (d : Counter) → used spir d event step ≡ None
  pub not_answered : (spir : ℕ) → request_at (Ours spir counter.Answer) (taken_as step.verdict) ≡ None
  pub told : (other : ℕ) (d : Counter) → spent_at (Ours other d) (map spent_by_spir needs) ≡ option_to_list (number_theirs other d event step)
  pub named : (packet : Packet) → accepted_as step.verdict ≡ Some packet → (other n : ℕ) → received other event step.verdict ≡ Some n → IsOfOne packet other needs
  pub no_entry : record_entered event step.verdict ≡ None
  pub no_ticket : ticket_number step.verdict ≡ None

-- one call is made that asks for no number
pub record Asks (event : Event) (calls : List Call) (step : Step) : Type 0 where
  pub call : Call
  pub one : calls ≡ call ∷ []
  pub may : (acts : List Act) (w : Actor) → NoneStarted acts → MayAsk acts w call.asked
  pub own_record : HasItsRecord call
  pub unsettled : (spir : ℕ) → settled_as spir call.asked (seen call) ≡ None
  pub no_lot : (before : ℕ) → lot_of pools.Ticket before call.asked (seen call) ≡ None
  pub unleased : first_leased call.asked (seen call) ≡ None
  pub entry : entered_as call.asked (seen call) ≡ record_entered event step.verdict
  pub rests : Rests step

pub data Deed (past : List Turn) (event : Event) (calls : List Call) (step : Step) : Type 0 where
  Rested : calls ≡ [] → Rests step → record_entered event step.verdict ≡ None → Deed past event calls step
  Asked : Asks event calls step → Deed past event calls step
  Ended : (member : ℕ) → performer_at event step.verdict ≡ Some (Member member) → calls ≡ [] → step.verdict ≡ out.Down → ended_by event out.Down ≡ Some member → IsQuiet step → Deed past event calls step
  Used : MemberUses past event calls step → Deed past event calls step
  Used_theirs : PeerUses past event calls step → Deed past event calls step
