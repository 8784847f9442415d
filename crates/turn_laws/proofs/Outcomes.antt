-- What a turn does beside its calls: nothing, or a member ends, or one number is used.
use Rattle.turn_laws.specs.Holdings.{Holding}
use Rattle.keeper_book.specs.declared.pools.Pool.{Pool}
use Rattle.turn_laws.proofs.Uses.{Spent}
use Rattle.std.proofs.Common.{◌≡◌, ℕ, ◌⊎◌, inl, inr, Option, None, Some, List, [], ◌∷◌, ⊎_elim, refl, ap, map, ◌∙◌}
use Rattle.events.specs.declared.event.Event.{Event}
use Rattle.events.specs.declared.event.Event.TheVariants as event
use Rattle.events.specs.declared.turn.Step.{Step}
use Rattle.events.specs.declared.turn.Turn.{Turn}
use Rattle.events.specs.declared.verdict.Verdict.{Verdict}
use Rattle.events.specs.declared.verdict.Verdict.TheVariants as out
use Rattle.ha_base.specs.declared.counter_names.End.TheVariants as end
use Rattle.keeper_book.specs.declared.calls.Call.{Call}
use Rattle.keeper_book.specs.declared.counters.Counter.{Counter}
use Rattle.keeper_book.specs.declared.counters.Counter.TheVariants as counter
use Rattle.turn_laws.proofs.Covers.{are_ready-calls}
use Rattle.turn_laws.proofs.Deeds.{IsAnswering, none-answering, number_theirs, Asked, Deed, Ended, IsIdle, MemberUses, PeerUses, Rested, Rests, Used, Used_theirs, UsesIt, rest_of, spent_by, lots_of, LotNeed, IsLotReady, with_lot, Left, Leased, InVain}
use Rattle.turn_laws.specs.Acts.{Ends}
use Rattle.turn_laws.specs.Turns.{answered, answered_in, end_moves, number_taken, uses_of}
use Rattle.turn_rules.specs.Datagrams.{Delivery, delivery_of}
use Rattle.turn_rules.proofs.Ties.{used-unsealed}
use Rattle.turn_rules.specs.Held.{accepted, received, said_in, used, used_in, received_in}
use Rattle.turn_rules.specs.IkeState.{taken_id}
use Rattle.turn_rules.specs.Safe.{taken_as}
use Rattle.events.specs.declared.seals.Seal.{Seal}
use Rattle.turn_rules.specs.Tasks as task
use Rattle.turn_rules.specs.Tasks.{Task, member_task, peer_task, receipt}
use Rattle.turn_rules.specs.States.{ended_by}
use Rattle.turn_rules.specs.Steps.{IsQuiet}

pub data Outcome (past : List Turn) (event : Event) (calls : List Call) (step : Step) : Type 0 where
  Idle : Rests step → Outcome past event calls step
  Over : (member : ℕ) → step.verdict ≡ out.Down → ended_by event out.Down ≡ Some member → IsQuiet step → Outcome past event calls step
  Ours_used : (u : MemberUses past event calls step) (needed : List Spent) → UsesIt needed event step → Outcome past event calls step
  Theirs_used : PeerUses past event calls step → Outcome past event calls step

-- a verdict that uses nothing takes no request
pub idle-untaken : (verdict : Verdict) → IsIdle verdict → taken_as verdict ≡ None
idle-untaken (out.Executed name id mark) idle = absurd idle
idle-untaken (out.Refusing name id notify) idle = absurd idle
idle-untaken verdict idle = refl

module _ (past : List Turn) (event : Event) (calls : List Call) (step : Step) where
  abbrev UsesSome : Type 0
  UsesSome = (needed : List Spent) × UsesIt needed event step

  lot-outcome : (needed : List Spent) (lot : Option LotNeed) (held : Pool → Option Holding) (rest : List Call) → IsLotReady lot held rest (Rests step ⊎ UsesIt needed event step) (UsesIt (with_lot lot needed) event step) → Rests step ⊎ UsesSome
  lot-outcome needed None held rest last = inr (needed, last.is)
  lot-outcome needed (Some need) held rest (Left h holds below is ended it) = inr (with_lot (Some need) needed, it)
  lot-outcome needed (Some need) held rest (Leased call one asked sees it) = inr (with_lot (Some need) needed, it)
  lot-outcome needed (Some need) held rest (InVain call why one asked sees so) = ⊎_elim (λ rests. inl rests) (λ it. inr (needed, it)) so

  used-outcome : (u : MemberUses past event calls step) → Rests step ⊎ UsesSome
  used-outcome u = are_ready-calls (λ calls. Rests step ⊎ UsesSome) (Rests step) _
      (λ call rest cover is. is)
      (λ rest last. inl last.is)
      (λ rest so. lot-outcome (map spent_by u.needs) u.lot (lots_of past u.member) rest so)
      u.needs calls u.ready

  pub outcome-of : Deed past event calls step → Outcome past event calls step
  outcome-of (Rested none rests no_entry) = Idle rests
  outcome-of (Asked asks) = Idle asks.rests
  outcome-of (Ended member by none said ends quiet) = Over member said ends quiet
  outcome-of (Used u) = ⊎_elim Idle (λ some. Ours_used u some.0 some.1) (used-outcome u)
  outcome-of (Used_theirs u) = Theirs_used u

  -- what is executed is a request that is taken, which is answered
  pub outcome-answering : Outcome past event calls step → IsAnswering step
  outcome-answering (Idle rests) = none-answering step rests.served (idle-untaken step.verdict rests.idle)
  outcome-answering (Over member said ends quiet) = none-answering step quiet.served (ap taken_as said)
  outcome-answering (Ours_used u needed it) = it.answering
  outcome-answering (Theirs_used u) = u.answering

-- a verdict that uses nothing, and ends no member
idle-ended : (event : Event) (verdict : Verdict) → IsIdle verdict → ended_by event verdict ≡ None
idle-ended (event.Crash member) out.Down idle = absurd idle
idle-ended event verdict idle = refl

idle-uses : (event : Event) (verdict : Verdict) (seals : List Seal) → IsIdle verdict → uses_of event verdict seals ≡ []
idle-uses event (out.Number n) seals idle = absurd idle
idle-uses event (out.Accepted name n next_header payload) seals idle = absurd idle
idle-uses event (out.Asked id) seals idle = absurd idle
idle-uses event (out.Executed name id mark) seals idle = absurd idle
idle-uses event (out.Refusing name id notify) seals idle = absurd idle
idle-uses event out.Down seals idle = absurd idle
idle-uses event verdict seals idle = ap end_moves (idle-ended event verdict idle)

idle-accepted : (spir : ℕ) (verdict : Verdict) → IsIdle verdict → accepted spir verdict ≡ None
idle-accepted spir (out.Accepted name n next_header payload) idle = absurd idle
idle-accepted spir verdict idle = refl

pub idle-received : (spir : ℕ) (event : Event) (verdict : Verdict) → IsIdle verdict → received spir event verdict ≡ None
idle-received spir event verdict idle = go (delivery_of event)
  where
    go : (x : Option Delivery) → received_in spir (receipt x) verdict ≡ None
    go None = refl
    go (Some delivery) = idle-accepted spir verdict idle

idle-id : (spir : ℕ) (verdict : Verdict) → IsIdle verdict → taken_id spir verdict ≡ None
idle-id spir (out.Executed name id mark) idle = absurd idle
idle-id spir (out.Refusing name id notify) idle = absurd idle
idle-id spir verdict idle = refl

idle-answered : (spir : ℕ) (event : Event) (verdict : Verdict) → IsIdle verdict → answered spir event verdict ≡ None
idle-answered spir event verdict idle = go (delivery_of event)
  where
    go : (x : Option Delivery) → answered_in spir (receipt x) verdict ≡ None
    go None = refl
    go (Some delivery) = idle-id spir verdict idle

idle-said : (spir : ℕ) (c : Counter) (asked : Task) (verdict : Verdict) → IsIdle verdict → said_in spir c asked verdict ≡ None
idle-said spir counter.EspOut (task.Draw other) (out.Number n) idle = absurd idle
idle-said spir counter.EspOut (task.Draw other) verdict idle = refl
idle-said spir counter.EspOut (task.Send other payload) (out.Sent n) idle = absurd idle
idle-said spir counter.EspOut (task.Send other payload) verdict idle = refl
idle-said spir counter.Ask (task.Ask other request) (out.Asked id) idle = absurd idle
idle-said spir counter.Ask (task.Ask other request) verdict idle = refl
idle-said spir c asked verdict idle = refl

pub idle-used : (spir : ℕ) (c : Counter) (event : Event) (step : Step) → Rests step → used spir c event step ≡ None
idle-used spir c event step rests = used-unsealed end.Cluster spir c (member_task event) step rests.seals (idle-said spir c (member_task event) step.verdict rests.idle)

pub idle-taken : (spir : ℕ) (c : Counter) (event : Event) (step : Step) → Rests step → number_taken spir c event step ≡ None
idle-taken spir counter.EspIn event step rests = idle-received spir event step.verdict rests.idle
idle-taken spir counter.EspOut event step rests = idle-used spir counter.EspOut event step rests
idle-taken spir counter.Iv event step rests = idle-used spir counter.Iv event step rests
idle-taken spir counter.Ask event step rests = idle-used spir counter.Ask event step rests
idle-taken spir counter.Answer event step rests = idle-answered spir event step.verdict rests.idle

-- a turn that uses nothing makes no moves beside its calls
pub rests-rest : (event : Event) (step : Step) → Rests step → rest_of event step ≡ []
rests-rest event step rests = let none : _ = rests.seals in let idle : _ = idle-uses event step.verdict [] rests.idle in rw (none, idle)

pub over-rest : (event : Event) (step : Step) (member : ℕ) → step.verdict ≡ out.Down → ended_by event out.Down ≡ Some member → IsQuiet step → rest_of event step ≡ Ends ∷ []
over-rest event step member said ends quiet = let none : _ = quiet.seals in rw (said, ends, none)

-- the end of a member uses nothing
over-said : (spir : ℕ) (c : Counter) (asked : Task) → said_in spir c asked out.Down ≡ None
over-said spir counter.EspOut (task.Draw other) = refl
over-said spir counter.EspOut (task.Send other payload) = refl
over-said spir counter.Ask (task.Ask other request) = refl
over-said spir c asked = refl

pub over-used : (spir : ℕ) (c : Counter) (event : Event) (step : Step) → step.verdict ≡ out.Down → IsQuiet step → used spir c event step ≡ None
over-used spir c event step said quiet = used-unsealed end.Cluster spir c (member_task event) step quiet.seals (ap (said_in spir c (member_task event)) said ∙ over-said spir c (member_task event))

pub over-received : (spir : ℕ) (event : Event) → received spir event out.Down ≡ None
over-received spir event = go (delivery_of event)
  where
    go : (x : Option Delivery) → received_in spir (receipt x) out.Down ≡ None
    go None = refl
    go (Some delivery) = refl

pub over-answered : (spir : ℕ) (event : Event) → answered spir event out.Down ≡ None
over-answered spir event = go (delivery_of event)
  where
    go : (x : Option Delivery) → answered_in spir (receipt x) out.Down ≡ None
    go None = refl
    go (Some delivery) = refl

pub over-taken : (spir : ℕ) (c : Counter) (event : Event) (step : Step) → step.verdict ≡ out.Down → IsQuiet step → number_taken spir c event step ≡ None
over-taken spir counter.EspIn event step said quiet = ap (received spir event) said ∙ over-received spir event
over-taken spir counter.EspOut event step said quiet = over-used spir counter.EspOut event step said quiet
over-taken spir counter.Iv event step said quiet = over-used spir counter.Iv event step said quiet
over-taken spir counter.Ask event step said quiet = over-used spir counter.Ask event step said quiet
over-taken spir counter.Answer event step said quiet = ap (answered spir event) said ∙ over-answered spir event

-- and nothing of the peer
idle-spent : (spir : ℕ) (c : Counter) (event : Event) (step : Step) → Rests step → used_in end.Peer spir c (peer_task event) step ≡ None
idle-spent spir c event step rests = used-unsealed end.Peer spir c (peer_task event) step rests.seals (idle-said spir c (peer_task event) step.verdict rests.idle)

pub idle-theirs : (spir : ℕ) (c : Counter) (event : Event) (step : Step) → Rests step → number_theirs spir c event step ≡ None
idle-theirs spir counter.EspOut event step rests = idle-spent spir counter.EspOut event step rests
idle-theirs spir counter.EspIn event step rests = idle-received spir event step.verdict rests.idle
idle-theirs spir counter.Answer event step rests = idle-answered spir event step.verdict rests.idle
idle-theirs spir counter.Iv event step rests = idle-spent spir counter.Iv event step rests
idle-theirs spir counter.Ask event step rests = idle-spent spir counter.Ask event step rests
