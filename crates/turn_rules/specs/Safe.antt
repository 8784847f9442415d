-- What holds across the ends of a run.
use Rattle.std.specs.Prelude.{ℕ, ◌≢◌, Option, Some, None, IsSome, List, [], ◌∷◌, map}
use Rattle.std.specs.List.{AllByRecursion, filter_map, flat_map}
use Rattle.events.specs.declared.turn.Turn.{Turn}
use Rattle.events.specs.declared.verdict.Verdict.{Verdict}
use Rattle.events.specs.declared.verdict.Verdict.TheVariants as out
use Rattle.ha_base.specs.declared.counter_names.CounterName.{CounterName}
use Rattle.ha_base.specs.declared.counter_names.End.{End}
use Rattle.ha_base.specs.declared.counter_names.Origin.{Origin}
use Rattle.turn_rules.specs.Genuine.{AreAccepted}

-- nothing stands twice in the list
abbrev pub IsEachOnce : {X : Type 0} → List X → Type 0
IsEachOnce [] = Unit {0}
IsEachOnce (x ∷ xs) = AllByRecursion (λ y. y ≢ x) xs × IsEachOnce xs

-- a key and an IV under which something was sealed
pub record KeyIv : Type 0 where
  pub name : CounterName
  pub iv : ℕ

-- an ESP packet that was accepted: the counter that received it, and its number
pub record Packet : Type 0 where
  pub name : CounterName
  pub number : ℕ

-- a request that was answered: of which association, by which end, under which Message ID
pub record Request : Type 0 where
  pub origin : Origin
  pub end : End
  pub id : ℕ

-- the keys and IVs that were used
abbrev pub key_ivs : List Turn → List KeyIv
key_ivs past = flat_map (λ turn. map (λ seal. record {
  name = seal.name;
  iv = seal.iv;
}) turn.step.seals) past

-- the packet that was accepted, where one was
abbrev pub accepted_as : Verdict → Option Packet
accepted_as (out.Accepted name number next_header payload) =
    Some (record { name = name; number = number })
accepted_as verdict = None

abbrev pub accepted_in : Turn → Option Packet
accepted_in turn = accepted_as turn.step.verdict

-- a request under this Message ID, by the answering end's counter of the requests that it answers
abbrev pub request_taken : CounterName → ℕ → Request
request_taken name id = record { origin = name.origin; end = name.end; id = id }

-- The request that was taken, where one was: one that a service executed, or that was answered with
-- an error. Either takes its Message ID (RFC 7296, section 2.3).
abbrev pub taken_as : Verdict → Option Request
taken_as (out.Executed name id mark) = Some (request_taken name id)
taken_as (out.Refusing name id notify) = Some (request_taken name id)
taken_as verdict = None

abbrev pub taken_in : Turn → Option Request
taken_in turn = taken_as turn.step.verdict

-- a service executes only in a turn that takes a request
abbrev pub TakesWhereServed : Turn → Type 0
TakesWhereServed turn = IsSome turn.step.served → IsSome (taken_in turn)

pub record Safe (past : List Turn) : Type 0 where
  -- no key and IV seals two plaintexts
  pub no_nonce_reuse : IsEachOnce (key_ivs past)
  -- no packet is accepted twice
  pub packets_once : IsEachOnce (filter_map accepted_in past)
  -- a covered genuine packet is accepted at first delivery
  pub genuine_accepted : AreAccepted past
  -- no request is taken twice
  pub requests_once : IsEachOnce (filter_map taken_in past)
  pub served_once : AllByRecursion TakesWhereServed past
