-- The moves of a turn, and what an end's own turns say of one counter.
use Rattle.std.specs.Prelude.{ℕ, ◌+◌, ◌<◌, Option, Some, None, List, [], ◌∷◌, ◌++◌, map}
use Rattle.std.specs.List.{AllByRecursion, filter_map}
use Rattle.std.specs.Option.{option_map}
use Rattle.events.specs.declared.event.Event.{Event}
use Rattle.events.specs.declared.event.Event.TheVariants as event
use Rattle.events.specs.declared.seals.Seal.{Seal}
use Rattle.events.specs.declared.turn.Step.{Step}
use Rattle.events.specs.declared.turn.Turn.{Turn}
use Rattle.events.specs.declared.verdict.Verdict.{Verdict}
use Rattle.events.specs.declared.verdict.Verdict.TheVariants as out
use Rattle.ha_base.specs.declared.counter_names.CounterName.{CounterName}
use Rattle.ha_base.specs.declared.counter_names.Kind.TheVariants as kind
use Rattle.keeper_book.specs.Book.{Book}
use Rattle.keeper_book.specs.CounterEnds.{end_of}
use Rattle.keeper_book.specs.Counters.{five_at}
use Rattle.keeper_book.specs.declared.counters.Counter.{Counter}
use Rattle.keeper_book.specs.declared.counters.Counter.TheVariants as counter
use Rattle.turn_laws.specs.Acts.{Act, Calls, Ends, Move, Seals, Uses, act_by, acts_onto, uses_at}
use Rattle.turn_laws.specs.Holdings.{Actor, End, Holding, Run}
use Rattle.turn_laws.specs.Owned.{Owned}
use Rattle.turn_laws.specs.Places.{Ours, Place, place_of}
use Rattle.turn_rules.specs.Datagrams.{delivery_of}
use Rattle.turn_rules.specs.Ends.{Performer, performer}
use Rattle.turn_rules.specs.Held.{found, grant_of, greatest, high_of, received, since, used}
use Rattle.turn_rules.specs.IkeState.{taken_id}
use Rattle.turn_rules.specs.Safe.{KeyIv, Request, request_taken}
use Rattle.turn_rules.specs.States.{ended_by}
use Rattle.turn_rules.specs.Tasks as task
use Rattle.turn_rules.specs.Tasks.{Task, receipt}

-- a number that was drawn
abbrev pub drawn_by : Event → ℕ → List Move
drawn_by (event.Draw member spir) n = Uses (Ours spir counter.EspOut) n ∷ []
drawn_by event n = []

-- the end of a member
abbrev pub end_moves : Option ℕ → List Move
end_moves None = []
end_moves (Some member) = Ends ∷ []

-- the counter of the requests that an end asks, beside that of the IVs of its IKE messages
abbrev pub asks_beside : CounterName → CounterName
asks_beside name = record name { kind = kind.Ask }

-- the Message ID of a request that was sealed is a number of that counter
abbrev pub asked_by : List Seal → ℕ → List Move
asked_by [] id = []
asked_by (seal ∷ seals) id = Uses (place_of (asks_beside seal.name)) id ∷ []

-- where the Message IDs of the requests are that an end answers in an association
abbrev pub place_answered : Request → Place
place_answered request = place_of (record {
  origin = request.origin;
  kind = kind.Answer;
  child = 0;
  end = request.end;
})

-- a request that was taken, under its Message ID
abbrev pub taken_by : Request → List Move
taken_by request = Uses (place_answered request) request.id ∷ []

-- the numbers that an event used without a seal, or with these, or the end of a member
abbrev pub uses_of : Event → Verdict → List Seal → List Move
uses_of event (out.Number n) seals = drawn_by event n
uses_of event (out.Accepted name n next_header payload) seals = Uses (place_of name) n ∷ []
uses_of event (out.Asked id) seals = asked_by seals id
uses_of event (out.Executed name id mark) seals = taken_by (request_taken name id)
uses_of event (out.Refusing name id notify) seals = taken_by (request_taken name id)
uses_of event verdict seals = end_moves (ended_by event verdict)

abbrev pub key_iv : Seal → KeyIv
key_iv seal = record { name = seal.name; iv = seal.iv }

-- the calls of a turn, the numbers that it used, and what it sealed
abbrev pub moves_of : Turn → List Move
moves_of turn = map Calls turn.calls ++ (uses_of turn.event turn.step.verdict turn.step.seals
    ++ map (λ seal. Seals (key_iv seal)) turn.step.seals)

abbrev pub actor_as : Option Performer → Actor
actor_as None = Run
actor_as (Some end) = End end

abbrev pub actor_of : Turn → Actor
actor_of turn = actor_as (performer turn)

-- what was done in a turn, the first act first, and by whom: all by the end whose turn it is
abbrev pub acts_in : Turn → List Act
acts_in turn = map (act_by (actor_of turn)) (moves_of turn)

-- what the ends did in a trace
abbrev pub acts_of : List Turn → List Act
acts_of [] = []
acts_of (turn ∷ past) = acts_onto (acts_in turn) (acts_of past)

-- the numbers of the book's epochs belong to one end each, after these turns
abbrev pub AreOwned : List Turn → Book → Type 0
AreOwned past book = Owned (acts_of past) book

-- each number that was used lies below its counter's end, as the record of what was held gave it
abbrev pub AreBelowEnds : List Turn → Type 0
AreBelowEnds past = (p : Place) → AllByRecursion (λ u. u.number < u.end) (uses_at p (acts_of past))

-- the Message ID of the association's request that was answered at a task
abbrev pub answered_in : ℕ → Task → Verdict → Option ℕ
answered_in spir task.Receive verdict = taken_id spir verdict
answered_in spir asked verdict = None

-- and at an event
abbrev pub answered : ℕ → Event → Verdict → Option ℕ
answered spir event verdict = answered_in spir (receipt (delivery_of event)) verdict

-- the number of the counter of the association that an event used, or received, or answered
abbrev pub number_taken : ℕ → Counter → Event → Step → Option ℕ
number_taken spir counter.EspIn event step = received spir event step.verdict
number_taken spir counter.Answer event step = answered spir event step.verdict
number_taken spir c event step = used spir c event step

abbrev pub turn_taken : ℕ → Counter → Turn → Option ℕ
turn_taken spir c turn = number_taken spir c turn.event turn.step

-- what an end with these turns of its own holds of a counter of the association, and what it used
-- of it
abbrev pub told : ℕ → Counter → List Turn → Option Holding
told spir c past = option_map (λ taken. record {
  epoch = taken.epoch;
  base = five_at taken.bases c;
  next = greatest (five_at taken.bases c)
      (map (λ n. n + 1) (filter_map (turn_taken spir c) (since spir past)));
  high = high_of spir c taken.bases past;
  end = end_of taken.sa c;
  numbers = filter_map (turn_taken spir c) (since spir past);
}) (found (grant_of spir) past)
