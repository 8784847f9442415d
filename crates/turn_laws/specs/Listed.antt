-- The numbers that the lists of a trace have: those that were drawn, those of accepted packets, the
-- Message IDs of requests that were taken and asked, and the IVs of seals.
use Rattle.std.specs.Prelude.{ℕ, Option, Some, None, option_to_list, List, ◌∷◌, ◌++◌, map, reverse, if◌then◌else◌}
use Rattle.std.specs.List.{filter_map}
use Rattle.events.specs.declared.event.Event.{Event}
use Rattle.events.specs.declared.event.Event.TheVariants as event
use Rattle.events.specs.declared.seals.Seal.{Seal}
use Rattle.events.specs.declared.turn.Turn.{Turn}
use Rattle.events.specs.declared.verdict.Verdict.{Verdict}
use Rattle.events.specs.declared.verdict.Verdict.TheVariants as out
use Rattle.keeper_book.specs.declared.counters.Counter.TheVariants as counter
use Rattle.turn_laws.specs.Places.{Ours, Place, is_place, place_of}
use Rattle.turn_laws.specs.Turns.{asks_beside, key_iv, place_answered}
use Rattle.turn_rules.specs.Safe.{KeyIv, Packet, Request, accepted_in, taken_in}

-- the number of a place, where it is this place
abbrev pub number_where : Place → Place → ℕ → Option ℕ
number_where p q n = if is_place q p then Some n else None

-- the number that an event drew without a seal
abbrev pub drew : Place → Event → ℕ → Option ℕ
drew p (event.Draw member spir) n = number_where p (Ours spir counter.EspOut) n
drew p event n = None

abbrev pub drawn_at : Place → Event → Verdict → Option ℕ
drawn_at p event (out.Number n) = drew p event n
drawn_at p event verdict = None

-- the number of a packet that was accepted
abbrev pub packet_at : Place → Option Packet → Option ℕ
packet_at p None = None
packet_at p (Some packet) = number_where p (place_of packet.name) packet.number

-- the Message ID of a request that was taken
abbrev pub request_at : Place → Option Request → Option ℕ
request_at p None = None
request_at p (Some request) = number_where p (place_answered request) request.id

-- and of one that was asked, where these were sealed
abbrev pub asked_at : Place → Verdict → List Seal → Option ℕ
asked_at p (out.Asked id) (seal ∷ seals) = number_where p (place_of (asks_beside seal.name)) id
asked_at p verdict seals = None

-- the IVs of keys of the place
abbrev pub ivs_at : Place → List KeyIv → List ℕ
ivs_at p keys = filter_map (λ key. number_where p (place_of key.name) key.iv) keys

-- the numbers of a place that a turn has, the newest first
abbrev pub listed_at : Place → Turn → List ℕ
listed_at p turn = reverse (option_to_list (drawn_at p turn.event turn.step.verdict)
    ++ (option_to_list (packet_at p (accepted_in turn))
    ++ (option_to_list (request_at p (taken_in turn))
    ++ (option_to_list (asked_at p turn.step.verdict turn.step.seals)
    ++ ivs_at p (map key_iv turn.step.seals)))))
