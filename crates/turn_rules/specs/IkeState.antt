-- What an end holds of the requests that it asked and answered in an association, as turns make it.
use Rattle.std.specs.Prelude.{ℕ, ◌==◌, ◌++◌, not, Bool, true, false, Option, Some, None, List, [], ◌∷◌, filter, if◌then◌else◌}
use Rattle.events.specs.declared.event.Event.{Event}
use Rattle.events.specs.declared.seals.Seal.{Seal}
use Rattle.events.specs.declared.turn.Datagram.{Datagram}
use Rattle.events.specs.declared.turn.Step.{Step}
use Rattle.events.specs.declared.turn.Turn.{Turn}
use Rattle.events.specs.declared.verdict.Verdict.{Verdict}
use Rattle.events.specs.declared.verdict.Verdict.TheVariants as out
use Rattle.ha_base.specs.declared.counter_names.End.{End}
use Rattle.ha_base.specs.declared.counter_names.End.TheVariants as end
use Rattle.ha_base.specs.declared.counter_names.Kind.{Kind}
use Rattle.ha_base.specs.declared.counter_names.Kind.TheVariants as kind
use Rattle.ike_window.specs.Kept.{KeptMessage}
use Rattle.ike_window.specs.Stored.{with_response}
use Rattle.ike_window.specs.Windows.{ResponseWindow}
use Rattle.turn_rules.specs.CountersOf.{number_under}
use Rattle.turn_rules.specs.Synchronised.{Agreed, after_floor, agreed_in, ends_in}
use Rattle.turn_rules.specs.Tasks as task
use Rattle.turn_rules.specs.Tasks.{Task}

abbrev pub is_same_end : End → End → Bool
is_same_end end.Cluster end.Cluster = true
is_same_end end.Peer end.Peer = true
is_same_end a b = false

-- the IV of a seal of an IKE message that this end sealed in the association
abbrev pub sealed_iv : End → ℕ → Seal → Kind → Option ℕ
sealed_iv sealer spir seal kind.Iv =
    if is_same_end sealer seal.name.end then number_under spir seal.name seal.iv else None
sealed_iv sealer spir seal other = None

-- the octets that were given, to be kept under a Message ID
abbrev pub kept_under : ℕ → Option Datagram → Option KeptMessage
kept_under id None = None
kept_under id (Some datagram) = Some (record { id = id; octets = datagram.octets.octets })

-- the request of the association that was sent
abbrev pub request_sent : Verdict → Option Datagram → Option KeptMessage
request_sent (out.Asked id) gives = kept_under id gives
request_sent verdict gives = None

abbrev pub request_in : ℕ → Task → Step → Option KeptMessage
request_in spir (task.Ask asked request) step =
    if asked == spir then request_sent step.verdict step.gives else None
request_in spir asked step = None

-- the Message ID of the request of the association whose response came
abbrev pub replied_in : ℕ → Task → Verdict → Option ℕ
replied_in spir task.Receive (out.Reply name id reply kept error) = number_under spir name id
replied_in spir asked verdict = None

-- the Message ID of the request of the association that was answered
abbrev pub taken_id : ℕ → Verdict → Option ℕ
taken_id spir (out.Executed name id mark) = number_under spir name id
taken_id spir (out.Refusing name id notify) = number_under spir name id
taken_id spir verdict = None

-- the response, which is kept under it
abbrev pub response_to : Option ℕ → Option Datagram → Option KeptMessage
response_to None gives = None
response_to (Some id) gives = kept_under id gives

abbrev pub response_in : ℕ → Task → Step → Option KeptMessage
response_in spir task.Receive step = response_to (taken_id spir step.verdict) step.gives
response_in spir asked step = None

-- The greatest Message ID of the cluster's that the peer knows of by this: that of a request which it
-- answered, or that which a member announced in a synchronisation that was accepted. The peer's next
-- expected one is then that.
abbrev pub heard_said : ℕ → Verdict → Option ℕ
heard_said spir (out.SyncAccepted name p2 m2 delta unknown) = number_under spir name m2
heard_said spir verdict = taken_id spir verdict

abbrev pub heard_in : ℕ → Task → Verdict → Option ℕ
heard_in spir task.Receive verdict = heard_said spir verdict
heard_in spir asked verdict = None

-- requests, but for the one of a Message ID
abbrev pub without_replied : Option ℕ → List KeptMessage → List KeptMessage
without_replied None asked = asked
without_replied (Some id) asked = filter (λ message. not (message.id == id)) asked

abbrev pub with_sent : Option KeptMessage → List KeptMessage → List KeptMessage
with_sent None asked = asked
with_sent (Some request) asked = asked ++ request ∷ []

-- the requests that are outstanding once one was sent, and one had its response, or all ended
abbrev pub outstanding_after : Bool → Option KeptMessage → Option ℕ → List KeptMessage
    → List KeptMessage
outstanding_after true sent replied asked = []
outstanding_after false sent replied asked = without_replied replied (with_sent sent asked)

-- what is kept of the requests that were answered, once one more was
abbrev pub with_taken : Option KeptMessage → ResponseWindow → ResponseWindow
with_taken None answered = answered
with_taken (Some response) answered = with_response response answered

-- and once both ends agreed on the next one
abbrev pub answered_after : Option Agreed → Option KeptMessage → ResponseWindow → ResponseWindow
answered_after agreed response answered = with_taken response (after_floor agreed answered)

-- the same questions to a turn, by what its event asks of the end
abbrev pub request_of : (Event → Task) → ℕ → Turn → Option KeptMessage
request_of task_of spir turn = request_in spir (task_of turn.event) turn.step

abbrev pub replied_of : (Event → Task) → ℕ → Turn → Option ℕ
replied_of task_of spir turn = replied_in spir (task_of turn.event) turn.step.verdict

abbrev pub turn_response : (Event → Task) → ℕ → Turn → Option KeptMessage
turn_response task_of spir turn = response_in spir (task_of turn.event) turn.step

abbrev pub turn_agreed : (Event → Task) → ℕ → Turn → Option Agreed
turn_agreed task_of spir turn = agreed_in spir (task_of turn.event) turn.step.verdict

-- the requests that are outstanding after turns: each adds the one that was sent, and ends the one
-- whose response came, or all
abbrev pub outstanding_of : (Event → Task) → ℕ → List Turn → List KeptMessage
outstanding_of task_of spir [] = []
outstanding_of task_of spir (turn ∷ past) = outstanding_after
    (ends_in (turn_agreed task_of spir turn)) (request_of task_of spir turn)
    (replied_of task_of spir turn) (outstanding_of task_of spir past)
