-- What octets that came are to an end: the first step that applies (RFC 7296, sections 2.1 to 2.3,
-- 2.21 and 3.1).
use Rattle.std.specs.Prelude.{◌≡◌, ◌≢◌, ◌⊎◌, ℕ, ◌==◌, ◌&&◌, ◌||◌, nat_lt, not, Bool, true, false, List, [], ◌∷◌, Option, None, Some, is_some, MatchBool, MatchOption, Result, Ok, Err}
use Rattle.events.specs.declared.turn.Datagram.{Datagram}
use Rattle.events.specs.declared.turn.Medium.TheVariants.{Ike}
use Rattle.ha_base.specs.declared.counter_names.End.{End}
use Rattle.ha_base.specs.declared.counter_names.End.TheVariants.{Cluster, Peer}
use Rattle.ike_values.specs.declared.fault.Bad.{Bad}
use Rattle.ike_grammar.specs.Messages.{MessageRefused}
use Rattle.ike_sas.specs.Held.{IkeHeld, is_initiator}
use Rattle.ike_sas.specs.declared.arrival.Arrival.{Arrival}
use Rattle.ike_sas.specs.declared.arrival.Arrival.TheVariants as arrival
use Rattle.events.specs.declared.ike_outcomes.IkeDrop.TheVariants as drop
use Rattle.ike_sas.specs.declared.exchanges.TheConstants.{CREATE_CHILD_SA, IKE_AUTH, IKE_SESSION_RESUME, INFORMATIONAL}
use Rattle.ike_values.specs.Headers.{IsMessage}
use Rattle.ike_values.specs.Values.{PayloadValue, sk}
use Rattle.ike_values.specs.declared.header.Header.{Header}
use Rattle.ike_values.specs.declared.header.Message.{Message}
use Rattle.ike_window.specs.Kept.{kept_octets}
use Rattle.ike_window.specs.Requests.{IsNewRequest, IsRequestJudgedBy}
use Rattle.ike_window.specs.Windows.{IsAnswered}
use Rattle.ike_window.specs.declared.judged.Judged.{Judged}
use Rattle.ike_window.specs.declared.judged.Judged.TheVariants as judged
use Rattle.sk_payload.specs.Answers.{IsNotOpened, IsOpening}
use Rattle.sk_payload.specs.declared.open.Opened.{Opened}
use Rattle.sync_exchange.specs.Notifications.{ids_in}

-- ---- synchronisations

abbrev pub bad_in : Result (List PayloadValue) Bad → Option Bad
bad_in (Ok payloads) = None
bad_in (Err bad) = Some bad

-- the first IKEV2_MESSAGE_ID_SYNC has its twelve octets
abbrev pub has_message_ids : List PayloadValue → Bool
has_message_ids payloads = is_some (ids_in payloads)

abbrev pub has_message_ids_inside : Result (List PayloadValue) Bad → Bool
has_message_ids_inside (Ok payloads) = has_message_ids payloads
has_message_ids_inside (Err bad) = false

-- a request to synchronise, or its response: INFORMATIONAL, with Message ID 0 (RFC 6311, section
-- 5.1)
abbrev pub is_synchronisation : Opened → Bool
is_synchronisation opened =
    (opened.header.exchange == INFORMATIONAL) && (opened.header.id == 0)
    && has_message_ids_inside opened.inner

-- ---- a response

-- a synchronisation's response is for a member; every other response is one to the request of its
-- Message ID
abbrev pub IsSyncResponse : End → Opened → Arrival → Type 0
IsSyncResponse Cluster opened answer = answer ≡ arrival.SyncResponse opened
IsSyncResponse Peer opened answer = answer ≡ arrival.Dropped drop.NotAsked

abbrev pub IsGoodResponse : IkeHeld → Opened → Arrival → Type 0
IsGoodResponse held opened answer =
    MatchBool (is_synchronisation opened) (IsSyncResponse held.keys.end opened answer)
    (MatchOption (kept_octets opened.header.id held.asked)
    (answer ≡ arrival.Dropped drop.NotAsked) (λ _. answer ≡ arrival.Response opened))

abbrev pub IsResponseArrival : IkeHeld → Opened → Arrival → Type 0
IsResponseArrival held opened answer =
    MatchOption (bad_in opened.inner) (IsGoodResponse held opened answer)
    (λ bad. answer ≡ arrival.Dropped (drop.Bad bad))

-- ---- a request

-- the response that is kept, once more
abbrev pub IsRepeated : IkeHeld → ℕ → Arrival → Type 0
IsRepeated held id answer =
    (datagram : Datagram) × (answer ≡ arrival.Repeat id datagram) × (datagram.medium ≡ Ike)
    × (kept_octets id held.answered.responses ≡ Some datagram.octets.octets)

-- by what the window says of its Message ID
abbrev pub IsByWindow : Judged → IkeHeld → Opened → Arrival → Type 0
IsByWindow judged.New held opened answer = answer ≡ arrival.New opened
IsByWindow judged.Repeat held opened answer = IsRepeated held opened.header.id answer
IsByWindow judged.Ahead held opened answer =
    answer ≡ arrival.Dropped (drop.Ahead opened.header.id)
IsByWindow judged.Old held opened answer = answer ≡ arrival.Dropped (drop.Old opened.header.id)

abbrev pub IsInWindow : IkeHeld → Opened → Arrival → Type 0
IsInWindow held opened answer =
    (says : Judged)
    × IsRequestJudgedBy held.answered.floor held.answered.low (IsAnswered held.answered)
    opened.header.id says × IsByWindow says held opened answer

-- below the floor it is old; an end that has yet to synchronise takes none; then the window judges
abbrev pub IsOrdinaryRequest : IkeHeld → Opened → Arrival → Type 0
IsOrdinaryRequest held opened answer =
    MatchBool (nat_lt opened.header.id held.answered.floor)
    (answer ≡ arrival.Dropped (drop.Old opened.header.id))
    (MatchBool held.synced (IsInWindow held opened answer)
    (answer ≡ arrival.Dropped (drop.NotSynced opened.header.id)))

-- a synchronisation is asked for by a member, so it is one at the peer alone
abbrev pub IsRequestArrival : IkeHeld → Opened → Arrival → Type 0
IsRequestArrival held opened answer =
    MatchBool (is_initiator held.keys.end && is_synchronisation opened)
    (answer ≡ arrival.Synchronisation opened) (IsOrdinaryRequest held opened answer)

-- ---- a message

abbrev pub IsOpenedArrival : IkeHeld → Opened → Arrival → Type 0
IsOpenedArrival held opened answer =
    MatchBool opened.header.response (IsResponseArrival held opened answer)
    (IsRequestArrival held opened answer)

-- by what the association opens
abbrev pub IsArrivalAt : IkeHeld → List ℕ → Message → Arrival → Type 0
IsArrivalAt held octets message answer =
    (IsNotOpened held.keys.receiving.octets octets × (answer ≡ arrival.Dropped drop.NotOpened))
    ⊎ ((opened : Opened) × IsOpening held.keys.receiving.octets octets (Ok opened)
    × (opened.header ≡ message.header) × IsOpenedArrival held opened answer)

abbrev pub is_only_sk : List PayloadValue → Bool
is_only_sk (sk body ∷ []) = true
is_only_sk _ = false

-- a message of an exchange that is sealed, whose only payload is SK
abbrev pub is_sealed : Message → Bool
is_sealed message =
    ((message.header.exchange == IKE_AUTH) || (message.header.exchange == CREATE_CHILD_SA)
    || (message.header.exchange == INFORMATIONAL)) && is_only_sk message.payloads

-- the Initiator flag is that of this end, and so not of the other one
abbrev pub is_own_flag : End → Bool → Bool
is_own_flag Cluster initiator = not initiator
is_own_flag Peer initiator = initiator

-- the message that the octets spell, at an end that holds these associations under an initiator's
-- and a responder's SPI
abbrev pub IsMessageArrival :
    (ℕ → ℕ → Option IkeHeld) → End → List ℕ → Message → Arrival → Type 0
IsMessageArrival held_under end octets message answer =
    MatchBool (is_own_flag end message.header.initiator)
    (answer ≡ arrival.Dropped drop.Direction)
    (MatchBool (message.header.exchange == IKE_SESSION_RESUME)
    (answer ≡ arrival.Resumption message)
    (MatchBool (is_sealed message)
    (MatchOption (held_under message.header.spii message.header.spir)
    (answer ≡ arrival.Dropped drop.UnknownSpi) (λ held. IsArrivalAt held octets message answer))
    (answer ≡ arrival.Dropped (drop.Exchange message.header.exchange))))

-- what octets are to an end
abbrev pub IsArrival : (ℕ → ℕ → Option IkeHeld) → End → List ℕ → Arrival → Type 0
IsArrival held_under end octets answer =
    ((bad : Bad) × MessageRefused octets bad.place bad.reason
    × (answer ≡ arrival.Dropped (drop.Bad bad)))
    ⊎ ((message : Message) × IsMessage message octets
    × IsMessageArrival held_under end octets message answer)

-- ---- what a new request is

-- it has this header, and the window has it as new
abbrev pub IsNewFor : IkeHeld → Header → Arrival → Type 0
IsNewFor held header (arrival.New opened) =
    (opened.header ≡ header)
    × IsNewRequest held.answered.low (IsAnswered held.answered) opened.header.id
IsNewFor held header _ = Unit {0}

-- the window of the association that has its SPIs has it as new
abbrev pub IsNewThere : (ℕ → ℕ → Option IkeHeld) → Opened → Type 0
IsNewThere held_under opened =
    (held : IkeHeld) × (held_under opened.header.spii opened.header.spir ≡ Some held)
    × IsNewRequest held.answered.low (IsAnswered held.answered) opened.header.id

abbrev pub NewIsNew : (ℕ → ℕ → Option IkeHeld) → Arrival → Type 0
NewIsNew held_under (arrival.New opened) = IsNewThere held_under opened
NewIsNew held_under _ = Unit {0}
