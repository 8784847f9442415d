-- What is kept of the responses that were stored, and what that says of a request.
use Rattle.std.specs.Prelude.{◌≡◌, ℕ, ◌+◌, ◌≤◌, ◌↔◌, max, List, [], ◌∷◌, filter, Contains}
use Rattle.ike_window.specs.declared.TheConstants.{WINDOW}
use Rattle.ike_window.specs.Kept.{KeptMessage, by_message_id, message_ids_of, kept_octets}
use Rattle.ike_window.specs.Requests.{IsLeastFree, IsNewRequest}
use Rattle.ike_window.specs.Stored.{no_responses, raised_to, window_of_responses, with_response}
use Rattle.ike_window.specs.Windows.{IsAnswered, Jumps, ResponseWindow, is_repeatable}

-- what is kept of all responses that were stored, the newest first, where this is the floor
pub record IsWindowOf (floor : ℕ) (stored : List KeptMessage) (window : ResponseWindow) :
    Type 0 where
  pub same_floor : window.floor ≡ floor
  pub low : IsLeastFree floor (Contains (message_ids_of stored)) window.low
  pub responses :
      window.responses ≡ filter (is_repeatable floor window.low) (by_message_id stored)

abbrev pub NothingIsStored : Type 0
NothingIsStored = (floor : ℕ) → window_of_responses floor [] ≡ no_responses floor

abbrev pub StoringAddsTheResponse : Type 0
StoringAddsTheResponse =
    (floor : ℕ) (stored : List KeptMessage) (response : KeptMessage) →
    window_of_responses floor (response ∷ stored) ≡
    with_response response (window_of_responses floor stored)

abbrev pub JumpingRaisesTheFloor : Type 0
JumpingRaisesTheFloor =
    (floor to : ℕ) (stored : List KeptMessage) (old new : ResponseWindow) →
    IsWindowOf floor stored old → Jumps to old new → IsWindowOf (max floor to) stored new

-- from the floor on, the Message IDs that were answered are those to which a response was stored
abbrev pub AnsweredAreStored : Type 0
AnsweredAreStored =
    (floor : ℕ) (stored : List KeptMessage) (window : ResponseWindow) (id : ℕ) →
    IsWindowOf floor stored window → floor ≤ id →
    IsAnswered window id ↔ Contains (message_ids_of stored) id

-- what may be repeated is the response that was stored
abbrev pub RepeatsAreTheResponses : Type 0
RepeatsAreTheResponses =
    (floor : ℕ) (stored : List KeptMessage) (window : ResponseWindow) (id : ℕ) →
    IsWindowOf floor stored window → floor ≤ id → window.low ≤ id + WINDOW →
    kept_octets id window.responses ≡ kept_octets id stored

abbrev pub ResponsesGiveOneWindow : Type 0
ResponsesGiveOneWindow =
    (floor : ℕ) (stored : List KeptMessage) (first second : ResponseWindow) →
    IsWindowOf floor stored first → IsWindowOf floor stored second → first ≡ second

abbrev pub ResponsesHaveAWindow : Type 0
ResponsesHaveAWindow =
    (floor : ℕ) (stored : List KeptMessage) →
    IsWindowOf floor stored (window_of_responses floor stored)

-- the same of the window that is made of the responses
abbrev pub AnsweredHaveAResponse : Type 0
AnsweredHaveAResponse =
    (floor : ℕ) (stored : List KeptMessage) (id : ℕ) → floor ≤ id →
    IsAnswered (window_of_responses floor stored) id ↔ Contains (message_ids_of stored) id

-- no request is new there to which a response was stored
abbrev pub NewHaveNoResponse : Type 0
NewHaveNoResponse =
    (floor : ℕ) (stored : List KeptMessage) (id : ℕ) →
    IsNewRequest (window_of_responses floor stored).low
    (IsAnswered (window_of_responses floor stored)) id →
    ¬ Contains (message_ids_of stored) id

-- what is kept of some responses, with the floor raised, is what is kept of them from there on
abbrev pub RaisingGivesOneWindow : Type 0
RaisingGivesOneWindow =
    (floor to : ℕ) (stored : List KeptMessage) →
    raised_to to (window_of_responses floor stored) ≡ window_of_responses (max floor to) stored

-- a window that jumped has its floor raised
abbrev pub JumpsAreRaised : Type 0
JumpsAreRaised =
    (floor to : ℕ) (stored : List KeptMessage) (old new : ResponseWindow) →
    IsWindowOf floor stored old → Jumps to old new → new ≡ raised_to to old

-- a Message ID at or below the floor raises nothing
abbrev pub RaisingByNoMoreKeepsAll : Type 0
RaisingByNoMoreKeepsAll =
    (floor to : ℕ) (stored : List KeptMessage) → to ≤ floor →
    raised_to to (window_of_responses floor stored) ≡ window_of_responses floor stored

-- no request below the floor is new
abbrev pub NewAreFromTheFloorOn : Type 0
NewAreFromTheFloorOn =
    (floor : ℕ) (stored : List KeptMessage) (id : ℕ) →
    IsNewRequest (window_of_responses floor stored).low
    (IsAnswered (window_of_responses floor stored)) id → floor ≤ id
