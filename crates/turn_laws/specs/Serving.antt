-- What the services of the ends execute over a run.
use Rattle.std.specs.Prelude.{ℕ, zero, suc, ◌≡◌, ◌≤◌, ◌↔◌, Bool, true, false, Option, Some, None, IsSome, IsSomeAnd, List, length, slice_index_or, if◌then◌else◌}
use Rattle.events.specs.declared.turn.Served.{Served}
use Rattle.events.specs.declared.turn.Turn.{Turn}
use Rattle.ha_base.specs.Services.{ReplyRelation}
use Rattle.turn_rules.specs.Ends.{Member, Peer, Performer, is_by, is_performer, own, performer}
use Rattle.turn_rules.specs.Fits.{named_in}
use Rattle.turn_rules.specs.Genuine.{IsUp}
use Rattle.turn_rules.specs.Services.{AreGiven, Serves, services_executed}
use Rattle.turn_rules.specs.States.{ended_in, ends, has_ended, joins}

-- the end that an event names: a member, or else the peer
abbrev pub end_named : Option ℕ → Performer
end_named None = Peer
end_named (Some member) = Member member

-- what a turn executes is executed for the end that its event names, which is up and stays
pub record ServesNamed (past : List Turn) (turn : Turn) : Type 0 where
  pub by : performer turn ≡ Some (end_named (named_in turn.event))
  pub up : IsUp past (end_named (named_in turn.event))
  pub stays : ended_in turn ≡ None

-- what was executed in a turn for an end
abbrev pub served_for : Performer → Turn → Option Served
served_for end turn = if is_by end turn then turn.step.served else None

-- the service of a member, where it is there: the member that joined as the n-th has the n-th of
-- these, until it ends
abbrev pub member_box : {B : Type 0} → List (Option B) → ℕ → Option B
member_box members zero = None
member_box members (suc place) = slice_index_or members place None

-- and that of an end: the peer has its own
abbrev pub box_of : {B : Type 0} → B → List (Option B) → Performer → Option B
box_of peer members Peer = Some peer
box_of peer members (Member number) = member_box members number

-- the end ended in the turn
abbrev pub ends_in : Performer → Turn → Bool
ends_in Peer turn = false
ends_in (Member member) turn = ends member turn.event turn.step.verdict

-- a service executed this and nothing else; one that is not there stays so
abbrev pub ServesThere : {B : Type 0} → (B → ℕ) → (B → Option (List ℕ)) → (B → ReplyRelation)
    → Option B → Option Served → Option B → Type 0
ServesThere count last gives None served new = new ≡ None
ServesThere count last gives (Some old) served None = ⊥
ServesThere count last gives (Some old) served (Some new) = Serves count last gives old served new

-- that of a member that ended executed nothing, and is dropped
abbrev pub GoesOn : {B : Type 0} → (B → ℕ) → (B → Option (List ℕ)) → (B → ReplyRelation) → Bool
    → Option B → Option Served → Option B → Type 0
GoesOn count last gives true old served new = (served ≡ None) × (new ≡ None)
GoesOn count last gives false old served new = ServesThere count last gives old served new

-- Each service executed what the turn says for its end and nothing else, which was there, and the
-- one of a member that ended was dropped.
pub record HaveServed {B : Type 0} (count : B → ℕ) (last : B → Option (List ℕ))
    (gives : B → ReplyRelation) (turn : Turn) (old new : Performer → Option B) : Type 0 where
  pub each : (end : Performer)
      → GoesOn count last gives (ends_in end turn) (old end) (served_for end turn) (new end)
  pub there : IsSome turn.step.served → IsSomeAnd (performer turn) (λ end. IsSome (old end))

-- the service of an end was lent: it executed this and nothing else, and the others are as before
pub record LentFor {B : Type 0} (count : B → ℕ) (last : B → Option (List ℕ))
    (gives : B → ReplyRelation) (lent : Performer) (served : Option Served)
    (old new : Performer → Option B) : Type 0 where
  pub serves : ServesThere count last gives (old lent) served (new lent)
  pub others : (end : Performer) → is_performer end lent ≡ false → new end ≡ old end

-- Services of a run: none executed more than there are turns, so many members may join as there are
-- places, and only a member that ended has none.
pub record KeepServices {B : Type 0} (count : B → ℕ) (places : ℕ) (past : List Turn)
    (now : Performer → Option B) : Type 0 where
  pub few : (end : Performer) (box : B) → now end ≡ Some box → count box ≤ length past
  pub joined : joins past ≤ places
  pub of_peer : IsSome (now Peer)
  pub of_member : (member : ℕ) → 1 ≤ member → member ≤ places → has_ended member past ≡ false
      → IsSome (now (Member member))

-- a service executed what its end's turns say, and gives what it gave when it was handed in
pub record HasServed {B : Type 0} (count : B → ℕ) (gives : B → ReplyRelation) (handed : B)
    (turns : List Turn) (now : B) : Type 0 where
  pub counted : count now ≡ services_executed turns
  pub same : (n : ℕ) (request reply : List ℕ)
      → gives now n request reply ↔ gives handed n request reply

-- so did each service that is there of those that were handed in, and they may give what was
-- executed
pub record ServeRun {B : Type 0} (count : B → ℕ) (gives : B → ReplyRelation)
    (handed : Performer → Option B) (past : List Turn) (now : Performer → Option B) : Type 0 where
  pub each : (end : Performer) (box : B) → now end ≡ Some box → IsSomeAnd (handed end)
      (λ given. HasServed count gives given (own end past) box)
  pub given : AreGiven gives handed past
