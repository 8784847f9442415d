-- What a world shows. X and F are what stands behind the boxes of its services.
use Rattle.std.specs.Prelude.{ℕ, ◌+◌, ◌≡◌, ◌<◌, Option, Some, None, IsSome, is_some, List, [], ◌∷◌, length, slice_index_or, if◌then◌else◌}
use Rattle.std.specs.declared.alloc.Global.{Global}
use Rattle.std.specs.declared.dyn_box.DynBox.{DynBox}
use Rattle.events.specs.declared.turn.Turn.{Turn}
use Rattle.ha_base.specs.Services.{ReplyRelation}
use Rattle.replay_world.specs.declared.world.World.{World}
use Rattle.run_ends.specs.Runs.{Run}
use Rattle.turn_laws.specs.Serving.{HaveServed, ServeRun, box_of, end_named}
use Rattle.turn_rules.specs.Ends.{Peer, Performer}

-- its run
abbrev pub run_of : {X : Type 0} {F : X → Type 0} → World X F → Run
run_of world = world.ends

-- the service of the peer
abbrev pub peer_service_of : {X : Type 0} {F : X → Type 0} → World X F → DynBox X Global F
peer_service_of world = world.peer_service

-- those of the members, the n-th of the member that joined as the n-th, until it ends
abbrev pub services_of : {X : Type 0} {F : X → Type 0} → World X F
    → List (Option (DynBox X Global F))
services_of world = world.services.items

-- the service of each end, where it is there
abbrev pub boxes_of : {X : Type 0} {F : X → Type 0} → World X F → Performer
    → Option (DynBox X Global F)
boxes_of world = box_of (peer_service_of world) (services_of world)

-- the end whose service is lent for an event: the one that it names, where its service is there,
-- and else the peer
abbrev pub lent_for : {B : Type 0} → (Performer → Option B) → Option ℕ → Performer
lent_for boxes named = if is_some (boxes (end_named named)) then end_named named else Peer

-- the services executed what the newest turn says, each for its own end, and nothing else
abbrev pub ServeNewest : {B : Type 0} → (B → ℕ) → (B → Option (List ℕ)) → (B → ReplyRelation)
    → List Turn → (old new : Performer → Option B) → Type 0
ServeNewest count last gives [] old new = ⊥
ServeNewest count last gives (turn ∷ past) old new = HaveServed count last gives turn old new

-- what services executed over turns before goes on over these: whatever was handed in, they may
-- give what was executed
abbrev pub ServesOn : {B : Type 0} → (B → ℕ) → (B → ReplyRelation) → List Turn
    → (Performer → Option B) → List Turn → (Performer → Option B) → Type 0
ServesOn {B} count gives before old past new = (handed : Performer → Option B)
    → ServeRun count gives handed before old → ServeRun count gives handed past new

-- the service of a member stands at this place, counted from 1
pub record IsServicePlace {B : Type 0} (services : List (Option B)) (member : Option ℕ)
    (place : ℕ) : Type 0 where
  pub named : member ≡ Some (place + 1)
  pub within : place < length services
  pub there : IsSome (slice_index_or services place None)
