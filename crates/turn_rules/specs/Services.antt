-- What the services give that execute requests for the ends.
use Rattle.std.specs.Prelude.{ℕ, suc, zero, ◌+◌, ◌≡◌, ◌↔◌, Option, Some, None, is_some, slice_get, IfSome, IsSomeAnd, List, [], ◌∷◌, length}
use Rattle.std.specs.List.{filter}
use Rattle.events.specs.declared.turn.Served.{Served}
use Rattle.events.specs.declared.turn.Turn.{Turn}
use Rattle.ha_base.specs.Services.{ReplyRelation}
use Rattle.turn_rules.specs.Ends.{Performer, Peer, Member, own, performer}

-- the service of an end: the peer has its own, and the member that joined as the n-th has the n-th
-- of the others
abbrev pub service_of : {B : Type 0} → B → List B → Performer → Option B
service_of peer members Peer = Some peer
service_of peer members (Member zero) = None
service_of peer members (Member (suc n)) = slice_get members n

-- A service executed a request: it was one more, and the last; the reply is one that it may give.
-- What it may give stays as it is.
pub record Executes {B : Type 0} (count : B → ℕ) (last : B → Option (List ℕ))
    (gives : B → ReplyRelation) (old : B) (served : Served) (new : B) : Type 0 where
  pub counted : count new ≡ count old + 1
  pub last_is : last new ≡ Some served.request.octets
  pub given : gives old (count old + 1) served.request.octets served.reply.octets
  pub same : (n : ℕ) (request reply : List ℕ)
      → gives new n request reply ↔ gives old n request reply

-- The word for the contract of every function to which the service of an end is lent: it executed
-- what was served in the step, and nothing else.
abbrev pub Serves : {B : Type 0} → (B → ℕ) → (B → Option (List ℕ)) → (B → ReplyRelation) → B
    → Option Served → B → Type 0
Serves count last gives old None new = new ≡ old
Serves count last gives old (Some served) new = Executes count last gives old served new

-- how many requests were executed in these turns
abbrev pub services_executed : List Turn → ℕ
services_executed past = length (filter (λ turn. is_some turn.step.served) past)

-- what was executed in the turn, the service of its end may give when it has executed what it did
-- before
abbrev pub IsGiven : {B : Type 0} → (B → ReplyRelation) → (Performer → Option B) → List Turn → Turn
    → Type 0
IsGiven gives service past turn = IfSome turn.step.served (λ served.
    IsSomeAnd (performer turn) (λ end.
    IsSomeAnd (service end) (λ box. gives box (services_executed (own end past)
    + 1) served.request.octets served.reply.octets)))

-- the same of each turn
unfoldable pub AreGiven : {B : Type 0} → (B → ReplyRelation) → (Performer → Option B) → List Turn
    → Type 0
AreGiven gives service [] = Unit {0}
AreGiven gives service (turn ∷ past) = IsGiven gives service past turn × AreGiven gives service past
