-- What a synchronisation leaves an end, as its own turns tell before and after it (RFC 6311,
-- section 5).
use Rattle.std.specs.Prelude.{ℕ, ◌+◌, ◌==◌, ◌≡◌, ◌≤◌, max, unwrap_or, Bool, true, false, Some, None, Ok, List, [], ◌∷◌, ◌++◌}
use Rattle.std.specs.List.{AllByRecursion, filter_map}
use Rattle.events.specs.declared.turn.Medium.TheVariants as medium
use Rattle.events.specs.declared.turn.Turn.{Turn}
use Rattle.events.specs.declared.verdict.Verdict.TheVariants as out
use Rattle.ha_base.specs.declared.counter_names.CounterName.{CounterName}
use Rattle.ha_base.specs.declared.limits.TheConstants.{SEQUENCE_END}
use Rattle.ike_values.specs.Values.{PayloadValue}
use Rattle.ike_window.specs.Kept.{message_ids_of}
use Rattle.keeper_book.specs.Counters.{five_at}
use Rattle.keeper_book.specs.declared.counters.Counter.TheVariants as counter
use Rattle.sk_payload.specs.Answers.{IsOpening}
use Rattle.sk_payload.specs.declared.open.Opened.{Opened}
use Rattle.sync_exchange.specs.Counters.{CanRise, IsAbove, next_after, rise_of}
use Rattle.sync_exchange.specs.Notifications.{IsRequest, ids_in}
use Rattle.sync_exchange.specs.declared.message_ids.MessageIds.{MessageIds}
use Rattle.sync_exchange.specs.declared.replay_counter.TheConstants.{DELTA_OCTETS}
use Rattle.sync_exchange.specs.declared.request.SyncRequest.{SyncRequest}
use Rattle.turn_laws.specs.Places.{Ours, Place, place_of}
use Rattle.turn_laws.specs.Turns.{place_answered}
use Rattle.turn_rules.specs.Datagrams.{arrives, datagrams_of}
use Rattle.turn_rules.specs.Draws.{counter_name}
use Rattle.turn_rules.specs.Ends.{Member, Peer, own, performer}
use Rattle.turn_rules.specs.Held.{Held, found, grant_of, held_by, window_by}
use Rattle.turn_rules.specs.MemberMessages.{cluster_keys, sync_nonce}
use Rattle.turn_rules.specs.PeerMessages.{peer_keys}
use Rattle.turn_rules.specs.Safe.{Request, taken_in}
use Rattle.turn_rules.specs.Slots.{Slot, first_slot, peer_counter, slots_by}
use Rattle.turn_rules.specs.MemberStates.{fresh_at}

-- in this turn octets came which open under a key, and these payloads stand in them
pub record CameWith (past : List Turn) (turn : Turn) (key : List ℕ)
    (payloads : List PayloadValue) : Type 0 where
  pub octets : List ℕ
  pub arrived : arrives (datagrams_of past) turn.event
      ≡ Ok (record { medium = medium.Ike; octets = octets })
  pub message : Opened
  pub opens : IsOpening key octets (Ok message)
  pub inner : message.inner ≡ Ok payloads

-- the association of a responder's SPI, closed or not
abbrev pub is_association : ℕ → Slot → Bool
is_association spir slot = slot.sa.spir == spir

-- what the peer's own turns say that it holds of it
abbrev pub PeerHolds : List Turn → ℕ → Slot → Type 0
PeerHolds past spir slot =
    first_slot (is_association spir) (slots_by (window_by past) (own Peer past)) ≡ Some slot

-- and what a member's say
abbrev pub MemberHolds : List Turn → ℕ → ℕ → Held → Type 0
MemberHolds past member spir held =
    held_by (window_by past) (own (Member member) past) spir ≡ Some held

-- The peer accepted what this request announces, and its counters became the pairwise greater ones;
-- its ESP number rose by the delta, and its outstanding requests ended.
pub record TakesGreater (request : SyncRequest) (before after : Slot) : Type 0 where
  pub above : IsAbove request.m1 before.highest
  pub can_rise : CanRise DELTA_OCTETS SEQUENCE_END before.next request
  pub floor : after.answered.floor ≡ max request.m1 (next_after before.highest)
  pub next : after.ask ≡ max request.p1 before.ask
  pub rose : after.next ≡ before.next + rise_of DELTA_OCTETS request
  pub ended : after.asked ≡ []

-- The turn is one of the peer's, which a request to synchronise came to; `before` and `after` are
-- what it held of its association.
pub record PeerSynchronised (past : List Turn) (turn : Turn) (name : CounterName)
    (p2 m2 delta : ℕ) (unknown : List ℕ) : Type 0 where
  pub before : Slot
  pub after : Slot
  pub request : SyncRequest
  pub payloads : List PayloadValue
  pub by_peer : performer turn ≡ Some Peer
  pub named : name ≡ peer_counter before.sa counter.Answer
  pub had : PeerHolds past before.sa.spir before
  pub has : PeerHolds (turn ∷ past) before.sa.spir after
  pub came : CameWith past turn (peer_keys before.sa).receiving.octets payloads
  pub asks : IsRequest payloads request
  pub greater : TakesGreater request before after
  -- what the verdict says is this
  pub floor_said : m2 ≡ after.answered.floor
  pub next_said : p2 ≡ after.ask
  pub delta_said : delta ≡ rise_of DELTA_OCTETS request
  pub unknown_said : unknown ≡ message_ids_of before.asked

-- the fresh octets of a member, as its own turns tell them
abbrev pub fresh_by : List Turn → List ℕ
fresh_by past = unwrap_or (found fresh_at past) []

-- The turn is one of a member's, which the response to the last request to synchronise came to that
-- it made in its holding; `before` and `after` are what it held. It was not synchronised, and is
-- then, and has the greater of its own two Message IDs and those of the response.
pub record MemberSynchronised (past : List Turn) (turn : Turn) (name : CounterName)
    (next floor : ℕ) : Type 0 where
  pub member : ℕ
  pub before : Held
  pub after : Held
  pub attempt : ℕ
  pub ids : MessageIds
  pub payloads : List PayloadValue
  pub by_member : performer turn ≡ Some (Member member)
  pub named : name ≡ counter_name before.sa counter.Answer
  pub had : MemberHolds past member before.sa.spir before
  pub has : MemberHolds (turn ∷ past) member before.sa.spir after
  pub unsynced : before.synced ≡ false
  pub awaited : before.attempt ≡ Some attempt
  pub came : CameWith past turn (cluster_keys before.sa).receiving.octets payloads
  pub answers : ids_in payloads ≡ Some ids
  pub nonce : ids.nonce ≡ sync_nonce (fresh_by (own (Member member) past)) attempt
  pub greater_next :
      five_at after.nexts counter.Ask ≡ max (five_at before.nexts counter.Ask) ids.receive
  pub greater_floor : after.answered.floor ≡ max before.answered.floor ids.send
  pub synced : after.synced ≡ true
  -- what the verdict says is this
  pub next_said : next ≡ five_at after.nexts counter.Ask
  pub floor_said : floor ≡ after.answered.floor

-- each synchronisation that the peer accepts, or a member, is one of these
abbrev pub PeerSynchronises : List Turn → Turn → Type 0
PeerSynchronises past turn = (name : CounterName) (p2 m2 delta : ℕ) (unknown : List ℕ)
    → turn.step.verdict ≡ out.SyncAccepted name p2 m2 delta unknown
    → PeerSynchronised past turn name p2 m2 delta unknown

abbrev pub MemberSynchronises : List Turn → Turn → Type 0
MemberSynchronises past turn = (name : CounterName) (next floor : ℕ)
    → turn.step.verdict ≡ out.Synced name next floor
    → MemberSynchronised past turn name next floor

-- a request of another association or end, or one from this Message ID on
abbrev pub IsFrom : Place → ℕ → Request → Type 0
IsFrom place floor request = place_answered request ≡ place → floor ≤ request.id

-- of the requests that these turns took, none of the place lies below the floor
abbrev pub TakeFrom : Place → ℕ → List Turn → Type 0
TakeFrom place floor turns = AllByRecursion (IsFrom place floor) (filter_map taken_in turns)

-- so it is of the peer's turns after one in which it accepted a synchronisation
abbrev pub PeerTakesFrom : List Turn → Turn → Type 0
PeerTakesFrom later turn = (name : CounterName) (p2 m2 delta : ℕ) (unknown : List ℕ)
    → turn.step.verdict ≡ out.SyncAccepted name p2 m2 delta unknown
    → TakeFrom (place_of name) m2 (own Peer later)

-- and of a member's after one in which it did, as long as the association is not granted to it
-- again
abbrev pub MemberTakesFrom : List Turn → Turn → Type 0
MemberTakesFrom later turn = (member spir : ℕ) (name : CounterName) (next floor : ℕ)
    → performer turn ≡ Some (Member member)
    → turn.step.verdict ≡ out.Synced name next floor → place_of name ≡ Ours spir counter.Answer
    → found (grant_of spir) (own (Member member) later) ≡ None
    → TakeFrom (place_of name) floor (own (Member member) later)

-- each synchronisation of a trace leaves the greater counters
abbrev pub AreGreater : List Turn → Type 0
AreGreater [] = Unit {0}
AreGreater (turn ∷ past) = PeerSynchronises past turn × MemberSynchronises past turn
    × AreGreater past

-- and the turns after it take no request below the floor that it left
abbrev pub NoneIsTakenBelow : List Turn → Type 0
NoneIsTakenBelow trace = (later past : List Turn) (turn : Turn) → trace ≡ later ++ turn ∷ past
    → PeerTakesFrom later turn × MemberTakesFrom later turn

-- what the synchronisations of a trace leave
pub record LeavesGreater (trace : List Turn) : Type 0 where
  pub greater : AreGreater trace
  pub none_below : NoneIsTakenBelow trace
