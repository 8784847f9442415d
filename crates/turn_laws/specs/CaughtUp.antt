-- How far the counter of received ESP numbers runs ahead of what the peer sends.
use Rattle.std.specs.Prelude.{ℕ, ◌+◌, ◌≡◌, ◌<◌, ◌≤◌, ◌==◌, ◌&&◌, ◌⊎◌, Option, Some, None, Ok, List, [], ◌∷◌, ◌++◌, if◌then◌else◌}
use Rattle.std.specs.List.{AllByRecursion, filter_map, flat_map}
use Rattle.esp_packets.specs.Packet.{spi_of}
use Rattle.events.specs.declared.seals.Seal.{Seal}
use Rattle.events.specs.declared.turn.Medium.TheVariants as medium
use Rattle.events.specs.declared.turn.Turn.{Turn}
use Rattle.events.specs.declared.verdict.Verdict.TheVariants as out
use Rattle.ha_base.specs.declared.counter_names.CounterName.{CounterName}
use Rattle.ha_base.specs.declared.esp_outcomes.EspOpened.{EspOpened}
use Rattle.horizons.specs.Reaches.{lead_of}
use Rattle.ike_sas.specs.declared.synchronising.TheConstants.{SYNC_DELTA}
use Rattle.keeper_book.specs.Counters.{counter_named, five_at}
use Rattle.keeper_book.specs.Records.{spir_of_origin}
use Rattle.keeper_book.specs.declared.calls.Call.{Call}
use Rattle.keeper_book.specs.declared.calls.KeeperAsk.{KeeperAsk}
use Rattle.keeper_book.specs.declared.calls.KeeperAsk.TheVariants as ask
use Rattle.keeper_book.specs.declared.counters.Counter.{Counter}
use Rattle.keeper_book.specs.declared.counters.Counter.TheVariants as counter
use Rattle.turn_laws.specs.Synchronising.{MemberHolds, PeerHolds}
use Rattle.turn_rules.specs.Datagrams.{arrives, datagrams_of, delivery_of}
use Rattle.turn_rules.specs.Ends.{Member, own, receiver_of}
use Rattle.turn_rules.specs.Held.{Held, held_by, is_named, window_by}
use Rattle.turn_rules.specs.MemberPackets.{IsReceiver, inbound_of}
use Rattle.turn_rules.specs.Packets.{OpensEsp}
use Rattle.turn_rules.specs.Slots.{Slot, peer_counter}

-- these octets were sealed under a name and a number
pub record IsSealOf (name : CounterName) (number : ℕ) (octets : List ℕ) (seal : Seal) : Type 0 where
  pub named : seal.name ≡ name
  pub iv : seal.iv ≡ number
  pub sealed : seal.sealed.octets ≡ octets

abbrev pub SealsThem : CounterName → ℕ → List ℕ → List Seal → Type 0
SealsThem name number octets [] = ⊥
SealsThem name number octets (seal ∷ seals) =
    IsSealOf name number octets seal ⊎ SealsThem name number octets seals

-- in one of these turns they were
abbrev pub WereSealed : CounterName → ℕ → List ℕ → List Turn → Type 0
WereSealed name number octets [] = ⊥
WereSealed name number octets (turn ∷ past) =
    SealsThem name number octets turn.step.seals ⊎ WereSealed name number octets past

-- a member opened the octets that came to it in this turn as the packet of a number, by what it
-- held of the association that receives at their SPI
pub record OpensPacketOf (past : List Turn) (turn : Turn) (member number : ℕ) (held : Held)
    (octets : List ℕ) : Type 0 where
  pub addressed : receiver_of (delivery_of turn.event) ≡ Some (Member member)
  pub arrived : arrives (datagrams_of past) turn.event
      ≡ Ok (record { medium = medium.Esp; octets = octets })
  pub spir : ℕ
  pub receives : IsReceiver (held_by (window_by past) (own (Member member) past))
      (spi_of octets) spir held
  pub packet : EspOpened
  pub after : List ℕ
  pub opens : OpensEsp (inbound_of held) octets (Ok packet) after
  pub numbered : packet.number ≡ number

-- No packet that a member opened was invented: the peer sealed these octets in an earlier turn,
-- under that number of the association.
abbrev pub NoneInvented : List Turn → Type 0
NoneInvented [] = Unit {0}
NoneInvented (turn ∷ past) = ((member number : ℕ) (held : Held) (octets : List ℕ)
    → OpensPacketOf past turn member number held octets
    → WereSealed (peer_counter held.sa counter.EspOut) number octets past)
    × NoneInvented past

-- up to where a cover of the counter of the association was asked for, whatever was answered
abbrev pub upto_asked : ℕ → Counter → KeeperAsk → Option ℕ
upto_asked spir c (ask.Cover asked kind child epoch upto) =
    if (asked == spir) && is_named c (counter_named kind child) then Some upto else None
upto_asked spir c asked = None

-- up to where covers of its received ESP numbers were
abbrev pub uptos_of : ℕ → List Call → List ℕ
uptos_of spir calls = filter_map (λ call. upto_asked spir counter.EspIn call.asked) calls

abbrev pub uptos_in : ℕ → List Turn → List ℕ
uptos_in spir past = flat_map (λ turn. uptos_of spir turn.calls) past

-- The peer has the association, and the number lies less than one cover above the one that the peer
-- sends next in it.
pub record IsCaughtUp (past : List Turn) (spir upto : ℕ) : Type 0 where
  pub slot : Slot
  pub holds : PeerHolds past spir slot
  pub below : upto < slot.next + lead_of counter.EspIn

-- so it is of each cover of received ESP numbers that was ever asked for
abbrev pub CoversAreCaughtUp : List Turn → Type 0
CoversAreCaughtUp past = (spir : ℕ) → AllByRecursion (IsCaughtUp past spir) (uptos_in spir past)

-- Where the peer accepted a synchronisation with a whole lead, the number that it sends next is not
-- below the base of any holding that a member had of the association before an earlier turn: so also
-- of that one by which the request was sealed.
abbrev pub CatchesUp : List Turn → Turn → Type 0
CatchesUp past turn = (name : CounterName) (p2 m2 delta : ℕ) (unknown : List ℕ)
    → turn.step.verdict ≡ out.SyncAccepted name p2 m2 delta unknown → delta ≡ SYNC_DELTA
    → (spir : ℕ) (slot : Slot) → spir_of_origin name.origin ≡ Some spir
    → PeerHolds (turn ∷ past) spir slot
    → (later earlier : List Turn) (member : ℕ) (held : Held) → past ≡ later ++ earlier
    → MemberHolds earlier member spir held → five_at held.bases counter.EspIn ≤ slot.next

-- each synchronisation of a trace was so
abbrev pub AllCatchUp : List Turn → Type 0
AllCatchUp [] = Unit {0}
AllCatchUp (turn ∷ past) = CatchesUp past turn × AllCatchUp past
