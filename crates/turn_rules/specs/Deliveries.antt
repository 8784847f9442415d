-- What an end does with a datagram that comes to it, as a turn says it.
use Rattle.std.specs.Prelude.{ℕ, ◌≡◌, Option, List, []}
use Rattle.events.specs.declared.turn.Medium.{Medium}
use Rattle.events.specs.declared.turn.Medium.TheVariants as medium
use Rattle.events.specs.declared.turn.Step.{Step}
use Rattle.events.specs.declared.verdict.EspVerdict.{EspVerdict}
use Rattle.ha_base.specs.declared.outside.Moment.{Moment}
use Rattle.keeper_book.specs.declared.calls.Call.{Call}
use Rattle.turn_rules.specs.Held.{Held}
use Rattle.turn_rules.specs.MemberMessages.{member_listener}
use Rattle.turn_rules.specs.MemberPackets.{MemberReceives}
use Rattle.turn_rules.specs.MemberStates.{MemberHeld}
use Rattle.turn_rules.specs.Messages.{TakesMessage}
use Rattle.turn_rules.specs.Packets.{IsVerdictOf}
use Rattle.turn_rules.specs.PeerMessages.{peer_listener}
use Rattle.turn_rules.specs.Slots.{PeerReceives, Slot}
use Rattle.turn_rules.specs.Steps.{IsQuiet}

-- a member receives a packet by what it holds, and says what it answers
pub record MemberTakes (held : ℕ → Option Held) (octets : List ℕ) (calls : List Call)
    (step : Step) : Type 0 where
  pub answer : EspVerdict
  pub after : List ℕ
  pub receives : MemberReceives held octets calls answer after
  pub worded : IsVerdictOf answer after step.verdict
  pub quiet : IsQuiet step

-- the peer receives a packet by its associations, and says what it answers
pub record PeerTakes (slots : List Slot) (octets : List ℕ) (calls : List Call)
    (step : Step) : Type 0 where
  pub answer : EspVerdict
  pub after : List ℕ
  pub receives : PeerReceives slots octets answer after
  pub worded : IsVerdictOf answer after step.verdict
  pub quiet : IsQuiet step
  pub no_calls : calls ≡ []

-- a member gets an IKE message or an ESP packet at a moment
abbrev pub MemberGets : Medium → MemberHeld → Moment → List ℕ → List Call → Step → Type 0
MemberGets medium.Ike member now octets calls step =
    TakesMessage (member_listener member now) octets calls step
MemberGets medium.Esp member now octets calls step = MemberTakes member.held octets calls step

-- the peer gets an IKE message or an ESP packet
abbrev pub PeerGets : Medium → List Slot → List ℕ → List Call → Step → Type 0
PeerGets medium.Ike slots octets calls step =
    TakesMessage (peer_listener slots) octets calls step
PeerGets medium.Esp slots octets calls step = PeerTakes slots octets calls step
