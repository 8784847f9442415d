-- The lines of a report as data: what each says, by its fields alone.
use Rattle.std.specs.Prelude.{ℕ, Bool, List, Option}
use Rattle.ha_base.specs.declared.outside.Moment.{Moment}
use Rattle.keeper_book.specs.declared.counters.Five.{Five}
use Rattle.events.specs.Events.{PlainEvent, plain}
use Rattle.events.specs.declared.ike_outcomes.Kept.{Kept}
use Rattle.events.specs.declared.ike_outcomes.Kept.TheVariants as keeps
use Rattle.events.specs.declared.ike_outcomes.Mark.{Mark}
use Rattle.events.specs.declared.turn.Medium.{Medium}
use Rattle.events.specs.declared.verdict.Refusal.{Refusal}
use Rattle.events.specs.declared.verdict.Verdict.{Verdict}
use Rattle.events.specs.declared.verdict.Verdict.TheVariants as verdicts
use Rattle.report_text.specs.Drops.{PlainDrop, dropped_message, dropped_packet}
use Rattle.report_text.specs.declared.line.KeyOrigin.{KeyOrigin}
use Rattle.report_text.specs.declared.line.Part.{Part}
use Rattle.report_text.specs.declared.line.PlainAnswer.{PlainAnswer}
use Rattle.report_text.specs.declared.line.PlainAsk.{PlainAsk}
use Rattle.report_text.specs.declared.line.Line.{Line}
use Rattle.report_text.specs.declared.line.Line.TheVariants as lines

-- what was kept of a response besides the reply, as far as a line tells it: not the ticket itself
pub data PlainKept : Type 0 where
  KeptNothing : PlainKept
  KeptTicket : PlainKept
  KeptNack : PlainKept

abbrev pub plain_kept : Kept → PlainKept
plain_kept keeps.Plain = KeptNothing
plain_kept (keeps.Ticket lifetime ticket) = KeptTicket
plain_kept keeps.Nack = KeptNack

-- how an event came out, by the fields of its line alone
pub data PlainVerdict : Type 0 where
  Configured : PlainVerdict
  Entered : PlainVerdict
  Down : PlainVerdict
  Forgotten : PlainVerdict
  Member : ℕ → PlainVerdict  -- its number
  Owned : ℕ → Five → PlainVerdict  -- the epoch, and its bases
  Number : ℕ → PlainVerdict  -- the number that was drawn
  Sent : ℕ → PlainVerdict  -- the ESP number
  Accepted : ℕ → ℕ → List ℕ → PlainVerdict  -- the ESP number, the next header, and the payload
  Asked : ℕ → PlainVerdict  -- the Message ID
  Resent : ℕ → PlainVerdict  -- the Message ID
  Executed : ℕ → Mark → PlainVerdict  -- the Message ID, and what the response tells besides
  Repeated : ℕ → PlainVerdict  -- the Message ID
  Refusing : ℕ → ℕ → PlainVerdict  -- the Message ID, and the notify type
  -- the Message ID, the reply, what was kept besides, and the notify type of an error
  Reply : ℕ → List ℕ → PlainKept → Option ℕ → PlainVerdict
  -- the Message IDs of the member's next request, and of the next one that it expects
  Syncing : ℕ → ℕ → PlainVerdict
  -- the Message IDs of the peer's next request and of the next one that it expects, by how much its
  -- ESP sequence number rose, and the Message IDs of its requests whose outcome stays unknown
  SyncAccepted : ℕ → ℕ → ℕ → List ℕ → PlainVerdict
  -- the Message IDs of the member's next request, and of the next one that it expects
  Synced : ℕ → ℕ → PlainVerdict
  Dropped : PlainDrop → PlainVerdict
  Refused : Refusal → PlainVerdict

abbrev pub plain_verdict : Verdict → PlainVerdict
plain_verdict verdicts.Configured = Configured
plain_verdict verdicts.Entered = Entered
plain_verdict verdicts.Down = Down
plain_verdict verdicts.Forgotten = Forgotten
plain_verdict (verdicts.Member number) = Member number
plain_verdict (verdicts.Owned epoch bases) = Owned epoch bases
plain_verdict (verdicts.Number number) = Number number
plain_verdict (verdicts.Sent number) = Sent number
plain_verdict (verdicts.Accepted counter number next_header payload) =
    Accepted number next_header payload.octets
plain_verdict (verdicts.Asked id) = Asked id
plain_verdict (verdicts.Resent id) = Resent id
plain_verdict (verdicts.Executed counter id mark) = Executed id mark
plain_verdict (verdicts.Repeated id) = Repeated id
plain_verdict (verdicts.Refusing counter id notify) = Refusing id notify
plain_verdict (verdicts.Reply counter id reply kept error) =
    Reply id reply.octets (plain_kept kept) error
plain_verdict (verdicts.Syncing m1 p1) = Syncing m1 p1
plain_verdict (verdicts.SyncAccepted counter p2 m2 delta unknown) = SyncAccepted p2 m2 delta unknown
plain_verdict (verdicts.Synced counter next_ask floor) = Synced next_ask floor
plain_verdict (verdicts.DroppedIke why) = Dropped (dropped_message why)
plain_verdict (verdicts.DroppedEsp why) = Dropped (dropped_packet why)
plain_verdict (verdicts.Refused refusal) = Refused refusal

-- a line of a report
pub data ReportLine : Type 0 where
  -- a turn's number, and the line of its event
  TurnLine : ℕ → Moment → PlainEvent → ReportLine
  -- what the keeper was asked, whether its answer was hidden, and the answer
  KeepLine : PlainAsk → Bool → PlainAnswer → ReportLine
  -- the request that a service executed, and its reply
  ServeLine : List ℕ → List ℕ → ReportLine
  -- the key's origin, the part, the child, the IV, the plaintext, and the sealed octets
  SealLine : KeyOrigin → Part → ℕ → ℕ → List ℕ → List ℕ → ReportLine
  -- the datagram's number, and the datagram
  GivesLine : ℕ → Medium → List ℕ → ReportLine
  OutLine : PlainVerdict → ReportLine
  -- how many turns there are
  EndLine : ℕ → ReportLine

-- the code's line, which borrows its parts, by its fields alone
abbrev pub plain_line : Line → ReportLine
plain_line (lines.Turn number moment event) = TurnLine number moment (plain event.now)
plain_line (lines.Keep ask lost answer) = KeepLine ask lost answer
plain_line (lines.Serve request reply) = ServeLine request.now reply.now
plain_line (lines.Seal origin part child iv text sealed) =
    SealLine origin part child iv text.now sealed.now
plain_line (lines.Gives number medium octets) = GivesLine number medium octets.now
plain_line (lines.Out verdict) = OutLine (plain_verdict verdict.now)
plain_line (lines.End turns) = EndLine turns
