-- What the fields of a report's line may be.
use Rattle.std.specs.Prelude.{ℕ, ◌^◌, ◌<◌, List, Option, Some, None}
use Rattle.std.specs.List.{All}
use Rattle.ha_base.specs.declared.counter_names.Derivation.{Derivation}
use Rattle.ha_base.specs.declared.limits.TheConstants.{ALLOCATION_END}
use Rattle.ike_values.specs.declared.fault.Reason.{Reason}
use Rattle.ike_values.specs.declared.fault.Reason.TheVariants.{UnknownCritical}
use Rattle.keeper_book.specs.declared.counters.Five.{Five}
use Rattle.events.specs.declared.ike_outcomes.Mark.{Mark}
use Rattle.events.specs.declared.ike_outcomes.Mark.TheVariants.{Ticket}
use Rattle.events.specs.declared.verdict.Refusal.{Refusal}
use Rattle.events.specs.declared.verdict.Refusal.TheVariants as refusals
use Rattle.event_text.specs.Grammar.{EventLine, line_words}
use Rattle.line_fields.specs.Octets.{IsOctetField}
use Rattle.line_fields.specs.Words.{line_of}
use Rattle.report_text.specs.Drops.{PlainDrop, Bad, Exchange, Old, Ahead, NotSynced, SyncOld}
use Rattle.report_text.specs.Lines.{PlainVerdict, ReportLine, Configured, Entered, Down, Forgotten, Member, Owned, Number, Sent, Asked, Resent, Executed, Repeated, Refusing, Reply, Syncing, SyncAccepted, Synced, Accepted, Dropped, Refused, TurnLine, KeepLine, ServeLine, SealLine, GivesLine, OutLine, EndLine}
use Rattle.report_text.specs.declared.line.KeyOrigin.{KeyOrigin}
use Rattle.report_text.specs.declared.line.KeyOrigin.TheVariants as origins
use Rattle.report_text.specs.declared.line.PlainAnswer.{PlainAnswer}
use Rattle.report_text.specs.declared.line.PlainAnswer.TheVariants as answers
use Rattle.report_text.specs.declared.line.PlainAsk.{PlainAsk}
use Rattle.report_text.specs.declared.line.PlainAsk.TheVariants as calls

abbrev pub IsReportNumber : ℕ → Type 0
IsReportNumber number = number < 2 ^ 64

-- octets that a machine can hold
abbrev pub AreReportOctets : List ℕ → Type 0
AreReportOctets octets = IsOctetField 0 ALLOCATION_END octets

pub record AreReportBases (five : Five) : Type 0 where
  pub esp_out : IsReportNumber five.esp_out
  pub esp_in : IsReportNumber five.esp_in
  pub iv : IsReportNumber five.iv
  pub ask : IsReportNumber five.ask
  pub answer : IsReportNumber five.answer

abbrev pub FitsAsk : PlainAsk → Type 0
FitsAsk (calls.Enter spir) = IsReportNumber spir
FitsAsk (calls.TakeOver spir member) = IsReportNumber spir × IsReportNumber member
FitsAsk (calls.Cover spir counter child epoch upto) =
    IsReportNumber spir × IsReportNumber child × IsReportNumber epoch × IsReportNumber upto
FitsAsk (calls.Lease pool count) = IsReportNumber count
FitsAsk (calls.Settle ticket old_spir spir member) =
    IsReportNumber ticket × IsReportNumber old_spir × IsReportNumber spir × IsReportNumber member
FitsAsk (calls.Look ticket) = IsReportNumber ticket

abbrev pub FitsAnswer : PlainAnswer → Type 0
FitsAnswer answers.Done = Unit {0}
FitsAnswer (answers.Taken epoch bases) = IsReportNumber epoch × AreReportBases bases
FitsAnswer (answers.Number number) = IsReportNumber number
FitsAnswer answers.Failed = Unit {0}
FitsAnswer (answers.Replaced epoch) = IsReportNumber epoch
FitsAnswer answers.Unknown = Unit {0}
FitsAnswer answers.Closed = Unit {0}
FitsAnswer answers.Spent = Unit {0}
FitsAnswer (answers.Full limit) = IsReportNumber limit
FitsAnswer answers.SpiInUse = Unit {0}

-- nonces have 32 octets
pub record FitsDerivation (d : Derivation) : Type 0 where
  pub old_spir : IsReportNumber d.old_spir
  pub ni : IsOctetField 32 32 d.ni
  pub nr : IsOctetField 32 32 d.nr
  pub spii : IsReportNumber d.spii
  pub spir : IsReportNumber d.spir

abbrev pub FitsOrigin : KeyOrigin → Type 0
FitsOrigin (origins.Imported spir) = IsReportNumber spir
FitsOrigin (origins.Resumed derivation) = FitsDerivation derivation
FitsOrigin (origins.TicketKey generation) = IsReportNumber generation

abbrev pub FitsRefusal : Refusal → Type 0
FitsRefusal (refusals.Replaced epoch) = IsReportNumber epoch
FitsRefusal (refusals.WindowFull id) = IsReportNumber id
FitsRefusal (refusals.NotOutstanding id) = IsReportNumber id
FitsRefusal (refusals.Full limit) = IsReportNumber limit
FitsRefusal (refusals.NoRoom members) = IsReportNumber members
FitsRefusal other = Unit {0}

abbrev pub FitsReason : Reason → Type 0
FitsReason (UnknownCritical kind) = IsReportNumber kind
FitsReason other = Unit {0}

abbrev pub FitsDrop : PlainDrop → Type 0
FitsDrop (Bad place reason) = IsReportNumber place × FitsReason reason
FitsDrop (Exchange number) = IsReportNumber number
FitsDrop (Old id) = IsReportNumber id
FitsDrop (Ahead id) = IsReportNumber id
FitsDrop (NotSynced id) = IsReportNumber id
FitsDrop (SyncOld id) = IsReportNumber id
FitsDrop other = Unit {0}

-- the number of a ticket
abbrev pub FitsMark : Mark → Type 0
FitsMark (Ticket number) = IsReportNumber number
FitsMark other = Unit {0}

-- the notify type of an error, where there is one
abbrev pub FitsError : Option ℕ → Type 0
FitsError None = Unit {0}
FitsError (Some notify) = IsReportNumber notify

abbrev pub FitsVerdict : PlainVerdict → Type 0
FitsVerdict Configured = Unit {0}
FitsVerdict Entered = Unit {0}
FitsVerdict Down = Unit {0}
FitsVerdict Forgotten = Unit {0}
FitsVerdict (Member number) = IsReportNumber number
FitsVerdict (Owned epoch bases) = IsReportNumber epoch × AreReportBases bases
FitsVerdict (Number number) = IsReportNumber number
FitsVerdict (Sent number) = IsReportNumber number
FitsVerdict (Accepted number next_header payload) =
    IsReportNumber number × IsReportNumber next_header × AreReportOctets payload
FitsVerdict (Asked id) = IsReportNumber id
FitsVerdict (Resent id) = IsReportNumber id
FitsVerdict (Executed id mark) = IsReportNumber id × FitsMark mark
FitsVerdict (Repeated id) = IsReportNumber id
FitsVerdict (Refusing id notify) = IsReportNumber id × IsReportNumber notify
FitsVerdict (Reply id reply kept error) =
    IsReportNumber id × AreReportOctets reply × FitsError error
FitsVerdict (Syncing m1 p1) = IsReportNumber m1 × IsReportNumber p1
FitsVerdict (SyncAccepted p2 m2 delta unknown) =
    IsReportNumber p2 × IsReportNumber m2 × IsReportNumber delta × All IsReportNumber unknown
FitsVerdict (Synced next_ask floor) = IsReportNumber next_ask × IsReportNumber floor
FitsVerdict (Dropped why) = FitsDrop why
FitsVerdict (Refused refusal) = FitsRefusal refusal

-- what a line of a report may be: of a turn's own line, its event stands on a line of its own
abbrev pub FitsLine : ReportLine → Type 0
FitsLine (TurnLine number moment event) =
    IsReportNumber number × EventLine 0 (line_of (line_words moment event)) moment event
FitsLine (KeepLine ask lost answer) = FitsAsk ask × FitsAnswer answer
FitsLine (ServeLine request reply) = AreReportOctets request × AreReportOctets reply
FitsLine (SealLine origin part child iv text sealed) =
    FitsOrigin origin × IsReportNumber child × IsReportNumber iv
    × AreReportOctets text × AreReportOctets sealed
FitsLine (GivesLine number medium octets) = IsReportNumber number × AreReportOctets octets
FitsLine (OutLine verdict) = FitsVerdict verdict
FitsLine (EndLine turns) = IsReportNumber turns
