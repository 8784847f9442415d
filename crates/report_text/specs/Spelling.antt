-- The words of a report's line.
use Rattle.std.specs.Prelude.{ℕ, Bool, true, false, List, [], ◌∷◌, ◌++◌, codes, Option, Some, None}
use Rattle.std.specs.Fmt.{decimal}
use Rattle.std.specs.List.{flat_map}
use Rattle.ha_base.specs.declared.counter_names.Derivation.{Derivation}
use Rattle.keeper_book.specs.declared.counters.Counter.{Counter}
use Rattle.keeper_book.specs.declared.counters.Counter.TheVariants as counters
use Rattle.keeper_book.specs.declared.pools.Pool.{Pool}
use Rattle.keeper_book.specs.declared.pools.Pool.TheVariants as pools
use Rattle.events.specs.declared.ike_outcomes.Mark.{Mark}
use Rattle.events.specs.declared.ike_outcomes.Mark.TheVariants as marks
use Rattle.events.specs.declared.verdict.Refusal.{Refusal}
use Rattle.events.specs.declared.verdict.Refusal.TheVariants as refusals
use Rattle.events.specs.FieldWords.{five_words, medium_word}
use Rattle.event_text.specs.Grammar.{line_words}
use Rattle.line_fields.specs.Octets.{octets_text, spi_text}
use Rattle.line_fields.specs.Writing.{line_text}
use Rattle.report_text.specs.Drops.{drop_words}
use Rattle.report_text.specs.Lines.{PlainKept, PlainVerdict, ReportLine, KeptNothing, KeptTicket, KeptNack, Configured, Entered, Down, Forgotten, Member, Owned, Number, Sent, Asked, Resent, Executed, Repeated, Refusing, Reply, Syncing, SyncAccepted, Synced, Accepted, Dropped, Refused, TurnLine, KeepLine, ServeLine, SealLine, GivesLine, OutLine, EndLine}
use Rattle.report_text.specs.declared.line.KeyOrigin.{KeyOrigin}
use Rattle.report_text.specs.declared.line.KeyOrigin.TheVariants as origins
use Rattle.report_text.specs.declared.line.Part.{Part}
use Rattle.report_text.specs.declared.line.Part.TheVariants as parts
use Rattle.report_text.specs.declared.line.PlainAnswer.{PlainAnswer}
use Rattle.report_text.specs.declared.line.PlainAnswer.TheVariants as answers
use Rattle.report_text.specs.declared.line.PlainAsk.{PlainAsk}
use Rattle.report_text.specs.declared.line.PlainAsk.TheVariants as calls

-- ---- the keeper's calls

abbrev pub counter_word : Counter → List ℕ
counter_word counters.EspOut = codes "esp-out"
counter_word counters.EspIn = codes "esp-in"
counter_word counters.Iv = codes "iv"
counter_word counters.Ask = codes "ask"
counter_word counters.Answer = codes "answer"

abbrev pub pool_word : Pool → List ℕ
pool_word pools.Ticket = codes "ticket"
pool_word pools.Nonce = codes "nonce"

abbrev pub ask_words : PlainAsk → List (List ℕ)
ask_words (calls.Enter spir) = codes "enter" ∷ spi_text spir ∷ []
ask_words (calls.TakeOver spir member) = codes "take-over" ∷ spi_text spir ∷ decimal member ∷ []
ask_words (calls.Cover spir counter child epoch upto) =
    codes "cover" ∷ spi_text spir ∷ counter_word counter
    ∷ decimal child ∷ decimal epoch ∷ decimal upto ∷ []
ask_words (calls.Lease pool count) = codes "lease" ∷ pool_word pool ∷ decimal count ∷ []
ask_words (calls.Settle ticket old_spir spir member) =
    codes "settle" ∷ decimal ticket ∷ spi_text old_spir ∷ spi_text spir ∷ decimal member ∷ []
ask_words (calls.Look ticket) = codes "look" ∷ decimal ticket ∷ []

abbrev pub answer_words : PlainAnswer → List (List ℕ)
answer_words answers.Done = codes "ok" ∷ []
answer_words (answers.Taken epoch bases) = codes "ok" ∷ decimal epoch ∷ five_words bases
answer_words (answers.Number number) = codes "ok" ∷ decimal number ∷ []
answer_words answers.Failed = codes "failed" ∷ []
answer_words (answers.Replaced epoch) = codes "replaced" ∷ decimal epoch ∷ []
answer_words answers.Unknown = codes "unknown" ∷ []
answer_words answers.Closed = codes "closed" ∷ []
answer_words answers.Spent = codes "spent" ∷ []
answer_words (answers.Full limit) = codes "full" ∷ decimal limit ∷ []
answer_words answers.SpiInUse = codes "spi-in-use" ∷ []

-- the mark of an answer that did not arrive
abbrev pub lost_words : Bool → List (List ℕ)
lost_words true = codes "lost" ∷ []
lost_words false = []

-- ---- seals

-- what the keys of a resumed association were derived from
unfoldable pub derivation_text : Derivation → List ℕ
derivation_text d =
    spi_text d.old_spir ++ (46 ∷ octets_text d.ni) ++ (46 ∷ octets_text d.nr)
    ++ (46 ∷ spi_text d.spii) ++ (46 ∷ spi_text d.spir)

-- the key's origin, in one word
abbrev pub origin_text : KeyOrigin → List ℕ
origin_text (origins.Imported spir) = codes "i" ++ spi_text spir
origin_text (origins.Resumed derivation) = codes "r" ++ derivation_text derivation
origin_text (origins.TicketKey generation) = codes "t" ++ decimal generation

-- what was sealed, and by which end
abbrev pub part_word : Part → List ℕ
part_word parts.IkeC = codes "ike-c"
part_word parts.IkeP = codes "ike-p"
part_word parts.EspC = codes "esp-c"
part_word parts.EspP = codes "esp-p"
part_word parts.Ticket = codes "ticket"

-- ---- numbers in one word

-- a number behind another one
abbrev pub comma_number : ℕ → List ℕ
comma_number number = 44 ∷ decimal number

-- numbers in their order, joined by commas, or `-` where there are none
unfoldable pub numbers_text : List ℕ → List ℕ
numbers_text [] = codes "-"
numbers_text (number ∷ others) = decimal number ++ flat_map comma_number others

-- ---- how it came out

abbrev pub refusal_words : Refusal → List (List ℕ)
refusal_words refusals.NotOwner = codes "not-owner" ∷ []
refusal_words (refusals.Replaced epoch) = codes "replaced" ∷ decimal epoch ∷ []
refusal_words refusals.NotSynced = codes "not-synced" ∷ []
refusal_words (refusals.WindowFull id) = codes "window-full" ∷ decimal id ∷ []
refusal_words refusals.Exhausted = codes "exhausted" ∷ []
refusal_words refusals.KeeperFault = codes "keeper-fault" ∷ []
refusal_words (refusals.NotOutstanding id) = codes "not-outstanding" ∷ decimal id ∷ []
refusal_words refusals.NoSync = codes "no-sync" ∷ []
refusal_words refusals.Closed = codes "closed" ∷ []
refusal_words refusals.Unknown = codes "unknown" ∷ []
refusal_words (refusals.Full limit) = codes "full" ∷ decimal limit ∷ []
refusal_words refusals.SpiInUse = codes "spi-in-use" ∷ []
refusal_words refusals.NoMember = codes "no-member" ∷ []
refusal_words refusals.Down = codes "down" ∷ []
refusal_words refusals.NoDatagram = codes "no-datagram" ∷ []
refusal_words refusals.NoOctet = codes "no-octet" ∷ []
refusal_words refusals.DatagramsFull = codes "datagrams-full" ∷ []
refusal_words refusals.Late = codes "late" ∷ []
refusal_words (refusals.NoRoom members) = codes "no-room" ∷ decimal members ∷ []
refusal_words refusals.SpiRange = codes "spi-range" ∷ []

-- what a response tells besides the reply
abbrev pub mark_words : Mark → List (List ℕ)
mark_words marks.Plain = []
mark_words (marks.Ticket number) = codes "ticket" ∷ decimal number ∷ []
mark_words marks.Nack = codes "nack" ∷ []

-- what was kept of a response besides the reply
abbrev pub kept_words : PlainKept → List (List ℕ)
kept_words KeptNothing = []
kept_words KeptTicket = codes "ticket" ∷ []
kept_words KeptNack = codes "nack" ∷ []

-- the notify type of the first error in a response
abbrev pub error_words : Option ℕ → List (List ℕ)
error_words None = []
error_words (Some notify) = codes "error" ∷ decimal notify ∷ []

abbrev pub verdict_words : PlainVerdict → List (List ℕ)
verdict_words Configured = codes "configured" ∷ []
verdict_words Entered = codes "entered" ∷ []
verdict_words Down = codes "down" ∷ []
verdict_words Forgotten = codes "forgotten" ∷ []
verdict_words (Member number) = codes "member" ∷ decimal number ∷ []
verdict_words (Owned epoch bases) = codes "owned" ∷ decimal epoch ∷ five_words bases
verdict_words (Number number) = codes "number" ∷ decimal number ∷ []
verdict_words (Sent number) = codes "sent" ∷ decimal number ∷ []
verdict_words (Accepted number next_header payload) =
    codes "accepted" ∷ decimal number ∷ decimal next_header ∷ octets_text payload ∷ []
verdict_words (Asked id) = codes "asked" ∷ decimal id ∷ []
verdict_words (Resent id) = codes "resent" ∷ decimal id ∷ []
verdict_words (Executed id mark) = codes "executed" ∷ decimal id ∷ mark_words mark
verdict_words (Repeated id) = codes "repeated" ∷ decimal id ∷ []
verdict_words (Refusing id notify) = codes "refusing" ∷ decimal id ∷ decimal notify ∷ []
verdict_words (Reply id reply kept error) =
    codes "reply" ∷ decimal id ∷ octets_text reply ∷ (kept_words kept ++ error_words error)
verdict_words (Syncing m1 p1) = codes "syncing" ∷ decimal m1 ∷ decimal p1 ∷ []
verdict_words (SyncAccepted p2 m2 delta unknown) =
    codes "sync-accepted" ∷ decimal p2 ∷ decimal m2 ∷ decimal delta ∷ numbers_text unknown ∷ []
verdict_words (Synced next_ask floor) = codes "synced" ∷ decimal next_ask ∷ decimal floor ∷ []
verdict_words (Dropped why) = codes "dropped" ∷ drop_words why
verdict_words (Refused refusal) = codes "refused" ∷ refusal_words refusal

-- ---- lines

-- the first word, which tells the kind of a line
abbrev pub kind_word : ReportLine → List ℕ
kind_word (TurnLine number moment event) = codes "turn"
kind_word (KeepLine ask lost answer) = codes "keep"
kind_word (ServeLine request reply) = codes "serve"
kind_word (SealLine origin part child iv text sealed) = codes "seal"
kind_word (GivesLine number medium octets) = codes "gives"
kind_word (OutLine verdict) = codes "out"
kind_word (EndLine turns) = codes "end"

-- the words after it
abbrev pub field_words : ReportLine → List (List ℕ)
field_words (TurnLine number moment event) = decimal number ∷ line_words moment event
field_words (KeepLine ask lost answer) = ask_words ask ++ (lost_words lost ++ answer_words answer)
field_words (ServeLine request reply) = octets_text request ∷ octets_text reply ∷ []
field_words (SealLine origin part child iv text sealed) =
    origin_text origin ∷ part_word part ∷ decimal child ∷ decimal iv
    ∷ octets_text text ∷ octets_text sealed ∷ []
field_words (GivesLine number medium octets) =
    decimal number ∷ medium_word medium ∷ octets_text octets ∷ []
field_words (OutLine verdict) = verdict_words verdict
field_words (EndLine turns) = decimal turns ∷ []

abbrev pub report_words : ReportLine → List (List ℕ)
report_words line = kind_word line ∷ field_words line

-- the text of a line, with its line feed
abbrev pub report_line_text : ReportLine → List ℕ
report_line_text line = line_text (report_words line)

abbrev pub report_lines_text : List ReportLine → List ℕ
report_lines_text lines = flat_map report_line_text lines
