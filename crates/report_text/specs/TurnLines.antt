-- The lines of a turn. What no report has, has no line.
use Rattle.std.specs.Prelude.{ℕ, Bool, true, false, List, [], ◌∷◌, ◌++◌, Option, Some, None}
use Rattle.std.specs.Option.{option_map}
use Rattle.std.specs.List.{flat_map}
use Rattle.std.specs.Prelude.{option_to_list}
use Rattle.ha_base.specs.declared.counter_names.End.{End}
use Rattle.ha_base.specs.declared.counter_names.End.TheVariants as ends
use Rattle.ha_base.specs.declared.counter_names.Kind.{Kind}
use Rattle.ha_base.specs.declared.counter_names.Kind.TheVariants as kinds
use Rattle.ha_base.specs.declared.counter_names.Origin.{Origin}
use Rattle.ha_base.specs.declared.counter_names.Origin.TheVariants as origins
use Rattle.keeper_book.specs.Counters.{counter_of_kind}
use Rattle.keeper_book.specs.declared.calls.Call.{Call}
use Rattle.keeper_book.specs.declared.calls.KeeperAnswer.{KeeperAnswer}
use Rattle.keeper_book.specs.declared.calls.KeeperAnswer.TheVariants as answers
use Rattle.keeper_book.specs.declared.calls.KeeperAsk.{KeeperAsk}
use Rattle.keeper_book.specs.declared.calls.KeeperAsk.TheVariants as calls
use Rattle.keeper_book.specs.declared.faults.KeeperFault.{KeeperFault}
use Rattle.keeper_book.specs.declared.faults.KeeperFault.TheVariants as faults
use Rattle.keeper_book.specs.declared.counters.Counter.{Counter}
use Rattle.events.specs.Events.{plain}
use Rattle.events.specs.declared.seals.Seal.{Seal}
use Rattle.events.specs.declared.turn.Datagram.{Datagram}
use Rattle.events.specs.declared.turn.Served.{Served}
use Rattle.events.specs.declared.turn.Turn.{Turn}
use Rattle.report_text.specs.Lines.{ReportLine, TurnLine, KeepLine, ServeLine, SealLine, GivesLine, OutLine, plain_verdict}
use Rattle.report_text.specs.declared.line.KeyOrigin.{KeyOrigin}
use Rattle.report_text.specs.declared.line.KeyOrigin.TheVariants as key_origins
use Rattle.report_text.specs.declared.line.Part.{Part}
use Rattle.report_text.specs.declared.line.Part.TheVariants as parts
use Rattle.report_text.specs.declared.line.PlainAnswer.{PlainAnswer}
use Rattle.report_text.specs.declared.line.PlainAnswer.TheVariants as plain_answers
use Rattle.report_text.specs.declared.line.PlainAsk.{PlainAsk}
use Rattle.report_text.specs.declared.line.PlainAsk.TheVariants as plain_asks

-- ---- a call of the keeper

-- a cover, where it is of a counter that an association has
abbrev pub plain_cover : ℕ → Option Counter → ℕ → ℕ → ℕ → Option PlainAsk
plain_cover spir None child epoch upto = None
plain_cover spir (Some counter) child epoch upto =
    Some (plain_asks.Cover spir counter child epoch upto)

abbrev pub plain_ask : KeeperAsk → Option PlainAsk
plain_ask (calls.Enter sa) = Some (plain_asks.Enter sa.spir)
plain_ask (calls.TakeOver spir member) = Some (plain_asks.TakeOver spir member)
plain_ask (calls.Cover spir kind child epoch upto) =
    plain_cover spir (counter_of_kind kind) child epoch upto
plain_ask (calls.Lease pool count) = Some (plain_asks.Lease pool count)
plain_ask (calls.Settle ticket old_spir sa member) =
    Some (plain_asks.Settle ticket old_spir sa.spir member)
plain_ask (calls.Look ticket) = Some (plain_asks.Look ticket)

-- Want of memory is no answer that a turn has: the turn itself ends with it.
abbrev pub plain_fault : KeeperFault → Option PlainAnswer
plain_fault faults.Failed = Some plain_answers.Failed
plain_fault (faults.Replaced epoch) = Some (plain_answers.Replaced epoch)
plain_fault faults.Unknown = Some plain_answers.Unknown
plain_fault faults.Closed = Some plain_answers.Closed
plain_fault faults.Spent = Some plain_answers.Spent
plain_fault (faults.Full limit) = Some (plain_answers.Full limit)
plain_fault faults.SpiInUse = Some plain_answers.SpiInUse
plain_fault faults.Memory = None

-- whether a ticket is spent, as a number
abbrev pub spent_number : Bool → ℕ
spent_number true = 1
spent_number false = 0

abbrev pub plain_answer : KeeperAnswer → Option PlainAnswer
plain_answer answers.Done = Some plain_answers.Done
plain_answer (answers.Taken taken) = Some (plain_answers.Taken taken.epoch taken.bases)
plain_answer (answers.First first) = Some (plain_answers.Number first)
plain_answer (answers.Look is_spent) = Some (plain_answers.Number (spent_number is_spent))
plain_answer (answers.Refused fault) = plain_fault fault

abbrev pub keep_line_of : Option PlainAsk → Call → Option PlainAnswer → Option ReportLine
keep_line_of None call answer = None
keep_line_of (Some ask) call None = None
keep_line_of (Some ask) call (Some answer) = Some (KeepLine ask call.hidden answer)

abbrev pub keep_line : Call → Option ReportLine
keep_line call = keep_line_of (plain_ask call.asked) call (plain_answer call.answer)

-- ---- a seal

-- Members draw numbers from pools and seal nothing under them.
abbrev pub key_origin : Origin → Option KeyOrigin
key_origin (origins.Imported spir) = Some (key_origins.Imported spir)
key_origin (origins.Resumed derivation) = Some (key_origins.Resumed derivation)
key_origin (origins.TicketKey generation) = Some (key_origins.TicketKey generation)
key_origin origins.Pool = None

-- what is sealed under the numbers of a counter: Message IDs and the numbers of nonces are no IVs
abbrev pub part_of : Kind → End → Option Part
part_of kinds.EspOut ends.Cluster = Some parts.EspC
part_of kinds.EspOut ends.Peer = Some parts.EspP
part_of kinds.EspIn ends.Cluster = Some parts.EspC
part_of kinds.EspIn ends.Peer = Some parts.EspP
part_of kinds.Iv ends.Cluster = Some parts.IkeC
part_of kinds.Iv ends.Peer = Some parts.IkeP
part_of kinds.TicketIv end = Some parts.Ticket
part_of kinds.Ask end = None
part_of kinds.Answer end = None
part_of kinds.Nonce end = None

abbrev pub seal_line_of : Option KeyOrigin → Option Part → Seal → Option ReportLine
seal_line_of None part seal = None
seal_line_of (Some origin) None seal = None
seal_line_of (Some origin) (Some part) seal =
    Some (SealLine origin part seal.name.child seal.iv seal.plain.octets seal.sealed.octets)

abbrev pub seal_line : Seal → Option ReportLine
seal_line seal =
    seal_line_of (key_origin seal.name.origin) (part_of seal.name.kind seal.name.end) seal

-- ---- a turn

abbrev pub serve_line : Served → ReportLine
serve_line served = ServeLine served.request.octets served.reply.octets

abbrev pub gives_line : ℕ → Datagram → ReportLine
gives_line number datagram = GivesLine number datagram.medium datagram.octets.octets

-- what a turn did, line by line: a datagram that it gives has this number
abbrev pub step_lines : ℕ → Turn → List ReportLine
step_lines datagram turn =
    flat_map (λ call. option_to_list (keep_line call)) turn.calls
    ++ (option_to_list (option_map serve_line turn.step.served)
    ++ (flat_map (λ seal. option_to_list (seal_line seal)) turn.step.seals
    ++ (option_to_list (option_map (gives_line datagram) turn.step.gives)
    ++ OutLine (plain_verdict turn.step.verdict) ∷ [])))

-- the lines of a turn, by its number and by the number of the datagram that it gives
abbrev pub turn_lines : ℕ → ℕ → Turn → List ReportLine
turn_lines number datagram turn =
    TurnLine number turn.moment (plain turn.event) ∷ step_lines datagram turn
