-- What the peer's own turns say that it holds.
use Rattle.std.specs.Prelude.{◌≢◌, Option, Some, None, option_to_list, List, [], ◌∷◌, ◌++◌}
use Rattle.std.specs.List.{AllByRecursion}
use Rattle.events.specs.declared.event.Event.{Event}
use Rattle.events.specs.declared.turn.Turn.{Turn}
use Rattle.events.specs.declared.verdict.Verdict.{Verdict}
use Rattle.events.specs.declared.verdict.Verdict.TheVariants as out
use Rattle.keeper_book.specs.declared.records.Record.{Record}
use Rattle.turn_rules.specs.Tasks as task
use Rattle.turn_rules.specs.Tasks.{Task, peer_task}

-- the association that came to the peer at a task
abbrev pub entered_at_task : Task → Verdict → Option Record
entered_at_task (task.Enter sa) out.Entered = Some sa
entered_at_task asked verdict = None

-- the association that came to the peer, where the event is an import that was entered
abbrev pub record_entered : Event → Verdict → Option Record
record_entered event verdict = entered_at_task (peer_task event) verdict

abbrev pub entered_in : Turn → Option Record
entered_in turn = record_entered turn.event turn.step.verdict

-- the associations of the peer, in the order in which they came
abbrev pub associations_by : List Turn → List Record
associations_by [] = []
associations_by (turn ∷ past) = associations_by past ++ option_to_list (entered_in turn)

-- two associations have other responder's SPIs
abbrev pub Differ : Record → Record → Type 0
Differ a b = a.spir ≢ b.spir

-- each two of them do
abbrev pub AreDistinct : List Record → Type 0
AreDistinct [] = Unit {0}
AreDistinct (sa ∷ more) = AllByRecursion (Differ sa) more × AreDistinct more
