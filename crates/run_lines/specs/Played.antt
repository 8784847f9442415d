-- What a run makes of its input, by what holds of its trace.
use Rattle.std.specs.Prelude.{ℕ, ◌≡◌, ◌⊎◌, List, [], ◌∷◌, ◌++◌, Option, None}
use Rattle.call_ends.specs.Outside.{IsFront}
use Rattle.call_ends.specs.Streaming.{Streaming}
use Rattle.call_ends.specs.declared.status.Status.{Status}
use Rattle.call_ends.specs.declared.status.Status.TheVariants as status
use Rattle.events.specs.Events.{PlainEvent, plain}
use Rattle.events.specs.declared.turn.Turn.{Turn}
use Rattle.event_text.specs.Input.{Contents, contents_of}
use Rattle.event_text.specs.Pieces.{behind_events}
use Rattle.report_text.specs.Report.{report, report_head, turns_text}
use Rattle.input_lines.specs.declared.fault.InputFault.{InputFault}
use Rattle.ha_base.specs.declared.outside.Moment.{Moment}

-- the moment and the event of a turn, as a line has them
abbrev pub title : Turn → Moment × PlainEvent
title turn = (turn.moment, plain turn.event)

-- the events of turns, which have the newest first, in their order
abbrev pub titles : List Turn → List (Moment × PlainEvent)
titles [] = []
titles (turn ∷ past) = titles past ++ title turn ∷ []

-- the turns stand there, but maybe the newest
abbrev pub AllButNewest : (trace : List Turn) → (output : List ℕ) → Type 0
AllButNewest [] output = Unit {0}
AllButNewest (turn ∷ past) output = IsFront (report_head ++ turns_text past) output

module _ (Holds : List Turn → Type 0) where
  -- What an input was played as: the trace has one turn for each of its events up to its first
  -- fault, where it has one, and the text is the report of the trace.
  pub record IsPlayed (input : List ℕ) (fault : Option InputFault) (text : List ℕ) : Type 0 where
    pub trace : List Turn
    pub events : contents_of input ≡ record { events = titles trace; fault = fault }
    pub written : text ≡ report trace
    pub holds : Holds trace

  -- What a run wrote of an input that was played in part: the trace has one turn for each of its
  -- first events, and the output is a front of the text of these turns, or of the whole report,
  -- where no event is left before the first fault or the end. No more than the newest is cut.
  pub record IsBegun (input output : List ℕ) : Type 0 where
    pub trace : List Turn
    pub rest : Contents
    pub events : contents_of input ≡ behind_events (titles trace) rest
    pub front : IsFront output (report_head ++ turns_text trace)
        ⊎ ((rest.events ≡ []) × IsFront output (report trace))
    pub written : AllButNewest trace output
    pub holds : Holds trace

  -- What a run wrote by the time that all these lines were played, of which none is at fault: the
  -- text of a turn for each of their events.
  pub record IsPlayedSoFar (lines output : List ℕ) : Type 0 where
    pub trace : List Turn
    pub events : (contents_of lines).events ≡ titles trace
    pub faultless : ((contents_of lines).fault ≡ None) ⊎ (lines ≡ [])
    pub written : output ≡ report_head ++ turns_text trace
    pub holds : Holds trace

-- what was written where a run breaks off: for want of memory, or for another cause
abbrev pub BeginsRun : (Holds HoldsCut : List Turn → Type 0) → Status → (input output : List ℕ)
    → Type 0
BeginsRun Holds HoldsCut status.Memory = IsBegun HoldsCut
BeginsRun Holds HoldsCut other = IsBegun Holds

-- A run, by what holds of its trace; and by what holds of it where memory ran out.
abbrev pub playing : (Holds HoldsCut : List Turn → Type 0) → Streaming
playing Holds HoldsCut = record {
  Makes = IsPlayed Holds;
  Begins = BeginsRun Holds HoldsCut;
  Works = IsPlayedSoFar Holds;
}
