-- Each answer of the reader of lines, as what it says of the event file.
use Rattle.std.proofs.Common.{◌≡◌, ◌≢◌, ap, ◌∙◌, rules}
use Rattle.line_fields.specs.Fields.{fault_at}
use Rattle.line_fields.specs.declared.fault.LineFault.{LineFault}
use Rattle.line_fields.specs.declared.fault.LineReason.TheVariants as reasons
use Rattle.event_text.specs.Pieces.{IsFresh}
use Rattle.event_text.proofs.PieceLaws.{counted_takes, ends, file_too_long, keeps_place, limit_stops, line_taken, line_too_long, nothing_stops, reading}
use Rattle.event_text.proofs.lines.EventLines.next_line.Goals as goal
use Rattle.event_text.proofs.lines.EventLines.next_line.Goals.{in-End-2, in-LineTooLong, in-FileTooLong}

pub returns-in-Line-clause-takes : goal.returns-in-Line-clause-takes
returns-in-Line-clause-takes g c =
    let l = c.self.inside.lines in
    let k = c.self.inside.counted in
    let now = c.count_line.new.counted in
    let fresh : IsFresh (reading l k.line k.count k.last) = rw (← c.self.view_is) at c.requires.first in
    let t = line_taken l c.take.new.self _ _ c.self.invariant.4 c.in-Line.ensures.takes.0 in
    rw (← c.self.view_is) (counted_takes l c.take.new.self _ _ k.line k.count k.last fresh c.self.invariant.0 t c.take.ensures.piece
    now.line now.count now.last c.count_line.ensures.most _ _ c.in-Line.ensures.takes.1 c.count_line.result
    (rw c.line.ensures at c.count_line.ensures.value) c.count_line.ensures.some c.count_line.ensures.line c.count_line.ensures.count c.count_line.ensures.last (rw c.line.ensures at c.count_line.ensures.fault))

pub invariant_of-self-in-End : goal.invariant_of-self-in-End
invariant_of-self-in-End g c =
    let i = c.self.invariant in
    keeps_place c.self.inside.lines c.take.new.self c.self.inside.counted.line c.self.inside.counted.count i.0 i.1 i.2 i.3 i.4 c.take.ensures.limits c.in-End.ensures.takes.1

pub returns-in-End-clause-takes : goal.returns-in-End-clause-takes
returns-in-End-clause-takes g c =
    let l = c.self.inside.lines in
    let k = c.self.inside.counted in
    let fresh : IsFresh (reading l k.line k.count k.last) = rw (← c.self.view_is) at c.requires.first in
    let other : k.line ≢ 1 = search rules in
    rw (← c.self.view_is) (ends l c.take.new.self _ _ k.line k.count k.last fresh other c.in-End.ensures.takes.0 c.in-End.ensures.takes.3 k.line k.count k.last, c.in-End.ensures.takes.2)

pub invariant_of-self-2 : goal.invariant_of-self-2
invariant_of-self-2 g c =
    let i = c.self.invariant in
    let keeps = keeps_place c.self.inside.lines c.take.new.self c.self.inside.counted.line c.self.inside.counted.count i.0 i.1 i.2 i.3 i.4 c.take.ensures.limits in
    elim c.match-take.branch [
      | in-End-2 w ↦ keeps w.in-End-2.ensures.takes.1
      | in-LineTooLong w ↦ keeps w.in-LineTooLong.ensures.takes.0.before
      | in-FileTooLong w ↦ keeps w.in-FileTooLong.ensures.takes.0.before
    ]

pub returns-clause-takes : goal.returns-clause-takes
returns-clause-takes g c =
    let l = c.self.inside.lines in
    let k = c.self.inside.counted in
    let fresh : IsFresh (reading l k.line k.count k.last) = rw (← c.self.view_is) at c.requires.first in
    let named : (d : LineFault) → c.match-take.fault ≡ d → c.in_line.result ≡ record { line = k.line; column = d.column; reason = d.reason } =
    λ d is. c.in_line.ensures ∙ ap (λ (f : LineFault). record { line = k.line; column = f.column; reason = f.reason }) is in
    rw (← c.self.view_is) (elim c.match-take.branch [
      | in-End-2 w ↦
          let one : k.line ≡ 1 = search rules in
          let found = nothing_stops l c.take.new.self _ _ k.line k.count k.last fresh c.in_line.result one (named (fault_at 1 reasons.Missing) w.fault-is) w.in-End-2.ensures.takes.3 in
          (found.0, found.1, w.in-End-2.ensures.takes.2)
      | in-LineTooLong w ↦
          let takes = w.in-LineTooLong.ensures.takes in
          let passed = line_too_long l c.take.new.self _ _ c.self.invariant.4 takes.0 takes.1 takes.2 c.take.ensures.piece in
          (limit_stops l c.take.new.self _ _ k.line k.count k.last fresh (fault_at 16385 reasons.LineTooLong) c.in_line.result passed (named (fault_at 16385 reasons.LineTooLong) w.fault-is), takes.0.going, takes.3)
      | in-FileTooLong w ↦
          let takes = w.in-FileTooLong.ensures.takes in
          let passed = file_too_long l c.take.new.self _ _ c.self.invariant.4 takes.0 takes.1 takes.2 takes.3 c.take.ensures.piece in
          (limit_stops l c.take.new.self _ _ k.line k.count k.last fresh _ c.in_line.result passed (named _ (search rules)), takes.0.going, takes.4)
    ])
