-- Each answer of the reader of lines, as what it says of the messages.
use Rattle.std.proofs.Common.{◌≡◌, ap, ◌∙◌, rules}
use Rattle.line_fields.specs.Fields.{fault_at}
use Rattle.line_fields.specs.declared.fault.LineFault.{LineFault}
use Rattle.line_fields.specs.declared.fault.LineReason.TheVariants as reasons
use Rattle.show_messages.proofs.PieceLaws.{counted_takes, file_too_long, limit_stops, line_taken, line_too_long}
use Rattle.show_messages.proofs.lines.MessageLines.next_line.Goals as goal
use Rattle.show_messages.proofs.lines.MessageLines.next_line.Goals.{in-LineTooLong, in-FileTooLong}

pub returns-in-Line-clause-takes : goal.returns-in-Line-clause-takes
returns-in-Line-clause-takes g c =
    let l = c.self.inside.lines in
    let k = c.self.inside.counted in
    let now = c.count_line.new.counted in
    let t = line_taken l c.take.new.self _ _ c.self.invariant.4 c.in-Line.ensures.takes.0 in
    rw (← c.self.view_is) (counted_takes l c.take.new.self _ _ k.line k.count t c.take.ensures.piece
    now.line now.count _ _ c.in-Line.ensures.takes.1 c.count_line.result
    (rw c.line.ensures at c.count_line.ensures.value) c.count_line.ensures.some c.count_line.ensures.line c.count_line.ensures.count (rw c.line.ensures at c.count_line.ensures.fault))

pub returns-clause-takes : goal.returns-clause-takes
returns-clause-takes g c =
    let l = c.self.inside.lines in
    let k = c.self.inside.counted in
    let named : (d : LineFault) → c.match-take.fault ≡ d → c.in_line.result ≡ record { line = k.line; column = d.column; reason = d.reason } =
    λ d is. c.in_line.ensures ∙ ap (λ (f : LineFault). record { line = k.line; column = f.column; reason = f.reason }) is in
    rw (← c.self.view_is) (elim c.match-take.branch [
      | in-LineTooLong w ↦
          let takes = w.in-LineTooLong.ensures.takes in
          let passed = line_too_long l c.take.new.self _ _ c.self.invariant.4 takes.0 takes.1 takes.2 c.take.ensures.piece in
          (limit_stops l c.take.new.self _ _ k.line k.count (fault_at 16385 reasons.LineTooLong) c.in_line.result passed (named (fault_at 16385 reasons.LineTooLong) w.fault-is), takes.0.going, takes.3)
      | in-FileTooLong w ↦
          let takes = w.in-FileTooLong.ensures.takes in
          let passed = file_too_long l c.take.new.self _ _ c.self.invariant.4 takes.0 takes.1 takes.2 takes.3 c.take.ensures.piece in
          (limit_stops l c.take.new.self _ _ k.line k.count _ c.in_line.result passed (named _ (search rules)), takes.0.going, takes.4)
    ])
