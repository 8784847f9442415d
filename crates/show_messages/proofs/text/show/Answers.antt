-- Each way out of the loop is a row of the table, and each line goes on with it.
use Rattle.std.proofs.Common.{◌≡◌, None, Some, Ok, Err, length, rules, refl, ap, ◌∙◌}
use Rattle.std.proofs.KnownBytes.{Appends-nil}
use Rattle.call_ends.specs.Outside.{sink_told, source_told, streams_told}
use Rattle.call_ends.specs.declared.streaming.Stop.TheVariants as stop
use Rattle.show_messages.proofs.BreakLaws.{last_ends, message_stops, nothing_stops, source_stops}
use Rattle.show_messages.proofs.ReadLaws.{end_told, fault_told, line_passed, line_shown, message_read, showing_begun, taken-as}
use Rattle.show_messages.specs.declared.lines.Line.TheVariants as line
use Rattle.show_messages.specs.declared.lines.TakeFault.TheVariants as why_none
use Rattle.show_messages.proofs.text.show.Goals as goal

pub returns-in_err-reader : goal.returns-in_err-reader
returns-in_err-reader g c errors now_errors =
    let failed : c.from_residual.result ≡ Err stop.Memory = search rules in
    rw failed (nothing_stops (streams_told g.S.Source g.O.Sink c.args.source.now c.args.out.now errors) (streams_told g.S.Source g.O.Sink c.args.source.now c.args.out.now now_errors) refl refl)

pub lines-init : goal.lines-init
lines-init g c = record {
  showing = showing_begun c.in_ok-reader.reader (g.S.Source.left c.args.source.now) (g.O.Sink.written c.args.out.now) c.in_ok-reader.ensures.new (Appends-nil (g.O.Sink.written c.args.out.now));
  reads = refl;
  writes = refl;
}

pub lines-preserved-in-Ok-Passed : goal.lines-preserved-in-Ok-Passed
lines-preserved-in-Ok-Passed g c =
    let i = c.lines.invariant in
    let t = taken-as c.lines.reader c.next_line.new.self (g.S.Source.left c.lines.source) (g.S.Source.left c.next_line.new.source) (g.S.Source.faults c.lines.source) (g.S.Source.faults c.next_line.new.source)
    (Ok c.in-Ok-Passed.field-0) (Ok line.Passed) (ap Ok c.in-Ok-Passed.field-0-is) c.in-Ok-Passed.ensures.takes in
    record {
      showing = line_passed c.lines.reader c.next_line.new.self (g.S.Source.left c.args.source.now) (g.S.Source.left c.lines.source) (g.S.Source.left c.next_line.new.source) (g.O.Sink.written c.args.out.now)
          (g.O.Sink.written c.lines.out) i.showing t.0;
      reads = t.1 ∙ i.reads;
      writes = i.writes;
    }

pub lines-preserved : goal.lines-preserved
lines-preserved g c =
    let i = c.lines.invariant in
    let t = taken-as c.lines.reader c.next_line.new.self (g.S.Source.left c.lines.source) (g.S.Source.left c.next_line.new.source) (g.S.Source.faults c.lines.source) (g.S.Source.faults c.next_line.new.source)
    (Ok c.in-Ok-Message.field-0) (Ok line.Message) (ap Ok c.in-Ok-Message.field-0-is) c.in-Ok-Message.ensures.takes in
    let wrote = rw c.text.ensures at c.in_ok-show_message-in-Ok-Message.ensures in
    record {
      showing = line_shown c.lines.reader c.next_line.new.self (g.S.Source.left c.args.source.now) (g.S.Source.left c.lines.source) (g.S.Source.left c.next_line.new.source) (g.O.Sink.written c.args.out.now)
          (g.O.Sink.written c.lines.out) (g.O.Sink.written c.show_message.new.out) i.showing t.0 wrote.0;
      reads = t.1 ∙ i.reads;
      writes = wrote.1 ∙ i.writes;
    }

pub returns-in-Ok-End : goal.returns-in-Ok-End
returns-in-Ok-End g c errors now_errors =
    let i = c.lines.invariant in
    let t = taken-as c.lines.reader c.next_line.new.self (g.S.Source.left c.lines.source) (g.S.Source.left c.next_line.new.source) (g.S.Source.faults c.lines.source) (g.S.Source.faults c.next_line.new.source)
    (Ok c.in-Ok-End.field-0) (Ok line.End) (ap Ok c.in-Ok-End.field-0-is) c.in-Ok-End.ensures.takes in
    let same : c.next_line.new.self.place.count ≡ c.lines.reader.place.count = rw c.in-Ok-End.field-0-is at c.in-Ok-End.ensures.counted in
    let counted : c.from.result ≡ length i.showing.messages = c.from.ensures ∙ c.count.ensures ∙ same ∙ i.showing.counted in
    last_ends (streams_told g.S.Source g.O.Sink c.args.source.now c.args.out.now errors) (streams_told g.S.Source g.O.Sink c.next_line.new.source c.put_end.new.out now_errors)
    i.showing.messages None _ (sink_told g.O.Sink c.lines.out) c.put_end.result
    (end_told c.lines.reader c.next_line.new.self (g.S.Source.left c.args.source.now) (g.S.Source.left c.lines.source) (g.S.Source.left c.next_line.new.source) i.showing.messages i.showing.has_read i.showing.within t.0)
    counted i.showing.wrote i.writes c.put_end.ensures.writes c.put_end.ensures.fault (t.1 ∙ i.reads)

pub returns-in-Err-Input : goal.returns-in-Err-Input
returns-in-Err-Input g c errors now_errors =
    let i = c.lines.invariant in
    let t = taken-as c.lines.reader c.next_line.new.self (g.S.Source.left c.lines.source) (g.S.Source.left c.next_line.new.source) (g.S.Source.faults c.lines.source) (g.S.Source.faults c.next_line.new.source)
    (Err c.in-Err-Input.field-0) (Err (why_none.Input c.in-Err-Input.fault)) (ap Err c.in-Err-Input.field-0-is) c.in-Err-Input.ensures.takes in
    let counted : c.from-in-Err-Input.result ≡ length i.showing.messages = c.from-in-Err-Input.ensures ∙ c.count-in-Err-Input.ensures ∙ c.in-Err-Input.ensures.counted ∙ i.showing.counted in
    last_ends (streams_told g.S.Source g.O.Sink c.args.source.now c.args.out.now errors) (streams_told g.S.Source g.O.Sink c.next_line.new.source c.put_end-in-Err-Input.new.out now_errors)
    i.showing.messages (Some c.in-Err-Input.fault) _ (sink_told g.O.Sink c.lines.out) c.put_end-in-Err-Input.result
    (fault_told c.lines.reader (g.S.Source.left c.args.source.now) (g.S.Source.left c.lines.source) (g.S.Source.left c.next_line.new.source) i.showing.messages c.in-Err-Input.fault i.showing.has_read t.1 t.0)
    counted i.showing.wrote i.writes c.put_end-in-Err-Input.ensures.writes c.put_end-in-Err-Input.ensures.fault (t.2 ∙ i.reads)

pub returns-in-Err-Source : goal.returns-in-Err-Source
returns-in-Err-Source g c errors now_errors =
    let i = c.lines.invariant in
    let t = taken-as c.lines.reader c.next_line.new.self (g.S.Source.left c.lines.source) (g.S.Source.left c.next_line.new.source) (g.S.Source.faults c.lines.source) (g.S.Source.faults c.next_line.new.source)
    (Err c.in-Err-Source.field-0) (Err why_none.Source) (ap Err c.in-Err-Source.field-0-is) c.in-Err-Source.ensures.takes in
    source_stops (streams_told g.S.Source g.O.Sink c.args.source.now c.args.out.now errors) (streams_told g.S.Source g.O.Sink c.next_line.new.source c.lines.out now_errors)
    c.lines.reader (source_told g.S.Source c.lines.source) i.showing i.reads i.writes t

pub returns-in_err-show_message-in-Ok-Message : goal.returns-in_err-show_message-in-Ok-Message
returns-in_err-show_message-in-Ok-Message g c errors now_errors =
    let i = c.lines.invariant in
    let t = taken-as c.lines.reader c.next_line.new.self (g.S.Source.left c.lines.source) (g.S.Source.left c.next_line.new.source) (g.S.Source.faults c.lines.source) (g.S.Source.faults c.next_line.new.source)
    (Ok c.in-Ok-Message.field-0) (Ok line.Message) (ap Ok c.in-Ok-Message.field-0-is) c.in-Ok-Message.ensures.takes in
    let failed : c.from_residual-in_err-show_message-in-Ok-Message.result ≡ Err c.in_err-show_message-in-Ok-Message.field-0.0 = search rules in
    rw failed (message_stops (streams_told g.S.Source g.O.Sink c.args.source.now c.args.out.now errors) (streams_told g.S.Source g.O.Sink c.next_line.new.source c.show_message.new.out now_errors) (Unit {0})
    c.next_line.new.self i.showing.messages (sink_told g.O.Sink c.lines.out) c.in_err-show_message-in-Ok-Message.field-0.0
    (message_read c.lines.reader c.next_line.new.self (g.S.Source.left c.args.source.now) (g.S.Source.left c.lines.source) (g.S.Source.left c.next_line.new.source) i.showing.messages i.showing.has_read t.0)
    t.0.within i.showing.wrote i.writes (rw c.text.ensures at c.in_err-show_message-in-Ok-Message.ensures) (t.1 ∙ i.reads))
