-- Each way out of the loop is a row of the table, and each line goes on with it.
use Rattle.std.proofs.Common.{◌≡◌, List, [], None, Some, Ok, Err, rules, refl, sym, ap, subst, append-nil, ◌∙◌}
use Rattle.call_ends.specs.Outside.{sink_told, source_told, streams_told}
use Rattle.call_ends.specs.declared.streaming.Stop.TheVariants as stop
use Rattle.event_text.proofs.WholeReads.{line_read}
use Rattle.event_text.specs.Pieces.{HasRead}
use Rattle.event_text.specs.declared.lines.Line.TheVariants as line
use Rattle.event_text.specs.declared.read_fault.TakeFault.TheVariants as why_none
use Rattle.events.specs.declared.turn.Turn.{Turn}
use Rattle.replay_world.proofs.GoingLaws.{goes-cut, leads-begun, leads-on, taken-as}
use Rattle.replay_world.proofs.ServedLaws.{keeps-past}
use Rattle.replay_world.specs.Worlds.{boxes_of}
use Rattle.run_lines.proofs.BreakLaws.{head_stops, last_ends, line_stops, nothing_stops, source_stops, turn_stops, unplayed_stops}
use Rattle.run_lines.proofs.ReadLaws.{IsPlaying, end_told, fault_told, line_passed, line_played, playing_begun, turn_read}
use Rattle.run_lines.specs.Played.{titles}
use Rattle.turn_rules.specs.Local.{Local}
use Rattle.replay_world.proofs.play.play_lines.Goals as goal

pub returns-in_err-reader-clause-streams : goal.returns-in_err-reader-clause-streams
returns-in_err-reader-clause-streams g c errors now_errors =
    let failed : c.from_residual.result ≡ Err stop.Memory = search rules in
    rw failed (nothing_stops _ _ (goes-cut g.K.Keeper _ _ c.args.world.now.ends.boxes (boxes_of c.args.world.now) c.args.keeper.now.keeper c.args.keeper.now.keeper)
    (streams_told g.S.Source g.O.Sink c.args.source.now c.args.out.now errors) (streams_told g.S.Source g.O.Sink c.args.source.now c.args.out.now now_errors) refl refl
    (goes-cut g.K.Keeper _ _ c.args.world.now.ends.boxes (boxes_of c.args.world.now) c.args.keeper.now.keeper c.args.keeper.now.keeper []
    (record { boxes = boxes_of c.args.world.now; leads = leads-begun g.K.Keeper _ _ c.args.world.now.ends.boxes (boxes_of c.args.world.now) c.args.keeper.now.keeper [] refl })))

pub returns-in_err-put_head-clause-streams : goal.returns-in_err-put_head-clause-streams
returns-in_err-put_head-clause-streams g c errors now_errors =
    let failed : c.from_residual-in_err-put_head.result ≡ Err c.in_err-put_head.field-0.0 = search rules in
    rw failed (head_stops _ _ (goes-cut g.K.Keeper _ _ c.args.world.now.ends.boxes (boxes_of c.args.world.now) c.args.keeper.now.keeper c.args.keeper.now.keeper)
    (streams_told g.S.Source g.O.Sink c.args.source.now c.args.out.now errors) (streams_told g.S.Source g.O.Sink c.args.source.now c.put_head.new.out now_errors) (Unit {0}) c.in_err-put_head.field-0.0 refl
    c.in_err-put_head.ensures
    (record { boxes = boxes_of c.args.world.now; leads = leads-begun g.K.Keeper _ _ c.args.world.now.ends.boxes (boxes_of c.args.world.now) c.args.keeper.now.keeper [] refl }))

pub lines-init : goal.lines-init
lines-init g c =
    let past = c.args.world.now.ends.past in
    record {
      held = refl;
      told = c.requires.told;
      boxes = refl;
      kept = keeps-past _ c.args.world.now.ends.boxes (boxes_of c.args.world.now) [] past (sym c.requires.begun) c.requires.kept;
      leads = leads-begun g.K.Keeper _ _ c.args.world.now.ends.boxes (boxes_of c.args.world.now) c.args.keeper.now.keeper past c.requires.begun;
      playing = subst (λ (p : List Turn). IsPlaying c.in_ok-reader.reader (g.S.Source.left c.args.source.now) (g.S.Source.left c.args.source.now) (g.O.Sink.written c.args.out.now) (g.O.Sink.written c.put_head.new.out) p)
          (sym c.requires.begun) (playing_begun c.in_ok-reader.reader (g.S.Source.left c.args.source.now) (g.O.Sink.written c.args.out.now) (g.O.Sink.written c.put_head.new.out) c.in_ok-reader.ensures.new c.in_ok-put_head.ensures.0);
      reads = refl;
      writes = c.in_ok-put_head.ensures.1;
    }

pub lines-preserved-in-Ok-Passed : goal.lines-preserved-in-Ok-Passed
lines-preserved-in-Ok-Passed g c =
    let i = c.lines.invariant in
    let t = taken-as c.lines.reader c.next_line.new.self (g.S.Source.left c.lines.source) (g.S.Source.left c.next_line.new.source) (g.S.Source.faults c.lines.source) (g.S.Source.faults c.next_line.new.source)
    (Ok c.in-Ok-Passed.field-0) (Ok line.Passed) (ap Ok c.in-Ok-Passed.field-0-is) c.in-Ok-Passed.ensures.takes in
    record {
      held = i.held;
      told = i.told;
      boxes = i.boxes;
      kept = i.kept;
      leads = i.leads;
      playing = line_passed c.lines.reader c.next_line.new.self (g.S.Source.left c.args.source.now) (g.S.Source.left c.lines.source) (g.S.Source.left c.next_line.new.source) (g.O.Sink.written c.args.out.now)
          (g.O.Sink.written c.lines.out) c.lines.world.ends.past i.playing t.0;
      reads = t.1 ∙ i.reads;
      writes = i.writes;
    }

pub lines-preserved : goal.lines-preserved
lines-preserved g c =
    let i = c.lines.invariant in
    let t = taken-as c.lines.reader c.next_line.new.self (g.S.Source.left c.lines.source) (g.S.Source.left c.next_line.new.source) (g.S.Source.faults c.lines.source) (g.S.Source.faults c.next_line.new.source)
    (Ok c.in-Ok-Said.field-0) (Ok (line.Said c.in-Ok-Said.moment c.in-Ok-Said.event)) (ap Ok c.in-Ok-Said.field-0-is) c.in-Ok-Said.ensures.takes in
    let turned = c.in_ok-turn-in-Ok-Said.ensures in
    let grown = turned.grows in
    let wrote = c.in_ok-write_newest-in-Ok-Said.ensures in
    let past = c.lines.world.ends.past in
    let newest = c.turn.new.self.ends.past in
    record {
      held = turned.held ∙ i.held;
      told = turned.told;
      boxes = grown.boxes ∙ i.boxes;
      kept = turned.kept;
      leads = leads-on g.K.Keeper _ _ c.args.world.now.ends.boxes (boxes_of c.args.world.now) c.args.keeper.now.keeper _ c.lines.keeper.keeper c.turn.new.keeper.keeper
          (boxes_of c.lines.world) (boxes_of c.turn.new.self) past newest grown.turn grown.more (subst (λ n. Local n newest) (grown.boxes ∙ i.boxes) turned.local)
          turned.stands turned.caused turned.asks turned.serve i.leads;
      playing = line_played past newest grown.turn c.in-Ok-Said.moment c.in-Ok-Said.event grown.more grown.of_event grown.at_moment c.lines.reader c.next_line.new.self
          (g.S.Source.left c.args.source.now) (g.S.Source.left c.lines.source) (g.S.Source.left c.next_line.new.source) (g.O.Sink.written c.args.out.now) (g.O.Sink.written c.lines.out)
          (g.O.Sink.written c.write_newest.new.out) i.playing t.0 wrote.0;
      reads = t.1 ∙ i.reads;
      writes = wrote.1 ∙ i.writes;
    }

pub returns-in-Ok-End-clause-streams : goal.returns-in-Ok-End-clause-streams
returns-in-Ok-End-clause-streams g c errors now_errors =
    let i = c.lines.invariant in
    let t = taken-as c.lines.reader c.next_line.new.self (g.S.Source.left c.lines.source) (g.S.Source.left c.next_line.new.source) (g.S.Source.faults c.lines.source) (g.S.Source.faults c.next_line.new.source)
    (Ok c.in-Ok-End.field-0) (Ok line.End) (ap Ok c.in-Ok-End.field-0-is) c.in-Ok-End.ensures.takes in
    let past = c.lines.world.ends.past in
    last_ends _ _ (goes-cut g.K.Keeper _ _ c.args.world.now.ends.boxes (boxes_of c.args.world.now) c.args.keeper.now.keeper c.lines.keeper.keeper)
    (streams_told g.S.Source g.O.Sink c.args.source.now c.args.out.now errors) (streams_told g.S.Source g.O.Sink c.next_line.new.source c.put_end.new.out now_errors)
    past None c.turns.result (sink_told g.O.Sink c.lines.out) c.put_end.result
    (end_told c.lines.reader c.next_line.new.self (g.S.Source.left c.args.source.now) (g.S.Source.left c.lines.source) (g.S.Source.left c.next_line.new.source) past i.playing.has_read i.playing.within t.0)
    c.turns.ensures i.playing.wrote i.writes c.put_end.ensures.writes c.put_end.ensures.fault (t.1 ∙ i.reads) (record { boxes = boxes_of c.lines.world; leads = i.leads })

pub returns-in-Err-Input-clause-streams : goal.returns-in-Err-Input-clause-streams
returns-in-Err-Input-clause-streams g c errors now_errors =
    let i = c.lines.invariant in
    let t = taken-as c.lines.reader c.next_line.new.self (g.S.Source.left c.lines.source) (g.S.Source.left c.next_line.new.source) (g.S.Source.faults c.lines.source) (g.S.Source.faults c.next_line.new.source)
    (Err c.in-Err-Input.field-0) (Err (why_none.Input c.in-Err-Input.fault)) (ap Err c.in-Err-Input.field-0-is) c.in-Err-Input.ensures.takes in
    let past = c.lines.world.ends.past in
    last_ends _ _ (goes-cut g.K.Keeper _ _ c.args.world.now.ends.boxes (boxes_of c.args.world.now) c.args.keeper.now.keeper c.lines.keeper.keeper)
    (streams_told g.S.Source g.O.Sink c.args.source.now c.args.out.now errors) (streams_told g.S.Source g.O.Sink c.next_line.new.source c.put_end-in-Err-Input.new.out now_errors)
    past (Some c.in-Err-Input.fault) c.turns-in-Err-Input.result (sink_told g.O.Sink c.lines.out) c.put_end-in-Err-Input.result
    (fault_told c.lines.reader (g.S.Source.left c.args.source.now) (g.S.Source.left c.lines.source) (g.S.Source.left c.next_line.new.source) past c.in-Err-Input.fault i.playing.has_read t.1 t.0)
    c.turns-in-Err-Input.ensures i.playing.wrote i.writes c.put_end-in-Err-Input.ensures.writes c.put_end-in-Err-Input.ensures.fault (t.2 ∙ i.reads) (record { boxes = boxes_of c.lines.world; leads = i.leads })

pub returns-in-Err-Memory-clause-streams : goal.returns-in-Err-Memory-clause-streams
returns-in-Err-Memory-clause-streams g c errors now_errors =
    let i = c.lines.invariant in
    let t = taken-as c.lines.reader c.next_line.new.self (g.S.Source.left c.lines.source) (g.S.Source.left c.next_line.new.source) (g.S.Source.faults c.lines.source) (g.S.Source.faults c.next_line.new.source)
    (Err c.in-Err-Memory.field-0) (Err why_none.Memory) (ap Err c.in-Err-Memory.field-0-is) c.in-Err-Memory.ensures.takes in
    let past = c.lines.world.ends.past in
    line_stops _ _ (goes-cut g.K.Keeper _ _ c.args.world.now.ends.boxes (boxes_of c.args.world.now) c.args.keeper.now.keeper c.lines.keeper.keeper)
    (streams_told g.S.Source g.O.Sink c.args.source.now c.args.out.now errors) (streams_told g.S.Source g.O.Sink c.next_line.new.source c.lines.out now_errors)
    c.lines.reader (source_told g.S.Source c.lines.source) past i.playing i.reads i.writes t
    (goes-cut g.K.Keeper _ _ c.args.world.now.ends.boxes (boxes_of c.args.world.now) c.args.keeper.now.keeper c.lines.keeper.keeper past (record { boxes = boxes_of c.lines.world; leads = i.leads }))

pub returns-in-Err-Source-clause-streams : goal.returns-in-Err-Source-clause-streams
returns-in-Err-Source-clause-streams g c errors now_errors =
    let i = c.lines.invariant in
    let t = taken-as c.lines.reader c.next_line.new.self (g.S.Source.left c.lines.source) (g.S.Source.left c.next_line.new.source) (g.S.Source.faults c.lines.source) (g.S.Source.faults c.next_line.new.source)
    (Err c.in-Err-Source.field-0) (Err why_none.Source) (ap Err c.in-Err-Source.field-0-is) c.in-Err-Source.ensures.takes in
    let past = c.lines.world.ends.past in
    source_stops _ _ (goes-cut g.K.Keeper _ _ c.args.world.now.ends.boxes (boxes_of c.args.world.now) c.args.keeper.now.keeper c.lines.keeper.keeper)
    (streams_told g.S.Source g.O.Sink c.args.source.now c.args.out.now errors) (streams_told g.S.Source g.O.Sink c.next_line.new.source c.lines.out now_errors)
    c.lines.reader (source_told g.S.Source c.lines.source) past i.playing i.reads i.writes t (record { boxes = boxes_of c.lines.world; leads = i.leads })

pub returns-in_err-turn-in-Ok-Said-clause-streams : goal.returns-in_err-turn-in-Ok-Said-clause-streams
returns-in_err-turn-in-Ok-Said-clause-streams g c errors now_errors =
    let i = c.lines.invariant in
    let t = taken-as c.lines.reader c.next_line.new.self (g.S.Source.left c.lines.source) (g.S.Source.left c.next_line.new.source) (g.S.Source.faults c.lines.source) (g.S.Source.faults c.next_line.new.source)
    (Ok c.in-Ok-Said.field-0) (Ok (line.Said c.in-Ok-Said.moment c.in-Ok-Said.event)) (ap Ok c.in-Ok-Said.field-0-is) c.in-Ok-Said.ensures.takes in
    let past = c.lines.world.ends.past in
    let failed : c.from_residual-in_err-turn-in-Ok-Said.result ≡ Err stop.Memory = search rules in
    rw failed (unplayed_stops _ _ (goes-cut g.K.Keeper _ _ c.args.world.now.ends.boxes (boxes_of c.args.world.now) c.args.keeper.now.keeper c.turn.new.keeper.keeper)
    (streams_told g.S.Source g.O.Sink c.args.source.now c.args.out.now errors) (streams_told g.S.Source g.O.Sink c.next_line.new.source c.lines.out now_errors)
    c.next_line.new.self past _
    (line_read c.lines.reader c.next_line.new.self (g.S.Source.left c.args.source.now) (g.S.Source.left c.lines.source) (g.S.Source.left c.next_line.new.source) (titles past)
    (line.Said c.in-Ok-Said.moment c.in-Ok-Said.event) i.playing.has_read t.0)
    t.0.within i.playing.wrote i.writes (t.1 ∙ i.reads)
    (record { asked_last = c.lines.keeper.keeper; same_book = c.in_err-turn-in-Ok-Said.ensures.keeps_book; goes = record { boxes = boxes_of c.lines.world; leads = i.leads } }))

pub returns-in_err-write_newest-in-Ok-Said-clause-streams : goal.returns-in_err-write_newest-in-Ok-Said-clause-streams
returns-in_err-write_newest-in-Ok-Said-clause-streams g c errors now_errors =
    let i = c.lines.invariant in
    let t = taken-as c.lines.reader c.next_line.new.self (g.S.Source.left c.lines.source) (g.S.Source.left c.next_line.new.source) (g.S.Source.faults c.lines.source) (g.S.Source.faults c.next_line.new.source)
    (Ok c.in-Ok-Said.field-0) (Ok (line.Said c.in-Ok-Said.moment c.in-Ok-Said.event)) (ap Ok c.in-Ok-Said.field-0-is) c.in-Ok-Said.ensures.takes in
    let turned = c.in_ok-turn-in-Ok-Said.ensures in
    let grown = turned.grows in
    let past = c.lines.world.ends.past in
    let newest = c.turn.new.self.ends.past in
    let read = turn_read past newest grown.turn c.in-Ok-Said.moment c.in-Ok-Said.event grown.more grown.of_event grown.at_moment c.lines.reader c.next_line.new.self
    (g.S.Source.left c.args.source.now) (g.S.Source.left c.lines.source) (g.S.Source.left c.next_line.new.source) i.playing.has_read t.0 in
    let failed : c.from_residual-in_err-write_newest-in-Ok-Said.result ≡ Err c.in_err-write_newest-in-Ok-Said.field-0.0 = search rules in
    rw failed (turn_stops _ _ (goes-cut g.K.Keeper _ _ c.args.world.now.ends.boxes (boxes_of c.args.world.now) c.args.keeper.now.keeper c.turn.new.keeper.keeper)
    (streams_told g.S.Source g.O.Sink c.args.source.now c.args.out.now errors) (streams_told g.S.Source g.O.Sink c.next_line.new.source c.write_newest.new.out now_errors) (Unit {0})
    c.next_line.new.self past newest grown.turn (sink_told g.O.Sink c.lines.out) c.in_err-write_newest-in-Ok-Said.field-0.0
    (subst (HasRead c.next_line.new.self (g.S.Source.left c.args.source.now) (g.S.Source.left c.next_line.new.source)) (sym (append-nil (titles newest))) read)
    t.0.within grown.more i.playing.wrote i.writes c.in_err-write_newest-in-Ok-Said.ensures (t.1 ∙ i.reads)
    (record {
      boxes = boxes_of c.turn.new.self;
      leads = leads-on g.K.Keeper _ _ c.args.world.now.ends.boxes (boxes_of c.args.world.now) c.args.keeper.now.keeper _ c.lines.keeper.keeper c.turn.new.keeper.keeper
          (boxes_of c.lines.world) (boxes_of c.turn.new.self) past newest grown.turn grown.more (subst (λ n. Local n newest) (grown.boxes ∙ i.boxes) turned.local)
          turned.stands turned.caused turned.asks turned.serve i.leads;
    }))
