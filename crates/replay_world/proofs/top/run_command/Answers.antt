-- Each way out is a row of the table.
use Rattle.call_ends.proofs.StreamLaws.{stream_ends}
use Rattle.call_ends.specs.Outside.{outside, sink_told}
use Rattle.run_lines.proofs.BreakLaws.{played_begins}
use Rattle.replay_world.proofs.GoingLaws.{trace-cut}
use Rattle.replay_world.specs.Handed.{IsTrace, IsTraceCut, handed, running}
use Rattle.replay_world.proofs.top.run_command.Goals as goal

pub returns-clause-ends : goal.returns-clause-ends
returns-clause-ends g c =
    let run = handed g.K.Keeper c.args.keeper.now c.play_file-played.new.keeper _ c.args.peer_service c.args.services in
    stream_ends (running run) (λ input output fault. played_begins (IsTrace run run.now) (IsTraceCut run) (trace-cut run) input output fault)
    (outside g.S.Source g.O.Sink g.D.Sink c.args.source.now c.args.out.now c.args.diag.now) (outside g.S.Source g.O.Sink g.D.Sink c.play_file-played.new.source c.play_file-played.new.out c.say_end.new.diag)
    c.play_file-played.result
    (c.play_file-played.ensures.streams (sink_told g.D.Sink c.args.diag.now) (sink_told g.D.Sink c.say_end.new.diag))
    c.say_end.result c.say_end.ensures.says
