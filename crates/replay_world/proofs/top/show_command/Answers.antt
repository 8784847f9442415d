-- Each way out is a row of the table.
use Rattle.call_ends.proofs.StreamLaws.{stream_ends}
use Rattle.call_ends.specs.Outside.{outside, sink_told}
use Rattle.show_messages.proofs.BreakLaws.{shown_begins}
use Rattle.show_messages.specs.Showing.{showing}
use Rattle.replay_world.proofs.top.show_command.Goals as goal

pub returns-clause-ends : goal.returns-clause-ends
returns-clause-ends g c =
    stream_ends showing (λ input output fault. shown_begins input output fault)
    (outside g.S.Source g.O.Sink g.D.Sink c.args.source.now c.args.out.now c.args.diag.now) (outside g.S.Source g.O.Sink g.D.Sink c.show-shown.new.source c.show-shown.new.out c.say_end.new.diag)
    c.show-shown.result (c.show-shown.ensures (sink_told g.D.Sink c.args.diag.now) (sink_told g.D.Sink c.say_end.new.diag))
    c.say_end.result c.say_end.ensures.says
