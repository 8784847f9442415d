-- The newest turn has the number of all turns, and its datagram that of all datagrams.
use Rattle.std.proofs.Common.{◌≡◌, List, ℕ, Some, rules, subst}
use Rattle.std.specs.Prelude.{slice_get}
use Rattle.call_ends.specs.Outside.{sink_told}
use Rattle.call_ends.specs.Writes.{Writes}
use Rattle.replay_world.proofs.PlayedLaws.{newest_text-is}
use Rattle.replay_world.proofs.play.write_newest.Goals as goal

pub returns-in-Some : goal.returns-in-Some
returns-in-Some g c =
    let past = c.args.world.now.ends.past in
    let newest : Some c.in-Some.turn.now ≡ slice_get past 0 = search rules in
    subst (λ (text : List ℕ). Writes c.put_turn.result text (sink_told g.O.Sink c.args.out.now) (sink_told g.O.Sink c.put_turn.new.out))
    (newest_text-is past c.in-Some.turn.now c.turns.result c.datagrams.result newest c.turns.ensures c.datagrams.ensures) c.put_turn.ensures
