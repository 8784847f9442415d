use Rattle.std.proofs.Common.{◌≡◌, ◌+◌, ◌-◌, Some, []}
use Rattle.ha_base.specs.declared.limits.TheConstants.{INPUT_OCTETS}
use Rattle.keeper_book.specs.Gates.{told_calls}
use Rattle.replay_world.specs.Going.{Leads}
use Rattle.replay_world.specs.Worlds.{boxes_of}
use Rattle.run_lines.proofs.ReadLaws.{IsPlaying}
use Rattle.turn_laws.specs.Serving.{KeepServices}
use Rattle.replay_world.proofs.play.play_lines.Given as goal

abbrev pub invariant-lines : goal.invariant-lines
invariant-lines g l = record {
  held : g.K.Keeper.held l.keeper.keeper ≡ g.K.Keeper.held l.fn.keeper.keeper;
  told : told_calls l.keeper ≡ Some [];
  boxes : l.world.ends.boxes ≡ l.fn.world.ends.boxes;
  kept : KeepServices (λ z. (g.dyn-1.0.entry z.vtable).1.count z.value) l.world.ends.boxes l.world.ends.past (boxes_of l.world);
  leads : Leads g.K.Keeper (λ z. (g.dyn-1.0.entry z.vtable).1.count z.value) (λ z. (g.dyn-1.0.entry z.vtable).1.gives z.value) l.fn.world.ends.boxes (boxes_of l.fn.world)
      l.fn.keeper.keeper l.keeper.keeper (boxes_of l.world) l.world.ends.past;
  playing : IsPlaying l.reader (g.S.Source.left l.fn.source) (g.S.Source.left l.source) (g.O.Sink.written l.fn.out) (g.O.Sink.written l.out) l.world.ends.past;
  reads : g.S.Source.faults l.source ≡ g.S.Source.faults l.fn.source;
  writes : g.O.Sink.faults l.out ≡ g.O.Sink.faults l.fn.out;
}

abbrev pub decreases-lines : goal.decreases-lines
decreases-lines g l = INPUT_OCTETS + 1 - l.reader.place.before
