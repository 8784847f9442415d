use Rattle.std.proofs.Common.{◌≡◌, ◌≤◌, ◌-◌, length, take}
use Rattle.std.specs.Io.KnownBytes.{Appends}
use Rattle.ha_base.proofs.streams.write_all.Given as goal

abbrev pub invariant-loop-at : goal.invariant-loop-at
invariant-loop-at g l = record {
  in_range : l.at ≤ length l.octets;
  appended : Appends (g.O.Sink.written l.fn.out) (g.O.Sink.written l.out) (take l.at l.octets);
  faults : g.O.Sink.faults l.out ≡ g.O.Sink.faults l.fn.out;
}

abbrev pub decreases-loop-at : goal.decreases-loop-at
decreases-loop-at g l = length l.octets - l.at
