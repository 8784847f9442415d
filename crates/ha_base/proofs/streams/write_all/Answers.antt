use Rattle.std.proofs.Common.{rules}
use Rattle.std.proofs.KnownBytes.{Appends-trans}
use Rattle.ha_base.proofs.Slices.{take_next}
use Rattle.ha_base.proofs.streams.write_all.Goals as goal

pub loop-at-preserved : goal.loop-at-preserved
loop-at-preserved g c = record {
  in_range = search rules;
  appended = rw (take_next c.args.octets.now c.loop-at.at c.in_ok-at.field-0) (Appends-trans _ _ _ _ _ c.loop-at.invariant.appended c.in_ok-at.ensures.octets);
  faults = search rules;
}
