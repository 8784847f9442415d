use Rattle.std.proofs.Common.{◌≡◌, ◌+◌, ◌-◌}
use Rattle.ha_base.specs.declared.limits.TheConstants.{INPUT_OCTETS}
use Rattle.show_messages.proofs.ReadLaws.{IsShowing}
use Rattle.show_messages.proofs.text.show.Given as goal

abbrev pub invariant-lines : goal.invariant-lines
invariant-lines g l = record {
  showing : IsShowing l.reader (g.S.Source.left l.fn.source) (g.S.Source.left l.source) (g.O.Sink.written l.fn.out) (g.O.Sink.written l.out);
  reads : g.S.Source.faults l.source ≡ g.S.Source.faults l.fn.source;
  writes : g.O.Sink.faults l.out ≡ g.O.Sink.faults l.fn.out;
}

abbrev pub decreases-lines : goal.decreases-lines
decreases-lines g l = INPUT_OCTETS + 1 - l.reader.place.before
