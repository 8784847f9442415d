use Rattle.std.proofs.Common.{◌≡◌, ◌+◌, ◌-◌, ◌≤◌, length}
use Rattle.std.specs.Prelude.{vec_capacity}
use Rattle.ha_base.specs.declared.limits.TheConstants.{PIECE_OCTETS}
use Rattle.input_lines.specs.Taking.{TakesFrom}
use Rattle.input_lines.proofs.taking.take_line.Given as goal

abbrev pub invariant-pieces : goal.invariant-pieces
invariant-pieces g l = record {
  takes : TakesFrom l.fn.limits l.fn.before l.fn.piece l.line.items l.piece (g.S.Source.left l.fn.source) (g.S.Source.left l.source);
  piece : length l.piece ≤ PIECE_OCTETS;
  room : l.fn.limits.line ≤ vec_capacity l.line;
  faults : g.S.Source.faults l.source ≡ g.S.Source.faults l.fn.source;
}

abbrev pub decreases-pieces : goal.decreases-pieces
decreases-pieces g l = l.fn.limits.file - (l.fn.before + length l.line.items)
