-- Lines that are too long, and what is left of an input.
use Rattle.ha_base.specs.declared.limits.TheConstants.{INPUT_OCTETS, LINE_OCTETS}
use Rattle.std.specs.Prelude.{ℕ, ◌+◌, ◌-◌, ◌&&◌, nat_lt, nat_le, List, Option, Some, None, Result, Err, if◌then◌else◌}
use Rattle.line_fields.specs.declared.fault.LineFault.{LineFault}
use Rattle.line_fields.specs.declared.fault.LineReason.TheVariants as reasons
use Rattle.line_fields.specs.Fields.{fault_at}

-- The fault of a line that is too long, or that passes the end that an input may have: of its
-- octets, with the line feed, and of those of the input before it. The earlier of the two counts.
abbrev pub overlong : ℕ → ℕ → ℕ → Option LineFault
overlong before octets size =
    if nat_lt LINE_OCTETS size && nat_le (before + (LINE_OCTETS + 1)) (INPUT_OCTETS + 1)
    then Some (fault_at (LINE_OCTETS + 1) reasons.LineTooLong)
    else if nat_lt INPUT_OCTETS (before + octets)
    then Some (fault_at (INPUT_OCTETS + 1 - before) reasons.FileTooLong)
    else None

abbrev pub unless_fault : {A : Type 0} → Option LineFault → Result A LineFault → Result A LineFault
unless_fault (Some f) read = Err f
unless_fault None read = read

-- what is left of an input: its lines, and the place of the first of them
pub record Left (Place : Type 0) : Type 0 where
  pub lines : List (List ℕ)
  pub place : Place
