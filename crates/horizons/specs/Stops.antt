-- The stop that a refusal of the keeper is.
use Rattle.std.specs.Prelude.{Option, Some, None}
use Rattle.horizons.specs.declared.stop.Stop.{Stop}
use Rattle.horizons.specs.declared.stop.Stop.TheVariants as stop
use Rattle.keeper_book.specs.declared.faults.KeeperFault.{KeeperFault}
use Rattle.keeper_book.specs.declared.faults.KeeperFault.TheVariants as fault

-- only these refusals answer a cover
abbrev pub stop_of : KeeperFault → Option Stop
stop_of fault.Failed = Some stop.Keeper
stop_of (fault.Replaced epoch) = Some (stop.Replaced epoch)
stop_of fault.Closed = Some stop.Closed
stop_of fault.Unknown = Some stop.Unknown
stop_of why = None
