use Rattle.turn_laws.proofs.Receivers.{receivers-apart}
use Rattle.turn_laws.proofs.traces.one_receives_at_an_spi.Goals as goal

pub returns : goal.returns
returns c = receivers-apart
