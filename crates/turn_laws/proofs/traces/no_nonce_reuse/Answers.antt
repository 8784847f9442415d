use Rattle.turn_laws.proofs.Sealed.{no-nonce-reuse}
use Rattle.turn_laws.proofs.traces.no_nonce_reuse.Goals as goal

pub returns : goal.returns
returns c = no-nonce-reuse
