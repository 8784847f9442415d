use Rattle.ike_window.proofs.Windows.{repeats_are}
use Rattle.ike_window.proofs.laws.repeats_are_the_responses.Goals as goal

pub returns : goal.returns
returns c = repeats_are
