use Rattle.std.proofs.Common.{length}
use Rattle.ha_base.proofs.id_forms.+has_size.Given as goal

abbrev pub decreases-has_size : goal.decreases-has_size
decreases-has_size l = length l.forms.now
