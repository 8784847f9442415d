use Rattle.std.proofs.Common.{length}
use Rattle.ha_base.proofs.id_forms.+word_by.Given as goal

abbrev pub decreases-word_by : goal.decreases-word_by
decreases-word_by l = length l.forms.now
