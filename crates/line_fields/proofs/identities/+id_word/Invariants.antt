use Rattle.std.proofs.Common.{length}
use Rattle.line_fields.proofs.identities.+id_word.Given as goal

abbrev pub decreases-id_word : goal.decreases-id_word
decreases-id_word l = length l.forms.now
