use Rattle.std.proofs.Common.{◌++◌, ◌∙◌, ap, []}
use Rattle.std.proofs.lemmas.List.{append-nil}
use Rattle.key_schedule.specs.Hmac.{hmac}
use Rattle.key_schedule.proofs.mac.hmac.Goals as goal

pub returns : goal.returns
returns c = c.hmac_of_parts.ensures ∙ ap (hmac c.args.key.now) (append-nil (c.args.text.now ++ []) ∙ append-nil c.args.text.now)
