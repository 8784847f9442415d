use Rattle.std.proofs.Common.{◌++◌, length}
use Rattle.std.proofs.lemmas.List.{drop-replicate}
use Rattle.key_schedule.specs.Hmac.{padded_block}
use Rattle.key_schedule.proofs.mac.padded.Goals as goal

pub returns : goal.returns
unfolding padded_block
returns c = λ i. c.copy_from_slice.ensures.after i ++ drop-replicate (length c.args.octets.now) 64 0 i
