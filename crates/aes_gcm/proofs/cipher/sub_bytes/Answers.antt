use Rattle.std.proofs.Common.{◌∙◌, map, get_or, arith}
use Rattle.std.proofs.lemmas.List.{take_all, drop_all, append-nil, get_or_default}
use Rattle.std.proofs.lemmas.List.Edits.{map_over_more}
use Rattle.aes_gcm.specs.Aes.{sub_byte, sub_bytes}
use Rattle.aes_gcm.proofs.cipher.sub_bytes.Goals as goal

pub loop-octet-preserved : goal.loop-octet-preserved
loop-octet-preserved c =
    let xs = c.args.octets.now in
    let ys = c.loop-octet.octets in
    let i = c.loop-octet.octet-index in
    rw c.sub_byte.ensures (map_over_more sub_byte xs ys i (get_or ys i 0) (omega arith) c.loop-octet.invariant (get_or_default ys i 0 (get_or ys i 0) (omega arith)))

pub returns : goal.returns
unfolding sub_bytes
returns c =
    let xs = c.args.octets.now in
    let i = c.loop-octet.octet-index in
    c.loop-octet.invariant ∙ (rw (take_all i xs (omega arith), drop_all i xs (omega arith)) (append-nil (map sub_byte xs)))
