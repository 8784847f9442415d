use Rattle.std.proofs.Common.{◌∙◌, sym, arith}
use Rattle.std.specs.Int.Bits.{bit_xor}
use Rattle.std.proofs.lemmas.List.{take_all}
use Rattle.std.proofs.lemmas.Simd.{put_chunk_whole, length-zip2}
use lib.Lanes.{zip2, put_chunk}
use Rattle.aes_gcm.specs.Aes.{xored}
use Rattle.aes_gcm.proofs.octets.xor_lanes.Goals as goal

pub returns : goal.returns
unfolding xored
returns c =
    let buf = c.args.buf.now in
    let mask = c.args.mask.now in
    (λ i. put_chunk 0 buf (zip2 bit_xor (take_all 32 buf (omega arith) i) (take_all 32 mask (omega arith) i)))
    ∙ put_chunk_whole buf (zip2 bit_xor buf mask) (sym (length-zip2 bit_xor buf mask (omega arith)))
