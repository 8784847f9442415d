use Rattle.std.proofs.Common.{◌≡◌, ◌∙◌, ap}
use Rattle.std.specs.Prelude.{slice_index}
use Rattle.std.specs.Int.Bits.{bit_xor}
use Rattle.aes_gcm.specs.HashTables.{windows, times_power}
use Rattle.aes_gcm.proofs.HashTables.{windows_more, windows_all}
use Rattle.aes_gcm.proofs.ghash.multiply.Goals as goal

pub returns : goal.returns
returns c =
    let a = c.args.a in
    let v = slice_index c.args.tables.now 8 in
    let eight : bit_xor c.times_x4.result c.sum_of_windows-second.result ≡ windows 8 8 a v =
    (λ i. bit_xor ((c.times_x4.ensures ∙ ap (times_power 4) c.sum_of_windows-first.ensures) i) (c.sum_of_windows-second.ensures i)) ∙ windows_more 8 4 a v in
    let twelve : bit_xor c.times_x4-2.result c.sum_of_windows-third.result ≡ windows 8 12 a v =
    (λ i. bit_xor ((c.times_x4-2.ensures ∙ ap (times_power 4) eight) i) (c.sum_of_windows-third.ensures i)) ∙ windows_more 8 8 a v in
    (λ i. bit_xor ((c.times_x4-3.ensures ∙ ap (times_power 4) twelve) i) (c.sum_of_windows-fourth.ensures i))
    ∙ windows_more 8 12 a v ∙ windows_all a v
