use Rattle.std.proofs.Common.{◌≡◌, ◌+◌, ◌-◌, ◌*◌, ◌/◌, ◌∙◌, length, arith, rules}
use Rattle.std.proofs.lemmas.Slice.{take-put_mid}
use Rattle.aes_gcm.proofs.Schedules.{expanded_none, expanded_step, expanded_all}
use Rattle.aes_gcm.proofs.expansion.expand.Goals as goal

pub loop-i-init : goal.loop-i-init
loop-i-init c = expanded_none c.args.key.now c.begun-words.result c.requires c.begun-words.ensures

pub loop-i-preserved : goal.loop-i-preserved
loop-i-preserved c =
    let i = c.loop-i.i in
    let w = c.loop-i.words in
    let next = c.copy_from_slice.new.self in
    let nk = length c.args.key.now / 4 in
    let width : 4 * i + 4 - 4 * i ≡ 4 = omega arith in
    let long : length w ≡ 240 = c.next_word-next.array_long in
    let four : length next ≡ 4 = c.copy_from_slice.ensures.len ∙ search rules in
    take-put_mid (4 * i) (4 * i + 4 - 4 * i) w next (4 * (i + 1)) (omega arith) (omega arith)
    ∙ expanded_step c.args.key.now w next nk i (omega arith) (omega arith) c.loop-i.invariant (c.copy_from_slice.ensures.after ∙ c.next_word-next.ensures)

pub returns : goal.returns
returns c = expanded_all c.args.key.now c.loop-i.i c.loop-i.words (omega arith) c.loop-i.invariant
