use Rattle.std.proofs.Common.{◌≢◌, ◌<◌, ◌%◌, ◌∙◌, sym, arith}
use Rattle.aes_gcm.proofs.Schedules.{changed_at_key, changed_at_half, unchanged}
use Rattle.aes_gcm.proofs.expansion.changed_word.Goals as goal
use Rattle.aes_gcm.proofs.expansion.changed_word.Goals.{else-nk-gt6-via-then-nk-gt6+else-i-nk-eq4, else-nk-gt6-via-else-nk-gt6}

pub returns-then-i-nk-eq0 : goal.returns-then-i-nk-eq0
returns-then-i-nk-eq0 c =
    cc (changed_at_key c.args.nk c.args.i c.args.before.now c.if-i-nk-eq0.true, c.xor_into.ensures, c.round_constant.ensures, c.sub_bytes.ensures, c.rot_word-changed.ensures)

pub returns-then-i-nk-eq4 : goal.returns-then-i-nk-eq4
returns-then-i-nk-eq4 c =
    cc (changed_at_half c.args.nk c.args.i c.args.before.now c.if-nk-gt6.true c.if-i-nk-eq4.true, c.sub_bytes-then-i-nk-eq4.ensures, c.copied-changed.ensures)

pub returns-else-nk-gt6 : goal.returns-else-nk-gt6
returns-else-nk-gt6 c =
    let second : 6 < c.args.nk → c.args.i % c.args.nk ≢ 4 =
    elim c.else-nk-gt6.branch [ else-nk-gt6-via-then-nk-gt6+else-i-nk-eq4 w ↦ λ _. w.if-i-nk-eq4.false | else-nk-gt6-via-else-nk-gt6 w ↦ λ wide. absurd (omega arith) ] in
    c.copied.ensures ∙ sym (unchanged c.args.nk c.args.i c.args.before.now c.if-i-nk-eq0.false second)
