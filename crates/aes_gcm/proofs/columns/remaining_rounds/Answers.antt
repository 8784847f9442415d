use Rattle.std.proofs.Common.{◌∙◌, ◌+◌, ◌*◌, ap, refl, arith}
use Rattle.aes_gcm.specs.Aes.{rounds}
use Rattle.aes_gcm.specs.Columns.{column_octets}
use Rattle.aes_gcm.proofs.Rounds.{round_after, last_after}
use Rattle.aes_gcm.proofs.columns.remaining_rounds.Goals as goal

pub loop-pair-init : goal.loop-pair-init
loop-pair-init c =
    λ block begun. begun ∙ ap (rounds c.args.round_keys.now block) (omega arith)

pub loop-pair-preserved : goal.loop-pair-preserved
loop-pair-preserved c =
    let w = c.args.round_keys.now in
    let r = c.args.from + 2 * c.loop-pair.pair in
    λ block begun.
    let first = round_after w block (column_octets c.loop-pair.state) (column_octets c.middle_round-first.result) r (r + 1) (omega arith) (c.loop-pair.invariant block begun) c.middle_round-first.ensures in
    let second = round_after w block (column_octets c.middle_round-first.result) (column_octets c.middle_round-second.result) (r + 1) (r + 2) (omega arith) first c.middle_round-second.ensures in
    second ∙ ap (rounds w block) (omega arith)

pub returns-then-middle_rounds-from-eq1 : goal.returns-then-middle_rounds-from-eq1
returns-then-middle_rounds-from-eq1 c =
    let w = c.args.round_keys.now in
    let r = c.args.from + 2 * c.loop-pair.pair in
    λ block begun.
    let mixed = round_after w block (column_octets c.loop-pair.state) (column_octets c.middle_round-mixed.result) r c.args.middle_rounds (omega arith) (c.loop-pair.invariant block begun) c.middle_round-mixed.ensures in
    last_after w block (column_octets c.middle_round-mixed.result) c.store.result c.args.middle_rounds c.args.middle_rounds refl mixed (c.store.ensures ∙ c.last_round.ensures)

pub returns : goal.returns
returns c =
    let w = c.args.round_keys.now in
    let r = c.args.from + 2 * c.loop-pair.pair in
    λ block begun.
    last_after w block (column_octets c.loop-pair.state) c.store-2.result r c.args.middle_rounds (omega arith) (c.loop-pair.invariant block begun) (c.store-2.ensures ∙ c.last_round-2.ensures)
