use Rattle.std.proofs.Common.{◌≡◌, ◌+◌, ◌*◌, ℕ, List}
use Rattle.aes_gcm.specs.Aes.{rounds}
use Rattle.aes_gcm.specs.Columns.{column_octets}
use Rattle.aes_gcm.proofs.columns.remaining_rounds.Given as goal

abbrev pub invariant-loop-pair : goal.invariant-loop-pair
invariant-loop-pair l =
    (block : List ℕ) → column_octets l.fn.state ≡ rounds l.round_keys block l.from
    → column_octets l.state ≡ rounds l.round_keys block (l.from + 2 * l.pair)
