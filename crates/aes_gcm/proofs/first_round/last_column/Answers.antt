use Rattle.std.proofs.Common.{◌∙◌, ◌/◌, ◌%◌, ◌^◌, ap, arith}
use Rattle.std.specs.Int.{w32, from_le_bytes}
use Rattle.aes_gcm.specs.Aes.{xored}
use Rattle.aes_gcm.proofs.WordRounds.{octets_of_word, word_of_xor}
use Rattle.aes_gcm.proofs.first_round.last_column.Goals as goal

pub returns : goal.returns
returns c =
    let k = c.args.counter in
    let octets =
    octets_of_word (k / 2 ^ 24 % 256) (k / 2 ^ 16 % 256) (k / 2 ^ 8 % 256) (k % 256) c.from_le_bytes.result (omega arith) (omega arith) (omega arith) (omega arith) (c.from_le_bytes.ensures ∙ ap (from_le_bytes w32) c.to_be_bytes.ensures) in
    word_of_xor c.from_le_bytes.result c.key_word.result ∙ (λ i. xored (octets i) (c.key_word.ensures i))
