use Rattle.std.proofs.Common.{◌+◌, ◌-◌, ◌%◌, ◌≤◌, [], ◌∷◌, ◌++◌, length, drop, refl, sym, arith, ap, ◌∙◌}
use Rattle.std.proofs.lemmas.List.{length-append, length-drop}
use Rattle.std.specs.List.{range_with_len}
use Rattle.esp_packets.proofs.Plaintexts.{written, pad_length_is, padding_is, length-range_with_len}
use Rattle.esp_packets.proofs.plain.write_plain.Goals as goal

pub returns-clause-plain : goal.returns-clause-plain
returns-clause-plain c =
    let end = length c.args.payload.now in
    let pad = 3 - (end + 1) % 4 in
    let small : 3 - (length c.args.payload.now + 1) % 4 ≤ 3 = omega arith in
    let rest = drop (end + pad - end) (drop end (c.copy_from_slice.new.self ++ drop end c.args.buffer.now)) in
    written c.copy_from_slice.new.self c.copy_from_slice-2.new.self c.args.payload.now (range_with_len 1 pad)
    (drop end c.args.buffer.now) rest
    end pad pad c.args.next_header
    c.copy_from_slice.ensures.after (c.copy_from_slice-2.ensures.after ∙ padding_is pad small)
    refl (length-range_with_len 1 pad)
    (omega (
      arith,
      c.told-buffer,
      c.copy_from_slice.ensures.len,
      length-drop (end + pad - end) (drop end (c.copy_from_slice.new.self ++ drop end c.args.buffer.now)),
      length-drop end (c.copy_from_slice.new.self ++ drop end c.args.buffer.now),
      length-append c.copy_from_slice.new.self (drop end c.args.buffer.now),
      length-drop end c.args.buffer.now,
      ap length c.copy_from_slice.ensures.after,
      small,
    ))
    ∙ ap (λ k. c.args.payload.now ++ range_with_len 1 k ++ k ∷ c.args.next_header ∷ []) (sym (pad_length_is end))
