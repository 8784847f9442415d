use Rattle.std.proofs.Common.{◌∷◌, [], ◌++◌, take, ap, ◌∙◌}
use Rattle.std.specs.Int.{w64, to_be_bytes}
use Rattle.tickets.specs.Tickets.{size_octet}
use Rattle.tickets.proofs.Contents.{written}
use Rattle.tickets.proofs.issuing.write_content.Goals as goal

pub returns-clause-plain : goal.returns-clause-plain
returns-clause-plain c =
    let content = c.args.content.now in
    let one = take c.put-end.result c.put-end.new.buffer in
    let two = take c.put-end-2.result c.put-end-2.new.buffer in
    let three = take c.put-end-3.result c.put-end-3.new.buffer in
    let four = take c.put-end-4.result c.put-end-4.new.buffer in
    let five = take c.put-end-5.result c.put-end-5.new.buffer in
    let six = take c.put-end-6.result c.put-end-6.new.buffer in
    let seven = take c.put-end-7.result c.put-end-7.new.buffer in
    written (to_be_bytes w64 content.spii) (to_be_bytes w64 content.spir) content.sk_d (size_octet content.size ∷ [])
    (to_be_bytes w64 content.issued) (to_be_bytes w64 content.expiry) (content.identity.kind ∷ []) content.identity.octets
    one two three four five six seven (take c.put.result c.put.new.buffer)
    (c.put-end.ensures.written ∙ c.to_be_bytes.ensures)
    (c.put-end-2.ensures.written ∙ ap (λ ys. one ++ ys) c.to_be_bytes-2.ensures)
    c.put-end-3.ensures.written
    (c.put-end-4.ensures.written ∙ ap (λ n. three ++ n ∷ []) c.size_octet.ensures)
    (c.put-end-5.ensures.written ∙ ap (λ ys. four ++ ys) c.to_be_bytes-3.ensures)
    (c.put-end-6.ensures.written ∙ ap (λ ys. five ++ ys) c.to_be_bytes-4.ensures)
    c.put-end-7.ensures.written
    (c.put.ensures.written ∙ ap (λ ys. seven ++ ys) c.as_slice.ensures.value)
