use Rattle.std.proofs.Common.{◌<◌, ◌≤◌, ◌++◌, length, ◌∙◌, take_all, get_or, arith, length-append, length-take, length-drop}
use Rattle.std.specs.Prelude.{map, bit_xor}
use Rattle.std.proofs.lemmas.List.{drop_all, append-nil, get_or_default, length-map}
use Rattle.std.proofs.lemmas.List.Edits.{map_over_more}
use Rattle.key_schedule.specs.Hmac.{masked_octets}
use Rattle.key_schedule.proofs.mac.masked_octets.Goals as goal

pub loop-octet-preserved : goal.loop-octet-preserved
loop-octet-preserved c =
    let ys = c.loop-octet.octet-items in
    let i = c.loop-octet.octet-index in
    let within : i < length ys =
    rw c.loop-octet.invariant (simp (length-append, length-map, length-take, length-drop) (omega arith)) in
    map_over_more (λ octet. bit_xor octet c.args.mask) c.args.block.now ys i (get_or ys i 0) (omega arith)
    c.loop-octet.invariant (get_or_default ys i 0 (get_or ys i 0) within)

pub returns : goal.returns
unfolding masked_octets
returns c =
    let xs = c.args.block.now in
    let all : length xs ≤ c.loop-octet.octet-index = omega arith in
    c.loop-octet.invariant
    ∙ (λ i. map (λ octet. bit_xor octet c.args.mask) (take_all c.loop-octet.octet-index xs all i)
    ++ drop_all c.loop-octet.octet-index xs all i)
    ∙ append-nil (map (λ octet. bit_xor octet c.args.mask) xs)
