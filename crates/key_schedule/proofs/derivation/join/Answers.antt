use Rattle.std.proofs.Common.{◌≡◌, ◌≤◌, ◌-◌, ◌++◌, ◌∙◌, length, drop, ap, arith, length-append}
use Rattle.std.proofs.lemmas.List.{append-nil, drop_all}
use Rattle.key_schedule.proofs.Parts.{put_mid-append}
use Rattle.key_schedule.proofs.derivation.join.Goals as goal

pub returns : goal.returns
returns c =
    let first = c.args.first.now in
    let second = c.args.second.now in
    let front = c.copy_from_slice.new.self in
    let rest = drop (length first) c.args.out.now in
    let n = length (front ++ rest) - length first in
    let long : length front ≡ length first = ap length c.copy_from_slice.ensures.after in
    let all : length rest ≤ n = omega (arith, long, length-append front rest) in
    put_mid-append front rest c.copy_from_slice-2.new.self (length first) n long
    ∙ (λ i. c.copy_from_slice.ensures.after i ++ (c.copy_from_slice-2.ensures.after i ++ drop_all n rest all i))
    ∙ (λ i. first ++ append-nil second i)
