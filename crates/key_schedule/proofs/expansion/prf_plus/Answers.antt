use Rattle.std.proofs.Common.{◌≡◌, suc, ◌+◌, ◌-◌, ◌*◌, ◌≤◌, ◌∷◌, [], ◌++◌, length, take, min, ◌∙◌, sym, ap, refl, arith, add-one, take_all}
use Rattle.std.proofs.lemmas.Grind.{div_ceil_times}
use borrow.Rule.Slice.PartMut.{put_mid}
use Rattle.key_schedule.specs.Hmac.{hmac}
use Rattle.key_schedule.specs.PrfPlus.{block, blocks}
use Rattle.key_schedule.proofs.Prefixes.{length-blocks, length-block, take_piece, prf_plus-blocks}
use Rattle.key_schedule.proofs.expansion.prf_plus.Goals as goal

pub pieces-init : goal.pieces-init
unfolding block blocks
pieces-init c = record { written = sym (take_all (length c.args.out.now) [] (omega arith)); previous = refl }

pub pieces-preserved : goal.pieces-preserved
unfolding block blocks
pieces-preserved c =
    let key = c.args.key.now in
    let seed = c.args.seed.now in
    let len = length c.args.out.now in
    let i = c.pieces.i in
    let end = c.min-end.result in
    let before : take c.min.result c.pieces.block ≡ block key seed i =
    ap (λ k. take k c.pieces.block) c.min.ensures ∙ c.pieces.invariant.previous in
    let next : c.hmac_of_parts-next.result ≡ block key seed (suc i) =
    c.hmac_of_parts-next.ensures ∙ (λ j. hmac key (before j ++ seed ++ add-one i j ∷ [])) in
    let whole : length c.hmac_of_parts-next.result ≡ 32 = ap length next ∙ length-block key seed i in
    let bounds = div_ceil_times len 32 (omega arith) in
    let start : 32 * i ≤ len = omega (arith, bounds.0, bounds.1) in
    let whole_block : min (32 * (i + 1)) 32 ≡ 32 = omega arith in
    record {
      written =
          ap (λ ys. take (32 * (i + 1)) (put_mid (32 * i) (end - 32 * i) c.pieces.out ys)) c.copy_from_slice.ensures.after
          ∙ take_piece c.pieces.out c.hmac_of_parts-next.result (blocks key seed i) i len end c.pieces.auto.out whole
          (length-blocks key seed i) start c.min-end.ensures c.pieces.invariant.written
          ∙ (λ j. take len (blocks key seed i ++ next j))
          ∙ (λ j. take len (blocks key seed (sym (add-one i) j)));
      previous =
          ap (λ k. take k c.hmac_of_parts-next.result) whole_block
          ∙ take_all 32 c.hmac_of_parts-next.result (omega arith)
          ∙ next
          ∙ (λ j. block key seed (sym (add-one i) j));
    }

pub returns : goal.returns
returns c =
    let len = length c.args.out.now in
    let i = c.pieces.i in
    let bounds = div_ceil_times len 32 (omega arith) in
    let enough : len ≤ 32 * i = omega (arith, bounds.0, bounds.1) in
    let few : i ≤ 255 = omega (arith, bounds.0, bounds.1) in
    sym (take_all (32 * i) c.pieces.out (omega arith))
    ∙ c.pieces.invariant.written
    ∙ sym (prf_plus-blocks c.args.key.now c.args.seed.now i len few enough)
