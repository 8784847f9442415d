use Rattle.std.proofs.Common.{◌≡◌, ◌∙◌, ◌+◌, ◌*◌, ◌/◌, arith, ap, length, refl}
use Rattle.std.specs.Prelude.{slice_index}
use Rattle.aes_gcm.specs.Gcm.{hashed_from, padded_to_blocks, block_count}
use Rattle.aes_gcm.proofs.Hashing.{hashed_more, block_at-padded}
use Rattle.aes_gcm.proofs.ghash.hash_onto.Goals as goal

pub loop-i-init : goal.loop-i-init
unfolding hashed_from
loop-i-init c = refl

pub loop-i-preserved : goal.loop-i-preserved
loop-i-preserved c =
    let xs = c.args.octets.now in
    let i = c.loop-i.i in
    let block = block_at-padded xs i (16 * i + 16) (omega arith) (omega arith) in
    cc (block, hashed_more (slice_index c.args.tables.now 8) c.args.before (padded_to_blocks xs) i, c.multiply-sum.ensures, c.load.ensures, c.loop-i.invariant)

pub returns-then-whole-octets : goal.returns-then-whole-octets
unfolding block_count
returns-then-whole-octets c =
    let all : c.loop-i.i ≡ (length c.args.octets.now + 15) / 16 = omega arith in
    c.loop-i.invariant ∙ ap (hashed_from (slice_index c.args.tables.now 8) c.args.before (padded_to_blocks c.args.octets.now)) all

pub returns : goal.returns
unfolding block_count
returns c =
    let xs = c.args.octets.now in
    let i = length xs / 16 in
    let h = slice_index c.args.tables.now 8 in
    let block = block_at-padded xs i (length xs) (omega arith) (omega arith) in
    let last : (length xs + 15) / 16 ≡ i + 1 = omega arith in
    let done : c.loop-i.i ≡ i = omega arith in
    let sofar = c.loop-i.invariant ∙ ap (hashed_from h c.args.before (padded_to_blocks xs)) done in
    rw last (cc (block, hashed_more h c.args.before (padded_to_blocks xs) i, c.multiply.ensures, c.load-2.ensures, sofar))
