use Rattle.std.proofs.Common.{◌≡◌, ◌+◌, ◌*◌, map, ap, subst, arith}
use Rattle.ghash_slices.specs.Blocks.{HoldsPlaces, multiplied_at}
use Rattle.ghash_slices.specs.LowStages.{ghash_product}
use Rattle.ghash_slices.proofs.SliceBlocks.{then_held}
use Rattle.ghash_slices.proofs.slices.multiply_in_lanes.Goals as goal

pub loop-block-preserved : goal.loop-block-preserved
loop-block-preserved g c =
    let value = g.W.Reads.number in
    let scalar = c.args.multiples.now.scalar in
    let old = map value c.args.values.now in
    let now = map value c.loop-block.values in
    let block = c.loop-block.block in
    let next : 16 * block + 16 ≡ 16 * (block + 1) = omega arith in
    subst (λ n. HoldsPlaces (multiplied_at scalar old) 0 n old (map value c.multiply_block.new.values)) next
    (then_held (multiplied_at scalar old) (multiplied_at scalar now) 0 (16 * block) (16 * block + 16) old now
    (map value c.multiply_block.new.values) (omega arith) (omega arith)
    (λ p later. ap (ghash_product scalar) (c.loop-block.invariant.behind p later)) c.loop-block.invariant c.multiply_block.ensures)
