use Rattle.std.proofs.Common.{◌≡◌, ℕ, ◌+◌, ◌*◌, map, subst, arith}
use Rattle.ghash_slices.specs.Blocks.{HoldsPlaces, added_at}
use Rattle.ghash_slices.proofs.AddedBlocks.{more_added}
use Rattle.ghash_slices.proofs.slices.add_blocks.Goals as goal

pub loop-block-preserved : goal.loop-block-preserved
loop-block-preserved g c =
    let value = g.W.Reads.number in
    let old = map value c.args.values.now in
    let others = map value c.args.others.now in
    let block = c.loop-block.block in
    let next : 16 * block + 16 ≡ 16 * (block + 1) = omega arith in
    subst (λ (n : ℕ). HoldsPlaces (added_at c.args.multiples.now.scalar old others) (16 * c.args.first) n old (map value c.add_block.new.values)) next
    (more_added c.args.multiples.now.scalar (16 * c.args.first) (16 * block) (16 * block + 16) old others (map value c.loop-block.values)
    (map value c.add_block.new.values) (omega arith) (omega arith) c.loop-block.invariant c.add_block.ensures)
