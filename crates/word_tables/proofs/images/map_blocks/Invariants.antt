use Rattle.std.proofs.Common.{◌≡◌, ◌*◌}
use Rattle.field_base.specs.LinearMaps.{linear_image}
use Rattle.word_tables.proofs.BlockLemmas.{done_before}
use Rattle.word_tables.proofs.images.map_blocks.Given as goal

-- the bytes of the blocks before this pair are written over, and the others are as they were
abbrev pub invariant-loop-pair : goal.invariant-loop-pair
invariant-loop-pair l = l.bytes ≡ done_before (linear_image l.images) (32 * l.pair) l.fn.bytes

-- so are those before this block
abbrev pub invariant-loop-block : goal.invariant-loop-block
invariant-loop-block l = l.bytes ≡ done_before (linear_image l.images) (16 * l.block) l.fn.bytes
