use Rattle.std.proofs.Common.{◌+◌, ◌*◌, slice_index, refl}
use Rattle.reed_solomon.specs.Tables.{nibble_sum}
use Rattle.reed_solomon.proofs.Factors.{sum_more}
use Rattle.reed_solomon.proofs.blocks.column_sum.Goals as goal

pub loop-j-preserved : goal.loop-j-preserved
loop-j-preserved c =
    sum_more (λ j. nibble_sum c.args.entries.now (128 * j + 32 * c.args.row) (slice_index c.args.shards.now (slice_index c.args.starts.now j + c.args.column)))
    c.loop-j.j c.loop-j.sum _ c.loop-j.invariant refl
