use Rattle.std.proofs.Common.{◌*◌, slice_index}
use Rattle.reed_solomon.specs.Tables.{nibble_sum}
use Rattle.reed_solomon.proofs.AddedShards.{AreSums, sum_of}
use Rattle.reed_solomon.proofs.adding.add_row.Given as goal

abbrev pub invariant-loop-block : goal.invariant-loop-block
invariant-loop-block l =
    AreSums (sum_of (λ k. nibble_sum l.entries l.start (slice_index l.shard k)) l.fn.sums) (32 * l.block) l.fn.sums l.sums

abbrev pub invariant-loop-place : goal.invariant-loop-place
invariant-loop-place l =
    AreSums (sum_of (λ k. nibble_sum l.entries l.start (slice_index l.shard k)) l.fn.sums) l.place l.fn.sums l.sums
