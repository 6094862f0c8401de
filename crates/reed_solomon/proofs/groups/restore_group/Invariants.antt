use Rattle.std.proofs.Common.{◌≤◌, ◌*◌, ◌-◌, length, slice_index}
use Rattle.reed_solomon.specs.Tables.{AreWritten, row_sum}
use Rattle.reed_solomon.proofs.groups.restore_group.Given as goal

abbrev pub invariant-loop-column : goal.invariant-loop-column
invariant-loop-column l =
    (l.column ≤ l.size)
    × AreWritten (row_sum l.entries l.fn.shards l.starts) (λ row. slice_index l.targets row * l.size) (length l.targets) l.column l.fn.shards l.shards

abbrev pub decreases-loop-column : goal.decreases-loop-column
decreases-loop-column l = l.size - l.column
