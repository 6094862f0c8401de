use Rattle.std.proofs.Common.{◌≤◌, ◌-◌, length, slice_index}
use Rattle.reed_solomon.specs.Tables.{AreWritten, row_sum_of}
use Rattle.reed_solomon.proofs.blocks.add_all.Given as goal

abbrev pub invariant-loop-done : goal.invariant-loop-done
invariant-loop-done g l =
    (l.done ≤ length l.sources.starts.now)
    × AreWritten (row_sum_of l.done l.sources.entries.now l.sources.shards.now l.sources.starts.now) (slice_index l.rows) g.row.N l.sources.size l.fn.out l.out

abbrev pub decreases-loop-done : goal.decreases-loop-done
decreases-loop-done g l = length l.sources.starts.now - l.done

abbrev pub invariant-loop-j : goal.invariant-loop-j
invariant-loop-j g l =
    AreWritten (row_sum_of l.j l.sources.entries.now l.sources.shards.now l.sources.starts.now) (slice_index l.rows) g.row.N l.sources.size l.fn.out l.out
