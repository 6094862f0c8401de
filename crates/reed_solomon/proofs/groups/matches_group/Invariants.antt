use Rattle.std.proofs.Common.{◌≤◌, ◌-◌}
use Rattle.reed_solomon.specs.Tables.{AreRows, row_sum}
use Rattle.reed_solomon.proofs.groups.matches_group.Given as goal

abbrev pub invariant-loop-column : goal.invariant-loop-column
invariant-loop-column l =
    (l.column ≤ l.sources.size)
    × AreRows l.count l.size l.begin l.column (row_sum l.sources.entries.now l.sources.shards.now l.sources.starts.now) l.sources.shards.now

abbrev pub decreases-loop-column : goal.decreases-loop-column
decreases-loop-column l = l.sources.size - l.column
