use Rattle.std.proofs.Common.{◌≤◌, ◌*◌, ◌-◌, slice_index}
use Rattle.reed_solomon.specs.Samples.{symbol_at}
use Rattle.reed_solomon.specs.Tables.{AreWritten}
use Rattle.reed_solomon.proofs.groups.restore_by_tables.Given as goal

abbrev pub invariant-loop-done : goal.invariant-loop-done
invariant-loop-done l =
    (l.done ≤ l.count)
    × AreWritten (λ t column. symbol_at l.sample.count l.size (slice_index l.sample.places) l.fn.shards column (slice_index l.targets t))
    (λ t. slice_index l.targets t * l.size) l.done l.size l.fn.shards l.shards

abbrev pub decreases-loop-done : goal.decreases-loop-done
decreases-loop-done l = l.count - l.done
