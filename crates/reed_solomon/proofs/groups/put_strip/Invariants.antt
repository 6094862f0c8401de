use Rattle.std.proofs.Common.{◌+◌, ◌*◌, slice_index}
use Rattle.reed_solomon.specs.Tables.{AreWritten}
use Rattle.reed_solomon.proofs.groups.put_strip.Given as goal

abbrev pub invariant-loop-row : goal.invariant-loop-row
invariant-loop-row l =
    AreWritten (λ row c. slice_index l.strip (2048 * row + c)) (λ row. slice_index l.targets row * l.size + l.column) l.row l.width
    l.initial.shards l.shards
