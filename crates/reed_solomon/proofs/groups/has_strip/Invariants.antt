use Rattle.std.proofs.Common.{◌+◌, ◌*◌, slice_index}
use Rattle.reed_solomon.specs.Tables.{AreRows}
use Rattle.reed_solomon.proofs.groups.has_strip.Given as goal

abbrev pub invariant-loop-row : goal.invariant-loop-row
invariant-loop-row l = AreRows l.row l.size l.begin l.width (λ row column. slice_index l.strip (2048 * row + column)) l.shards
