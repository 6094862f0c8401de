use Rattle.std.proofs.Common.{◌≡◌, ◌+◌, ◌*◌, slice_index}
use Rattle.field_base.specs.Basis.{sum_below}
use Rattle.reed_solomon.specs.Tables.{nibble_sum}
use Rattle.reed_solomon.proofs.blocks.column_sum.Given as goal

abbrev pub invariant-loop-j : goal.invariant-loop-j
invariant-loop-j l =
    l.sum ≡ sum_below (λ j. nibble_sum l.entries (128 * j + 32 * l.row) (slice_index l.shards (slice_index l.starts j + l.column))) l.j
