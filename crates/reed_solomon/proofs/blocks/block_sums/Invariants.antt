use Rattle.std.proofs.Common.{◌+◌, ◌*◌, slice_index}
use Rattle.reed_solomon.specs.Tables.{nibble_sum}
use Rattle.reed_solomon.proofs.RowWriting.{HasSums}
use Rattle.reed_solomon.proofs.blocks.block_sums.Given as goal

abbrev pub invariant-loop-row : goal.invariant-loop-row
invariant-loop-row g l =
    HasSums
    (λ row lane j. nibble_sum l.entries (128 * j + 32 * row) (slice_index l.shards (slice_index l.starts j + (l.column + lane))))
    g.row.N l.row l.j l.sums

abbrev pub invariant-loop-j : goal.invariant-loop-j
invariant-loop-j g l =
    HasSums
    (λ row lane j. nibble_sum l.entries (128 * j + 32 * row) (slice_index l.shards (slice_index l.starts j + (l.column + lane))))
    g.row.N 0 l.j l.sums
