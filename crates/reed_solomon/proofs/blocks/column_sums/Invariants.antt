use Rattle.std.proofs.Common.{◌≡◌, ◌<◌, ℕ, length, slice_index}
use Rattle.reed_solomon.specs.Tables.{row_sum_of}
use Rattle.reed_solomon.proofs.blocks.column_sums.Given as goal

abbrev pub invariant-loop-row : goal.invariant-loop-row
invariant-loop-row g l =
    (length l.sums ≡ g.row.N)
    × ((row : ℕ) → row < l.row → slice_index l.sums row ≡ row_sum_of l.until l.entries l.shards l.starts row l.column)
