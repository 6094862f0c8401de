use Rattle.std.proofs.Common.{◌≡◌, ◌*◌, ◌≤◌, ℕ, slice_index_or}
use Rattle.reed_solomon.specs.Columns.{AreRowProducts}
use Rattle.reed_solomon.specs.Restoring.{is_lost}
use Rattle.reed_solomon.proofs.products.multiply_rows.Given as goal

-- the rows so far are multiplied or 0, and the others are left
abbrev pub invariant-loop-p : goal.invariant-loop-p
invariant-loop-p g l =
    let zero = g.R.Stored.ZERO in
    let lost = is_lost l.code.data_shards l.code.levels l.code.parity_shards l.present in
    AreRowProducts g.R.Stored.number zero g.L.Level.LEVEL l.width l.p lost l.lost l.factors l.initial.values l.values
    × ((q : ℕ) → l.p * l.width ≤ q → slice_index_or l.values q zero ≡ slice_index_or l.initial.values q zero)
