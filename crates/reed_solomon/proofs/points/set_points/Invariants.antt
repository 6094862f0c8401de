use Rattle.std.proofs.Common.{◌≡◌, ◌^◌, ◌<◌, ℕ, slice_index_or}
use Rattle.ghash_slices.specs.Cantor.{point}
use Rattle.word_tables.specs.Cantor.{cantor_vector}
use Rattle.reed_solomon.proofs.points.set_points.Given as goal

abbrev pub invariant-loop-p : goal.invariant-loop-p
invariant-loop-p g l =
    (p : ℕ) → p < l.p → g.R.Stored.number (slice_index_or l.points p g.R.Stored.ZERO) ≡ point (2 ^ g.L.Level.LEVEL) cantor_vector 0 p
