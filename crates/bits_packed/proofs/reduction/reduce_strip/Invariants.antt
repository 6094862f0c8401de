use Rattle.std.proofs.Common.{◌≡◌, ℕ, ◌-◌, ◌*◌, ◌≤◌, length}
use Rattle.std.specs.Prelude.{slice_index}
use Rattle.field_base.specs.Tower.{tower_mul}
use Rattle.field_slices.specs.Matrices.{HaveSameRowSpace, IsReducedEchelon}
use Rattle.bits_packed.specs.BitMatrices.{ArePivotPlaces, bit_entry, present_bit}
use Rattle.bits_packed.proofs.reduction.reduce_strip.Given as goal

-- the columns before this one of what is stored are in reduced row echelon form, its rows span what they did, and the places that are not
-- taken stay
abbrev pub invariant-loop-column : goal.invariant-loop-column
invariant-loop-column l =
    (length l.matrix ≡ length l.fn.matrix) × (length l.pivots ≡ length l.fn.pivots)
    × ArePivotPlaces l.shape.rows l.found (l.column - l.from) (slice_index l.places)
    × IsReducedEchelon l.shape.rows l.column l.found (slice_index l.pivots)
    (present_bit l.shape.rows l.shape.words l.from l.places l.matrix)
    × HaveSameRowSpace (tower_mul 0) l.shape.rows (64 * l.shape.words) (bit_entry l.shape.words l.fn.matrix)
    (present_bit l.shape.rows l.shape.words l.from l.places l.matrix)
    × (l.rank ≤ l.found) × ((i : ℕ) → l.found ≤ i → slice_index l.pivots i ≡ slice_index l.fn.pivots i)
