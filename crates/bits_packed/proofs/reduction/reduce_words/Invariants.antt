use Rattle.std.proofs.Common.{◌*◌, min}
use Rattle.field_base.specs.Tower.{tower_mul}
use Rattle.field_slices.specs.Matrices.{AreRowsReduced}
use Rattle.bits_packed.specs.BitMatrices.{bit_entry}
use Rattle.bits_packed.proofs.reduction.reduce_words.Given as goal

-- the columns before this strip are in reduced row echelon form, the rows span what they did, and the places that are not taken stay
abbrev pub invariant-loop-index : goal.invariant-loop-index
invariant-loop-index l =
    AreRowsReduced (bit_entry l.shape.words) (tower_mul 0) l.shape.rows (64 * l.shape.words) (min (64 * l.index) l.count) l.rank
    l.fn.matrix l.matrix l.fn.pivots l.pivots
