use Rattle.std.proofs.Common.{◌≡◌, length}
use Rattle.std.specs.Prelude.{slice_index}
use Rattle.std.specs.List.{range_with_len}
use Rattle.std.specs.List.Sorted.{IsPermutation}
use Rattle.field_slices.specs.Decompositions.{IsDecomposition}
use Rattle.field_slices.specs.Matrices.{entry_of}
use Rattle.field_slices.proofs.decompositions.plu_decompose.Given as goal

-- the columns before this one are done
abbrev pub invariant-loop-column : goal.invariant-loop-column
invariant-loop-column g l =
    let number = g.S.Scalars.number l.field in
    let times = g.S.Scalars.product l.field in
    (length l.matrix ≡ length l.fn.matrix) × (length l.lower ≡ length l.fn.lower) × (length l.order ≡ length l.fn.order)
    × IsPermutation (range_with_len 0 l.rows) l.order
    × IsDecomposition times l.rows l.columns l.column (entry_of number l.columns l.fn.matrix) (slice_index l.order)
    (entry_of number l.rows l.lower) (entry_of number l.columns l.matrix)
