use Rattle.std.proofs.Common.{◌≡◌, ◌*◌, ◌^◌}
use Rattle.std.specs.Prelude.{slice_index}
use Rattle.std.specs.Int.{bit_at}
use Rattle.field_base.specs.Basis.{sum_below}
use Rattle.word_tables.proofs.matrix.column_of.Given as goal

-- the bits of the rows before this one
abbrev pub invariant-loop-row : goal.invariant-loop-row
invariant-loop-row l = l.column ≡ sum_below (λ i. bit_at (slice_index l.rows i) l.k * 2 ^ i) l.row
