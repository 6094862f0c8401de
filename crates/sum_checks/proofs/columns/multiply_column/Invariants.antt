use Rattle.std.proofs.Common.{length, map}
use Rattle.std.specs.Prelude.{slice_index}
use Rattle.std.specs.List.{range_with_len}
use Rattle.field_base.proofs.Written.{WrittenTo}
use Rattle.sum_checks.specs.Terms.{row_entry}
use Rattle.sum_checks.proofs.columns.multiply_column.Given as goal

-- the rows before this one are done
abbrev pub invariant-loop-row : goal.invariant-loop-row
invariant-loop-row g l =
    let field = g.F.Represented in
    WrittenTo field.repr
    (map (λ i. field.product (slice_index (map field.repr l.fn.column) i) (row_entry l.count (map field.repr l.rows) i l.place))
    (range_with_len 0 (length l.fn.column)))
    l.fn.column l.column l.row
