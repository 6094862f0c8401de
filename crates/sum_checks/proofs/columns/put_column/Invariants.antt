use Rattle.std.proofs.Common.{length, map}
use Rattle.std.specs.List.{range_with_len}
use Rattle.field_base.proofs.Written.{WrittenTo}
use Rattle.sum_checks.specs.Terms.{row_entry}
use Rattle.sum_checks.proofs.columns.put_column.Given as goal

-- the rows before this one are done
abbrev pub invariant-loop-row : goal.invariant-loop-row
invariant-loop-row g l =
    let repr = g.F.Represented.repr in
    WrittenTo repr (map (λ i. row_entry l.count (map repr l.rows) i l.place) (range_with_len 0 (length l.fn.column))) l.fn.column l.column l.row
