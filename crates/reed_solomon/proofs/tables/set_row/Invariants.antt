use Rattle.std.proofs.Common.{slice_index}
use Rattle.reed_solomon.proofs.RowTables.{IsRowBefore}
use Rattle.reed_solomon.proofs.tables.set_row.Given as goal

abbrev pub invariant-loop-j : goal.invariant-loop-j
invariant-loop-j l = IsRowBefore (slice_index l.factors) l.row l.initial.entries l.j l.entries
