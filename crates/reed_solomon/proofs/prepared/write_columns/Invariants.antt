use Rattle.std.proofs.Common.{◌+◌, ◌*◌, length}
use Rattle.reed_solomon.specs.Parity.{HaveParityTables, parity_symbol}
use Rattle.reed_solomon.specs.Tables.{AreWritten}
use Rattle.reed_solomon.proofs.PreparedTables.{rows_before}
use Rattle.reed_solomon.proofs.prepared.write_columns.Given as goal

abbrev pub invariant-loop-group : goal.invariant-loop-group
invariant-loop-group l =
    HaveParityTables (length l.starts) l.m l.tables
    → AreWritten (λ t i. parity_symbol (length l.starts) l.size l.shards t (l.columns.first + i)) (λ t. t * l.size + l.columns.first)
    (rows_before l.m l.group) l.columns.width l.fn.parity l.parity
