use Rattle.std.proofs.Common.{◌+◌, length}
use Rattle.reed_solomon.specs.Parity.{HaveParityTables, MatchesParity}
use Rattle.reed_solomon.proofs.PreparedTables.{rows_before}
use Rattle.reed_solomon.proofs.prepared.matches_columns.Given as goal

abbrev pub invariant-loop-group : goal.invariant-loop-group
invariant-loop-group l =
    HaveParityTables (length l.starts) l.m l.tables
    → MatchesParity (length l.starts) l.size l.shards 0 (rows_before l.m l.group) l.columns.first (l.columns.first + l.columns.width)
