use Rattle.std.proofs.Common.{◌≤◌, ◌+◌, ◌*◌, ◌-◌}
use Rattle.reed_solomon.specs.Parity.{parity_symbol}
use Rattle.reed_solomon.specs.Tables.{AreWritten}
use Rattle.reed_solomon.proofs.parity.write_columns.Given as goal

abbrev pub invariant-loop-done : goal.invariant-loop-done
invariant-loop-done l =
    (l.done ≤ l.m)
    × AreWritten (λ t i. parity_symbol l.sample.count l.size l.shards t (l.columns.first + i)) (λ t. t * l.size + l.columns.first) l.done
    l.columns.width l.fn.parity l.parity

abbrev pub decreases-loop-done : goal.decreases-loop-done
decreases-loop-done l = l.m - l.done
