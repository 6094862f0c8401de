use Rattle.std.proofs.Common.{◌≤◌, ◌*◌, ◌-◌}
use Rattle.reed_solomon.specs.Parity.{parity_symbol}
use Rattle.reed_solomon.specs.Tables.{AreWritten}
use Rattle.reed_solomon.proofs.parity.write_by_tables.Given as goal

abbrev pub invariant-loop-first : goal.invariant-loop-first
invariant-loop-first l =
    (l.first ≤ l.size) × AreWritten (parity_symbol l.k l.size l.shards) (λ t. t * l.size) l.m l.first l.fn.parity l.parity

abbrev pub decreases-loop-first : goal.decreases-loop-first
decreases-loop-first l = l.size - l.first
