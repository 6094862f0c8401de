use Rattle.std.proofs.Common.{◌≤◌, ◌-◌}
use Rattle.reed_solomon.specs.Parity.{HaveParityTables, MatchesParity}
use Rattle.reed_solomon.proofs.prepared.matches_prepared.Given as goal

abbrev pub invariant-loop-first : goal.invariant-loop-first
invariant-loop-first l =
    (l.first ≤ l.size) × (HaveParityTables l.k l.m l.tables → MatchesParity l.k l.size l.shards 0 l.m 0 l.first)

abbrev pub decreases-loop-first : goal.decreases-loop-first
decreases-loop-first l = l.size - l.first
