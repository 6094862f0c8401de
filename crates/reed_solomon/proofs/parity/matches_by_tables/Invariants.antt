use Rattle.std.proofs.Common.{◌≤◌, ◌-◌}
use Rattle.reed_solomon.specs.Parity.{MatchesParity}
use Rattle.reed_solomon.proofs.parity.matches_by_tables.Given as goal

abbrev pub invariant-loop-first : goal.invariant-loop-first
invariant-loop-first l = (l.first ≤ l.size) × MatchesParity l.k l.size l.shards 0 l.m 0 l.first

abbrev pub decreases-loop-first : goal.decreases-loop-first
decreases-loop-first l = l.size - l.first
