use Rattle.std.proofs.Common.{◌≤◌, ◌+◌, ◌-◌, length}
use Rattle.reed_solomon.specs.Parity.{MatchesParity}
use Rattle.reed_solomon.proofs.parity.matches_columns.Given as goal

abbrev pub invariant-loop-done : goal.invariant-loop-done
invariant-loop-done l =
    (l.done ≤ l.m) × MatchesParity (length l.starts) l.size l.shards 0 l.done l.columns.first (l.columns.first + l.columns.width)

abbrev pub decreases-loop-done : goal.decreases-loop-done
decreases-loop-done l = l.m - l.done
