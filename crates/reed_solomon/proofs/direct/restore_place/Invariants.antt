use Rattle.std.proofs.Common.{◌-◌, ◌≤◌}
use Rattle.reed_solomon.specs.Direct.{IsSummedPlace}
use Rattle.reed_solomon.specs.Restoring.{is_lost}
use Rattle.reed_solomon.proofs.direct.restore_place.Given as goal

-- so many columns are restored
abbrev pub invariant-loop-start : goal.invariant-loop-start
invariant-loop-start g l =
    (l.start ≤ l.size)
    × IsSummedPlace g.R.Stored.number g.R.Stored.ZERO g.L.Level.LEVEL l.code.data_shards l.code.levels l.code.parity_shards l.size
    l.code.all_levels l.p (is_lost l.code.data_shards l.code.levels l.code.parity_shards l.present) l.weights l.start l.initial.shards
    l.initial.parity l.shards l.parity

abbrev pub decreases-loop-start : goal.decreases-loop-start
decreases-loop-start g l = l.size - l.start
