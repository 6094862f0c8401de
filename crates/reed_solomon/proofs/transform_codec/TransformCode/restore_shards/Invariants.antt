use Rattle.std.proofs.Common.{◌-◌, ◌≤◌}
use Rattle.additive_transforms.specs.Words.{level_element}
use Rattle.reed_solomon.specs.Restoring.{AreRestoredColumns}
use Rattle.reed_solomon.proofs.transform_codec.TransformCode.restore_shards.Given as goal

-- so many columns are restored
abbrev pub invariant-loop-start : goal.invariant-loop-start
invariant-loop-start g l =
    (l.start ≤ l.size)
    × AreRestoredColumns (level_element g.R.Stored.number g.L.Level.LEVEL) g.R.Stored.ZERO g.L.Level.LEVEL l.self.levels l.self.data_shards
    l.self.parity_shards l.size l.present l.start l.initial.shards l.initial.parity l.shards l.parity

abbrev pub decreases-loop-start : goal.decreases-loop-start
decreases-loop-start g l = l.size - l.start
