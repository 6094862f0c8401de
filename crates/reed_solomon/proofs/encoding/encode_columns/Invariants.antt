use Rattle.std.proofs.Common.{◌-◌, ◌≤◌}
use Rattle.additive_transforms.specs.Words.{level_element}
use Rattle.reed_solomon.specs.Codes.{AreCodedBefore}
use Rattle.reed_solomon.proofs.encoding.encode_columns.Given as goal

-- the columns so far are code words
abbrev pub invariant-loop-start : goal.invariant-loop-start
invariant-loop-start g l =
    (l.start ≤ l.size)
    × AreCodedBefore (level_element g.R.Stored.number g.L.Level.LEVEL) g.R.Stored.ZERO g.L.Level.LEVEL l.code.levels l.code.data_shards
    l.code.parity_shards l.size l.start l.shards l.parity

abbrev pub decreases-loop-start : goal.decreases-loop-start
decreases-loop-start g l = l.size - l.start
