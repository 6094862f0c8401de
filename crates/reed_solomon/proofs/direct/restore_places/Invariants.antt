use Rattle.additive_transforms.specs.Words.{level_element}
use Rattle.reed_solomon.specs.Direct.{AreRestoredPlaces}
use Rattle.reed_solomon.specs.Restoring.{is_lost}
use Rattle.reed_solomon.proofs.direct.restore_places.Given as goal

-- the places so far are restored
abbrev pub invariant-loop-p : goal.invariant-loop-p
invariant-loop-p g l =
    AreRestoredPlaces (level_element g.R.Stored.number g.L.Level.LEVEL) g.R.Stored.ZERO g.L.Level.LEVEL l.code.data_shards l.code.levels
    l.code.parity_shards l.size (is_lost l.code.data_shards l.code.levels l.code.parity_shards l.present) l.p l.initial.shards l.initial.parity
    l.shards l.parity
