use Rattle.additive_transforms.specs.Words.{level_element}
use Rattle.reed_solomon.specs.Blocks.{AreInverted}
use Rattle.reed_solomon.specs.Restoring.{is_lost}
use Rattle.reed_solomon.proofs.locators.invert_lost.Given as goal

-- those before this one are inverted
abbrev pub invariant-loop-p : goal.invariant-loop-p
invariant-loop-p g l =
    AreInverted (level_element g.R.Stored.number g.L.Level.LEVEL) g.R.Stored.number g.R.Stored.ZERO g.L.Level.LEVEL
    (is_lost l.code.data_shards l.code.levels l.code.parity_shards l.present) l.p l.slopes l.initial.words l.words
