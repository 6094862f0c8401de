use Rattle.reed_solomon.specs.Blocks.{AreDifferences}
use Rattle.reed_solomon.proofs.locators.multiply_differences.Given as goal

-- so many values are multiplied
abbrev pub invariant-loop-i : goal.invariant-loop-i
invariant-loop-i g l =
    AreDifferences g.R.Stored.number g.R.Stored.ZERO g.L.Level.LEVEL (g.R.Stored.number l.x) l.i l.points l.initial.values l.values
