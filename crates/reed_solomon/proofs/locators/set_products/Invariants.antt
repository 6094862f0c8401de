use Rattle.reed_solomon.specs.Blocks.{HoldLocator}
use Rattle.reed_solomon.proofs.locators.set_products.Given as goal

-- the locator of so many places
abbrev pub invariant-loop-p : goal.invariant-loop-p
invariant-loop-p g l =
    HoldLocator g.R.Stored.number g.R.Stored.ZERO g.L.Level.LEVEL l.code.data_shards l.code.levels l.code.parity_shards l.present l.first l.p
    l.values
