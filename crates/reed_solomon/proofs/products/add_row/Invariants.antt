use Rattle.reed_solomon.specs.Direct.{AreAddedProducts}
use Rattle.reed_solomon.proofs.products.add_row.Given as goal

-- so many products are added
abbrev pub invariant-loop-c : goal.invariant-loop-c
invariant-loop-c g l =
    AreAddedProducts g.R.Stored.number g.R.Stored.ZERO g.L.Level.LEVEL (g.R.Stored.number l.factor) 0 l.c l.row l.fn.sums l.sums
