use Rattle.reed_solomon.specs.Columns.{ArePutProducts}
use Rattle.reed_solomon.proofs.products.multiply_row.Given as goal

-- so many words are multiplied
abbrev pub invariant-loop-c : goal.invariant-loop-c
invariant-loop-c g l =
    ArePutProducts g.R.Stored.number g.R.Stored.ZERO g.L.Level.LEVEL 0 l.c (g.R.Stored.number l.factor) l.fn.row l.row
