use Rattle.reed_solomon.proofs.RowWriting.{AreRead}
use Rattle.reed_solomon.proofs.blocks.block_so_far.Given as goal

abbrev pub invariant-loop-row : goal.invariant-loop-row
invariant-loop-row g l = AreRead g.row.N l.row l.column l.rows l.out l.sums
