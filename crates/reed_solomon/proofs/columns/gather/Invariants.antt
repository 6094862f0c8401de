use Rattle.reed_solomon.specs.Columns.{HoldStrip}
use Rattle.reed_solomon.proofs.columns.gather.Given as goal

abbrev pub invariant-loop-i : goal.invariant-loop-i
invariant-loop-i g l = HoldStrip g.R.Stored.ZERO l.count l.strip.size l.strip.start l.strip.width l.shards l.i l.values
