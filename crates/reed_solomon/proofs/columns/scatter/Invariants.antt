use Rattle.reed_solomon.specs.Columns.{AreScattered}
use Rattle.reed_solomon.proofs.columns.scatter.Given as goal

abbrev pub invariant-loop-t : goal.invariant-loop-t
invariant-loop-t g l =
    AreScattered g.R.Stored.ZERO l.strip.size l.strip.start l.strip.width l.first l.t l.values l.initial.shards l.shards
