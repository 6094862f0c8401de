use Rattle.reed_solomon.specs.Restoring.{AreMended}
use Rattle.reed_solomon.proofs.restoring.mend.Given as goal

abbrev pub invariant-loop-i : goal.invariant-loop-i
invariant-loop-i g l =
    AreMended g.R.Stored.ZERO l.strip.size l.strip.start l.strip.width l.i l.from l.first l.present l.values l.initial.shards l.shards
