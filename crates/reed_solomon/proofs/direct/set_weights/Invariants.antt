use Rattle.std.specs.Prelude.{slice_index_or}
use Rattle.reed_solomon.specs.Direct.{AreKnownWeights}
use Rattle.reed_solomon.specs.Restoring.{is_lost}
use Rattle.reed_solomon.proofs.direct.set_weights.Given as goal

-- so many weights are set
abbrev pub invariant-loop-q : goal.invariant-loop-q
invariant-loop-q g l =
    AreKnownWeights g.R.Stored.number g.R.Stored.ZERO g.L.Level.LEVEL l.code.all_levels
    (is_lost l.code.data_shards l.code.levels l.code.parity_shards l.present) l.p
    (g.R.Stored.number (slice_index_or l.factors l.p g.R.Stored.ZERO)) l.q l.weights
