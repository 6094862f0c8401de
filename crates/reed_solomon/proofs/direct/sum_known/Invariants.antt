use Rattle.std.proofs.Common.{◌≡◌, ◌+◌, ◌<◌, ℕ}
use Rattle.std.specs.Prelude.{slice_index_or}
use Rattle.reed_solomon.specs.Direct.{known_sum}
use Rattle.reed_solomon.specs.Restoring.{is_lost, word_at}
use Rattle.reed_solomon.proofs.direct.sum_known.Given as goal

-- the places so far are added
abbrev pub invariant-loop-q : goal.invariant-loop-q
invariant-loop-q g l =
    let number = g.R.Stored.number in
    let zero = g.R.Stored.ZERO in
    (c : ℕ) → c < l.strip.width → number (slice_index_or l.sums c zero)
    ≡ known_sum number zero g.L.Level.LEVEL (is_lost l.code.data_shards l.code.levels l.code.parity_shards l.present) l.weights
    (word_at zero l.code.data_shards l.code.levels l.code.parity_shards l.strip.size (l.strip.start + c) l.shards l.parity) l.q
