use Rattle.std.proofs.Common.{◌≡◌, ◌+◌, ℕ, refl, subst, arith}
use Rattle.std.specs.Prelude.{slice_index_or}
use Rattle.reed_solomon.specs.Direct.{IsSummedPlace, known_sum}
use Rattle.reed_solomon.specs.Restoring.{is_lost, word_at}
use Rattle.reed_solomon.proofs.SummedPlaces.{lost_in_shard, next_summed}
use Rattle.reed_solomon.proofs.direct.restore_place.Goals as goal

pub loop-start-init : goal.loop-start-init
loop-start-init g c = (omega arith, record { summed = λ d below. absurd (omega (arith, below)); kept = λ q d d_below side. refl })

pub put_at_place-requires-clause-place : goal.put_at_place-requires-clause-place
put_at_place-requires-clause-place g c =
    let code = c.args.code.now in
    lost_in_shard code.data_shards code.levels code.parity_shards c.args.present.now c.args.p c.requires.place c.requires.lost

pub loop-start-preserved : goal.loop-start-preserved
loop-start-preserved g c =
    let code = c.args.code.now in
    let strip = c.strip_at-strip in
    next_summed g.R.Stored.number g.R.Stored.ZERO g.L.Level.LEVEL code.data_shards code.levels code.parity_shards c.args.size code.all_levels
    c.args.p (is_lost code.data_shards code.levels code.parity_shards c.args.present.now) c.args.weights.now c.requires.lost c.args.shards.now
    c.args.parity.now c.loop-start.start strip.result c.sum_known.new.sums c.loop-start.shards c.loop-start.parity c.put_at_place.new.shards
    c.put_at_place.new.parity strip.ensures.size strip.ensures.start c.loop-start.invariant.1
    (λ d inside. subst (λ (u : ℕ). g.R.Stored.number (slice_index_or c.sum_known.new.sums d g.R.Stored.ZERO)
    ≡ known_sum g.R.Stored.number g.R.Stored.ZERO g.L.Level.LEVEL (is_lost code.data_shards code.levels code.parity_shards c.args.present.now)
    c.args.weights.now (word_at g.R.Stored.ZERO code.data_shards code.levels code.parity_shards strip.result.size (strip.result.start + d)
    c.loop-start.shards c.loop-start.parity) u) c.requires.long (c.sum_known.ensures.sums d inside))
    c.put_at_place.ensures.put

pub returns-clause-summed : goal.returns-clause-summed
returns-clause-summed g c =
    let code = c.args.code.now in
    let all : c.loop-start.start ≡ c.args.size = omega (arith, c.loop-start.invariant.0, c.loop-start-test.false) in
    subst (λ (u : ℕ). IsSummedPlace g.R.Stored.number g.R.Stored.ZERO g.L.Level.LEVEL code.data_shards code.levels code.parity_shards c.args.size
    code.all_levels c.args.p (is_lost code.data_shards code.levels code.parity_shards c.args.present.now) c.args.weights.now u c.args.shards.now
    c.args.parity.now c.loop-start.shards c.loop-start.parity) all c.loop-start.invariant.1
