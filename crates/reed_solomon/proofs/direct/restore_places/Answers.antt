use Rattle.std.proofs.Common.{◌≡◌, ◌+◌, ◌^◌, ℕ, refl, subst, arith}
use Rattle.additive_transforms.specs.Words.{level_element}
use Rattle.reed_solomon.specs.Direct.{AreRestoredPlaces}
use Rattle.reed_solomon.specs.Restoring.{is_lost}
use Rattle.reed_solomon.proofs.SummedPlaces.{columns_restored, places_more}
use Rattle.reed_solomon.proofs.direct.restore_places.Goals as goal

pub loop-p-init : goal.loop-p-init
loop-p-init g c = record { restored = λ q d below d_below. absurd (omega (arith, below)); kept = λ q d d_below side. refl }

pub loop-p-preserved : goal.loop-p-preserved
loop-p-preserved g c =
    let code = c.args.code.now in
    places_more (level_element g.R.Stored.number g.L.Level.LEVEL) g.R.Stored.ZERO g.L.Level.LEVEL code.data_shards code.levels code.parity_shards
    c.args.size (is_lost code.data_shards code.levels code.parity_shards c.args.present.now) c.loop-p.p c.args.shards.now c.args.parity.now
    c.loop-p.shards c.loop-p.parity c.restore_if_lost.new.shards c.restore_if_lost.new.parity c.loop-p.invariant c.restore_if_lost.ensures.restored

pub returns-clause-restored : goal.returns-clause-restored
returns-clause-restored g c =
    let code = c.args.code.now in
    let fit = c.requires.fit in
    let all : c.loop-p.p ≡ 2 ^ code.levels + code.parity_shards = omega (arith, c.coefficient_count.ensures) in
    columns_restored g.R.Stored.number g.R.Stored.ZERO g.R.Stored.zero_number g.L.Level.LEVEL code.data_shards code.levels code.parity_shards
    c.args.size c.args.present.now c.args.shards.now c.args.parity.now c.loop-p.shards c.loop-p.parity code.padded.enough fit.whole fit.parity_whole
    c.loop-p.auto.shards c.loop-p.auto.parity
    (subst (λ (u : ℕ). AreRestoredPlaces (level_element g.R.Stored.number g.L.Level.LEVEL) g.R.Stored.ZERO g.L.Level.LEVEL code.data_shards code.levels
    code.parity_shards c.args.size (is_lost code.data_shards code.levels code.parity_shards c.args.present.now) u c.args.shards.now c.args.parity.now
    c.loop-p.shards c.loop-p.parity) all c.loop-p.invariant)
