use Rattle.std.proofs.Common.{◌≡◌, ℕ, ◌*◌, ◌^◌, sym, ◌∙◌, ap, subst, arith}
use Rattle.additive_transforms.specs.Words.{level_element}
use Rattle.reed_solomon.specs.Restoring.{AreRestoredColumns}
use Rattle.reed_solomon.proofs.MendedColumns.{next_restored}
use Rattle.reed_solomon.proofs.RestoredColumns.{bits_left, enough_known, fits_restoring}
use Rattle.reed_solomon.proofs.transform_codec.TransformCode.restore_shards.Goals as goal

pub set_factors-requires-clause-points : goal.set_factors-requires-clause-points
set_factors-requires-clause-points g c = bits_left c.args.self.now.all_levels (2 ^ g.L.Level.LEVEL) c.requires.can.points

pub set_factors-requires-clause-enough : goal.set_factors-requires-clause-enough
set_factors-requires-clause-enough g c =
    let code = c.args.self.now in
    enough_known g.L.Level.LEVEL code.data_shards code.levels code.parity_shards code.all_levels _ _ _ c.args.present.now c.requires.can
    code.padded.enough code.all.enough

pub restore_places-requires-clause-fit : goal.restore_places-requires-clause-fit
restore_places-requires-clause-fit g c =
    let code = c.args.self.now in
    let count : c.point_count-count.result ≡ 2 ^ code.all_levels = c.point_count-count.ensures in
    fits_restoring g.R.Stored.number g.R.Stored.ZERO g.L.Level.LEVEL code.levels code.data_shards code.parity_shards _ code.all_levels
    _ _ _ _ _ c.args.present.now c.set_factors.new.factors c.requires.can code.padded.enough code.all.enough code.all_low c.requires.whole
    c.requires.parity_whole c.set_factors.ensures.factors (c.set_factors.ensures.long ∙ omega (arith, count))

pub restore_strip-requires-clause-fit : goal.restore_strip-requires-clause-fit
restore_strip-requires-clause-fit g c =
    let code = c.args.self.now in
    let size_is = c.strip_at-strip.ensures.size in
    let count : c.point_count-count.result ≡ 2 ^ code.all_levels = c.point_count-count.ensures in
    fits_restoring g.R.Stored.number g.R.Stored.ZERO g.L.Level.LEVEL code.levels code.data_shards code.parity_shards _ code.all_levels
    _ _ _ _ _ c.args.present.now c.set_factors.new.factors c.requires.can
    code.padded.enough code.all.enough code.all_low (c.loop-start.auto.shards ∙ c.requires.whole ∙ ap (λ (s : ℕ). code.data_shards * s) (sym size_is))
    (c.loop-start.auto.parity ∙ c.requires.parity_whole ∙ ap (λ (s : ℕ). code.parity_shards * s) (sym size_is))
    c.set_factors.ensures.factors (c.set_factors.ensures.long ∙ omega (arith, count))

pub loop-start-preserved : goal.loop-start-preserved
loop-start-preserved g c =
    let code = c.args.self.now in
    let strip = c.strip_at-strip in
    next_restored (level_element g.R.Stored.number g.L.Level.LEVEL) g.R.Stored.ZERO g.L.Level.LEVEL code.levels code.data_shards code.parity_shards
    c.args.size c.loop-start.start strip.result c.args.present.now c.args.shards.now c.args.parity.now c.loop-start.shards c.loop-start.parity
    c.restore_strip.new.shards c.restore_strip.new.parity strip.ensures.size strip.ensures.start c.loop-start.invariant.1
    (record {
      keeps = c.restore_strip.ensures.kept;
      parity_keeps = c.restore_strip.ensures.parity_kept;
      restores = c.restore_strip.ensures.restored;
    })

pub returns-clause-restored : goal.returns-clause-restored
returns-clause-restored g c =
    let code = c.args.self.now in
    let all : c.loop-start.start ≡ c.args.size = omega (arith, c.loop-start.invariant.0, c.loop-start-test.false) in
    subst (λ (u : ℕ). AreRestoredColumns (level_element g.R.Stored.number g.L.Level.LEVEL) g.R.Stored.ZERO g.L.Level.LEVEL code.levels
    code.data_shards code.parity_shards c.args.size c.args.present.now u c.args.shards.now c.args.parity.now c.loop-start.shards
    c.loop-start.parity) all c.loop-start.invariant.1
