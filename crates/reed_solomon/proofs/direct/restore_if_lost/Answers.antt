use Rattle.std.proofs.Common.{◌^◌, ◌<◌, sym, ◌∙◌, arith}
use Rattle.additive_transforms.specs.Words.{level_element}
use Rattle.reed_solomon.specs.Restoring.{is_lost}
use Rattle.reed_solomon.proofs.SummedPlaces.{place_passed, place_restored}
use Rattle.reed_solomon.proofs.direct.restore_if_lost.Goals as goal

pub returns-then-not-is_lost-clause-restored : goal.returns-then-not-is_lost-clause-restored
returns-then-not-is_lost-clause-restored g c =
    let code = c.args.code.now in
    place_passed (level_element g.R.Stored.number g.L.Level.LEVEL) g.R.Stored.ZERO g.L.Level.LEVEL code.data_shards code.levels code.parity_shards
    c.args.size (is_lost code.data_shards code.levels code.parity_shards c.args.present.now) c.args.p c.args.shards.now c.args.parity.now
    (sym c.is_lost.ensures ∙ c.if-not-is_lost.true)

pub returns-clause-restored : goal.returns-clause-restored
returns-clause-restored g c =
    let code = c.args.code.now in
    let fit = c.requires.fit in
    let within : c.args.p < 2 ^ code.all_levels = omega (arith, c.requires.place, fit.room) in
    let absent = sym c.is_lost.ensures ∙ c.if-not-is_lost.false in
    place_restored g.R.Stored.number g.R.Stored.ZERO g.L.Level.LEVEL code.data_shards code.levels code.parity_shards c.args.size code.all_levels
    c.args.p (is_lost code.data_shards code.levels code.parity_shards c.args.present.now) c.set_weights.new.weights absent c.args.shards.now
    c.args.parity.now _ g.L.Level.few fit.points fit.enough within c.set_weights.ensures.weights ((fit.all c.args.p within).lost absent)
    c.restore_place.new.shards c.restore_place.new.parity c.restore_place.ensures.summed
