use Rattle.std.proofs.Common.{◌/◌, ◌∙◌}
use Rattle.additive_transforms.specs.Rows.{level_of}
use Rattle.additive_transforms.proofs.ScalarHalves.{root_times}
use Rattle.additive_transforms.proofs.plane_scalars.PairPlaneScalarsHalfMultiples.times_root.Goals as goal

pub times_root-requires-clause-fits : goal.times_root-requires-clause-fits
times_root-requires-clause-fits g c = (c.halves_of-low.ensures (level_of g.P.Planes.depth) 0 c.requires.bits c.requires.fits).high_fits

pub pair_of-requires-clause-low : goal.pair_of-requires-clause-low
pair_of-requires-clause-low g c = (c.halves_of-low.ensures (level_of g.P.Planes.depth) 0 c.requires.bits c.requires.fits).high_fits

pub pair_of-requires-clause-high : goal.pair_of-requires-clause-high
pair_of-requires-clause-high g c =
    (c.halves_of-low.ensures (level_of g.P.Planes.depth) c.times_root.result c.requires.bits c.requires.fits).low_sum_fits c.times_root.ensures

pub returns : goal.returns
returns g c =
    let k = level_of g.P.Planes.depth in
    c.pair_of.ensures
    ∙ root_times k (c.args.bits / 2) c.args.scalar c.halves_of-low.result.0 c.halves_of-low.result.1 c.times_root.result
    (c.halves_of-low.ensures k c.times_root.result c.requires.bits c.requires.fits) c.times_root.ensures
