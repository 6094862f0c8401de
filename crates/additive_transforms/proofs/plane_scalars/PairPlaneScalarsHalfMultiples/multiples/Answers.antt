use Rattle.std.proofs.Common.{◌/◌}
use Rattle.additive_transforms.specs.Halves.{are_of_halves}
use Rattle.additive_transforms.specs.Rows.{level_of}
use Rattle.additive_transforms.proofs.ScalarHalves.{multiples_of_scalar}
use Rattle.additive_transforms.proofs.plane_scalars.PairPlaneScalarsHalfMultiples.multiples.Goals as goal

pub multiples-requires-clause-fits : goal.multiples-requires-clause-fits
multiples-requires-clause-fits g c = (c.halves_of-low.ensures (level_of g.P.Planes.depth) 0 c.requires.bits c.requires.fits).high_fits

pub multiples-requires-2-clause-fits : goal.multiples-requires-2-clause-fits
multiples-requires-2-clause-fits g c = (c.halves_of-low.ensures (level_of g.P.Planes.depth) 0 c.requires.bits c.requires.fits).sum_fits

pub times_root-requires-clause-fits : goal.times_root-requires-clause-fits
times_root-requires-clause-fits g c = (c.halves_of-low.ensures (level_of g.P.Planes.depth) 0 c.requires.bits c.requires.fits).high_fits

pub multiples-requires-3-clause-fits : goal.multiples-requires-3-clause-fits
multiples-requires-3-clause-fits g c =
    (c.halves_of-low.ensures (level_of g.P.Planes.depth) c.times_root.result c.requires.bits c.requires.fits).both_sum_fits c.times_root.ensures

pub returns : goal.returns
unfolding are_of_halves
returns g c =
    let k = level_of g.P.Planes.depth in
    multiples_of_scalar k (c.args.bits / 2) c.args.scalar c.halves_of-low.result.0 c.halves_of-low.result.1 c.times_root.result
    g.P.Planes.are_multiples c.multiples.result c.multiples-2.result c.multiples-3.result
    (c.halves_of-low.ensures k c.times_root.result c.requires.bits c.requires.fits) c.times_root.ensures c.multiples.ensures c.multiples-2.ensures
    c.multiples-3.ensures
