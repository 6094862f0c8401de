use Rattle.std.proofs.Common.{◌<◌, ◌^◌, ◌∙◌}
use Rattle.std.proofs.lemmas.Nat.{pow_below}
use Rattle.field_slices.proofs.HornerLanes.{block-before}
use Rattle.field_slices.proofs.horner.fold.Goals as goal

pub returns-clause-value : goal.returns-clause-value
returns-clause-value g c x k rest long high_is so_far =
    let number = g.S.Scalars.number c.args.field in
    let width = g.S.Scalars.width c.args.field in
    let ring = (g.met.S.Scalars.field_law c.args.field).ring in
    let law = g.met.S.Scalars in
    let one_fits : 1 < 2 ^ width = pow_below 0 width (law.wide_law c.args.field) in
    block-before _ 1 _ ring x number one_fits k (number c.args.high) c.args.sums.now
    c.multiply_by.new.values c.add_each.new.values c.args.coefficients.now rest high_is long (c.requires.same ∙ long) c.multiply_by.ensures
    c.add_each.ensures so_far
