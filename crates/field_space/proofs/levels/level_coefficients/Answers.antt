use Rattle.std.proofs.Common.{◌^◌, subst, sym}
use Rattle.field_element.specs.Element.{repr_of}
use Rattle.field_space.proofs.Spaces.{ListedSoFar, all_written, none_written, one_written}
use Rattle.field_space.proofs.levels.level_coefficients.Goals as goal

pub loop-i-init : goal.loop-i-init
loop-i-init g c =
    subst (ListedSoFar (2 ^ g.J.Level.LEVEL) repr_of (repr_of c.args.element.now) g.row.N 0) (sym c.filled-coefficients.ensures)
    (none_written (2 ^ g.J.Level.LEVEL) repr_of (repr_of c.args.element.now) g.row.N _)

pub loop-i-preserved : goal.loop-i-preserved
loop-i-preserved g c =
    one_written (2 ^ g.J.Level.LEVEL) repr_of (repr_of c.args.element.now) g.row.N c.loop-i.i c.loop-i.coefficients
    c.level_coefficient.result c.loop-i-test.true c.loop-i.invariant c.level_coefficient.ensures

pub returns : goal.returns
returns g c =
    all_written (2 ^ g.J.Level.LEVEL) repr_of (repr_of c.args.element.now) g.row.N c.loop-i.i c.loop-i.coefficients
    c.loop-i-test.false c.loop-i.auto.i-end c.loop-i.invariant
