use Rattle.std.proofs.Common.{◌≡◌, ℕ, ◌-◌, arith, subst}
use Rattle.std.specs.Int.Count.{count_leading_zeros}
use Rattle.field_base.specs.Remainder.{HasDegree}
use Rattle.any_field.proofs.EuclidSteps.{lead, positive}
use Rattle.any_field.proofs.extension.minimal.degree_of.Goals as goal

pub returns-clause-degree : goal.returns-clause-degree
returns-clause-degree c =
    let top = lead c.args.word (positive c.args.word c.requires) c.ranges.word.fits in
    let place : top.0 ≡ 127 - count_leading_zeros 128 c.args.word = omega (arith, top.1) in
    subst (λ (z : ℕ). HasDegree z c.args.word) place top.2
