use Rattle.field_slices.proofs.CubeLaws.{first-is-linear, value-folded}
use Rattle.field_slices.proofs.laws.first_coordinate_is_linear.Goals as goal

pub returns : goal.returns
returns c width times r point values ring wide are =
    (first-is-linear width times ring wide r point values are, value-folded width times ring r point values are.count)
