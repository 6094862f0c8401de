use Rattle.field_slices.proofs.CubeLaws.{extends-corners}
use Rattle.field_slices.proofs.laws.corner_values_extend.Goals as goal

pub returns : goal.returns
returns c width times n values ring wide are i below = extends-corners width times ring wide n values are i below
