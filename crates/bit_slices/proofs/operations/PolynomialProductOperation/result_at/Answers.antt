use Rattle.std.proofs.Common.{◌∙◌}
use Rattle.bit_slices.proofs.Reductions.{product_of_numbers}
use Rattle.bit_slices.proofs.operations.PolynomialProductOperation.result_at.Goals as goal

pub returns : goal.returns
returns g c d =
    c.of_stored.ensures ∙ c.of_number.ensures
    ∙ product_of_numbers g.T.PolynomialBlock.modulus g.met.T.SlicesOf.level_law g.met.T.PolynomialBlock.tail_law.degree c.multiply_numbers.ensures
    (c.to_number-left.ensures.is ∙ c.stored.ensures) (c.to_number-right.ensures.is ∙ c.other_at.ensures d)
