use Rattle.std.proofs.Common.{◌∙◌}
use Rattle.field_base.specs.Remainder.{poly64_modulus}
use Rattle.bit_slices.proofs.Reductions.{low_bits_multiplied}
use Rattle.bit_slices.proofs.moduli.Slices64PolynomialBlock.multiply_numbers.Goals as goal

pub returns : goal.returns
returns g c =
    c.multiply_mod_64.ensures
    ∙ low_bits_multiplied 64 poly64_modulus c.args.x c.args.y _ _ _ _ c.split_128-left.ensures c.split_128-right.ensures
