use Rattle.std.proofs.Common.{◌∙◌}
use Rattle.field_base.specs.Powers.{repeated_square}
use Rattle.field_base.specs.Remainder.{aes_modulus, mul_mod}
use Rattle.field_space.proofs.LinearizedLemmas.{by_eight_images, eight_entries_are, squarings_keep}
use Rattle.field_space.proofs.maps.Rijndael8bRijndaelMaps.frobenius_map.Goals as goal

pub returns : goal.returns
returns c x fits =
    by_eight_images (repeated_square 1 (mul_mod 8 aes_modulus) c.args.count) (squarings_keep c.args.count) _
    (c.from_images.ensures ∙ eight_entries_are (repeated_square 1 (mul_mod 8 aes_modulus) c.args.count) _ _ _ _ _ _ _ _ c.squared.ensures c.squared-2.ensures c.squared-3.ensures c.squared-4.ensures c.squared-5.ensures c.squared-6.ensures c.squared-7.ensures c.squared-8.ensures) x fits
