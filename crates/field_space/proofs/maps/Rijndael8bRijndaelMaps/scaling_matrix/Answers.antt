use Rattle.std.proofs.Common.{◌∙◌}
use Rattle.field_base.specs.Remainder.{aes_modulus, mul_mod}
use Rattle.field_element.specs.Element.{repr_of}
use Rattle.field_space.proofs.LinearizedLemmas.{by_eight_images, eight_entries_are, scaling_keeps}
use Rattle.field_space.proofs.maps.Rijndael8bRijndaelMaps.scaling_matrix.Goals as goal

pub returns : goal.returns
returns c x fits =
    by_eight_images (mul_mod 8 aes_modulus (repr_of c.args.self)) (scaling_keeps (repr_of c.args.self)) _
    (c.from_images.ensures ∙ eight_entries_are (mul_mod 8 aes_modulus (repr_of c.args.self)) _ _ _ _ _ _ _ _ c.scaled.ensures c.scaled-2.ensures c.scaled-3.ensures c.scaled-4.ensures c.scaled-5.ensures c.scaled-6.ensures c.scaled-7.ensures c.scaled-8.ensures) x fits
