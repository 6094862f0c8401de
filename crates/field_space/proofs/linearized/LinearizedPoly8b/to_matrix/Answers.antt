use Rattle.std.proofs.Common.{◌∙◌}
use Rattle.field_space.specs.Linearized.{linearized_value}
use Rattle.field_space.specs.Polynomial.{coefficients_of}
use Rattle.field_space.proofs.LinearizedLemmas.{by_eight_images, eight_entries_are, linearized_keeps}
use Rattle.field_space.proofs.linearized.LinearizedPoly8b.to_matrix.Goals as goal

pub returns : goal.returns
returns c x fits =
    let g = linearized_value (coefficients_of c.args.self.now) in
    by_eight_images (linearized_value (coefficients_of c.args.self.now)) (linearized_keeps (coefficients_of c.args.self.now)) _
    (c.from_images.ensures ∙ eight_entries_are (linearized_value (coefficients_of c.args.self.now)) _ _ _ _ _ _ _ _ c.image.ensures c.image-2.ensures c.image-3.ensures c.image-4.ensures c.image-5.ensures c.image-6.ensures c.image-7.ensures c.image-8.ensures) x fits
