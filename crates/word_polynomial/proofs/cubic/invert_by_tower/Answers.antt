use Rattle.std.proofs.Common.{◌≡◌, sym, ◌∙◌, ap, lit<}
use Rattle.field_base.specs.Basis.{poly64_images, basis_image}
use Rattle.field_base.specs.Remainder.{poly64_modulus}
use Rattle.field_base.proofs.BasisFields.{image_inverse, image_nonzero}
use Rattle.word_tables.proofs.Isomorphisms.{isomorphic_64}
use Rattle.word_polynomial.proofs.cubic.invert_by_tower.Goals as goal

pub returns-clause-zero : goal.returns-clause-zero
returns-clause-zero c zero =
    let nothing : c.to_tower_64.result ≡ 0 = sym (c.to_tower_64.ensures.only 0 (lit< tt) (isomorphic_64.homomorphism.zero_image ∙ sym zero)) in
    c.to_polynomial_64.ensures ∙ ap (basis_image 64 poly64_modulus poly64_images) (c.invert.ensures.zero nothing)
    ∙ isomorphic_64.homomorphism.zero_image

pub returns-clause-inverse : goal.returns-clause-inverse
returns-clause-inverse c nonzero =
    image_inverse 6 64 poly64_modulus poly64_images isomorphic_64.homomorphism c.to_tower_64.result c.invert.result c.args.x c.to_polynomial_64.result
    c.to_tower_64.ensures.image (sym c.to_polynomial_64.ensures)
    (c.invert.ensures.inverse
    (image_nonzero 6 64 poly64_modulus poly64_images isomorphic_64.homomorphism c.to_tower_64.result c.args.x c.to_tower_64.ensures.image nonzero))
