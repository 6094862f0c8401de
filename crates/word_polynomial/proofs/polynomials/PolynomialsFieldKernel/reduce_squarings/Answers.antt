use Rattle.std.proofs.Common.{ℕ, ◌≡◌, ◌%◌, sym, ◌∙◌, ap, subst}
use Rattle.field_base.specs.Basis.{basis_image}
use Rattle.field_base.specs.Powers.{repeated_square}
use Rattle.field_base.specs.Remainder.{mul_mod}
use Rattle.field_base.specs.Tower.{tower_mul}
use Rattle.field_base.proofs.BasisFields.{image_squarings}
use Rattle.field_base.proofs.FieldLemmas.{field_repeated_square-mod_bits}
use Rattle.word_polynomial.proofs.polynomials.PolynomialsFieldKernel.reduce_squarings.Goals as goal

pub returns-then-rest-lt-MANY_SQUARINGS-clause-squarings : goal.returns-then-rest-lt-MANY_SQUARINGS-clause-squarings
returns-then-rest-lt-MANY_SQUARINGS-clause-squarings g c =
    let m = g.M.Modulus in
    let times = mul_mod m.width m.modulus in
    let x = g.R.Stored.number c.args.x in
    ap (λ (b : ℕ). repeated_square 1 times (c.args.count % b) x) c.bits.ensures
    ∙ field_repeated_square-mod_bits m.width times m.field_law c.args.count x

pub returns-else-rest-lt-MANY_SQUARINGS-clause-squarings : goal.returns-else-rest-lt-MANY_SQUARINGS-clause-squarings
returns-else-rest-lt-MANY_SQUARINGS-clause-squarings g c =
    let m = g.M.Modulus in
    let times = mul_mod m.width m.modulus in
    let image = basis_image m.width m.modulus m.images in
    let image_of = image_squarings m.LEVEL m.width m.modulus m.images m.isomorphism_law.homomorphism in
    let x = g.R.Stored.number c.args.x in
    let element = g.R.Stored.number c.to_tower.result in
    let squared = g.R.Stored.number c.reduce_squarings-element.result.0 in
    let fewer = c.reduce_squarings-element.result.1 in
    let rest = c.args.count % c.bits.result in
    let in_tower : repeated_square 1 (tower_mul m.LEVEL) fewer squared ≡ repeated_square 1 (tower_mul m.LEVEL) rest element =
    subst (λ (k : ℕ). repeated_square 1 (tower_mul k) fewer squared ≡ repeated_square 1 (tower_mul k) rest element)
    (sym g.met.M.Modulus.level_law) c.reduce_squarings-element.ensures.squarings in
    ap (repeated_square 1 times fewer) c.to_polynomial.ensures ∙ sym (image_of fewer squared) ∙ ap image in_tower
    ∙ image_of rest element ∙ ap (repeated_square 1 times rest) c.to_tower.ensures.image
    ∙ ap (λ (b : ℕ). repeated_square 1 times (c.args.count % b) x) c.bits.ensures
    ∙ field_repeated_square-mod_bits m.width times m.field_law c.args.count x
