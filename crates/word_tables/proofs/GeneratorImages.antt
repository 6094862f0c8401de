-- The image of a level's generator in another basis is a generator there.
use Rattle.std.proofs.Common.{◌≡◌, ◌≢◌, ℕ, ◌-◌, ◌^◌, ◌<◌, ◌≤◌, List, sym, ◌∙◌, ap, subst}
use Rattle.std.proofs.lemmas.Nat.{pow_pos, pow_below}
use Rattle.field_base.specs.Basis.{basis_image, IsChangeOfBasis}
use Rattle.field_base.specs.Orders.{HasFullOrder}
use Rattle.field_base.specs.Powers.{power}
use Rattle.field_base.specs.Remainder.{mul_mod}
use Rattle.field_base.specs.Tower.{tower_mul}
use Rattle.field_base.specs.TowerBasis.{tower_generator}
use Rattle.field_base.proofs.BasisFields.{image_power}
use Rattle.field_base.proofs.PowerLemmas.{power-lt}
use Rattle.field_base.proofs.TowerBasisLemmas.{generator_lt, generator_nonzero}
use Rattle.field_base.proofs.TowerRing.{tower_ring}
use Rattle.word_tables.proofs.LevelLaws.{at_most_four, level_generator}

module _ (k width modulus : ℕ) (images : List ℕ) (isomorphic : IsChangeOfBasis k width modulus images) (few : k ≤ 7) where
  -- two elements of one image are one
  one_to_one : (a b : ℕ) → a < 2 ^ 2 ^ k → b < 2 ^ 2 ^ k
      → basis_image width modulus images a ≡ basis_image width modulus images b → a ≡ b
  one_to_one a b a_fits b_fits same =
      sym (isomorphic.isomorphism.inverse_of_image a a_fits) ∙ ap isomorphic.isomorphism.inverse same ∙ isomorphic.isomorphism.inverse_of_image b b_fits

  -- the image of the generator is not 0
  pub image_generator_nonzero : basis_image width modulus images (tower_generator k) ≢ 0
  image_generator_nonzero none =
      generator_nonzero k few
      (one_to_one (tower_generator k) 0 (generator_lt k few) (pow_pos (2 ^ k)) (none ∙ sym isomorphic.homomorphism.zero_image))

  -- 1 is an element
  one_fits : 1 < 2 ^ 2 ^ k
  one_fits = pow_below 0 (2 ^ k) (pow_pos k)

  -- a power of the image is the image of the power, and so it is 1 where that is
  order_of_image : HasFullOrder (2 ^ k) (tower_mul k) (tower_generator k)
      → HasFullOrder (2 ^ k) (mul_mod width modulus) (basis_image width modulus images (tower_generator k))
  order_of_image order = (
    image_power k width modulus images isomorphic.homomorphism (tower_generator k) (2 ^ 2 ^ k - 1)
        ∙ ap (basis_image width modulus images) order.0 ∙ isomorphic.homomorphism.one_image,
    λ e above below one.
        order.1 e above below
        (one_to_one (power 1 (tower_mul k) (tower_generator k) e) 1
        (power-lt (2 ^ k) 1 (tower_mul k) (tower_ring k) one_fits (tower_generator k) e) one_fits
        (sym (image_power k width modulus images isomorphic.homomorphism (tower_generator k) e) ∙ one
        ∙ sym isomorphic.homomorphism.one_image)),
  )

  -- up to 16 bits the image of the generator has full order
  pub image_generator_order : width ≡ 2 ^ k → width ≤ 16
      → HasFullOrder width (mul_mod width modulus) (basis_image width modulus images (tower_generator k))
  image_generator_order bits small =
      subst (λ (w : ℕ). HasFullOrder w (mul_mod width modulus) (basis_image width modulus images (tower_generator k))) (sym bits)
      (order_of_image (level_generator k (at_most_four k (subst (λ (w : ℕ). w ≤ 16) bits small))))
