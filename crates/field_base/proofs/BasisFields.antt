-- What a homomorphism from the tower to polynomials carries besides sums and products: inverses and values of polynomials.
-- And quotients in a ring that is a field.
use Rattle.std.proofs.Common.{◌≡◌, ◌≢◌, ℕ, zero, suc, ◌+◌, ◌-◌, ◌^◌, ◌<◌, ◌≤◌, List, [], ◌∷◌, sym, ◌∙◌, ap, ap₂, subst, arith}
use Rattle.std.specs.Prelude.{bit_xor}
use Rattle.field_base.specs.Basis.{basis_image, IsHomomorphism, IsChangeOfBasis}
use Rattle.field_base.specs.Powers.{power, repeated_square, terms_from, value_of}
use Rattle.field_base.specs.Remainder.{mul_mod}
use Rattle.field_base.specs.Ring.{IsRing}
use Rattle.field_base.specs.Tower.{tower_mul}
use Rattle.field_base.proofs.PowerLemmas.{times-one}
use Rattle.field_base.proofs.TowerProducts.{level-lt, tower_mul-low}

module _ (k width modulus : ℕ) (images : List ℕ) (keeps : IsHomomorphism k width modulus images) where
  -- the image of an inverse is the inverse of the image
  pub image_inverse : (a b x y : ℕ) → basis_image width modulus images a ≡ x → basis_image width modulus images b ≡ y
      → tower_mul k a b ≡ 1 → mul_mod width modulus x y ≡ 1
  image_inverse a b x y of_a of_b inverts =
      ap₂ (mul_mod width modulus) (sym of_a) (sym of_b) ∙ sym (keeps.product_image a b)
      ∙ ap (basis_image width modulus images) inverts ∙ keeps.one_image

  -- only 0 is the image of 0
  pub image_nonzero : (a x : ℕ) → basis_image width modulus images a ≡ x → x ≢ 0 → a ≢ 0
  image_nonzero a x of_a nonzero zero_a =
      nonzero (sym of_a ∙ ap (basis_image width modulus images) zero_a ∙ keeps.zero_image)

  -- the image of a power is the power of the image
  pub image_power : (a n : ℕ) → power 1 (mul_mod width modulus) (basis_image width modulus images a) n
      ≡ basis_image width modulus images (power 1 (tower_mul k) a n)
  unfolding power
  image_power a zero = sym keeps.one_image
  image_power a (suc n) =
      ap (λ (x : ℕ). mul_mod width modulus x (basis_image width modulus images a)) (image_power a n)
      ∙ sym (keeps.product_image (power 1 (tower_mul k) a n) a)

  -- repeated squares of the image are the image of repeated squares
  pub image_squarings : (n a : ℕ) → basis_image width modulus images (repeated_square 1 (tower_mul k) n a)
      ≡ repeated_square 1 (mul_mod width modulus) n (basis_image width modulus images a)
  unfolding repeated_square
  image_squarings zero a =
      keeps.product_image 1 a ∙ ap (λ (x : ℕ). mul_mod width modulus x (basis_image width modulus images a)) keeps.one_image
  image_squarings (suc n) a =
      keeps.product_image _ _ ∙ ap (λ (x : ℕ). mul_mod width modulus x x) (image_squarings n a)

  -- the image of the terms of a polynomial at a is those of the images of its coefficients at the image of a
  image_terms : {A : Type 0} (repr : A → ℕ) (a n : ℕ) (cs : List A)
      → terms_from 1 (mul_mod width modulus) (λ c. basis_image width modulus images (repr c)) (basis_image width modulus images a) n cs
      ≡ basis_image width modulus images (terms_from 1 (tower_mul k) repr a n cs)
  unfolding terms_from
  image_terms repr a n [] = sym keeps.zero_image
  image_terms repr a n (c ∷ cs) =
      ap₂ bit_xor
      (ap (mul_mod width modulus (basis_image width modulus images (repr c))) (image_power a n)
      ∙ sym (keeps.product_image (repr c) (power 1 (tower_mul k) a n)))
      (image_terms repr a (suc n) cs)
      ∙ sym (keeps.sum_image (tower_mul k (repr c) (power 1 (tower_mul k) a n)) (terms_from 1 (tower_mul k) repr a (suc n) cs))

  -- the value on images is the image of the value
  pub image_value : {A : Type 0} (repr : A → ℕ) (cs : List A) (a : ℕ)
      → value_of 1 (mul_mod width modulus) (λ c. basis_image width modulus images (repr c)) cs (basis_image width modulus images a)
      ≡ basis_image width modulus images (value_of 1 (tower_mul k) repr cs a)
  image_value repr cs a = image_terms repr a 0 cs

-- the product by the inverse of b, times b
pub ring_quotient : (width : ℕ) (times : ℕ → ℕ → ℕ) → IsRing width 1 times → (a b inverse quotient : ℕ) → a < 2 ^ width
    → times b inverse ≡ 1 → quotient ≡ times a inverse → times quotient b ≡ a
ring_quotient width times ring a b inverse quotient fits inverts is =
    ap (λ (q : ℕ). times q b) is ∙ ring.assoc a inverse b ∙ ap (times a) (ring.comm inverse b ∙ inverts)
    ∙ times-one width 1 times ring a fits

-- the image of a product of elements of a level j below k is the product of the images, and two elements have two images
module _ (k width modulus : ℕ) (images : List ℕ) (isomorphic : IsChangeOfBasis k width modulus images) (j : ℕ) (lower : j ≤ k) where
  -- k - j levels above level j is level k
  between : k - j + j ≡ k
  between = omega (arith, lower)

  -- the image of a product at a lower level is the product of the images
  pub image_of_lower_product : (a b : ℕ) → a < 2 ^ 2 ^ j → b < 2 ^ 2 ^ j → basis_image width modulus images (tower_mul j a b)
      ≡ mul_mod width modulus (basis_image width modulus images a) (basis_image width modulus images b)
  image_of_lower_product a b a_fits b_fits =
      ap (basis_image width modulus images)
      (sym (tower_mul-low (k - j) j a b a_fits b_fits) ∙ ap (λ (n : ℕ). tower_mul n a b) between)
      ∙ isomorphic.homomorphism.product_image a b

  -- an element of a lower level is an element
  up : (a : ℕ) → a < 2 ^ 2 ^ j → a < 2 ^ 2 ^ k
  up a fits = subst (λ (n : ℕ). a < 2 ^ 2 ^ n) between (level-lt (k - j) j a fits)

  -- elements of a lower level that have one image are one
  pub image_of_lower_injective : (a b : ℕ) → a < 2 ^ 2 ^ j → b < 2 ^ 2 ^ j
      → basis_image width modulus images a ≡ basis_image width modulus images b → a ≡ b
  image_of_lower_injective a b a_fits b_fits same =
      sym (isomorphic.isomorphism.inverse_of_image a (up a a_fits)) ∙ ap isomorphic.isomorphism.inverse same
      ∙ isomorphic.isomorphism.inverse_of_image b (up b b_fits)
