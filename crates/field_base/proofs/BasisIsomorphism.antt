-- The change of basis is a homomorphism where the images of the roots meet the equations of the roots, and an isomorphism
-- where a linear map undoes it on one side.
use Rattle.std.proofs.Common.{◌≡◌, ◌≢◌, ℕ, zero, suc, ◌+◌, ◌-◌, ◌%◌, ◌^◌, ◌<◌, List, ◌∷◌, length, refl, sym, ◌∙◌, ap, ap₂, subst, arith}
use Rattle.std.specs.Prelude.{bit_xor, slice_index}
use Rattle.std.proofs.lemmas.Nat.{xor_lt, pow_pos}
use native.Mathlib.Nat.{mod-lt, mod-eq_of_lt}
use lib.Bits.{xor_assoc, xor_self}
use Rattle.field_base.specs.Basis.{basis_image, bit_image, AreRoots, IsHomomorphism, IsChangeOfBasis, RootsGiveHomomorphism}
use Rattle.field_base.specs.Field.{IsField}
use Rattle.field_base.specs.Field.{HasInverses}
use Rattle.field_base.specs.Powers.{repeated_square}
use Rattle.field_base.specs.Remainder.{HasDegree, mul_mod}
use Rattle.field_base.specs.Ring.{IsRing}
use Rattle.field_base.specs.Tower.{root, tower_mul}
use Rattle.field_base.proofs.AdditiveMaps.{maps_agree}
use Rattle.field_base.proofs.BasisColumns.{sum_of_columns, sum_of_columns-sum, level_columns, sum_of_columns-level_columns}
use Rattle.field_base.proofs.BasisFields.{image_squarings}
use Rattle.field_base.proofs.BasisMaps.{image_at, image_at-mod, image_at-lt, image_at-sum, image_at-nothing, image_at-one, image_at-root, image_at-low, image_at-product}
use Rattle.field_base.proofs.PowerLemmas.{repeated_square-mod}
use Rattle.field_base.proofs.RemainderRing.{mul_mod_ring}
use Rattle.field_base.proofs.RingLemmas.{xor_nothing, zero-times, mod-times}
use Rattle.field_base.proofs.TowerTraces.{tower_inverses, squarings_return, root-lt}

module _ (width modulus : ℕ) (wide : 0 < width) (degree : HasDegree width modulus) (images : List ℕ) where
  -- the polynomials modulo the given one are a ring
  ring : IsRing width 1 (mul_mod width modulus)
  ring = mul_mod_ring width modulus wide degree

  -- the image of the elements of level k
  abbrev at : ℕ → ℕ → ℕ
  at = image_at width (mul_mod width modulus) ring wide (slice_index images)

  -- the image of x is that at the level of as many roots as there are images
  basis_image-at : (x : ℕ) → basis_image width modulus images x ≡ at (length images) x
  unfolding basis_image bit_image image_at
  basis_image-at x = refl

  -- it is the linear map by the columns of the level
  pub basis_image-columns : (x : ℕ) → basis_image width modulus images x
      ≡ sum_of_columns (level_columns (mul_mod width modulus) (slice_index images) (length images)) x
  basis_image-columns x =
      basis_image-at x
      ∙ sym (sum_of_columns-level_columns width (mul_mod width modulus) ring wide (slice_index images) (length images) x)

  -- ---- the homomorphism

  -- the image of the root of level m is the image that stands before entry m, and 1 before the first
  root_before : (m : ℕ) → mul_mod width modulus (slice_index (1 ∷ images) m) (slice_index images m)
      ≡ mul_mod width modulus (at m (root m)) (slice_index images m)
  unfolding root
  root_before zero =
      ap (λ (x : ℕ). mul_mod width modulus x (slice_index images 0))
      (sym (image_at-one width (mul_mod width modulus) ring wide (slice_index images) 0))
  root_before (suc m) =
      sym (ap (λ (x : ℕ). mul_mod width modulus x (slice_index images (suc m)))
      (image_at-root width (mul_mod width modulus) ring wide (slice_index images) m)
      ∙ mod-times width 1 (mul_mod width modulus) ring (slice_index images m) (slice_index images (suc m)))

  -- what is 0 with a third and 1 is the third and 1
  moved : (a b c : ℕ) → bit_xor (bit_xor a b) 1 ≡ 0 → b ≡ c → a ≡ bit_xor c 1
  moved a b c nothing same =
      xor_nothing a (bit_xor b 1) (sym (xor_assoc a b 1) ∙ nothing) ∙ ap (λ (x : ℕ). bit_xor x 1) same

  -- each image of a root meets the equation of the root
  roots_at : AreRoots width modulus images → (m : ℕ) → m < length images
      → mul_mod width modulus (slice_index images m) (slice_index images m)
      ≡ bit_xor (mul_mod width modulus (at m (root m)) (slice_index images m)) 1
  roots_at roots m below = moved _ _ _ (roots m below) (root_before m)

  -- the image of the root of level m + 1 is entry m of the images
  root_image_at : (m : ℕ) → m < length images → basis_image width modulus images (root (suc m)) ≡ slice_index images m % 2 ^ width
  root_image_at m below =
      let level : length images - suc m + suc m ≡ length images = omega arith in
      basis_image-at (root (suc m)) ∙ ap (λ (k : ℕ). at k (root (suc m))) (sym level)
      ∙ image_at-low width (mul_mod width modulus) ring wide (slice_index images) (length images - suc m) (suc m)
      (root (suc m)) (root-lt (suc m))
      ∙ image_at-root width (mul_mod width modulus) ring wide (slice_index images) m

  -- if the images of the roots meet the equations of the roots, the change of basis is a homomorphism
  pub homomorphism : AreRoots width modulus images → IsHomomorphism (length images) width modulus images
  homomorphism roots = record {
    below = λ a. subst (λ (x : ℕ). x < 2 ^ width) (sym (basis_image-at a))
        (image_at-lt width (mul_mod width modulus) ring wide (slice_index images) (length images) a);
    zero_image =
        basis_image-at 0 ∙ image_at-nothing width (mul_mod width modulus) ring wide (slice_index images) (length images);
    one_image =
        basis_image-at 1 ∙ image_at-one width (mul_mod width modulus) ring wide (slice_index images) (length images);
    sum_image = λ a b.
        basis_image-at (bit_xor a b)
        ∙ image_at-sum width (mul_mod width modulus) ring wide (slice_index images) (length images) a b
        ∙ sym (ap₂ bit_xor (basis_image-at a) (basis_image-at b));
    product_image = λ a b.
        basis_image-at (tower_mul (length images) a b)
        ∙ image_at-product width (mul_mod width modulus) ring wide (slice_index images) (length images) (roots_at roots) a b
        ∙ sym (ap₂ (mul_mod width modulus) (basis_image-at a) (basis_image-at b));
    root_image = root_image_at;
  }

  -- it reads the bits of its level
  basis_image-mod : (x : ℕ) → basis_image width modulus images (x % 2 ^ 2 ^ length images) ≡ basis_image width modulus images x
  basis_image-mod x =
      basis_image-at (x % 2 ^ 2 ^ length images)
      ∙ image_at-mod width (mul_mod width modulus) ring wide (slice_index images) (length images) x
      ∙ sym (basis_image-at x)

  module _ (keeps : IsHomomorphism (length images) width modulus images) where
    -- only 0 has the image 0, since another element has an inverse
    kernel : (a : ℕ) → a < 2 ^ 2 ^ length images → basis_image width modulus images a ≡ 0 → a ≡ 0
    kernel zero fits nothing = refl
    kernel (suc a) fits nothing =
        let inverse = tower_inverses (length images) (suc a) fits (λ e. absurd (omega arith)) in
        absurd (apart (basis_image width modulus images 1) keeps.one_image
        (ap (basis_image width modulus images) (sym inverse.2) ∙ keeps.product_image (suc a) inverse.0
        ∙ ap (λ (x : ℕ). mul_mod width modulus x (basis_image width modulus images inverse.0)) nothing
        ∙ zero-times width 1 (mul_mod width modulus) ring (basis_image width modulus images inverse.0)))
      where
        apart : (x : ℕ) → x ≡ 1 → x ≡ 0 → ⊥
        apart x one none = omega arith

    -- elements with one image are one
    pub basis_image-injective : (a b : ℕ) → a < 2 ^ 2 ^ length images → b < 2 ^ 2 ^ length images
        → basis_image width modulus images a ≡ basis_image width modulus images b → a ≡ b
    basis_image-injective a b a_fits b_fits same =
        xor_nothing a b (kernel (bit_xor a b) (xor_lt (2 ^ length images) a b a_fits b_fits)
        (keeps.sum_image a b ∙ ap (λ (x : ℕ). bit_xor x (basis_image width modulus images b)) same
        ∙ xor_self (basis_image width modulus images b)))

    -- a linear map that the change of basis undoes on the powers of two
    module _ (inverse_columns : List ℕ)
        (undoes : (i : ℕ) → i < width → basis_image width modulus images (sum_of_columns inverse_columns (2 ^ i)) ≡ 2 ^ i) where
      pub basis_image-undoes : (b : ℕ) → b < 2 ^ width → basis_image width modulus images (sum_of_columns inverse_columns b) ≡ b
      basis_image-undoes =
          maps_agree (λ c. basis_image width modulus images (sum_of_columns inverse_columns c)) (λ c. c)
          (λ c d. ap (basis_image width modulus images) (sum_of_columns-sum inverse_columns c d)
          ∙ keeps.sum_image (sum_of_columns inverse_columns c) (sum_of_columns inverse_columns d))
          (λ c d. refl) width undoes

      -- is its inverse
      abbrev inverse : ℕ → ℕ
      inverse b = sum_of_columns inverse_columns b % 2 ^ 2 ^ length images

      inverse_lt : (b : ℕ) → inverse b < 2 ^ 2 ^ length images
      inverse_lt b = mod-lt (sum_of_columns inverse_columns b) (pow_pos (2 ^ length images))

      image_of_inverse : (b : ℕ) → b < 2 ^ width → basis_image width modulus images (inverse b) ≡ b
      image_of_inverse b fits = basis_image-mod (sum_of_columns inverse_columns b) ∙ basis_image-undoes b fits

      pub isomorphism : IsChangeOfBasis (length images) width modulus images
      isomorphism = record {
        homomorphism = keeps;
        isomorphism = record {
          below = λ a fits. keeps.below a;
          one_image = keeps.one_image;
          sum_image = keeps.sum_image;
          product_image = keeps.product_image;
          inverse = inverse;
          inverse_below = inverse_lt;
          image_of_inverse = image_of_inverse;
          inverse_of_image = λ a fits.
              basis_image-injective (inverse (basis_image width modulus images a)) a (inverse_lt (basis_image width modulus images a)) fits
              (image_of_inverse (basis_image width modulus images a) (keeps.below a));
        };
      }

  -- ---- what the field of polynomials has from the tower

  module _ (isomorphic : IsChangeOfBasis (length images) width modulus images) where
    -- a nonzero polynomial is the image of a nonzero element, and the image of that element's inverse is its inverse
    pub isomorphic-inverses : HasInverses width (mul_mod width modulus)
    isomorphic-inverses b fits nonzero =
        let a = isomorphic.isomorphism.inverse b in
        let inverse = tower_inverses (length images) a (isomorphic.isomorphism.inverse_below b) a_nonzero in (
          basis_image width modulus images inverse.0,
          isomorphic.homomorphism.below inverse.0,
          ap (λ (x : ℕ). mul_mod width modulus x (basis_image width modulus images inverse.0)) (sym (isomorphic.isomorphism.image_of_inverse b fits))
              ∙ sym (isomorphic.homomorphism.product_image a inverse.0)
              ∙ ap (basis_image width modulus images) inverse.2 ∙ isomorphic.homomorphism.one_image,
        )
      where
        a_nonzero : isomorphic.isomorphism.inverse b ≢ 0
        a_nonzero none =
            nonzero (sym (isomorphic.isomorphism.image_of_inverse b fits) ∙ ap (basis_image width modulus images) none
            ∙ isomorphic.homomorphism.zero_image)

    -- as many squarings as the level has bits return each polynomial
    pub isomorphic-squarings : (b : ℕ) → repeated_square 1 (mul_mod width modulus) (2 ^ length images) b ≡ b % 2 ^ width
    isomorphic-squarings b =
        sym (repeated_square-mod width 1 (mul_mod width modulus) ring (2 ^ length images) b)
        ∙ ap (repeated_square 1 (mul_mod width modulus) (2 ^ length images)) (sym returned)
        ∙ sym (image_squarings (length images) width modulus images isomorphic.homomorphism (2 ^ length images) a)
        ∙ ap (basis_image width modulus images) (squarings_return (length images) a ∙ mod-eq_of_lt (isomorphic.isomorphism.inverse_below (b % 2 ^ width)))
        ∙ returned
      where
        a : ℕ
        a = isomorphic.isomorphism.inverse (b % 2 ^ width)

        returned : basis_image width modulus images a ≡ b % 2 ^ width
        returned = isomorphic.isomorphism.image_of_inverse (b % 2 ^ width) (mod-lt b (pow_pos width))

    -- so that polynomials are a field
    pub isomorphic-field : 2 ^ length images ≡ width → IsField width (mul_mod width modulus)
    isomorphic-field whole =
        record {
          ring = ring;
          inverses = isomorphic-inverses;
          squarings_return =
              λ a. ap (λ (n : ℕ). repeated_square 1 (mul_mod width modulus) n a) (sym whole) ∙ isomorphic-squarings a;
        }

-- for every polynomial, images of roots that meet the equations give a homomorphism
pub roots_give_homomorphism : RootsGiveHomomorphism
roots_give_homomorphism width modulus images wide degree roots = homomorphism width modulus wide degree images roots
