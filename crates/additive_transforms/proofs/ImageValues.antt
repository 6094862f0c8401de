-- The value of a polynomial whose coefficients are given as a list of images.
use Rattle.std.proofs.Common.{◌≡◌, ℕ, suc, List, [], ◌∷◌, map, refl, ◌∙◌, ap}
use Rattle.std.specs.Prelude.{bit_xor}
use Rattle.field_base.specs.Basis.{basis_image}
use Rattle.field_base.specs.Powers.{power, terms_from}
use Rattle.field_base.specs.Remainder.{mul_mod}
use Rattle.field_base.proofs.BasisFields.{image_value}
use Rattle.additive_transforms.specs.Values.{ValuesOfImages, ValuesOfListsOfImages}

module _ {A : Type 0} (unit : ℕ) (times : ℕ → ℕ → ℕ) (f : A → ℕ) (a : ℕ) where
  -- the terms of a list of images are those of the list, read through the map
  terms_from-map : (n : ℕ) (cs : List A)
      → terms_from unit times (λ (c : ℕ). c) a n (map f cs) ≡ terms_from unit times f a n cs
  unfolding terms_from
  terms_from-map n [] = refl
  terms_from-map n (c ∷ cs) = ap (bit_xor (times (f c) (power unit times a n))) (terms_from-map (suc n) cs)

-- the value on images is the image of the value, for a list read through the map
pub values_of_images : ValuesOfImages
values_of_images k width modulus images keeps cs a = image_value k width modulus images keeps (λ (c : ℕ). c) cs a

-- and for the list of the images itself
pub values_of_lists : ValuesOfListsOfImages
values_of_lists k width modulus images keeps cs a =
    terms_from-map 1 (mul_mod width modulus) (basis_image width modulus images) (basis_image width modulus images a) 0 cs
    ∙ values_of_images k width modulus images keeps cs a
