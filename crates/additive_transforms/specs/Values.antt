-- What a change of basis does to the values of polynomials.
use Rattle.std.specs.Prelude.{◌≡◌, ℕ, List, map}
use Rattle.field_base.specs.Basis.{basis_image, IsHomomorphism}
use Rattle.field_base.specs.Powers.{value_of}
use Rattle.field_base.specs.Remainder.{mul_mod}
use Rattle.field_base.specs.Tower.{tower_mul}

-- for every homomorphism from a level of the tower to polynomials modulo a polynomial, the value of the polynomial whose
-- coefficients are the images of cs, at the image of a, is the image of the value of cs at a
abbrev pub ValuesOfImages : Type 0
ValuesOfImages =
    (k width modulus : ℕ) (images : List ℕ) → IsHomomorphism k width modulus images → (cs : List ℕ) (a : ℕ)
    → value_of 1 (mul_mod width modulus) (basis_image width modulus images) cs (basis_image width modulus images a)
    ≡ basis_image width modulus images (value_of 1 (tower_mul k) (λ c. c) cs a)

-- `ValuesOfImages`, with the list of the coefficients' images
abbrev pub ValuesOfListsOfImages : Type 0
ValuesOfListsOfImages =
    (k width modulus : ℕ) (images : List ℕ) → IsHomomorphism k width modulus images → (cs : List ℕ) (a : ℕ)
    → value_of 1 (mul_mod width modulus) (λ c. c) (map (basis_image width modulus images) cs)
    (basis_image width modulus images a)
    ≡ basis_image width modulus images (value_of 1 (tower_mul k) (λ c. c) cs a)
