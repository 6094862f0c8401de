-- Fields by what a word stands for and how it is multiplied.
use Rattle.std.specs.Prelude.{ℕ, List}
use Rattle.field_base.specs.Basis.{aes_images, basis_image, ghash_images}
use Rattle.field_base.specs.Remainder.{aes_modulus, ghash_modulus, mul_mod}
use Rattle.field_base.specs.TowerBasis.{tower_generator}

-- a field of 2 ^ width elements: the number that a word stands for, the product over numbers, and the number of the generator that
-- the library names. A word is an element where its number is below 2 ^ width; a sum is the exclusive or.
pub record WordField (W : Type 0) : Type 0 where
  pub number : W → ℕ
  pub width : ℕ
  pub times : ℕ → ℕ → ℕ
  pub generator : ℕ

-- the field of such a number, such bits, such a product and such a generator
abbrev pub field_of : {W : Type 0} → (W → ℕ) → ℕ → (ℕ → ℕ → ℕ) → ℕ → WordField W
field_of number width times generator = record { number = number; width = width; times = times; generator = generator }

-- the number that a word of 8 to 64 bits is
abbrev pub itself : ℕ → ℕ
itself word = word

-- the polynomials modulo one of this width, whose generator is the image of that of a level of the tower
abbrev pub polynomial_field : {W : Type 0} → (W → ℕ) → ℕ → ℕ → List ℕ → ℕ → WordField W
polynomial_field number width modulus images level =
    field_of number width (mul_mod width modulus) (basis_image width modulus images (tower_generator level))

-- the bytes of AES
abbrev pub rijndael_field : WordField ℕ
rijndael_field = polynomial_field itself 8 aes_modulus aes_images 3

-- the field of GHASH, in words of such numbers
abbrev pub ghash_field_of : {W : Type 0} → (W → ℕ) → WordField W
ghash_field_of number = polynomial_field number 128 ghash_modulus ghash_images 7
