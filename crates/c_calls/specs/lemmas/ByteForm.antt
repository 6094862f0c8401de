-- The products of two fields of 256 elements are sums of products of bits. These lemmas stand here since the implementations of a trait cite
-- them.
use Rattle.std.proofs.Common.{◌≡◌, ℕ, ◌^◌, ◌<◌, true, refl}
use Rattle.field_base.specs.Basis.{sum_below}
use Rattle.field_base.specs.Carryless.{carryless, carryless_in}
use Rattle.field_base.specs.Quadratic.{quadratic}
use Rattle.field_base.specs.Remainder.{aes_modulus, mul_mod, rem, rem_in}
use Rattle.field_base.specs.Tower.{root, tower_mul}
use Rattle.field_base.proofs.AdditiveMaps.{agree_on_powers}
use Rattle.field_base.proofs.EightCases.{eight_cases}
use Rattle.field_base.proofs.TowerRing.{tower_ring}
use Rattle.word_tables.proofs.Isomorphisms.{field_8}
use Rattle.bits_packed.specs.BytesAsBits.{bilinear_product}
use Rattle.bits_packed.proofs.BilinearProducts.{ring-by-forms}
use Rattle.c_calls.specs.declared.byte_matrices.TheConstants.{RIJNDAEL_FORMS, TOWER_FORMS}

-- level 3 of the tower
pub tower-forms : (x y : ℕ) → x < 2 ^ 8 → y < 2 ^ 8 → tower_mul 3 x y ≡ bilinear_product TOWER_FORMS x y
unfolding tower_mul quadratic root sum_below
tower-forms =
    ring-by-forms TOWER_FORMS (tower_mul 3) (tower_ring 3)
    (eight_cases (λ i. agree_on_powers (tower_mul 3 (2 ^ i)) (bilinear_product TOWER_FORMS (2 ^ i)) 8 ≡ true) refl refl refl refl refl refl refl refl)

-- the field of AES
pub rijndael-forms : (x y : ℕ) → x < 2 ^ 8 → y < 2 ^ 8 → mul_mod 8 aes_modulus x y ≡ bilinear_product RIJNDAEL_FORMS x y
unfolding mul_mod rem rem_in carryless carryless_in sum_below
rijndael-forms =
    ring-by-forms RIJNDAEL_FORMS (mul_mod 8 aes_modulus) field_8.ring
    (eight_cases (λ i. agree_on_powers (mul_mod 8 aes_modulus (2 ^ i)) (bilinear_product RIJNDAEL_FORMS (2 ^ i)) 8 ≡ true)
    refl refl refl refl refl refl refl refl)
