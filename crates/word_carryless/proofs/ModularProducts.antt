-- The remainder of a product, by its two halves, is the product modulo the polynomial.
use Rattle.std.proofs.Common.{◌≡◌, ℕ, ◌+◌, ◌*◌, ◌^◌, ◌<◌, refl, sym, ◌∙◌, ap}
use Rattle.field_base.specs.Carryless.{carryless}
use Rattle.field_base.specs.Remainder.{rem, mul_mod, poly64_modulus, ghash_modulus}
use Rattle.field_base.proofs.RemainderRing.{mul_mod-rem}

-- the remainder of the two words of a product is the product modulo x^64 + x^4 + x^3 + x + 1
pub reduced_64 : (x y low high r : ℕ) → x < 2 ^ 64 → y < 2 ^ 64 → carryless x y ≡ high * 2 ^ 64 + low
    → r ≡ rem 64 poly64_modulus (high * 2 ^ 64 + low) → r ≡ mul_mod 64 poly64_modulus x y
reduced_64 x y low high r x_fits y_fits of_product of_r =
    of_r ∙ ap (rem 64 poly64_modulus) (sym of_product) ∙ sym (mul_mod-rem 64 poly64_modulus refl x y x_fits y_fits)

-- the remainder of the two double words of a product is the product modulo x^128 + x^7 + x^2 + x + 1
pub reduced_128 : (x y low high r : ℕ) → x < 2 ^ 128 → y < 2 ^ 128 → carryless x y ≡ high * 2 ^ 128 + low
    → r ≡ rem 128 ghash_modulus (high * 2 ^ 128 + low) → r ≡ mul_mod 128 ghash_modulus x y
reduced_128 x y low high r x_fits y_fits of_product of_r =
    of_r ∙ ap (rem 128 ghash_modulus) (sym of_product) ∙ sym (mul_mod-rem 128 ghash_modulus refl x y x_fits y_fits)
