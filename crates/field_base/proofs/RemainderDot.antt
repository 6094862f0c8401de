-- The sum of products modulo a polynomial, with one remainder at its end.
use Rattle.std.proofs.Common.{◌≡◌, ℕ, ◌^◌, ◌<◌, sym, ◌∙◌, ap}
use Rattle.std.specs.Prelude.{bit_xor}
use lib.Bits.{xor_assoc}
use Rattle.field_base.specs.Carryless.{carryless}
use Rattle.field_base.specs.Remainder.{HasDegree, rem, mul_mod}
use Rattle.field_base.proofs.RemainderLaws.{rem_sum}
use Rattle.field_base.proofs.RemainderRing.{mul_mod-rem}

module _ (width modulus : ℕ) (degree : HasDegree width modulus) where
  -- the remainder of a sum of products with one product more
  pub rem_product_sum : (sum x y : ℕ) → x < 2 ^ width → y < 2 ^ width
      → rem width modulus (bit_xor sum (carryless x y)) ≡ bit_xor (rem width modulus sum) (mul_mod width modulus x y)
  rem_product_sum sum x y x_fits y_fits =
      rem_sum width modulus degree sum (carryless x y)
      ∙ ap (bit_xor (rem width modulus sum)) (sym (mul_mod-rem width modulus degree x y x_fits y_fits))

  -- one product more: `sum` is what was added up so far, `rest` and `next` are what the places from here on, and those
  -- behind, add to it
  pub rem_dot_step : (sum sum' x y rest next whole : ℕ) → x < 2 ^ width → y < 2 ^ width
      → bit_xor (rem width modulus sum) rest ≡ whole → rest ≡ bit_xor (mul_mod width modulus x y) next
      → sum' ≡ bit_xor sum (carryless x y) → bit_xor (rem width modulus sum') next ≡ whole
  rem_dot_step sum sum' x y rest next whole x_fits y_fits so_far splits added =
      ap (λ (s : ℕ). bit_xor (rem width modulus s) next) added
      ∙ ap (λ (s : ℕ). bit_xor s next) (rem_product_sum sum x y x_fits y_fits)
      ∙ xor_assoc (rem width modulus sum) (mul_mod width modulus x y) next
      ∙ ap (bit_xor (rem width modulus sum)) (sym splits) ∙ so_far
