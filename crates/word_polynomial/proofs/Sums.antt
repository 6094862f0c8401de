-- Sums of products modulo a polynomial, whose remainder is not taken yet.
use Rattle.std.proofs.Common.{◌≡◌, ℕ, ◌*◌, ◌+◌, ◌^◌, ◌<◌, sym, ◌∙◌, ap}
use Rattle.std.specs.Prelude.{bit_xor}
use Rattle.std.proofs.lemmas.Nat.{xor_block, xor_lt}
use Rattle.field_base.specs.Carryless.{carryless}
use Rattle.field_base.specs.Remainder.{HasDegree, mul_mod, rem}
use Rattle.field_base.proofs.RemainderDot.{rem_product_sum}

-- a sum of two words, and a product of two words more
pub product_added : (width modulus : ℕ) → HasDegree width modulus → (low high x y product_low product_high : ℕ) → x < 2 ^ width
    → y < 2 ^ width → low < 2 ^ width → product_low < 2 ^ width → carryless x y ≡ product_high * 2 ^ width + product_low
    → rem width modulus (bit_xor high product_high * 2 ^ width + bit_xor low product_low)
    ≡ bit_xor (rem width modulus (high * 2 ^ width + low)) (mul_mod width modulus x y)
product_added width modulus degree low high x y product_low product_high x_fits y_fits low_fits product_fits splits =
    let sum = high * 2 ^ width + low in
    ap (rem width modulus) (sym (xor_block width high product_high low product_low low_fits product_fits) ∙ ap (bit_xor sum) (sym splits))
    ∙ rem_product_sum width modulus degree sum x y x_fits y_fits

-- and with two products more
pub two_products_added : (width modulus : ℕ) → HasDegree width modulus → (low high a b p q a_low a_high b_low b_high : ℕ) → a < 2 ^ width
    → b < 2 ^ width → p < 2 ^ width → q < 2 ^ width → low < 2 ^ width → a_low < 2 ^ width → b_low < 2 ^ width
    → carryless a p ≡ a_high * 2 ^ width + a_low → carryless b q ≡ b_high * 2 ^ width + b_low
    → rem width modulus (bit_xor (bit_xor high a_high) b_high * 2 ^ width + bit_xor (bit_xor low a_low) b_low)
    ≡ bit_xor (bit_xor (rem width modulus (high * 2 ^ width + low)) (mul_mod width modulus a p)) (mul_mod width modulus b q)
two_products_added width modulus degree low high a b p q a_low a_high b_low b_high a_fits b_fits p_fits q_fits low_fits a_low_fits b_low_fits
    a_splits b_splits =
    product_added width modulus degree (bit_xor low a_low) (bit_xor high a_high) b q b_low b_high b_fits q_fits
    (xor_lt width low a_low low_fits a_low_fits) b_low_fits b_splits
    ∙ ap (λ (sum : ℕ). bit_xor sum (mul_mod width modulus b q))
    (product_added width modulus degree low high a p a_low a_high a_fits p_fits low_fits a_low_fits a_splits)
