-- Sums of products of two lists modulo the polynomial of GHASH, whose remainder is taken at the end.
use Rattle.std.proofs.Common.{◌≡◌, ℕ, ◌+◌, ◌*◌, ◌^◌, ◌<◌, List, length, drop, get_or, refl, sym, ◌∙◌, ap, lit<, arith}
use Rattle.std.specs.Prelude.{bit_xor}
use Rattle.std.proofs.lemmas.List.{get_or_default}
use Rattle.std.proofs.lemmas.Nat.{xor_block, xor_lt}
use lib.Bits.{xor_zero_l}
use Rattle.field_base.specs.Carryless.{carryless}
use Rattle.field_base.specs.Powers.{dot_of}
use Rattle.field_base.specs.Remainder.{ghash_modulus, mul_mod, rem}
use Rattle.field_base.proofs.DotLemmas.{dot_of-drop}
use Rattle.field_base.proofs.RemainderDot.{rem_dot_step}
use Rattle.field_base.proofs.RemainderLaws.{rem_small}

-- the sum of the products from place i on
abbrev dot_from : List ℕ → List ℕ → ℕ → ℕ
dot_from xs ys i = dot_of (mul_mod 128 ghash_modulus) (λ (x : ℕ). x) (drop i xs) (drop i ys)

abbrev remainder : ℕ → ℕ → ℕ
remainder low high = rem 128 ghash_modulus (high * 2 ^ 128 + low)

-- the product at place i enters the sum
pub one_added : (xs ys : List ℕ) (i low high product_low product_high whole : ℕ) → i < length xs → i < length ys
    → ((k : ℕ) → get_or xs k 0 < 2 ^ 128) → ((k : ℕ) → get_or ys k 0 < 2 ^ 128) → low < 2 ^ 128 → product_low < 2 ^ 128
    → carryless (get_or xs i 0) (get_or ys i 0) ≡ product_high * 2 ^ 128 + product_low
    → bit_xor (remainder low high) (dot_from xs ys i) ≡ whole
    → bit_xor (remainder (bit_xor low product_low) (bit_xor high product_high)) (dot_from xs ys (i + 1)) ≡ whole
one_added xs ys i low high product_low product_high whole x_within y_within xs_fit ys_fit low_fits product_fits splits so_far =
    let x = get_or xs i 0 in
    let y = get_or ys i 0 in
    rem_dot_step 128 ghash_modulus refl (high * 2 ^ 128 + low)
    (bit_xor high product_high * 2 ^ 128 + bit_xor low product_low) x y (dot_from xs ys i) (dot_from xs ys (i + 1)) whole (xs_fit i) (ys_fit i)
    so_far
    (dot_of-drop (mul_mod 128 ghash_modulus) (λ (z : ℕ). z) xs ys i x y x_within y_within
    (get_or_default xs i 0 x x_within) (get_or_default ys i 0 y y_within))
    (sym (xor_block 128 high product_high low product_low low_fits product_fits) ∙ ap (bit_xor (high * 2 ^ 128 + low)) (sym splits))

-- the products at two places enter the sum
pub two_added : (xs ys : List ℕ) (i m low high a_low a_high b_low b_high whole : ℕ) → m ≡ i + 2 → i + 1 < length xs → i + 1 < length ys
    → ((k : ℕ) → get_or xs k 0 < 2 ^ 128) → ((k : ℕ) → get_or ys k 0 < 2 ^ 128) → low < 2 ^ 128 → a_low < 2 ^ 128 → b_low < 2 ^ 128
    → carryless (get_or xs i 0) (get_or ys i 0) ≡ a_high * 2 ^ 128 + a_low
    → carryless (get_or xs (i + 1) 0) (get_or ys (i + 1) 0) ≡ b_high * 2 ^ 128 + b_low
    → bit_xor (remainder low high) (dot_from xs ys i) ≡ whole
    → bit_xor (remainder (bit_xor (bit_xor low a_low) b_low) (bit_xor (bit_xor high a_high) b_high)) (dot_from xs ys m) ≡ whole
two_added xs ys i m low high a_low a_high b_low b_high whole next x_within y_within xs_fit ys_fit low_fits a_fits b_fits a_splits b_splits so_far =
    let last : m ≡ i + 1 + 1 = omega arith in
    ap (λ (k : ℕ). bit_xor (remainder (bit_xor (bit_xor low a_low) b_low) (bit_xor (bit_xor high a_high) b_high)) (dot_from xs ys k)) last
    ∙ one_added xs ys (i + 1) (bit_xor low a_low) (bit_xor high a_high) b_low b_high whole x_within y_within xs_fit ys_fit
    (xor_lt 128 low a_low low_fits a_fits) b_fits b_splits
    (one_added xs ys i low high a_low a_high whole (omega arith) (omega arith) xs_fit ys_fit low_fits a_fits a_splits so_far)

-- no product is in the sum yet
pub none_added : (xs ys : List ℕ) → bit_xor (remainder 0 0) (dot_from xs ys 0) ≡ dot_from xs ys 0
none_added xs ys = ap (λ (z : ℕ). bit_xor z (dot_from xs ys 0)) (rem_small 128 ghash_modulus refl 0 (lit< tt)) ∙ xor_zero_l (dot_from xs ys 0)
