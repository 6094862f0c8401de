-- Sums of products of two lists in the field of GHASH, to which the products at four places are added, and their remainders.
use Rattle.std.proofs.Common.{◌≡◌, ℕ, zero, suc, ◌+◌, ◌*◌, ◌^◌, ◌<◌, List, [], ◌∷◌, length, drop, get_or, refl, sym, ◌∙◌, ap, subst, arith}
use Rattle.std.specs.Prelude.{bit_xor}
use Rattle.std.proofs.lemmas.List.{get_or_default}
use Rattle.std.specs.Simd.Lanes.{zip2}
use Rattle.std.proofs.lemmas.Nat.{xor_block, xor_lt}
use lib.Bits.{xor_zero_r}
use Rattle.field_base.specs.Carryless.{carryless}
use Rattle.field_base.specs.Powers.{dot_of}
use Rattle.field_base.specs.Remainder.{ghash_modulus, rem}
use Rattle.field_base.proofs.DotLemmas.{dot_of-drop, dot_step}
use Rattle.field_base.proofs.RemainderDot.{rem_product_sum}
use Rattle.field_base.proofs.RemainderLaws.{rem_small, rem_sum}
use Rattle.field_base.proofs.RemainderRing.{ghash_ring}
use Rattle.field_base.proofs.RingLemmas.{times-zero, zero-times}
use Rattle.ghash_slices.specs.Fours.{product_at, with_four, with_four_products}
use Rattle.ghash_slices.specs.LowStages.{ghash_product}

-- ---- places

-- the sum of the products from place i on
abbrev pub dot_from : List ℕ → List ℕ → ℕ → ℕ
dot_from xs ys i = dot_of ghash_product (λ (x : ℕ). x) (drop i xs) (drop i ys)

-- the product at place i enters the sum
pub product_added : (xs ys : List ℕ) (i next sum whole : ℕ) → i + 1 ≡ next → i < length xs → i < length ys
    → bit_xor sum (dot_from xs ys i) ≡ whole → bit_xor (bit_xor sum (product_at xs ys i)) (dot_from xs ys next) ≡ whole
product_added xs ys i next sum whole is inside also so_far =
    subst (λ (m : ℕ). bit_xor (bit_xor sum (product_at xs ys i)) (dot_from xs ys m) ≡ whole) is
    (dot_step ghash_product (λ x. x) whole sum (bit_xor sum (product_at xs ys i)) (product_at xs ys i) _ _ so_far
    (dot_of-drop ghash_product (λ x. x) xs ys i (get_or xs i 0) (get_or ys i 0) inside also
    (get_or_default xs i 0 (get_or xs i 0) inside) (get_or_default ys i 0 (get_or ys i 0) also))
    refl)

-- the products at four places enter the sum
pub four_added : (xs ys : List ℕ) (i next sum whole : ℕ) → i + 4 ≡ next → i + 3 < length xs → i + 3 < length ys
    → bit_xor sum (dot_from xs ys i) ≡ whole
    → bit_xor (with_four sum (product_at xs ys i) (product_at xs ys (i + 1)) (product_at xs ys (i + 2)) (product_at xs ys (i + 3)))
    (dot_from xs ys next) ≡ whole
four_added xs ys i next sum whole is inside also so_far =
    let second : i + 1 + 1 ≡ i + 2 = omega arith in
    let third : i + 2 + 1 ≡ i + 3 = omega arith in
    let fourth : i + 3 + 1 ≡ next = omega arith in
    product_added xs ys (i + 3) next _ whole fourth (omega arith) (omega arith)
    (product_added xs ys (i + 2) (i + 3) _ whole third (omega arith) (omega arith)
    (product_added xs ys (i + 1) (i + 2) _ whole second (omega arith) (omega arith)
    (product_added xs ys i (i + 1) sum whole refl (omega arith) (omega arith) so_far)))

-- a place of all products, also where there is none
zipped_at : (xs ys : List ℕ) (k : ℕ) → get_or (zip2 ghash_product xs ys) k 0 ≡ product_at xs ys k
zipped_at [] ys k = sym (zero-times 128 1 ghash_product ghash_ring (get_or ys k 0))
zipped_at (x ∷ xs) [] k = sym (times-zero 128 1 ghash_product ghash_ring (get_or (x ∷ xs) k 0))
zipped_at (x ∷ xs) (y ∷ ys) zero = refl
zipped_at (x ∷ xs) (y ∷ ys) (suc k) = zipped_at xs ys k

-- ---- remainders

-- that of a polynomial by its halves
abbrev pub remainder : ℕ → ℕ → ℕ
remainder low high = rem 128 ghash_modulus (high * 2 ^ 128 + low)

-- a product enters that is not reduced
pub whole_added : (low high product_low product_high x y : ℕ) → x < 2 ^ 128 → y < 2 ^ 128 → low < 2 ^ 128 → product_low < 2 ^ 128
    → carryless x y ≡ product_high * 2 ^ 128 + product_low
    → remainder (bit_xor low product_low) (bit_xor high product_high) ≡ bit_xor (remainder low high) (ghash_product x y)
whole_added low high product_low product_high x y x_fits y_fits low_fits product_fits splits =
    ap (rem 128 ghash_modulus)
    (sym (xor_block 128 high product_high low product_low low_fits product_fits) ∙ ap (bit_xor (high * 2 ^ 128 + low)) (sym splits))
    ∙ rem_product_sum 128 ghash_modulus refl (high * 2 ^ 128 + low) x y x_fits y_fits

-- one enters that is reduced
pub reduced_added : (low high product : ℕ) → low < 2 ^ 128 → product < 2 ^ 128
    → remainder (bit_xor low product) high ≡ bit_xor (remainder low high) product
reduced_added low high product low_fits fits =
    let none : 0 * 2 ^ 128 + product ≡ product = omega arith in
    ap (rem 128 ghash_modulus)
    (ap (λ (h : ℕ). h * 2 ^ 128 + bit_xor low product) (sym (xor_zero_r high))
    ∙ sym (xor_block 128 high 0 low product low_fits fits) ∙ ap (bit_xor (high * 2 ^ 128 + low)) none)
    ∙ rem_sum 128 ghash_modulus refl (high * 2 ^ 128 + low) product
    ∙ ap (bit_xor (remainder low high)) (rem_small 128 ghash_modulus refl product fits)

-- four of them
four_reduced : (low high a b c d : ℕ) → low < 2 ^ 128 → a < 2 ^ 128 → b < 2 ^ 128 → c < 2 ^ 128 → d < 2 ^ 128
    → remainder (with_four low a b c d) high ≡ with_four (remainder low high) a b c d
four_reduced low high a b c d low_fits a_fits b_fits c_fits d_fits =
    let one = xor_lt 128 low a low_fits a_fits in
    let two = xor_lt 128 (bit_xor low a) b one b_fits in
    let three = xor_lt 128 (bit_xor (bit_xor low a) b) c two c_fits in
    reduced_added (bit_xor (bit_xor (bit_xor low a) b) c) high d three d_fits
    ∙ ap (λ (x : ℕ). bit_xor x d) (reduced_added (bit_xor (bit_xor low a) b) high c two c_fits
    ∙ ap (λ (x : ℕ). bit_xor x c) (reduced_added (bit_xor low a) high b one b_fits
    ∙ ap (λ (x : ℕ). bit_xor x b) (reduced_added low high a low_fits a_fits)))

-- four products, taken together
pub zipped_four : (xs ys products : List ℕ) (low high : ℕ) → low < 2 ^ 128 → products ≡ zip2 ghash_product xs ys
    → remainder (with_four low (get_or products 0 0) (get_or products 1 0) (get_or products 2 0) (get_or products 3 0)) high
    ≡ with_four_products (remainder low high) xs ys
zipped_four xs ys products low high low_fits are =
    let p = product_at xs ys in
    let fits = λ (k : ℕ). ghash_ring.below (get_or xs k 0) (get_or ys k 0) in
    ap (λ (a : ℕ). remainder (with_four low a (get_or products 1 0) (get_or products 2 0) (get_or products 3 0)) high) (at 0)
    ∙ ap (λ (b : ℕ). remainder (with_four low (p 0) b (get_or products 2 0) (get_or products 3 0)) high) (at 1)
    ∙ ap (λ (c : ℕ). remainder (with_four low (p 0) (p 1) c (get_or products 3 0)) high) (at 2)
    ∙ ap (λ (d : ℕ). remainder (with_four low (p 0) (p 1) (p 2) d) high) (at 3)
    ∙ four_reduced low high (p 0) (p 1) (p 2) (p 3) low_fits (fits 0) (fits 1) (fits 2) (fits 3)
  where
    at : (k : ℕ) → get_or products k 0 ≡ product_at xs ys k
    at k = ap (λ (l : List ℕ). get_or l k 0) are ∙ zipped_at xs ys k
