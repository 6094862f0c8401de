-- The power maps of GHASH: columns that are the values of a number of squarings.
use Rattle.std.proofs.Common.{◌≡◌, ℕ, zero, suc, ◌+◌, ◌-◌, ◌*◌, ◌/◌, ◌%◌, ◌^◌, ◌<◌, Bool, true, List, length, drop, get_or, refl, sym, ◌∙◌, ap, ap₂, subst, lit<, arith}
use Rattle.std.specs.Prelude.{bit_and, bit_xor}
use Rattle.std.proofs.Math.Nat.{two-pow-succ}
use Rattle.std.proofs.lemmas.Nat.{and_mask, pow_below}
use native.Mathlib.Nat.{mod-eq_of_lt, mod-lt, one-mul, zero-mul}
use lib.Bits.{and_zero_r, xor_assoc}
use Rattle.field_base.specs.lemmas.BitRing.{two_cases}
use Rattle.field_base.specs.Carryless.{carryless, carryless_in}
use Rattle.field_base.specs.LinearMaps.{linear_image}
use Rattle.field_base.specs.Powers.{repeated_square}
use Rattle.field_base.specs.Remainder.{rem, rem_in, mul_mod, ghash_modulus}
use Rattle.field_base.specs.Ring.{IsRing}
use Rattle.field_base.proofs.AdditiveMaps.{KeepsSums, maps_agree, agree_on_powers, agree_on_powers-true}
use Rattle.field_base.proofs.BasisColumns.{sum_of_columns, sum_of_columns-sum}
use Rattle.field_base.proofs.CarrylessProduct.{carryless_double, carryless_one}
use Rattle.field_base.proofs.LinearMapLemmas.{image_from, linear_image-columns}
use Rattle.field_base.proofs.PowerLemmas.{one-times, repeated_square-add, repeated_square-lt, repeated_square_times, square_xor}
use Rattle.field_base.proofs.RemainderLaws.{rem_small}
use Rattle.field_base.proofs.RemainderRing.{mul_mod-rem, mul_mod_ring}
use Rattle.word_carryless.specs.declared.power_maps.literals.TheConstants.{SQUARED_28_TIMES, SQUARED_63_TIMES}

-- ---- one column after another

-- a column under a mask of a bit, as the code makes it
pub masked_column : (column bits : ℕ) → column < 2 ^ 128
    → bit_and column ((0 + (2 ^ 128 - bit_and bits 1)) % 2 ^ 128) ≡ bits % 2 * column
masked_column column bits fits =
    ap (λ (d : ℕ). bit_and column ((0 + (2 ^ 128 - d)) % 2 ^ 128)) (and_mask bits 1)
    ∙ two_cases (λ d. bit_and column ((0 + (2 ^ 128 - d)) % 2 ^ 128) ≡ d * column)
    (and_zero_r column ∙ sym (zero-mul column))
    (and_mask column 128 ∙ mod-eq_of_lt fits ∙ sym (one-mul column))
    (bits % 2) (mod-lt bits (lit< tt))

-- a column enters the sum
pub column_enters : (columns : List ℕ) (place sum rest : ℕ) → place < length columns
    → bit_xor (bit_xor sum (rest % 2 * get_or columns place 0)) (linear_image (drop (place + 1) columns) (rest / 2))
    ≡ bit_xor sum (linear_image (drop place columns) rest)
column_enters columns place sum rest within =
    xor_assoc sum (rest % 2 * get_or columns place 0) _ ∙ ap (bit_xor sum) (sym (image_from columns place rest within))

-- ---- the maps

-- the polynomials modulo that of GHASH are a ring
ring : IsRing 128 1 (mul_mod 128 ghash_modulus)
ring = mul_mod_ring 128 ghash_modulus (lit< tt) refl

-- a polynomial squared n times modulo that of GHASH
abbrev squared : ℕ → ℕ → ℕ
squared = repeated_square 1 (mul_mod 128 ghash_modulus)

-- f keeps sums and squares n times
abbrev IsPowerMap : ℕ → (ℕ → ℕ) → Type 0
IsPowerMap n f = KeepsSums f × ((x : ℕ) → x < 2 ^ 128 → f x ≡ squared n x)

-- the square modulo the polynomial of GHASH
unfoldable square : ℕ → ℕ
square x = mul_mod 128 ghash_modulus x x

-- one squaring is the power map of one
once : IsPowerMap 1 square
unfolding square repeated_square
once = (
  λ a b. square_xor 128 1 (mul_mod 128 ghash_modulus) ring a b,
  λ x fits. sym (ap (λ (y : ℕ). mul_mod 128 ghash_modulus y y) (one-times 128 1 (mul_mod 128 ghash_modulus) ring x fits)),
)

-- m squarings after n squarings are m + n squarings
composed : (m n : ℕ) (f g : ℕ → ℕ) → IsPowerMap m f → IsPowerMap n g → IsPowerMap (m + n) (λ x. f (g x))
composed m n f g is_f is_g = (
  λ a b. ap f (is_g.0 a b) ∙ is_f.0 (g a) (g b),
  λ x fits. ap f (is_g.1 x fits)
      ∙ is_f.1 (squared n x) (repeated_square-lt 128 1 (mul_mod 128 ghash_modulus) ring n x)
      ∙ sym (repeated_square-add 128 1 (mul_mod 128 ghash_modulus) ring m n x),
)

-- the product of a polynomial of degree below 127 by x
times_x : (a : ℕ) → a < 2 ^ 128 → a * 2 < 2 ^ 128 → mul_mod 128 ghash_modulus a 2 ≡ a * 2
times_x a fits double =
    mul_mod-rem 128 ghash_modulus refl a 2 fits (lit< tt)
    ∙ ap (rem 128 ghash_modulus) (carryless_double a 1 ∙ ap (λ (z : ℕ). z * 2) (carryless_one a))
    ∙ rem_small 128 ghash_modulus refl (a * 2) double

-- the power of x above x^i
next_power : (i : ℕ) → 2 ^ suc i ≡ 2 ^ i * 2
next_power i = let twice = two-pow-succ i in omega (arith, twice)

-- whether each column is the one before it times the column of x
abbrev goes_by_x : List ℕ → Bool
goes_by_x columns =
    agree_on_powers (λ x. sum_of_columns columns (x * 2))
    (λ x. mul_mod 128 ghash_modulus (sum_of_columns columns x) (sum_of_columns columns 2)) 127

module _ (n : ℕ) (f : ℕ → ℕ) (is_f : IsPowerMap n f) where
  -- such a map takes each power of x to its value at the power before times its value at x
  value_above : (i : ℕ) → suc i < 128 → f (2 ^ i * 2) ≡ mul_mod 128 ghash_modulus (f (2 ^ i)) (f 2)
  value_above i less =
      is_f.1 (2 ^ i * 2) above
      ∙ ap (squared n) (sym (times_x (2 ^ i) below above))
      ∙ repeated_square_times 128 1 (mul_mod 128 ghash_modulus) ring n (2 ^ i) 2
      ∙ sym (ap₂ (mul_mod 128 ghash_modulus) (is_f.1 (2 ^ i) below) (is_f.1 2 (lit< tt)))
    where
      below : 2 ^ i < 2 ^ 128
      below = pow_below i 128 (omega (arith, less))

      above : 2 ^ i * 2 < 2 ^ 128
      above = subst (λ (z : ℕ). z < 2 ^ 128) (next_power i) (pow_below (suc i) 128 less)

  module _ (columns : List ℕ) (at_1 : sum_of_columns columns 1 ≡ f 1) (at_x : sum_of_columns columns 2 ≡ f 2)
      (steps : goes_by_x columns ≡ true) where
    -- columns that have its values at 1 and at x, and from each power of x to the next the product by that at x, have its values
    at_power : (i : ℕ) → i < 128 → sum_of_columns columns (2 ^ i) ≡ f (2 ^ i)
    at_power zero less = at_1
    at_power (suc i) less =
        ap (sum_of_columns columns) (next_power i)
        ∙ agree_on_powers-true (λ x. sum_of_columns columns (x * 2))
        (λ x. mul_mod 128 ghash_modulus (sum_of_columns columns x) (sum_of_columns columns 2)) 127 steps i (omega (arith, less))
        ∙ ap₂ (mul_mod 128 ghash_modulus) (at_power i (omega (arith, less))) at_x
        ∙ sym (value_above i less)
        ∙ ap f (sym (next_power i))

    -- so they give it
    by_columns : IsPowerMap n (sum_of_columns columns)
    by_columns = (
      sum_of_columns-sum columns,
      λ x fits. maps_agree (sum_of_columns columns) f (sum_of_columns-sum columns) is_f.0 128 at_power x fits ∙ is_f.1 x fits,
    )

-- seven squarings
abbrev by_7 : ℕ → ℕ
by_7 x = square (square (square (square (square (square (square x))))))

-- 28 squarings, by the code's columns
abbrev by_28 : ℕ → ℕ
by_28 = sum_of_columns SQUARED_28_TIMES

-- the columns for 28 squarings at 1 and at x, and from each power of x to the next (computed)
begins_28 : (sum_of_columns SQUARED_28_TIMES 1 ≡ by_7 (by_7 (by_7 (by_7 1))))
    × (sum_of_columns SQUARED_28_TIMES 2 ≡ by_7 (by_7 (by_7 (by_7 2))))
unfolding sum_of_columns square mul_mod rem rem_in carryless carryless_in
begins_28 = (refl, refl)

steps_28 : goes_by_x SQUARED_28_TIMES ≡ true
unfolding sum_of_columns mul_mod rem rem_in carryless carryless_in
steps_28 = refl

-- `begins_28` and `steps_28` for 63 squarings, which are 28 and 28 and 7 (computed)
begins_63 : (sum_of_columns SQUARED_63_TIMES 1 ≡ by_28 (by_28 (by_7 1))) × (sum_of_columns SQUARED_63_TIMES 2 ≡ by_28 (by_28 (by_7 2)))
unfolding sum_of_columns square mul_mod rem rem_in carryless carryless_in
begins_63 = (refl, refl)

steps_63 : goes_by_x SQUARED_63_TIMES ≡ true
unfolding sum_of_columns mul_mod rem rem_in carryless carryless_in
steps_63 = refl

-- one squaring more
once_more : (n : ℕ) (f : ℕ → ℕ) → IsPowerMap n f → IsPowerMap (1 + n) (λ x. square (f x))
once_more n f is_f = composed 1 n square f once is_f

-- seven squares are the map of 7 squarings
map_7 : IsPowerMap 7 by_7
map_7 =
    once_more 6 _ (once_more 5 _ (once_more 4 _ (once_more 3 _ (once_more 2 _ (once_more 1 _ once)))))

-- the columns for 28 squarings give the map of 28 squarings
map_28 : IsPowerMap 28 by_28
map_28 =
    by_columns 28 (λ x. by_7 (by_7 (by_7 (by_7 x))))
    (composed 7 21 by_7 (λ x. by_7 (by_7 (by_7 x))) map_7
    (composed 7 14 by_7 (λ x. by_7 (by_7 x)) map_7 (composed 7 7 by_7 by_7 map_7 map_7)))
    SQUARED_28_TIMES begins_28.0 begins_28.1 steps_28

-- the columns for 63 squarings give the map of 63 squarings
map_63 : IsPowerMap 63 (sum_of_columns SQUARED_63_TIMES)
map_63 =
    by_columns 63 (λ x. by_28 (by_28 (by_7 x)))
    (composed 28 35 by_28 (λ x. by_28 (by_7 x)) map_28 (composed 28 7 by_28 by_7 map_28 map_7))
    SQUARED_63_TIMES begins_63.0 begins_63.1 steps_63

-- as the code calls them
pub times_28 : (x : ℕ) → x < 2 ^ 128 → linear_image SQUARED_28_TIMES x ≡ squared 28 x
times_28 x fits = linear_image-columns SQUARED_28_TIMES x ∙ map_28.1 x fits

-- 63 squarings as the code computes them
pub times_63 : (x : ℕ) → x < 2 ^ 128 → linear_image SQUARED_63_TIMES x ≡ squared 63 x
times_63 x fits = linear_image-columns SQUARED_63_TIMES x ∙ map_63.1 x fits
