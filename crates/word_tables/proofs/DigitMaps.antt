-- The sum of the values of a linear map at the digits of a number to base 16 is its value at the number.
use Rattle.std.proofs.Common.{◌≡◌, ℕ, zero, suc, ◌+◌, ◌-◌, ◌*◌, ◌/◌, ◌%◌, ◌^◌, ◌<◌, ◌≤◌, List, length, sym, ◌∙◌, ap, ap₂, arith, lit<}
use Rattle.std.specs.Prelude.{bit_xor, slice_index}
use Rattle.std.proofs.Math.Pow.{field, mod-mod-pow, shr-shr}
use Rattle.std.proofs.lemmas.Nat.{xor_comm, pow_pos, mod-pow-add}
use native.Mathlib.Nat.{mod-lt, zero-add}
use lib.Bits.{xor_assoc, xor_shifted, xor_zero_r}
use Rattle.field_base.specs.LinearMaps.{linear_image}
use Rattle.field_base.proofs.AdditiveMaps.{keeps_zero}
use Rattle.field_base.proofs.BasisColumns.{sum_of_columns, sum_of_columns-mod}
use Rattle.field_base.proofs.LinearMapLemmas.{linear_image-columns, the_linear_map}
use Rattle.word_tables.specs.LinearMap.{sum_of_values}
use Rattle.word_tables.proofs.TabledMaps.{Hold, digit_value}

-- place 16 i + d of a table is that of the digit d
digit_of_place : (i d : ℕ) → d < 16 → (16 * i + d) % 16 ≡ d
digit_of_place i d small = omega arith

-- place 16 i + d of a table is in row i
row_of_place : (i d : ℕ) → d < 16 → (16 * i + d) / 16 ≡ i
row_of_place i d small = omega arith

-- the values at the low n digits are the map there
pub sum_of_values_is : (images values : List ℕ) (n x : ℕ) → Hold (digit_value images) (16 * n) values
    → sum_of_values n values x ≡ linear_image images (x % 2 ^ (4 * n))
unfolding sum_of_values
sum_of_values_is images values zero x held =
    let nothing : 0 ≡ x % 1 = omega arith in
    sym (keeps_zero (linear_image images) (the_linear_map images).of_sum) ∙ ap (linear_image images) nothing
sum_of_values_is images values (suc n) x held =
    let digit = x / 2 ^ (4 * n) % 16 in
    let small : digit < 16 = mod-lt (x / 2 ^ (4 * n)) (lit< tt) in
    let inside : 16 * n + digit < 16 * suc n = omega (arith, small) in
    let rest : x % 2 ^ (4 * n) < 2 ^ (4 * n) = mod-lt x (pow_pos (4 * n)) in
    let bits : 4 + 4 * n ≡ 4 * suc n = omega arith in
    ap₂ bit_xor
    (sum_of_values_is images values n x (λ p below. let within : p < 16 * suc n = omega arith in held p within))
    (held (16 * n + digit) inside
    ∙ ap₂ (λ (d i : ℕ). linear_image images (d * 2 ^ (4 * i))) (digit_of_place n digit small) (row_of_place n digit small))
    ∙ sym ((the_linear_map images).of_sum (x % 2 ^ (4 * n)) (digit * 2 ^ (4 * n)))
    ∙ ap (linear_image images) (xor_comm (x % 2 ^ (4 * n)) (digit * 2 ^ (4 * n)) ∙ xor_shifted digit (4 * n) (x % 2 ^ (4 * n)) rest
    ∙ sym (mod-pow-add x 4 (4 * n)) ∙ ap (λ (k : ℕ). x % 2 ^ k) bits)

-- the sum of the values at all 32 digits is the map of the images
pub values_give_map : (images values : List ℕ) → length images ≡ 128 → Hold (digit_value images) 512 values → (x : ℕ)
    → sum_of_values 32 values x ≡ linear_image images x
values_give_map images values whole held x =
    sum_of_values_is images values 32 x held
    ∙ linear_image-columns images (x % 2 ^ 128)
    ∙ ap (λ (n : ℕ). sum_of_columns images (x % 2 ^ n)) (sym whole)
    ∙ sum_of_columns-mod images x ∙ sym (linear_image-columns images x)

-- a digit of the 64 bits of x from digit `first` on is a digit of x
digit_in_word : (first i x : ℕ) → i < 16 → x / 2 ^ (4 * first) % 2 ^ 64 / 2 ^ (4 * i) % 16 ≡ x / 2 ^ (4 * (first + i)) % 16
digit_in_word first i x within =
    let y : ℕ = x / 2 ^ (4 * first) in
    let above : 64 ≡ 60 - 4 * i + 4 + 4 * i = omega (arith, within) in
    let places : 4 * first + 4 * i ≡ 4 * (first + i) = omega arith in
    ap (λ (n : ℕ). y % 2 ^ n / 2 ^ (4 * i) % 16) above
    ∙ ap (λ (n : ℕ). n % 16) (field y (60 - 4 * i + 4) (4 * i))
    ∙ mod-mod-pow (y / 2 ^ (4 * i)) (60 - 4 * i) 4
    ∙ ap (λ (n : ℕ). n % 16) (shr-shr x (4 * first) (4 * i) ∙ ap (λ (n : ℕ). x / 2 ^ n) places)

-- the loop over these digits begins with nothing beside the values at the digits before
pub sum_from_none : (first : ℕ) (values : List ℕ) (x : ℕ) → bit_xor (sum_of_values first values x) 0 ≡ sum_of_values (first + 0) values x
sum_from_none first values x =
    let none : first ≡ first + 0 = omega arith in
    xor_zero_r (sum_of_values first values x) ∙ ap (λ (n : ℕ). sum_of_values n values x) none

-- and each digit adds its value
pub sum_from_more : (first i : ℕ) (values : List ℕ) (x sum : ℕ) → i < 16
    → bit_xor (sum_of_values first values x) sum ≡ sum_of_values (first + i) values x
    → bit_xor (sum_of_values first values x)
    (bit_xor sum (slice_index values (16 * (first + i) + x / 2 ^ (4 * first) % 2 ^ 64 / 2 ^ (4 * i) % 16)))
    ≡ sum_of_values (first + (i + 1)) values x
unfolding sum_of_values
sum_from_more first i values x sum within so_far =
    let next : suc (first + i) ≡ first + (i + 1) = omega arith in
    sym (xor_assoc (sum_of_values first values x) sum _)
    ∙ ap₂ (λ (s d : ℕ). bit_xor s (slice_index values (16 * (first + i) + d))) so_far (digit_in_word first i x within)
    ∙ ap (λ (k : ℕ). sum_of_values k values x) next

-- the digits lie in one word of 64 bits
pub sum_in_one_word : (digits : ℕ) (values : List ℕ) (x low : ℕ) → bit_xor (sum_of_values 0 values x) low ≡ sum_of_values (0 + digits) values x
    → low ≡ sum_of_values digits values x
unfolding sum_of_values
sum_in_one_word digits values x low is = is ∙ ap (λ (n : ℕ). sum_of_values n values x) (zero-add digits)

-- or in two
pub sum_in_two_words : (digits : ℕ) (values : List ℕ) (x low high : ℕ) → 16 ≤ digits
    → bit_xor (sum_of_values 0 values x) low ≡ sum_of_values (0 + 16) values x
    → bit_xor (sum_of_values 16 values x) high ≡ sum_of_values (16 + (digits - 16)) values x
    → bit_xor low high ≡ sum_of_values digits values x
sum_in_two_words digits values x low high many is_low is_high =
    let whole : 16 + (digits - 16) ≡ digits = omega (arith, many) in
    ap (λ (s : ℕ). bit_xor s high) (sum_in_one_word 16 values x low is_low) ∙ is_high ∙ ap (λ (n : ℕ). sum_of_values n values x) whole
