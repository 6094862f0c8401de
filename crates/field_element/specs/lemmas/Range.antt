-- What numbers are below a power of two.
use Rattle.std.specs.Prelude.{◌≡◌, ℕ, ◌%◌, ◌^◌, ◌<◌, ◌≤◌}
use Rattle.std.proofs.Common.{arith, ◌∙◌}
use Rattle.std.proofs.Math.Pow.{pow_mono}
use Rattle.std.proofs.lemmas.Nat.{pow_below}
use native.Mathlib.Nat.{mod-eq_of_lt, mod-le}

-- 0 is an element
pub zero_in_range : (width n : ℕ) → n ≡ 0 → 0 < width → n < 2 ^ width
zero_in_range width n is wide = let one = pow_below 0 width wide in omega (arith, is, one)

-- 1 is an element
pub one_in_range : (width n : ℕ) → n ≡ 1 → 0 < width → n < 2 ^ width
one_in_range width n is wide = let one = pow_below 0 width wide in omega (arith, is, one)

-- the word of a number of the field is one of its elements, whatever the word's bits are
pub word_in_range : (width bits n a : ℕ) → n ≡ a % 2 ^ bits → a < 2 ^ width → n < 2 ^ width
word_in_range width bits n a is fits =
    let less : a % 2 ^ bits ≤ a = mod-le a (2 ^ bits) in omega (arith, is, fits, less)

-- and where the word has the bits of the field, its number is that number
pub word_number : (width bits n a : ℕ) → n ≡ a % 2 ^ bits → a < 2 ^ width → width ≤ bits → n ≡ a
word_number width bits n a is fits room =
    let more : 2 ^ width ≤ 2 ^ bits = pow_mono {i = width} {j = bits} room in
    is ∙ mod-eq_of_lt (omega (arith, fits, more))

-- both, of the word that `of_number` makes of a number
module _ {R : Type 0} (width bits : ℕ) (number : R → ℕ) (of_number : ℕ → R) (law : (n : ℕ) → number (of_number n) ≡ n % 2 ^ bits) where
  -- the word of a number of the field is one of its elements
  pub stored_in_range : (a : ℕ) → a < 2 ^ width → number (of_number a) < 2 ^ width
  stored_in_range a fits = word_in_range width bits (number (of_number a)) a (law a) fits

  -- and where the word has the bits of the field, its number is that number
  pub number_of_stored : width ≤ bits → (a : ℕ) → a < 2 ^ width → number (of_number a) ≡ a
  number_of_stored room a fits = word_number width bits (number (of_number a)) a (law a) fits room
