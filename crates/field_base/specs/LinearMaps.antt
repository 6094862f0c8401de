-- Linear maps over GF(2). A number stands for the vector of its bits, and a linear map is given by the images of a basis, here
-- of the powers of two (the linear map lemma: S. Axler, Linear Algebra Done Right, chapter 3).
use Rattle.std.specs.Prelude.{◌≡◌, ℕ, ◌*◌, ◌^◌, ◌<◌, List, length, slice_index, bit_xor}
use Rattle.std.specs.Int.{bit_at}
use Rattle.field_base.specs.Basis.{sum_below}

-- the value at x of the linear map that takes 2 ^ j to entry j of `images`: the sum of the images at the set bits of x. Of a
-- number of more bits than there are images it reads as many.
unfoldable pub linear_image : List ℕ → ℕ → ℕ
linear_image images x = sum_below (λ j. bit_at x j * slice_index images j) (length images)

-- it keeps sums and takes each bit to its image, and no other map of numbers of as many bits does
pub record IsTheLinearMapOf (images : List ℕ) (f : ℕ → ℕ) : Type 0 where
  pub of_sum : (a b : ℕ) → f (bit_xor a b) ≡ bit_xor (f a) (f b)
  pub of_bit : (j : ℕ) → j < length images → f (2 ^ j) ≡ slice_index images j
  pub only : (g : ℕ → ℕ) → ((a b : ℕ) → g (bit_xor a b) ≡ bit_xor (g a) (g b))
      → ((j : ℕ) → j < length images → g (2 ^ j) ≡ slice_index images j) → (x : ℕ) → x < 2 ^ length images → g x ≡ f x
