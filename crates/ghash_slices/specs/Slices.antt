-- Butterflies over two slices of equal length, with products of polynomials modulo x^128 + x^7 + x^2 + x + 1: one step of an
-- additive transform (S. Gao and T. Mateer, Additive fast Fourier transforms over finite fields, IEEE Transactions on
-- Information Theory 56, 2010). A slice is the list of its values; a sum is `bit_xor`.
use Rattle.std.specs.Prelude.{◌≡◌, ℕ, List, length, bit_xor}
use Rattle.std.specs.Simd.Lanes.{zip2}
use Rattle.ghash_slices.specs.LowStages.{ghash_product}
use Rattle.ghash_slices.specs.Stages.{add_multiple}

-- the forward butterfly at each index: lo' = lo + scalar * hi, then hi' = hi + lo'
pub record IsForward (scalar : ℕ) (lo hi lo' hi' : List ℕ) : Type 0 where
  pub low : lo' ≡ zip2 (add_multiple ghash_product scalar) lo hi
  pub high : hi' ≡ zip2 bit_xor hi lo'

-- the inverse butterfly, the steps of `IsForward` in reverse: hi' = hi + lo, then lo' = lo + scalar * hi'
pub record IsInverse (scalar : ℕ) (lo hi lo' hi' : List ℕ) : Type 0 where
  pub high : hi' ≡ zip2 bit_xor hi lo
  pub low : lo' ≡ zip2 (add_multiple ghash_product scalar) lo hi'

-- the inverse after the forward with the same scalar restores both slices, whatever their length is
abbrev pub ButterfliesRestore : Type 0
ButterfliesRestore =
    (scalar : ℕ) (lo hi lo' hi' lo'' hi'' : List ℕ) → length lo ≡ length hi
    → IsForward scalar lo hi lo' hi' → IsInverse scalar lo' hi' lo'' hi'' → (lo'' ≡ lo) × (hi'' ≡ hi)
