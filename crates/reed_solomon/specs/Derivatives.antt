-- Derivatives of polynomials in the basis of the products of the s_j (S.-J. Lin, W.-H. Chung and Y. S. Han, Novel polynomial basis and its
-- application to Reed-Solomon erasure codes, 2014): each s_j has the derivative 1, so that the derivative of a product of some of them is the
-- sum of the products of all but one.
use Rattle.std.specs.Prelude.{ℕ, zero, suc, ◌+◌, ◌-◌, ◌^◌, if◌then◌else◌, nat_lt, bit_xor}

-- coefficient k of the derivative of the polynomial with 2 ^ n coefficients c: the sum of the coefficients k + 2 ^ j over the bits j below n
-- that are clear in k. The lower half of the derivative has that of the lower coefficients, and the upper ones, which lose s_(n - 1); its upper
-- half has that of the upper coefficients.
unfoldable pub derived : ℕ → (ℕ → ℕ) → ℕ → ℕ
derived zero c k = 0
derived (suc n) c k = if nat_lt k (2 ^ n) then bit_xor (derived n c k) (c (2 ^ n + k)) else derived n (λ i. c (2 ^ n + i)) (k - 2 ^ n)
