-- Values of polynomials at the points that the Cantor vectors span (D. G. Cantor, On arithmetical algorithms over finite
-- fields, Journal of Combinatorial Theory A 50, 1989). A polynomial is given by its coefficients in the basis of the products
-- of the s_j (S.-J. Lin, W.-H. Chung and Y. S. Han, Novel polynomial basis and its application to Reed-Solomon erasure codes,
-- 2014). A sum is `bit_xor`.
use Rattle.std.specs.Prelude.{◌≡◌, ℕ, zero, suc, ◌-◌, ◌*◌, ◌^◌, ◌<◌, ◌≤◌, List, length, slice_index, bit_xor}
use Rattle.std.specs.Int.{bit_at}
use Rattle.field_base.specs.Basis.{sum_below}
use Rattle.field_base.specs.Orders.{AreCantorVectors}
use Rattle.field_base.specs.Ring.{IsRing}
use Rattle.ghash_slices.specs.Stages.{factor, sum_of_factors}

-- s_j(x): s_0(x) = x, and s_(j + 1)(x) = s_j(x)² + s_j(x)
unfoldable pub subspace_value : (ℕ → ℕ → ℕ) → ℕ → ℕ → ℕ
subspace_value times zero x = x
subspace_value times (suc j) x = bit_xor (times (subspace_value times j x) (subspace_value times j x)) (subspace_value times j x)

-- the value at x of the polynomial with the coefficients c: the sum over k below 2 ^ n of c k times the product of the
-- s_j(x) over the set bits j of k
unfoldable pub polynomial_value : (ℕ → ℕ → ℕ) → ℕ → (ℕ → ℕ) → ℕ → ℕ
polynomial_value times n c x = sum_of_factors times (λ j. subspace_value times j x) n c

-- point p: z, and vector b for each set bit b of p, of the `count` lowest bits
unfoldable pub point : ℕ → (ℕ → ℕ) → ℕ → ℕ → ℕ
point count vector z p = bit_xor z (sum_below (λ b. bit_at p b * vector b) count)

-- the twiddles for those points: shift j is s_j(z) for each stage j below n, and element t of the basis is vector t + 1
pub record AreCantorTwiddles (width : ℕ) (times : ℕ → ℕ → ℕ) (vector : ℕ → ℕ) (z n : ℕ) (shifts basis : List ℕ) : Type 0 where
  pub stages_fit : n ≤ width
  pub basis_fits : length basis < width
  pub shifts_are : (j : ℕ) → j < n → slice_index shifts j ≡ subspace_value times j z
  pub basis_is : (t : ℕ) → t < length basis → slice_index basis t ≡ vector (suc t)

-- each s_j keeps sums and takes vector b to vector b - j, and to 0 where b is below j
pub record SubspaceValues (width : ℕ) (times : ℕ → ℕ → ℕ) (vector : ℕ → ℕ) : Type 0 where
  pub of_sum : (j x y : ℕ) → subspace_value times j (bit_xor x y) ≡ bit_xor (subspace_value times j x) (subspace_value times j y)
  pub of_vector : (j b : ℕ) → j ≤ b → b < width → subspace_value times j (vector b) ≡ vector (b - j)
  pub of_lower_vector : (j b : ℕ) → b < j → b < width → subspace_value times j (vector b) ≡ 0

-- that holds in every ring with Cantor vectors
abbrev pub CantorVectorsStepDown : Type 0
CantorVectorsStepDown =
    (width : ℕ) (times : ℕ → ℕ → ℕ) (vector : ℕ → ℕ) → 0 < width → IsRing width 1 times
    → AreCantorVectors width times vector → SubspaceValues width times vector

-- points of numbers below 2 ^ width are the same only where the numbers are
abbrev pub ArePointsDistinct : ℕ → (ℕ → ℕ) → Type 0
ArePointsDistinct width vector =
    (z p q : ℕ) → p < 2 ^ width → q < 2 ^ width → point width vector z p ≡ point width vector z q → p ≡ q

-- that holds in every ring with Cantor vectors, so that no sum of some of them is 0
abbrev pub PointsAreDistinct : Type 0
PointsAreDistinct =
    (width : ℕ) (times : ℕ → ℕ → ℕ) (vector : ℕ → ℕ) → 0 < width → IsRing width 1 times
    → AreCantorVectors width times vector → ArePointsDistinct width vector

-- with the twiddles for those points the factor of stage j at place p is s_j at point p
abbrev pub FactorsAreSubspaceValues : Type 0
FactorsAreSubspaceValues =
    (width : ℕ) (times : ℕ → ℕ → ℕ) (vector : ℕ → ℕ) → 0 < width → IsRing width 1 times
    → AreCantorVectors width times vector → (z n : ℕ) (shifts basis : List ℕ)
    → AreCantorTwiddles width times vector z n shifts basis → (j p : ℕ) → j < n → p < 2 ^ suc (length basis)
    → factor shifts basis j p ≡ subspace_value times j (point width vector z p)

-- so the sum that the stages leave at place p is the value of the polynomial at point p
abbrev pub SumsAreValues : Type 0
SumsAreValues =
    (width : ℕ) (times : ℕ → ℕ → ℕ) (vector : ℕ → ℕ) → 0 < width → IsRing width 1 times
    → AreCantorVectors width times vector → (z n : ℕ) (shifts basis : List ℕ)
    → AreCantorTwiddles width times vector z n shifts basis → (c : ℕ → ℕ) (p : ℕ) → p < 2 ^ suc (length basis)
    → sum_of_factors times (λ j. factor shifts basis j p) n c ≡ polynomial_value times n c (point width vector z p)
