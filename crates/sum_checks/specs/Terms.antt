-- Sums over the cube {0, 1}^n of sums of products of multilinear polynomials (C. Lund, L. Fortnow, H. Karloff and N. Nisan, Algebraic
-- methods for interactive proof systems, 1992; J. Thaler, Proofs, Arguments, and Zero-Knowledge, section 4.1). So many polynomials are
-- given by a list of rows: row i has their values at corner i, so that value `i * count + j` is that of polynomial j at corner i. A
-- sum is `bit_xor`, and `times` the product of a ring.
use Rattle.std.specs.Prelude.{◌≡◌, ℕ, ◌+◌, ◌*◌, ◌^◌, ◌<◌, ◌≤◌, List, [], ◌∷◌, length, max, slice_index, bit_xor}
use Rattle.field_base.specs.Basis.{product_below, sum_below}
use Rattle.field_slices.specs.Multilinear.{eq_corner, folded}

-- a product of polynomials with a coefficient, by the numbers of the polynomials
pub record Product : Type 0 where
  pub coefficient : ℕ
  pub factors : List ℕ

-- its value where polynomial j has the value `row j`
abbrev pub product_value : (ℕ → ℕ → ℕ) → (ℕ → ℕ) → Product → ℕ
product_value times row term = times term.coefficient (product_below times (λ k. row (slice_index term.factors k)) (length term.factors))

-- and that of a sum of products
unfoldable pub terms_value : (ℕ → ℕ → ℕ) → List Product → (ℕ → ℕ) → ℕ
terms_value times [] row = 0
terms_value times (term ∷ terms) row = bit_xor (product_value times row term) (terms_value times terms row)

-- the most factors of a term, and 1 where there are none
unfoldable pub degree_of : List Product → ℕ
degree_of [] = 1
degree_of (term ∷ terms) = max (length term.factors) (degree_of terms)

-- no term has more than so many factors
unfoldable pub HaveFactors : ℕ → List Product → Type 0
HaveFactors d [] = Unit {0}
HaveFactors d (term ∷ terms) = (length term.factors ≤ d) × HaveFactors d terms

-- each factor of a term is the number of one of so many polynomials
abbrev pub FactorsAreWithin : ℕ → Product → Type 0
FactorsAreWithin count term = (k : ℕ) → k < length term.factors → slice_index term.factors k < count

-- .. and so is each factor of terms
unfoldable pub AreWithin : ℕ → List Product → Type 0
AreWithin count [] = Unit {0}
AreWithin count (term ∷ terms) = FactorsAreWithin count term × AreWithin count terms

-- each term has two factors
unfoldable pub ArePairs : List Product → Type 0
ArePairs [] = Unit {0}
ArePairs (term ∷ terms) = (length term.factors ≡ 2) × ArePairs terms

-- value j of row i, where a row has so many values
abbrev pub row_entry : ℕ → List ℕ → ℕ → ℕ → ℕ
row_entry count values i j = slice_index values (i * count + j)

-- the product at row i of the polynomials of these numbers
abbrev pub row_product : (ℕ → ℕ → ℕ) → ℕ → List ℕ → List ℕ → ℕ → ℕ
row_product times count values factors i =
    product_below times (λ k. row_entry count values i (slice_index factors k)) (length factors)

-- the sum of a sum of products over so many rows
abbrev pub rows_sum : (ℕ → ℕ → ℕ) → List Product → ℕ → ℕ → List ℕ → ℕ
rows_sum times terms count rows values = sum_below (λ i. terms_value times terms (row_entry count values i)) rows

-- .. over the corners of the cube of n coordinates
abbrev pub cube_sum : (ℕ → ℕ → ℕ) → List Product → ℕ → ℕ → List ℕ → ℕ
cube_sum times terms count n values = rows_sum times terms count (2 ^ n) values

-- the value of polynomial j at a point: the sum over the corners of its value there times eq(point, corner)
abbrev pub table_value : (ℕ → ℕ → ℕ) → ℕ → List ℕ → List ℕ → ℕ → ℕ
table_value times count values point j =
    sum_below (λ i. times (slice_index values (i * count + j)) (eq_corner times point i)) (2 ^ length point)

-- a round's polynomial, as an honest prover has it, at x: the sum over the n other coordinates where the first one is x
abbrev pub honest_at : (ℕ → ℕ → ℕ) → List Product → ℕ → ℕ → List ℕ → ℕ → ℕ
honest_at times terms count n values x = cube_sum times terms count n (folded times x values)
