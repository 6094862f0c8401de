-- Products of bytes as sums of products of bits: a bilinear algorithm (P. Bürgisser, M. Clausen and M. A. Shokrollahi, Algebraic Complexity
-- Theory, section 14.1). So products of matrices of bytes are sums of products of matrices over GF(2) (M. Albrecht, The M4RIE library for
-- dense linear algebra over small fields with even characteristic, ISSAC 2012).
use Rattle.std.specs.Prelude.{◌≡◌, ◌⊎◌, ℕ, ◌+◌, ◌*◌, ◌<◌, ◌≤◌, List, bit_xor, get_or, if◌then◌else◌, length, nat_lt, slice_index}
use Rattle.std.specs.Int.{bit_at}
use Rattle.field_base.specs.Basis.{sum_below}

-- the sum of those bits of a byte that a mask has
abbrev pub masked_sum : ℕ → ℕ → ℕ
masked_sum mask x = sum_below (λ j. bit_at x j * bit_at mask j) 8

-- of pairs of a mask and a weight, the sum of the weights at whose masks the sums of both bytes are 1
abbrev pub bilinear_product : List (ℕ × ℕ) → ℕ → ℕ → ℕ
bilinear_product forms x y =
    sum_below (λ t. (get_or forms t (0, 0)).1 * (masked_sum (get_or forms t (0, 0)).0 x * masked_sum (get_or forms t (0, 0)).0 y))
    (length forms)

-- ---- what functions need and leave

-- entry (i, j) of a block of a matrix of `width` columns that begins in this row and column, and 0 behind its last column
abbrev pub block_entry : ℕ → List ℕ → ℕ → ℕ → ℕ → ℕ → ℕ → ℕ
block_entry width values row column columns i j =
    if nat_lt j columns then slice_index values ((row + i) * width + column + j) else 0

-- a matrix of `width` columns in a list of so many places has a block of these rows and columns, which is not empty
pub record HasByteBlock (width row rows column columns len : ℕ) : Type 0 where
  pub some : 0 < columns
  pub across : column + columns ≤ width
  pub down : (row + rows) * width ≤ len

-- words from place `first` on have these bits, and the others are as they were
pub record AreBitsWritten (first count : ℕ) (wanted : ℕ → ℕ → ℕ) (old now : List ℕ) : Type 0 where
  pub shape : length now ≡ length old
  pub written : (w b : ℕ) → w < count → b < 64 → bit_at (slice_index now (first + w)) b ≡ wanted w b
  pub others : (p : ℕ) → (p < first) ⊎ (first + count ≤ p) → slice_index now p ≡ slice_index old p

-- to the entries of a block these were added, and the others are as they were
pub record IsBlockAdded (width row rows column columns : ℕ) (sums : ℕ → ℕ → ℕ) (old now : List ℕ) : Type 0 where
  pub shape : length now ≡ length old
  pub added : (i j : ℕ) → row ≤ i → i < row + rows → column ≤ j → j < column + columns
      → slice_index now (i * width + j) ≡ bit_xor (slice_index old (i * width + j)) (sums i j)
  pub others : (i j : ℕ) → j < width → (i < row) ⊎ (row + rows ≤ i) ⊎ (j < column) ⊎ (column + columns ≤ j)
      → slice_index now (i * width + j) ≡ slice_index old (i * width + j)

-- entry (i, j) of the product of the masked sums of two matrices of bytes: of `inner` columns, and of `width` columns
abbrev pub sums_product : ℕ → ℕ → ℕ → List ℕ → List ℕ → ℕ → ℕ → ℕ
sums_product mask inner width left right i j =
    sum_below (λ k. masked_sum mask (slice_index left (i * inner + k)) * masked_sum mask (slice_index right (k * width + j))) inner
