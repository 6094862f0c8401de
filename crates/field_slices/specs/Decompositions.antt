-- Matrices whose rows, in another order, are a product of triangular matrices (G. H. Golub and C. F. Van Loan, Matrix Computations, sections
-- 3.2 and 3.4). A matrix is the function of its entries, as in Matrices.antt.
use Rattle.std.specs.Prelude.{◌≡◌, ℕ, ◌<◌, ◌≤◌, ◌==◌, if◌then◌else◌, nat_lt}
use Rattle.field_slices.specs.Matrices.{IsMatrixProduct, identity_entry}

-- the matrix L of n rows and columns has 1 on its diagonal and 0 above it
abbrev pub IsUnitLower : ℕ → (ℕ → ℕ → ℕ) → Type 0
IsUnitLower n L = (i j : ℕ) → i ≤ j → j < n → L i j ≡ identity_entry i j

-- the first `count` columns of U, which has so many rows, are 0 below the diagonal
abbrev pub IsUpper : ℕ → ℕ → (ℕ → ℕ → ℕ) → Type 0
IsUpper rows count U = (i j : ℕ) → j < i → i < rows → j < count → U i j ≡ 0

-- row i of the product of L and U is row `place i` of A, of so many rows and columns: L is unit lower triangular, and from column `count` on
-- as the identity matrix, and the first `count` columns of U are upper triangular
pub record IsDecomposition (times : ℕ → ℕ → ℕ) (rows columns count : ℕ) (A : ℕ → ℕ → ℕ) (place : ℕ → ℕ) (L U : ℕ → ℕ → ℕ) : Type 0 where
  pub lower : IsUnitLower rows L
  pub rest : (i j : ℕ) → i < rows → count ≤ j → j < rows → L i j ≡ identity_entry i j
  pub upper : IsUpper rows count U
  pub product : IsMatrixProduct times rows rows columns L U (λ i j. A (place i) j)

-- the other of two numbers, and any further number itself
abbrev pub exchanged : ℕ → ℕ → ℕ → ℕ
exchanged first second i = if i == first then second else if i == second then first else i

-- entry (i, j) of a matrix after two rows exchanged their first `count` entries
abbrev pub exchanged_entry : ℕ → ℕ → ℕ → (ℕ → ℕ → ℕ) → ℕ → ℕ → ℕ
exchanged_entry first second count A i j = if nat_lt j count then A (exchanged first second i) j else A i j
