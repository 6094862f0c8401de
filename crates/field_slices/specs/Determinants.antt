-- Determinants of square matrices over a field of characteristic two (K. Hoffman and R. Kunze, Linear Algebra, chapter 5). A matrix is
-- the function of its entries, as in Matrices.antt. -1 is 1, so that no term has a sign.
use Rattle.std.specs.Prelude.{◌≡◌, ◌≢◌, ℕ, zero, suc, ◌+◌, ◌^◌, ◌<◌, nat_lt, if◌then◌else◌}
use Rattle.field_base.specs.Basis.{sum_below}
use Rattle.field_base.specs.Field.{IsField}
use Rattle.field_slices.specs.Matrices.{AreInverseMatrices, IsMatrixProduct, identity_entry}

-- the place of what stands at place n after place i was left out
abbrev pub place_without : ℕ → ℕ → ℕ
place_without i n = if nat_lt n i then n else suc n

-- the entries of a matrix without row i and column 0
abbrev pub minor_entry : ℕ → (ℕ → ℕ → ℕ) → ℕ → ℕ → ℕ
minor_entry i A r c = A (place_without i r) (suc c)

-- the determinant of a matrix of n rows and columns, by Laplace's expansion along column 0: the sum over i of A i 0 times the determinant
-- of the matrix without row i and column 0; 1 for no rows (Hoffman and Kunze, section 5.2)
unfoldable pub determinant_of : (ℕ → ℕ → ℕ) → ℕ → (ℕ → ℕ → ℕ) → ℕ
determinant_of times zero A = 1
determinant_of times (suc n) A = sum_below (λ i. times (A i 0) (determinant_of times n (minor_entry i A))) (suc n)

-- the entries of a matrix from row and column `first` on
abbrev pub corner_entry : ℕ → (ℕ → ℕ → ℕ) → ℕ → ℕ → ℕ
corner_entry first A i j = A (first + i) (first + j)

-- the determinant of a product of square matrices is the product of theirs (Hoffman and Kunze, section 5.3, theorem 3)
abbrev pub DeterminantsMultiply : Type 0
DeterminantsMultiply = (width : ℕ) (times : ℕ → ℕ → ℕ) (n : ℕ) (A B C : ℕ → ℕ → ℕ) → 0 < width → IsField width times
    → ((i j : ℕ) → A i j < 2 ^ width) → IsMatrixProduct times n n n A B C
    → determinant_of times n C ≡ times (determinant_of times n A) (determinant_of times n B)

-- the matrices with an inverse are those whose determinant is not 0 (Hoffman and Kunze, section 5.4, theorem 4); where it is 0, none is an
-- inverse from the left
abbrev pub DeterminantTellsInverses : Type 0
DeterminantTellsInverses = (width : ℕ) (times : ℕ → ℕ → ℕ) (n : ℕ) (A : ℕ → ℕ → ℕ) → 0 < width → IsField width times
    → ((i j : ℕ) → A i j < 2 ^ width)
    → (determinant_of times n A ≢ 0 → (B : ℕ → ℕ → ℕ) × AreInverseMatrices times n A B)
    × (determinant_of times n A ≡ 0 → (B : ℕ → ℕ → ℕ) → IsMatrixProduct times n n n B A identity_entry → ⊥)
