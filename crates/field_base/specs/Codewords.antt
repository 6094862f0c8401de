-- Reed-Solomon codes (I. S. Reed and G. Solomon, Polynomial codes over certain finite fields, 1960): a codeword is the list of
-- values of a polynomial at different points, and k coefficients carry k symbols of data. Here point i is the element whose
-- number is i, and the first k symbols are the data (J. S. Plank, A tutorial on Reed-Solomon coding for fault-tolerance in
-- RAID-like systems, 1997).
use Rattle.std.specs.Prelude.{◌≡◌, ℕ, ◌^◌, ◌<◌, ◌≤◌, List, length}
use Rattle.field_base.specs.Field.{IsField}
use Rattle.field_base.specs.Powers.{value_of}
use Rattle.field_base.specs.Interpolation.{interpolated}
use Rattle.field_base.specs.PolynomialRoots.{AreDistinctBelow}

-- the numbers `symbol i` with i < total are the values at 0, 1, .., total - 1 of a polynomial of k coefficients
pub record IsCodeword (times : ℕ → ℕ → ℕ) (k total : ℕ) (symbol : ℕ → ℕ) : Type 0 where
  pub coefficients : List ℕ
  pub count : length coefficients ≡ k
  pub values : (i : ℕ) → i < total → symbol i ≡ value_of 1 times (λ c. c) coefficients i

-- two codewords that agree at k different places agree everywhere
abbrev pub CodewordIsUnique : Type 0
CodewordIsUnique = (width : ℕ) (times : ℕ → ℕ → ℕ) (k total : ℕ) (place : ℕ → ℕ) (a b : ℕ → ℕ)
    → 0 < width → IsField width times → total ≤ 2 ^ width → AreDistinctBelow k total place
    → IsCodeword times k total a → IsCodeword times k total b
    → ((i : ℕ) → i < k → a (place i) ≡ b (place i))
    → (i : ℕ) → i < total → a i ≡ b i

-- any k symbols at k different places are those of a codeword, which Lagrange's formula gives
abbrev pub CodewordExists : Type 0
CodewordExists = (width : ℕ) (times : ℕ → ℕ → ℕ) (k total : ℕ) (place symbol : ℕ → ℕ)
    → 0 < width → IsField width times → total ≤ 2 ^ width → AreDistinctBelow k total place
    → ((i : ℕ) → i < k → symbol i < 2 ^ width)
    → IsCodeword times k total (interpolated width times place symbol k)
    × ((i : ℕ) → i < k → interpolated width times place symbol k (place i) ≡ symbol i)
