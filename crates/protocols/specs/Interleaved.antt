-- Interleaved Reed-Solomon codes: so many code words of one code, as the rows of a matrix, of which a column has the symbols at one place
-- (A. Krachkovsky and Y. X. Lee, Decoding for iterative Reed-Solomon coding schemes, 1997; S. Ames, C. Hazay, Y. Ishai and
-- M. Venkitasubramaniam, Ligero, 2017, section 4). A row is a list of symbols, as in CodeWords.antt.
use Rattle.std.specs.Prelude.{◌≡◌, ℕ, ◌+◌, ◌*◌, ◌^◌, ◌<◌, ◌≤◌, List, map, slice_index}
use Rattle.std.specs.List.{range_with_len}
use Rattle.field_base.specs.Basis.{sum_below}
use Rattle.field_base.specs.Field.{IsField}
use Rattle.field_base.specs.Orders.{AreCantorVectors}
use Rattle.field_base.specs.Ring.{IsRing}
use Rattle.field_base.specs.PolynomialRoots.{AreDistinctBelow}
use Rattle.protocols.specs.CodeWords.{IsCodeWordOf}

-- each of so many rows is a code word of 2 ^ r * 2 ^ k symbols for 2 ^ k coefficients
abbrev pub AreCodeWords : ℕ → (ℕ → ℕ → ℕ) → (ℕ → ℕ) → ℕ → ℕ → ℕ → (ℕ → List ℕ) → Type 0
AreCodeWords width times vector k r height row = (i : ℕ) → i < height → IsCodeWordOf width times vector k r (row i)

-- column p: symbol p of each row
abbrev pub symbols_at : ℕ → (ℕ → List ℕ) → ℕ → List ℕ
symbols_at height row p = map (λ i. slice_index (row i) p) (range_with_len 0 height)

-- the sum of the rows, each times its scalar, symbol by symbol
abbrev pub combination : (ℕ → ℕ → ℕ) → (ℕ → ℕ) → ℕ → ℕ → (ℕ → List ℕ) → List ℕ
combination times scalar height size row =
    map (λ p. sum_below (λ i. times (scalar i) (slice_index (row i) p)) height) (range_with_len 0 size)

-- two matrices of code words whose columns agree at 2 ^ k different places, as many as a message has symbols, are the same, row by row
abbrev pub ColumnsDetermine : Type 0
ColumnsDetermine =
    (width : ℕ) (times : ℕ → ℕ → ℕ) (vector : ℕ → ℕ) → 0 < width → IsField width times → AreCantorVectors width times vector
    → ((b : ℕ) → b < width → vector b < 2 ^ width)
    → (k r height : ℕ) (row other : ℕ → List ℕ) (place : ℕ → ℕ) → r + k ≤ width
    → AreCodeWords width times vector k r height row → AreCodeWords width times vector k r height other
    → AreDistinctBelow (2 ^ k) (2 ^ r * 2 ^ k) place
    → ((j : ℕ) → j < 2 ^ k → symbols_at height row (place j) ≡ symbols_at height other (place j))
    → (i : ℕ) → i < height → row i ≡ other i

-- the code is linear: the combination of code words by scalars is a code word
abbrev pub CombinationsAreCodeWords : Type 0
CombinationsAreCodeWords =
    (width : ℕ) (times : ℕ → ℕ → ℕ) (vector : ℕ → ℕ) → 0 < width → IsRing width 1 times
    → (k r height : ℕ) (scalar : ℕ → ℕ) (row : ℕ → List ℕ) → AreCodeWords width times vector k r height row
    → IsCodeWordOf width times vector k r (combination times scalar height (2 ^ r * 2 ^ k) row)
