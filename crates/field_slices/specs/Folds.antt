-- Matrices of 2 ^ h rows that are folded to one row by the coordinates of a point, one after the other, and soundness of that: a matrix
-- that is not near a code is folded to a word near it only where a coordinate is one of few.
use Rattle.std.specs.Prelude.{◌≡◌, ◌⊎◌, ℕ, zero, suc, ◌+◌, ◌-◌, ◌^◌, ◌<◌, ◌≤◌, List, [], ◌∷◌, length, take, slice_index, bit_xor}
use Rattle.field_base.specs.Field.{IsField}
use Rattle.field_base.specs.PolynomialRoots.{AreDistinctBelow}
use Rattle.field_slices.specs.Codes.{HasGap, HaveSymbols, IsNear}

-- row i of so many, on the line from row i to row half + i, at r
abbrev pub fold_rows : (ℕ → ℕ → ℕ) → ℕ → ℕ → (ℕ → ℕ → ℕ) → ℕ → ℕ → ℕ
fold_rows times half r word i p = bit_xor (word i p) (times r (bit_xor (word i p) (word (half + i) p)))

-- a matrix of 2 ^ h rows, folded by the first coordinates of a point of h coordinates
unfoldable pub rows_folded : (ℕ → ℕ → ℕ) → ℕ → List ℕ → (ℕ → ℕ → ℕ) → ℕ → ℕ → ℕ
rows_folded times h [] word = word
rows_folded times zero (r ∷ rs) word = word
rows_folded times (suc h) (r ∷ rs) word = rows_folded times h rs (fold_rows times (2 ^ h) r word)

-- of a matrix that is not near the code, few folds are
abbrev pub FewFoldsAreNear : Type 0
FewFoldsAreNear =
    (width : ℕ) (times : ℕ → ℕ → ℕ) (size n : ℕ) (generator : ℕ → ℕ → ℕ) → 0 < width → IsField width times
    → (e lucky half : ℕ) (word : ℕ → ℕ → ℕ) → HasGap width times size n generator e lucky → HaveSymbols width n (half + half) word
    → (IsNear times size n generator e (half + half) word → ⊥)
    → (m : ℕ) (x : ℕ → ℕ) → AreDistinctBelow m (2 ^ width) x
    → ((j : ℕ) → j < m → IsNear times size n generator e half (fold_rows times half (x j) word))
    → m ≤ lucky

-- Coordinate k of a point is lucky for a matrix: what the coordinates before leave of it is not near the code, and what this one leaves is.
pub record IsLuckyAt (times : ℕ → ℕ → ℕ) (size n : ℕ) (generator : ℕ → ℕ → ℕ) (e h : ℕ) (word : ℕ → ℕ → ℕ) (point : List ℕ) (k : ℕ)
    : Type 0 where
  pub inside : k < h
  pub far : IsNear times size n generator e (2 ^ (h - suc k) + 2 ^ (h - suc k)) (rows_folded times h (take k point) word) → ⊥
  pub near : IsNear times size n generator e (2 ^ (h - suc k))
      (fold_rows times (2 ^ (h - suc k)) (slice_index point k) (rows_folded times h (take k point) word))

-- Soundness: a matrix that a point folds to a word near the code is near it, or a coordinate is lucky.
abbrev pub FarMatricesNeedLuck : Type 0
FarMatricesNeedLuck =
    (width : ℕ) (times : ℕ → ℕ → ℕ) (size n : ℕ) (generator : ℕ → ℕ → ℕ) → 0 < width → IsField width times
    → (e h : ℕ) (word : ℕ → ℕ → ℕ) (point : List ℕ) → HaveSymbols width n (2 ^ h) word → length point ≡ h
    → IsNear times size n generator e 1 (rows_folded times h point word)
    → IsNear times size n generator e (2 ^ h) word
    ⊎ ((k : ℕ) × IsLuckyAt times size n generator e h word point k)
