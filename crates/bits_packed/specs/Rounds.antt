-- How far a transposition has come.
use Rattle.std.specs.Prelude.{◌≡◌, ◌≢◌, ◌<◌, ◌≤◌, ℕ, ◌+◌, ◌*◌, ◌/◌, ◌%◌, List, ◌⊎◌, slice_index}
use Rattle.std.specs.Int.{bit_at}
use Rattle.packed_lanes.specs.Parts.{HasFirstBlocks, HasSecondBlocks, IsBlockSize}

-- `row` is row r after the rounds by blocks of 1, 2, 4, .. below s lanes, begun at the rows `old`: the parts below s of the index
-- of a row and of a lane have changed places.
abbrev pub IsMixed : ℕ → ℕ → List ℕ → ℕ → ℕ → Type 0
IsMixed width s old r row =
    (j : ℕ) → j < width → bit_at row j ≡ bit_at (slice_index old (r / s * s + j % s)) (j / s * s + r % s)

-- each of the rows `now` is
abbrev pub AreMixed : ℕ → ℕ → List ℕ → List ℕ → Type 0
AreMixed width s old now = (r : ℕ) → r < width → IsMixed width s old r (slice_index now r)

-- one round combines two rows, and three rounds combine eight
abbrev pub IsRowCount : ℕ → Type 0
IsRowCount count = (count ≡ 2) ⊎ (count ≡ 8)

-- Rounds that combine `count` rows fit a square of `rows` rows: the first goes by blocks of s lanes, and the last by half of
-- `count * s`.
abbrev pub AreRounds : ℕ → ℕ → ℕ → ℕ → Type 0
AreRounds width count s rows = IsBlockSize width s × IsRowCount count × (count * s ≤ width) × (rows ≡ width)

-- Rows that are s apart belong together where they lie in the same t rows: the first of those that row r belongs to.
abbrev pub first_row : ℕ → ℕ → ℕ → ℕ
first_row s t r = r / t * t + r % s

-- The rows `now` where the rounds by blocks of s lanes, of 2 * s and so on below t are done for rows whose first row is below n.
pub record IsPassTo (width s t n : ℕ) (old now : List ℕ) : Type 0 where
  pub done : (r : ℕ) → r < width → first_row s t r < n → IsMixed width t old r (slice_index now r)
  pub left : (r : ℕ) → r < width → n ≤ first_row s t r → IsMixed width s old r (slice_index now r)

-- Between the rows `before` and the rows `after` a pass by blocks of s lanes to below t, whatever rows it began at, goes on from the
-- rows whose first row is below `from` to those whose first row is below `to`.
abbrev pub PassGoesOn : ℕ → ℕ → ℕ → ℕ → ℕ → List ℕ → List ℕ → Type 0
PassGoesOn width s t from to before after =
    (old : List ℕ) → IsPassTo width s t from old before → IsPassTo width s t to old after

-- a pass goes on by the rows of group number `group`, of t rows each
abbrev pub PassGoesByGroup : ℕ → ℕ → ℕ → ℕ → List ℕ → List ℕ → Type 0
PassGoesByGroup width s t group before after = PassGoesOn width s t (group * t) ((group + 1) * t) before after

-- between the rows `before` and the rows `after` lie the rounds by blocks of s lanes, of 2 * s and so on below t
abbrev pub RoundsGoOn : ℕ → ℕ → ℕ → List ℕ → List ℕ → Type 0
RoundsGoOn width s t before after = (old : List ℕ) → AreMixed width s old before → AreMixed width t old after

-- Rows i and i + s are interleaved by blocks of s lanes, and the others are left alone.
pub record IsPairInterleaved (width s i : ℕ) (before after : List ℕ) : Type 0 where
  pub first : HasFirstBlocks width s (slice_index before i) (slice_index before (i + s)) (slice_index after i)
  pub second : HasSecondBlocks width s (slice_index before i) (slice_index before (i + s)) (slice_index after (i + s))
  pub others : (r : ℕ) → r ≢ i → r ≢ i + s → slice_index after r ≡ slice_index before r
