-- Eight bytes as eight rows of eight bits, and the columns of these rows.
use Rattle.std.specs.Prelude.{ℕ, ◌*◌, ◌^◌, List, [], ◌∷◌, map, slice_index}
use Rattle.std.specs.Int.{bit_at}
use Rattle.field_base.specs.Basis.{sum_below}

-- column k as a byte: its bit j is bit k of byte j
unfoldable pub column : List ℕ → ℕ → ℕ
column bytes k = sum_below (λ j. bit_at (slice_index bytes j) k * 2 ^ j) 8

-- the eight columns
abbrev pub columns : List ℕ → List ℕ
columns bytes = map (column bytes) (0 ∷ 1 ∷ 2 ∷ 3 ∷ 4 ∷ 5 ∷ 6 ∷ 7 ∷ [])
