-- The tables by computation: each holds the values of the map of its columns, the first map is that of squares, and each
-- other one is the one before it twice.
use Rattle.std.proofs.Common.{◌≡◌, ℕ, zero, suc, ◌<◌, true, List, [], ◌∷◌, drop, map, refl, arith}
use Rattle.std.specs.Prelude.{slice_index}
use Rattle.field_base.proofs.AdditiveMaps.{agree_on_powers}
use Rattle.field_base.proofs.BasisColumns.{sum_of_columns}
use Rattle.word_tables.proofs.TabledMaps.{place_tables, values_of, with_sums}
use Rattle.word_tables.proofs.Squares.{root_product, square_of, squares_joined}
use Rattle.word_tables.specs.declared.frobenius.literals.TheConstants.{SQUARED_1, SQUARED_2, SQUARED_4, SQUARED_8, SQUARED_16, SQUARED_32}

-- the columns of the map stand in each row at 1, 2, 4 and 8
unfoldable pub columns_in : ℕ → List ℕ → List ℕ
columns_in zero table = []
columns_in (suc rows) table =
    slice_index table 1 ∷ slice_index table 2 ∷ slice_index table 4 ∷ slice_index table 8 ∷ columns_in rows (drop 16 table)

-- the map of a table
unfoldable pub map_of : List ℕ → ℕ → ℕ
map_of table = sum_of_columns (columns_in 32 table)

-- the columns of the map that is another one twice: its values at the columns of that one
abbrev pub columns_twice : List ℕ → List ℕ
columns_twice columns = map (sum_of_columns columns) columns

-- ---- the tables, each for twice as many squarings as the one before it

-- the table of 2^step squarings
abbrev pub table_at : ℕ → List ℕ
table_at zero = SQUARED_1
table_at (suc zero) = SQUARED_2
table_at (suc (suc zero)) = SQUARED_4
table_at (suc (suc (suc zero))) = SQUARED_8
table_at (suc (suc (suc (suc zero)))) = SQUARED_16
table_at (suc (suc (suc (suc (suc more))))) = SQUARED_32

-- the table of each step is that of the map by its columns (computed)
pub holds : (step : ℕ) → table_at step ≡ place_tables 4 32 (columns_in 32 (table_at step))
unfolding columns_in place_tables values_of with_sums
holds zero = refl
holds (suc zero) = refl
holds (suc (suc zero)) = refl
holds (suc (suc (suc zero))) = refl
holds (suc (suc (suc (suc zero)))) = refl
holds (suc (suc (suc (suc (suc more))))) = refl

-- the map of the first table is the square at level 7, at every power of two (computed)
pub squares : agree_on_powers (map_of (table_at 0)) (square_of 7) 128 ≡ true
unfolding map_of columns_in sum_of_columns square_of squares_joined root_product
squares = refl

-- the map of each later table is the map of the one before, applied twice (computed)
pub doubles : (step : ℕ) → step < 5 → columns_in 32 (table_at (suc step)) ≡ columns_twice (columns_in 32 (table_at step))
unfolding columns_in sum_of_columns
doubles zero below = refl
doubles (suc zero) below = refl
doubles (suc (suc zero)) below = refl
doubles (suc (suc (suc zero))) below = refl
doubles (suc (suc (suc (suc zero)))) below = refl
doubles (suc (suc (suc (suc (suc more))))) below = absurd (omega arith)
