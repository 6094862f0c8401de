-- What is computed of the changes of basis: the images meet the equations of the roots, the tables to polynomials are of the columns
-- that these images give, and those to the tower are of linear maps that the changes of basis undo.
use Rattle.std.proofs.Common.{◌≡◌, ℕ, Bool, true, eqb, List, ◌∷◌, length, refl}
use Rattle.std.specs.Prelude.{bit_xor, slice_index}
use Rattle.field_base.specs.Basis.{aes_images, poly64_images, ghash_images}
use Rattle.field_base.specs.Carryless.{carryless, carryless_in}
use Rattle.field_base.specs.Remainder.{rem, rem_in, mul_mod, aes_modulus, poly64_modulus, ghash_modulus}
use Rattle.field_base.proofs.AdditiveMaps.{agree_on_powers}
use Rattle.field_base.proofs.BasisColumns.{sum_of_columns, level_columns, doubled}
use Rattle.word_tables.specs.declared.literals.to_polynomial.TheConstants.{TO_POLYNOMIAL_8, TO_POLYNOMIAL_64, TO_POLYNOMIAL_128}
use Rattle.word_tables.specs.declared.literals.to_tower.TheConstants.{TO_TOWER_8, TO_TOWER_64, TO_TOWER_128}
use Rattle.field_base.proofs.TableChecks.{passes}
use Rattle.word_tables.proofs.TabledMaps.{columns_in, place_tables, values_of, with_sums}

-- whether the image x at place m meets the equation of its root
unfoldable pub is_root : ℕ → ℕ → List ℕ → ℕ → ℕ → Bool
is_root width modulus images m x =
    eqb (bit_xor (bit_xor (mul_mod width modulus x x) (mul_mod width modulus (slice_index (1 ∷ images) m) x)) 1) 0

-- the images of the powers of two
abbrev pub image_columns : ℕ → ℕ → List ℕ → List ℕ
image_columns width modulus images = level_columns (mul_mod width modulus) (slice_index images) (length images)

-- whether the map by the first columns takes what the second ones give at each power of two below 2 ^ n back to it
unfoldable pub undoes : List ℕ → List ℕ → ℕ → Bool
undoes columns inverse_columns n = agree_on_powers (λ b. sum_of_columns columns (sum_of_columns inverse_columns b)) (λ b. b) n

-- the images meet the equations of the roots, both tables are those of the maps by their columns, and the map to polynomials undoes
-- the one to the tower
abbrev pub ChangePasses : ℕ → ℕ → List ℕ → ℕ → List ℕ → List ℕ → Type 0
ChangePasses width modulus images rows to_polynomial to_tower =
    (passes (is_root width modulus images) 0 images ≡ true)
    × (to_polynomial ≡ place_tables 8 rows (image_columns width modulus images))
    × (to_tower ≡ place_tables 8 rows (columns_in rows to_tower))
    × (undoes (image_columns width modulus images) (columns_in rows to_tower) width ≡ true)

-- the tables of the three changes of basis pass every check (computed)
pub changes_pass : ChangePasses 8 aes_modulus aes_images 1 TO_POLYNOMIAL_8 TO_TOWER_8
    × ChangePasses 64 poly64_modulus poly64_images 8 TO_POLYNOMIAL_64 TO_TOWER_64
    × ChangePasses 128 ghash_modulus ghash_images 16 TO_POLYNOMIAL_128 TO_TOWER_128
unfolding is_root passes place_tables values_of with_sums undoes columns_in sum_of_columns level_columns doubled mul_mod rem rem_in carryless carryless_in
changes_pass = ((refl, refl, refl, refl), (refl, refl, refl, refl), (refl, refl, refl, refl))
