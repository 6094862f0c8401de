-- The byte tables of squares and of square roots, each checked whole by computation, and what their sums are.
use Rattle.std.proofs.Common.{◌≡◌, ℕ, List, ◌*◌, ◌^◌, ◌<◌, true, refl, sym, ◌∙◌, ap, ap₂}
use Rattle.std.specs.Prelude.{bit_xor}
use native.Mathlib.Nat.{mod-eq_of_lt}
use Rattle.field_base.specs.Tower.{tower_mul}
use Rattle.field_base.proofs.PowerLemmas.{square_xor}
use Rattle.field_base.proofs.TowerRing.{tower_ring}
use Rattle.field_base.specs.ByteTables.{sum_of_entries}
use Rattle.word_tables.specs.Linear.{IsAdditive}
use Rattle.word_tables.specs.declared.tables.linear.TheConstants.{ROOTS_16, ROOTS_32, ROOTS_64, SQUARES_16, SQUARES_32, SQUARES_64}
use Rattle.field_base.proofs.ByteTableSums.{HoldValues, entries_hold, entry_passes, sum_of_entries_is}
use Rattle.word_tables.proofs.Squares.{root_product, square_of, square_of_is, squares_joined}
use Rattle.field_base.proofs.TableChecks.{passes}

-- the square is additive, and so is the map that leaves a number as it is
square_of_additive : (k : ℕ) → IsAdditive (square_of k)
square_of_additive k a b =
    square_of_is k (bit_xor a b) ∙ square_xor (2 ^ k) 1 (tower_mul k) (tower_ring k) a b
    ∙ ap₂ bit_xor (sym (square_of_is k a)) (sym (square_of_is k b))

-- the map that changes nothing is additive
same_additive : IsAdditive (λ x. x)
same_additive a b = refl

-- ---- squares

-- the sum of a table of squares is the square
squared : (k n : ℕ) (table : List ℕ) (x : ℕ) → HoldValues (λ y. y) (square_of k) (256 * n) table → x < 2 ^ (8 * n)
    → sum_of_entries n table x ≡ tower_mul k x x
squared k n table x values fits =
    sum_of_entries_is (λ y. y) (square_of k) same_additive (square_of_additive k) table n x values
    ∙ ap (square_of k) (mod-eq_of_lt fits) ∙ square_of_is k x

-- the entries of SQUARES_16 are squares at level 4 (computed)
squares_16_pass : passes (entry_passes (λ x. x) (square_of 4)) 0 SQUARES_16 ≡ true
unfolding passes entry_passes square_of squares_joined root_product
squares_16_pass = refl

-- the entries of SQUARES_32 are squares at level 5 (computed)
squares_32_pass : passes (entry_passes (λ x. x) (square_of 5)) 0 SQUARES_32 ≡ true
unfolding passes entry_passes square_of squares_joined root_product
squares_32_pass = refl

-- the entries of SQUARES_64 are squares at level 6 (computed)
squares_64_pass : passes (entry_passes (λ x. x) (square_of 6)) 0 SQUARES_64 ≡ true
unfolding passes entry_passes square_of squares_joined root_product
squares_64_pass = refl

-- the sum of the entries of SQUARES_16 at the bytes of x is x²
pub squares_16 : (x : ℕ) → x < 2 ^ 16 → sum_of_entries 2 SQUARES_16 x ≡ tower_mul 4 x x
squares_16 x = squared 4 2 SQUARES_16 x (entries_hold (λ y. y) (square_of 4) SQUARES_16 squares_16_pass)

-- the sum of the entries of SQUARES_32 at the bytes of x is x²
pub squares_32 : (x : ℕ) → x < 2 ^ 32 → sum_of_entries 4 SQUARES_32 x ≡ tower_mul 5 x x
squares_32 x = squared 5 4 SQUARES_32 x (entries_hold (λ y. y) (square_of 5) SQUARES_32 squares_32_pass)

-- the sum of the entries of SQUARES_64 at the bytes of x is x²
pub squares_64 : (x : ℕ) → x < 2 ^ 64 → sum_of_entries 8 SQUARES_64 x ≡ tower_mul 6 x x
squares_64 x = squared 6 8 SQUARES_64 x (entries_hold (λ y. y) (square_of 6) SQUARES_64 squares_64_pass)

-- ---- square roots

-- the sum of a table of roots is the root
rooted : (k n : ℕ) (table : List ℕ) (x : ℕ) → HoldValues (square_of k) (λ y. y) (256 * n) table → x < 2 ^ (8 * n)
    → tower_mul k (sum_of_entries n table x) (sum_of_entries n table x) ≡ x
rooted k n table x values fits =
    sym (square_of_is k (sum_of_entries n table x))
    ∙ sum_of_entries_is (square_of k) (λ y. y) (square_of_additive k) same_additive table n x values
    ∙ mod-eq_of_lt fits

-- the squares at level 4 of the entries of ROOTS_16 are the numbers of their places (computed)
roots_16_pass : passes (entry_passes (square_of 4) (λ x. x)) 0 ROOTS_16 ≡ true
unfolding passes entry_passes square_of squares_joined root_product
roots_16_pass = refl

-- the squares at level 5 of the entries of ROOTS_32 are the numbers of their places (computed)
roots_32_pass : passes (entry_passes (square_of 5) (λ x. x)) 0 ROOTS_32 ≡ true
unfolding passes entry_passes square_of squares_joined root_product
roots_32_pass = refl

-- the squares at level 6 of the entries of ROOTS_64 are the numbers of their places (computed)
roots_64_pass : passes (entry_passes (square_of 6) (λ x. x)) 0 ROOTS_64 ≡ true
unfolding passes entry_passes square_of squares_joined root_product
roots_64_pass = refl

-- the square of the sum of the entries of ROOTS_16 at the bytes of x is x
pub roots_16 : (x : ℕ) → x < 2 ^ 16 → tower_mul 4 (sum_of_entries 2 ROOTS_16 x) (sum_of_entries 2 ROOTS_16 x) ≡ x
roots_16 x = rooted 4 2 ROOTS_16 x (entries_hold (square_of 4) (λ y. y) ROOTS_16 roots_16_pass)

-- the square of the sum of the entries of ROOTS_32 at the bytes of x is x
pub roots_32 : (x : ℕ) → x < 2 ^ 32 → tower_mul 5 (sum_of_entries 4 ROOTS_32 x) (sum_of_entries 4 ROOTS_32 x) ≡ x
roots_32 x = rooted 5 4 ROOTS_32 x (entries_hold (square_of 5) (λ y. y) ROOTS_32 roots_32_pass)

-- the square of the sum of the entries of ROOTS_64 at the bytes of x is x
pub roots_64 : (x : ℕ) → x < 2 ^ 64 → tower_mul 6 (sum_of_entries 8 ROOTS_64 x) (sum_of_entries 8 ROOTS_64 x) ≡ x
roots_64 x = rooted 6 8 ROOTS_64 x (entries_hold (square_of 6) (λ y. y) ROOTS_64 roots_64_pass)
