-- The Cantor vectors in the tower (D. G. Cantor, On arithmetical algorithms over finite fields, Journal of Combinatorial
-- Theory A 50, 1989): vector 0 is 1, and each other is the even solution v of v² + v = the vector before it. Such an
-- equation has one even solution at most, so the rule leaves no choice.
use Rattle.std.specs.Prelude.{◌≡◌, ℕ, ◌-◌, ◌%◌, ◌^◌, ◌<◌, ◌≤◌, bit_xor, slice_index}
use Rattle.field_base.specs.Tower.{tower_mul}
use Rattle.word_tables.specs.declared.cantor.literals.TheConstants.{VECTORS}

-- Cantor vector i, for i below 128
abbrev pub cantor_vector : ℕ → ℕ
cantor_vector i = slice_index VECTORS i

-- vector 0 is the one
abbrev pub FirstIsOne : Type 0
FirstIsOne = cantor_vector 0 ≡ 1

-- the first 2 ^ k vectors are elements of level k
abbrev pub LieInLevels : Type 0
LieInLevels = (k i : ℕ) → k ≤ 7 → i < 2 ^ k → cantor_vector i < 2 ^ 2 ^ k

-- in each level that holds it, each vector but the first solves v² + v = the vector before
abbrev pub SolveTheOneBefore : Type 0
SolveTheOneBefore =
    (k i : ℕ) → k ≤ 7 → 0 < i → i < 2 ^ k
    → bit_xor (tower_mul k (cantor_vector i) (cantor_vector i)) (cantor_vector i) ≡ cantor_vector (i - 1)

-- of the two solutions it is the even one
abbrev pub AreEven : Type 0
AreEven = (i : ℕ) → 0 < i → i < 128 → cantor_vector i % 2 ≡ 0

-- at every level, of the elements of one parity at most one has a given v² + v
abbrev pub OneOfEachParity : Type 0
OneOfEachParity =
    (k v w : ℕ) → v < 2 ^ 2 ^ k → w < 2 ^ 2 ^ k → v % 2 ≡ w % 2
    → bit_xor (tower_mul k v v) v ≡ bit_xor (tower_mul k w w) w → v ≡ w
