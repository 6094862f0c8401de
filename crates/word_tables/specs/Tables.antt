-- The tables of powers and logarithms of 0x13 in GF(2^8), level 3 of the tower: 0x13 generates the group of the 255
-- nonzero elements, so a product is a sum of logarithms.
use Rattle.std.specs.Prelude.{◌≡◌, ℕ, ◌<◌, slice_index}
use Rattle.field_base.specs.Powers.{power}
use Rattle.field_base.specs.Tower.{tower_mul}
use Rattle.word_tables.specs.declared.tables.literals.TheConstants.{EXP, LOG}

-- 0x13 to the power e
abbrev pub power_of_generator : ℕ → ℕ
power_of_generator e = power 1 (tower_mul 3) 0x13 e

-- entry e of the table of powers is 0x13 to the power e
abbrev pub EntriesArePowers : Type 0
EntriesArePowers = (e : ℕ) → e < 511 → slice_index EXP e ≡ power_of_generator e

-- 0x13 to the power of the logarithm of x, which is below 255, is x, for every nonzero x
abbrev pub EntriesAreLogarithms : Type 0
EntriesAreLogarithms =
    (x : ℕ) → 0 < x → x < 256 → (slice_index LOG x < 255) × (power_of_generator (slice_index LOG x) ≡ x)

-- 0 has no logarithm; the table has 0 in its place
abbrev pub ZeroHasLogarithmZero : Type 0
ZeroHasLogarithmZero = slice_index LOG 0 ≡ 0
