-- Calls that transform values in the field of GHASH, words of 128 bits, and in a level of the tower.
use Rattle.std.specs.Prelude.{◌≡◌, ℕ, ◌+◌, ◌-◌, ◌/◌, ◌%◌, ◌^◌, ◌<◌, ◌≤◌, List, length, map}
use Rattle.ghash_slices.specs.LowStages.{HoldSums}
use Rattle.ghash_slices.specs.Slices.{IsForward, IsInverse}
use Rattle.additive_transforms.specs.Elements.{FitsField}
use Rattle.additive_transforms.specs.Transform.{AreOnlyCoefficients, AreTheCoefficients, HasStages, HoldPolynomialValues, HoldValuesAtPoints}
use Rattle.field_base.specs.Tower.{tower_mul}
use Rattle.additive_transforms.specs.Words.{level_element}
use Rattle.word_tables.specs.Cantor.{cantor_vector}
use Rattle.c_calls.specs.Calls.{CallOf}
use Rattle.c_calls.specs.Fields.{wide_number}
use Rattle.c_calls.specs.declared.wide.Wide.{Wide}

-- the numbers of words
abbrev pub wide_numbers : List Wide → List ℕ
wide_numbers words = map wide_number words

-- butterflies over two slices of one length, which both are written
abbrev pub ButterfliesForward : ℕ → List Wide → List Wide → List Wide → List Wide → ℕ → Type 0
ButterfliesForward scalar lo hi lo' hi' status =
    CallOf {T = List Wide × List Wide} (length lo ≡ length hi) (Unit {0})
    (IsForward scalar (wide_numbers lo) (wide_numbers hi) (wide_numbers lo') (wide_numbers hi')) (lo, hi) (lo', hi') status

-- the same two steps, the last first
abbrev pub ButterfliesInverse : ℕ → List Wide → List Wide → List Wide → List Wide → ℕ → Type 0
ButterfliesInverse scalar lo hi lo' hi' status =
    CallOf {T = List Wide × List Wide} (length lo ≡ length hi) (Unit {0})
    (IsInverse scalar (wide_numbers lo) (wide_numbers hi) (wide_numbers lo') (wide_numbers hi')) (lo, hi) (lo', hi') status

-- four shifts, a basis of 3 to 128 elements, and whole runs of sixteen values, the last of which the basis numbers
pub record FitLowStages (shifts basis values first_run : ℕ) : Type 0 where
  pub shifts_are_four : shifts ≡ 4
  pub least : 3 ≤ basis
  pub most : basis ≤ 128
  pub whole : values % 16 ≡ 0
  pub numbered : 0 < values → first_run + values / 16 ≤ 2 ^ (basis - 3)

-- the four low stages
abbrev pub RunsLowStages : List Wide → List Wide → ℕ → List Wide → List Wide → ℕ → Type 0
RunsLowStages shifts basis first_run old new status =
    CallOf (FitLowStages (length shifts) (length basis) (length old) first_run) (Unit {0})
    (HoldSums (wide_numbers shifts) (wide_numbers basis) first_run (wide_numbers old) (wide_numbers new)) old new status

-- a transform of 2^m values, m from 0 to 40
abbrev pub Transforms : ℕ → List Wide → List Wide → ℕ → Type 0
Transforms z old new status =
    CallOf ((m : ℕ) × HasStages m (length old)) (Unit {0}) (HoldPolynomialValues z (wide_numbers old) (wide_numbers new)) old new status

-- the inverse transform
abbrev pub InvertsTransform : ℕ → List Wide → List Wide → ℕ → Type 0
InvertsTransform z old new status =
    CallOf ((m : ℕ) × HasStages m (length old)) (Unit {0}) (AreOnlyCoefficients z (wide_numbers old) (wide_numbers new)) old new status

-- a transform in level k of 2^m words of such numbers, m at most 40 and at most the bits of the level
abbrev pub TransformsLevel : {W : Type 0} → (W → ℕ) → ℕ → ℕ → List W → List W → ℕ → Type 0
TransformsLevel number k z old new status =
    CallOf (FitsField (2 ^ k) (length old)) (Unit {0})
    (HoldValuesAtPoints (2 ^ k) (tower_mul k) cantor_vector z (map (level_element number k) old) (map (level_element number k) new)) old new status

-- the inverse transform
abbrev pub InvertsLevelTransform : {W : Type 0} → (W → ℕ) → ℕ → ℕ → List W → List W → ℕ → Type 0
InvertsLevelTransform number k z old new status =
    CallOf (FitsField (2 ^ k) (length old)) (Unit {0})
    (AreTheCoefficients (2 ^ k) (tower_mul k) cantor_vector z (map (level_element number k) old) (map (level_element number k) new)) old new status
