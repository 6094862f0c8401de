-- The distance of Reed-Solomon codes at the points that Cantor vectors span, as codes of a generator matrix, and gaps of lines of their
-- words.
use Rattle.std.specs.Prelude.{◌≡◌, ℕ, ◌+◌, ◌-◌, ◌*◌, ◌^◌, ◌<◌, ◌≤◌, Bool, true, List, length}
use Rattle.field_base.specs.Field.{IsField}
use Rattle.field_base.specs.Orders.{AreCantorVectors}
use Rattle.ghash_slices.specs.Cantor.{point, subspace_value}
use Rattle.ghash_slices.specs.Stages.{factors_at}
use Rattle.field_slices.specs.Blocks.{cheats_in_blocks}
use Rattle.field_slices.specs.Codes.{HasDistance, HasGap, HaveSymbols, IsWordOf}
use Rattle.field_slices.specs.Openings.{IsOpened}

-- entry (j, p) of the generator: polynomial j of the basis of the products of the s_i, at point p
abbrev pub point_generator : ℕ → (ℕ → ℕ → ℕ) → (ℕ → ℕ) → ℕ → ℕ → ℕ → ℕ
point_generator width times vector k j p = factors_at times (λ i. subspace_value times i (point width vector 0 p)) k j

-- two code words of n symbols, of messages of 2 ^ k, that differ at no more than n - 2 ^ k places are the same
abbrev pub CodeWordsHaveDistance : Type 0
CodeWordsHaveDistance =
    (width : ℕ) (times : ℕ → ℕ → ℕ) (vector : ℕ → ℕ) → 0 < width → IsField width times → AreCantorVectors width times vector
    → ((b : ℕ) → b < width → vector b < 2 ^ width)
    → (k n d : ℕ) → n ≤ 2 ^ width → d + 2 ^ k ≤ n + 1
    → HasDistance times (2 ^ k) n (point_generator width times vector k) d

-- At the rate 1 / 4, and messages of 64 j symbols: within 93 j of 256 j places, 34 points a place, less one, are few. So matrices are near
-- within 93 of 256 columns, which is less than half the distance.
abbrev pub QuarterRateGap : Type 0
QuarterRateGap =
    (width : ℕ) (times : ℕ → ℕ → ℕ) (vector : ℕ → ℕ) → 0 < width → IsField width times → AreCantorVectors width times vector
    → ((b : ℕ) → b < width → vector b < 2 ^ width)
    → (k j : ℕ) → 2 ^ k ≡ 64 * j → 4 * 2 ^ k ≤ 2 ^ width
    → HasGap width times (2 ^ k) (4 * 2 ^ k) (point_generator width times vector k) (93 * j) (34 * (4 * 2 ^ k) - 1)

-- Soundness as numbers at the rate 1 / 4, for every matrix and every prover, where one place is drawn in each of q = 2 ^ m blocks, and
-- messages have 64 j symbols: of the F ^ h points and block ^ q lists of numbers, F the elements of the field and n = q block = 256 j the
-- places, a verifier accepts a code word that is not what the point folds the near matrix to for at most the share
-- 34 n h / F + (163 / 256) ^ q.
abbrev pub FewQuarterRateCheats : Type 0
FewQuarterRateCheats =
    (width : ℕ) (times : ℕ → ℕ → ℕ) (vector : ℕ → ℕ) → 0 < width → IsField width times → AreCantorVectors width times vector
    → ((b : ℕ) → b < width → vector b < 2 ^ width)
    → (k j m block h : ℕ) (word : ℕ → ℕ → ℕ) (prover : List ℕ → ℕ → ℕ) (cheats : List ℕ → Bool)
    → 2 ^ k ≡ 64 * j → 4 * 2 ^ k ≤ 2 ^ width → 2 ^ m * block ≡ 4 * 2 ^ k → HaveSymbols width (2 ^ m * block) (2 ^ h) word
    → ((point : List ℕ) → length point ≡ h
    → IsWordOf times (2 ^ k) (2 ^ m * block) (point_generator width times vector k) (prover point))
    → ((point : List ℕ) → length point ≡ h → cheats point ≡ true
    → IsOpened times (2 ^ k) (2 ^ m * block) (point_generator width times vector k) (93 * j) h word point (prover point) → ⊥)
    → 2 ^ width * ((2 ^ m) ^ 2 ^ m * cheats_in_blocks width times block h m word prover cheats)
    ≤ h * (34 * (256 * j)) * (2 ^ width) ^ h * (256 * j) ^ 2 ^ m + 2 ^ width * ((2 ^ width) ^ h * (163 * j) ^ 2 ^ m)
