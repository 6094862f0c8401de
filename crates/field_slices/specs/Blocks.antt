-- Places of which one is drawn in each of 2 ^ m blocks of `size` places: block i has the places from i size on.
use Rattle.std.specs.Prelude.{◌≡◌, ℕ, suc, ◌+◌, ◌-◌, ◌*◌, ◌^◌, ◌<◌, ◌≤◌, Bool, true, cond, not, ◌&&◌, List, [], ◌∷◌, length}
use Rattle.field_base.specs.Field.{IsField}
use Rattle.field_slices.specs.Codes.{HasDistance, HasGap, HaveSymbols, IsWordOf}
use Rattle.field_slices.specs.Marks.{marked_below}
use Rattle.field_slices.specs.Openings.{IsOpened, misses, sum_lists}

-- no number of a list is that of a marked place, where the first is of block i, the next of block i + 1, and so on
unfoldable pub blocks_unmarked : ℕ → (ℕ → Bool) → ℕ → List ℕ → Bool
blocks_unmarked size marked i [] = true
blocks_unmarked size marked i (x ∷ numbers) = not (marked (i * size + x)) && blocks_unmarked size marked (suc i) numbers

-- Of the size ^ q lists of numbers, q = 2 ^ m, at most ((n - t) / q) ^ q miss all t of the n = q size places that are marked. Of as many
-- places that are drawn one by one, n ^ q lists, (n - t) ^ q do: that is the same share.
abbrev pub FewBlocksMiss : Type 0
FewBlocksMiss =
    (m size : ℕ) (marked : ℕ → Bool)
    → (2 ^ m) ^ 2 ^ m * sum_lists (2 ^ m) size (λ numbers. cond (blocks_unmarked size marked 0 numbers) 1 0)
    ≤ (2 ^ m * size - marked_below marked (2 ^ m * size)) ^ 2 ^ m

-- For how many points of h coordinates, and lists of a number in each of 2 ^ m blocks, a verifier accepts what a prover sends as a function
-- of the point, and the prover cheats.
abbrev pub cheats_in_blocks : ℕ → (ℕ → ℕ → ℕ) → ℕ → ℕ → ℕ → (ℕ → ℕ → ℕ) → (List ℕ → ℕ → ℕ) → (List ℕ → Bool) → ℕ
cheats_in_blocks width times block h m word prover cheats =
    sum_lists h (2 ^ width)
    (λ point. sum_lists (2 ^ m) block
    (λ numbers. cond (cheats point && blocks_unmarked block (misses times h word point (prover point)) 0 numbers) 1 0))

-- Soundness, for every matrix and every prover, where one place is drawn in each block: as where as many are drawn one by one, times q ^ q
-- on the left, q = 2 ^ m, since there are so many fewer lists.
abbrev pub FewCheatsInBlocks : Type 0
FewCheatsInBlocks =
    (width : ℕ) (times : ℕ → ℕ → ℕ) (size d m block : ℕ) (generator : ℕ → ℕ → ℕ) → 0 < width → IsField width times
    → HasDistance times size (2 ^ m * block) generator d
    → (e lucky h : ℕ) (word : ℕ → ℕ → ℕ) (prover : List ℕ → ℕ → ℕ) (cheats : List ℕ → Bool) → 2 * e < d
    → HasGap width times size (2 ^ m * block) generator e lucky → HaveSymbols width (2 ^ m * block) (2 ^ h) word
    → ((point : List ℕ) → length point ≡ h → IsWordOf times size (2 ^ m * block) generator (prover point))
    → ((point : List ℕ) → length point ≡ h → cheats point ≡ true
    → IsOpened times size (2 ^ m * block) generator e h word point (prover point) → ⊥)
    → 2 ^ width * ((2 ^ m) ^ 2 ^ m * cheats_in_blocks width times block h m word prover cheats)
    ≤ h * lucky * (2 ^ width) ^ h * (2 ^ m * block) ^ 2 ^ m + 2 ^ width * ((2 ^ width) ^ h * (2 ^ m * block - (e + 1)) ^ 2 ^ m)
