-- One stage of a transform, block by block, over any ring of characteristic two whose elements are numbers. An array is a function
-- from its places to its values.
use Rattle.std.specs.Prelude.{◌≡◌, ℕ, suc, ◌+◌, ◌*◌, ◌^◌, ◌<◌, Bool, true, false, List, bit_xor, cond, slice_index}
use Rattle.field_base.specs.LinearMaps.{linear_image}
use Rattle.ghash_slices.specs.LowStages.{values_from}
use Rattle.ghash_slices.specs.Slices.{IsForward, IsInverse}
use Rattle.ghash_slices.specs.Stages.{add_multiple, factor, stages}

-- in a block of twice `half` places the array a becomes b by the forward butterfly with the scalar t. A pair is a place of the
-- block's lower half with the place `half` further.
pub record IsButterfly (times : ℕ → ℕ → ℕ) (t half : ℕ) (a b : ℕ → ℕ) : Type 0 where
  pub lower : (r : ℕ) → r < half → b r ≡ add_multiple times t (a r) (a (half + r))
  pub upper : (r : ℕ) → r < half → b (half + r) ≡ bit_xor (a (half + r)) (b r)

-- the forward butterfly takes the array `old` to `new`, or, where `inverse` is true, the inverse one does, which the forward one takes
-- back
abbrev pub TakesBlock : Bool → (ℕ → ℕ → ℕ) → ℕ → ℕ → (ℕ → ℕ) → (ℕ → ℕ) → Type 0
TakesBlock inverse times t half old new = IsButterfly times t half (cond inverse new old) (cond inverse old new)

-- the forward butterfly at each place takes two lists to two others, or, where `inverse` is true, the inverse one does
abbrev pub TakesSlices : Bool → ℕ → List ℕ → List ℕ → List ℕ → List ℕ → Type 0
TakesSlices false = IsForward
TakesSlices true = IsInverse

-- stage j takes the values a to the values b in so many blocks of 2 ^ (j + 1) places: the scalar of a block is its twiddle, which
-- is the shift of the stage, and the elements of the basis at the set bits of the block's number
abbrev pub IsStage : (ℕ → ℕ → ℕ) → ℕ → List ℕ → ℕ → ℕ → List ℕ → List ℕ → Type 0
IsStage times shift basis j blocks a b =
    (q : ℕ) → q < blocks
    → IsButterfly times (bit_xor shift (linear_image basis q)) (2 ^ j) (values_from a (q * 2 ^ suc j)) (values_from b (q * 2 ^ suc j))

-- in each of so many blocks of twice `half` places the values `old` become `new` by the butterfly with the block's twiddle, which is as
-- above, or, where `inverse` is true, by the inverse one
abbrev pub TakesBlocks : Bool → (ℕ → ℕ → ℕ) → ℕ → List ℕ → ℕ → ℕ → List ℕ → List ℕ → Type 0
TakesBlocks inverse times shift basis half blocks old new =
    (q : ℕ) → q < blocks
    → TakesBlock inverse times (bit_xor shift (linear_image basis q)) half (values_from old (q * (2 * half))) (values_from new (q * (2 * half)))

-- stage j takes the values `old` to `new`, or, where `inverse` is true, its inverse does
abbrev pub TakesStage : Bool → (ℕ → ℕ → ℕ) → ℕ → List ℕ → ℕ → ℕ → List ℕ → List ℕ → Type 0
TakesStage inverse times shift basis j blocks old new =
    (q : ℕ) → q < blocks
    → TakesBlock inverse times (bit_xor shift (linear_image basis q)) (2 ^ j) (values_from old (q * 2 ^ suc j))
    (values_from new (q * 2 ^ suc j))

-- the forward one where the first of the blocks has the number `first`
abbrev pub IsStageFrom : (ℕ → ℕ → ℕ) → ℕ → List ℕ → ℕ → ℕ → ℕ → List ℕ → List ℕ → Type 0
IsStageFrom times shift basis j first blocks a b =
    (q : ℕ) → q < blocks
    → IsButterfly times (bit_xor shift (linear_image basis (first + q))) (2 ^ j) (values_from a (q * 2 ^ suc j))
    (values_from b (q * 2 ^ suc j))

-- the stages below n that are left take the values there are now to what all m stages take the old ones to: in 2 ^ m places
abbrev pub AreLeft : (ℕ → ℕ → ℕ) → List ℕ → List ℕ → ℕ → ℕ → List ℕ → List ℕ → Type 0
AreLeft times shifts basis m n old now =
    (p : ℕ) → p < 2 ^ m
    → stages times (factor shifts basis) n (slice_index now) p ≡ stages times (factor shifts basis) m (slice_index old) p

-- the stages from n on of 2 ^ m places take the values `old` to `new`, or, where `inverse` is true, their inverses do
abbrev pub TakesStagesFrom : Bool → (ℕ → ℕ → ℕ) → List ℕ → List ℕ → ℕ → ℕ → List ℕ → List ℕ → Type 0
TakesStagesFrom inverse times shifts basis m n old new = AreLeft times shifts basis m n (cond inverse new old) (cond inverse old new)
