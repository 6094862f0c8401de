-- Transforms of elements of any field with Cantor vectors.
use Rattle.std.specs.List.{range_with_len}
use Rattle.std.specs.Prelude.{ℕ, suc, ◌-◌, ◌≤◌, List, map}
use Rattle.ghash_slices.specs.Cantor.{subspace_value}
use Rattle.additive_transforms.specs.Transform.{HasStages}

-- a transform of so many values has some number m of stages, and a field of `width` bits has no fewer points
abbrev pub FitsField : ℕ → ℕ → Type 0
FitsField width values = (m : ℕ) × HasStages m values × (m ≤ width)

-- the basis of the twiddles: element t is vector t + 1
unfoldable pub twiddle_basis : ℕ → (ℕ → ℕ) → List ℕ
twiddle_basis width vector = map (λ t. vector (suc t)) (range_with_len 0 (width - 1))

-- shift j is s_j(z), of as many as the field has bits
unfoldable pub level_shifts : ℕ → (ℕ → ℕ → ℕ) → ℕ → List ℕ
level_shifts width times z = map (λ j. subspace_value times j z) (range_with_len 0 width)
