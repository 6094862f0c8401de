-- The lanes of planes of halves, and what their multiples are: words of their own, so that what names a type does not look into those
-- inside it.
use Rattle.std.specs.Prelude.{ℕ, ◌^◌}
use Rattle.field_base.specs.Quadratic.{pair}
use Rattle.additive_transforms.specs.Products.{AreMultiplesOfHalves}
use Rattle.additive_transforms.specs.Rows.{level_of}
use Rattle.additive_transforms.specs.declared.multiples.HalfMultiples.{HalfMultiples}
use Rattle.additive_transforms.specs.declared.pair.Pair.{Pair}

-- the element in a lane: the pair of those of its halves, which are halved d times
unfoldable pub lane_of_halves : {P : Type 0} → ℕ → (P → ℕ → ℕ) → Pair P → ℕ → ℕ
lane_of_halves d lane x l = pair (2 ^ level_of d) (lane x.low l) (lane x.high l)

-- what the multiples of a scalar are whose halves are halved d times
unfoldable pub are_of_halves : {M : Type 0} → ℕ → (M → ℕ → Type 0) → HalfMultiples M → ℕ → Type 0
are_of_halves d are multiples s = AreMultiplesOfHalves (level_of d) are multiples s
