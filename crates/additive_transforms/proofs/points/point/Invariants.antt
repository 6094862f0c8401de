use Rattle.std.proofs.Common.{◌≡◌, ℕ, ◌<◌, length, get_or}
use Rattle.ghash_slices.specs.LowStages.{ghash_cantor_vector}
use Rattle.additive_transforms.proofs.points.point.Given as goal

-- the vectors before this one are there
abbrev pub invariant-loop-bit : goal.invariant-loop-bit
invariant-loop-bit l = (length l.vectors ≡ 128) × ((b : ℕ) → b < l.bit → get_or l.vectors b 0 ≡ ghash_cantor_vector b)
