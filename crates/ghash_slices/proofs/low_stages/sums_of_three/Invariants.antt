use Rattle.std.proofs.Common.{◌≡◌, ℕ, ◌<◌, length, get_or}
use Rattle.field_base.specs.LinearMaps.{linear_image}
use Rattle.ghash_slices.proofs.low_stages.sums_of_three.Given as goal

-- the places before hold their sums
abbrev pub invariant-loop-place : goal.invariant-loop-place
invariant-loop-place l =
    (length l.sums ≡ 8) × ((b : ℕ) → b < l.place → get_or l.sums b 0 ≡ linear_image l.basis b)
