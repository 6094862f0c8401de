use Rattle.std.proofs.Common.{◌≡◌, ℕ, ◌-◌, ◌^◌, ◌<◌, length, get_or}
use Rattle.field_base.specs.Tower.{tower_mul}
use Rattle.ghash_slices.specs.Cantor.{subspace_value}
use Rattle.additive_transforms.proofs.arithmetic.lane_shifts.Given as goal

-- the shifts before j are there, the last of them is at hand, and what stands in the other places fits too
abbrev pub invariant-loop-j : goal.invariant-loop-j
invariant-loop-j g l =
    let value = λ (i : ℕ). subspace_value (tower_mul g.L.Level.LEVEL) i (g.R.Stored.number l.fn.z) in
    (length l.shifts ≡ 6)
    × ((i : ℕ) → i < l.j → get_or l.shifts i 0 ≡ value i)
    × (g.R.Stored.number l.shift ≡ value (l.j - 1))
    × ((i : ℕ) → get_or l.shifts i 0 < 2 ^ g.R.Stored.bits)
