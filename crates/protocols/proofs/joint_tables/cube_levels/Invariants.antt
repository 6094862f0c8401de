use Rattle.std.proofs.Common.{◌^◌, ◌<◌, ℕ}
use Rattle.protocols.proofs.joint_tables.cube_levels.Given as goal

-- the cubes so far have too few corners
abbrev pub invariant-levels : goal.invariant-levels
invariant-levels l = (fewer : ℕ) → fewer < l.levels → 2 ^ fewer < l.count
