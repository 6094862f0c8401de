use Rattle.std.proofs.Common.{◌≡◌, ℕ, ◌<◌}
use Rattle.std.specs.Prelude.{bit_xor}
use Rattle.field_base.specs.Tower.{tower_mul}
use Rattle.additive_transforms.specs.Lanes.{lane_twiddle}
use Rattle.additive_transforms.specs.Rows.{level_of}
use Rattle.additive_transforms.proofs.lane_planes.add_lane_products.Given as goal

-- the products by the vectors of the bits before are added
abbrev pub invariant-loop-bit : goal.invariant-loop-bit
invariant-loop-bit g l =
    let lane = g.P.Planes.lane in
    (j : ℕ) → j < g.P.Planes.lanes
    → lane l.added j ≡ bit_xor (lane l.fn.sums j) (tower_mul (level_of g.P.Planes.depth) (lane_twiddle l.bit j) (lane l.factor j))
