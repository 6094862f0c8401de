use Rattle.std.proofs.Common.{arith}
use Rattle.std.specs.Prelude.{bit_xor}
use Rattle.field_base.specs.Tower.{tower_mul}
use Rattle.additive_transforms.specs.Lanes.{lane_twiddle}
use Rattle.additive_transforms.specs.Rows.{level_of}
use Rattle.additive_transforms.proofs.LaneProducts.{woven_after}
use Rattle.additive_transforms.proofs.in_lanes.stage_after.Goals as goal

pub returns : goal.returns
returns g c =
    let whole = g.met.P.WordPlanes.whole_law in
    woven_after g.P.Planes.lanes (tower_mul (level_of g.P.Planes.depth)) (λ l. bit_xor c.args.shift (lane_twiddle c.args.vectors l))
    _ _ _ _ _ _ (omega (arith, whole)) (c.twiddled-lower.ensures c.args.shift c.multiples-multiples.ensures) c.add.ensures c.woven.ensures
