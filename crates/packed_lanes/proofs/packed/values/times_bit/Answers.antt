use Rattle.std.proofs.Common.{◌≡◌, ◌≢◌, ◌∙◌, false, true, map, refl, ap, arith}
use Rattle.field_base.specs.Bit.{bit_number as bit_of}
use Rattle.packed_lanes.proofs.BitProducts.{cleared, kept}
use Rattle.packed_lanes.proofs.packed.values.times_bit.Goals as goal

pub returns-then-is_one : goal.returns-then-is_one
returns-then-is_one g c =
    let lane = g.F.Represented in
    kept lane.repr lane.width lane.unit lane.product lane.ring_law lane.range_law g.row.N (bit_of c.args.bit) c.args.packed.lanes
    c.args.packed.long (c.if-is_one.ensures.0 refl)

pub returns-else-is_one : goal.returns-else-is_one
returns-else-is_one g c =
    let lane = g.F.Represented in
    let below = c.args.bit.in_range in
    let other : bit_of c.args.bit ≢ 1 = λ is. let no : false ≡ true = c.if-is_one.ensures.1 is in cc in
    let none : bit_of c.args.bit ≡ 0 = omega arith in
    ap (map lane.repr) c.broadcast.ensures
    ∙ cleared lane.repr lane.width lane.unit lane.product lane.ring_law g.row.N (bit_of c.args.bit) c.args.packed.lanes c.ZERO_LANE.result
    c.args.packed.long none (ap lane.repr c.ZERO_LANE.ensures ∙ g.met.F.Laned.zero_lane_law)
