use Rattle.std.proofs.Common.{◌≡◌, ℕ, ◌+◌, ◌<◌, ◌≤◌, List, length, map, take, refl, sym, ◌∙◌, ap, arith}
use Rattle.std.specs.List.{range_with_len}
use Rattle.std.proofs.lemmas.List.{take_all, take_more_set}
use Rattle.packed_lanes.specs.Packed.{lanes_of}
use Rattle.field_slices.proofs.PowerLists.{pushed, shifted-none, shifted-next}
use Rattle.field_slices.proofs.PackedPowers.{shifted_power}
use Rattle.field_slices.proofs.packings.powers.packed_powers.Goals as goal

pub loop-lane-init : goal.loop-lane-init
loop-lane-init g c =
    let ring = g.F.Represented in (
      refl,
      shifted-none ring.unit ring.product (ring.repr c.args.base) ring.width ring.ring_law (ring.repr c.args.first)
          (ring.range_law c.args.first),
    )

pub loop-lane-preserved : goal.loop-lane-preserved
loop-lane-preserved g c =
    let ring = g.F.Represented in
    let base = ring.repr c.args.base in
    let first = ring.repr c.args.first in
    let lane = c.loop-lane.lane in
    let current = c.loop-lane.current in
    let before = lanes_of c.loop-lane.packing in
    let long : length before ≡ g.row.N = c.loop-lane.packing.long in
    let within : lane < length before = omega (arith, long, c.loop-lane-test.true) in (
      ap (λ (xs : List _). map ring.repr (take (lane + 1) xs)) c.set_lane.ensures
          ∙ ap (map ring.repr) (take_more_set before lane current within)
          ∙ pushed ring.repr (shifted_power ring.unit ring.product base first) (take lane before) lane current c.loop-lane.invariant.0
          c.loop-lane.invariant.1,
      shifted-next ring.unit ring.product base ring.width ring.ring_law first lane (ring.repr current)
          (ring.repr c.mul-current.result) c.loop-lane.invariant.1
          (g.met.F.Represented.mul_law current c.args.base c.mul-current.result c.mul-current.ensures),
    )

pub returns : goal.returns
returns g c =
    let ring = g.F.Represented in
    let lane = c.loop-lane.lane in
    let lanes = lanes_of c.loop-lane.packing in
    let long : length lanes ≡ g.row.N = c.loop-lane.packing.long in
    let same : lane ≡ g.row.N = omega arith in
    let all : length lanes ≤ lane = omega (arith, long, same) in
    ap (map ring.repr) (sym (take_all lane lanes all))
    ∙ c.loop-lane.invariant.0
    ∙ ap (λ (n : ℕ). map (shifted_power ring.unit ring.product (ring.repr c.args.base) (ring.repr c.args.first)) (range_with_len 0 n)) same
