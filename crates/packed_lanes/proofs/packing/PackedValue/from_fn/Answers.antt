use Rattle.std.proofs.Common.{◌≡◌, ◌+◌, ◌<◌, ◌≤◌, length, take, subst, sym, ◌∙◌, ap, arith, rules}
use Rattle.std.proofs.lemmas.List.{length-take, take_all, take_more_set}
use Rattle.std.specs.Array.{FillsFrom}
use Rattle.field_base.proofs.Calls.{fills_more, may_call, may_go_on}
use Rattle.packed_lanes.proofs.packing.PackedValue.from_fn.Goals as goal

pub f-answer-requires : goal.f-answer-requires
f-answer-requires g c =
    let inside : c.loop-lane.lane < g.Self.PackedValue.WIDTH = search rules in may_call _ _ inside c.loop-lane.invariant.0

pub loop-lane-preserved : goal.loop-lane-preserved
loop-lane-preserved g c =
    let lane = c.loop-lane.lane in
    let before = g.Self.PackedValue.lanes c.loop-lane.value in
    let long = g.met.Self.PackedValue.width_law c.loop-lane.value in
    let inside : lane < g.Self.PackedValue.WIDTH = search rules in
    let within : lane < length before = omega (arith, long, c.WIDTH-lane-end.ensures, c.loop-lane-test.true) in
    let written = ap (take (lane + 1)) c.set_lane.ensures ∙ take_more_set before lane c.f-answer.result within in
    let so_far = length-take lane before in
    let place : lane ≡ 0 + length (take lane before) = omega (arith, so_far, within) in (
      may_go_on _ lane inside c.loop-lane.invariant.0 c.f-answer.new.self (c.f-answer.result, c.f-answer.ensures),
      subst (λ xs. FillsFrom (λ p i x q. goal.F-step g p i x q) c.args.f 0 xs c.f-answer.new.self) (sym written)
          (fills_more (λ p i x q. goal.F-step g p i x q) c.args.f 0 (take lane before) c.loop-lane.f c.f-answer.new.self
          c.f-answer.result lane place c.loop-lane.invariant.1 c.f-answer.ensures),
    )

pub returns : goal.returns
returns g c =
    let lane = c.loop-lane.lane in
    let lanes = g.Self.PackedValue.lanes c.loop-lane.value in
    let long = g.met.Self.PackedValue.width_law c.loop-lane.value in
    let all : length lanes ≤ lane = omega (arith, long, c.WIDTH-lane-end.ensures, c.loop-lane-test.false) in (
      c.loop-lane.f,
      subst (λ xs. FillsFrom (λ p i x q. goal.F-step g p i x q) c.args.f 0 xs c.loop-lane.f) (take_all lane lanes all)
          c.loop-lane.invariant.1,
    )
