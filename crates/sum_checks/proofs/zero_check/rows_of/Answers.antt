use Rattle.std.proofs.Common.{◌≡◌, ◌^◌, length, map, ap, arith, ◌∙◌}
use Rattle.sum_checks.proofs.ZeroRuns.{corner-inside, four-pushed, rows-more, rows-none, rows-whole}
use Rattle.sum_checks.proofs.zero_check.rows_of.Goals as goal

pub corners-init : goal.corners-init
corners-init g c =
    rows-none g.F.Represented.repr g.F.Represented.product c.args.point.now c.args.a.now c.args.b.now c.args.c.now c.new-rows.result.items
    c.new-rows.ensures.items

pub offset_bounds-table-corner : goal.offset_bounds-table-corner
offset_bounds-table-corner g c =
    let table = ap (map g.F.Represented.repr) c.as_slice-table.ensures.value ∙ c.in_ok-weights.ensures in
    let inside = corner-inside _ _ c.args.point.now c.args.a.now c.args.b.now c.args.c.now _ _ table c.corners-test.true c.requires.first in
    omega (arith, inside)

pub bounds-table-corner : goal.bounds-table-corner
bounds-table-corner g c =
    corner-inside _ _ c.args.point.now c.args.a.now c.args.b.now c.args.c.now _ _
    (ap (map g.F.Represented.repr) c.as_slice-table.ensures.value ∙ c.in_ok-weights.ensures) c.corners-test.true c.requires.first

pub corners-preserved : goal.corners-preserved
corners-preserved g c =
    let repr = g.F.Represented.repr in
    rows-more repr g.F.Represented.product c.args.point.now c.args.a.now c.args.b.now c.args.c.now c.as_slice-table.result.now
    c.corners.rows.items c.push-in-corners-3.new.self.items c.corners.corner c.index-table-corner.result c.index-a-corner.result c.index-b-corner.result
    c.index-c-corner.result (ap (map repr) c.as_slice-table.ensures.value ∙ c.in_ok-weights.ensures) c.corners-test.true c.requires.first
    c.requires.second c.requires.third c.index-table-corner.is c.index-a-corner.is c.index-b-corner.is c.index-c-corner.is
    (four-pushed c.corners.rows.items c.push.new.self.items c.push-in-corners.new.self.items c.push-in-corners-2.new.self.items c.push-in-corners-3.new.self.items
    c.index-table-corner.result c.index-a-corner.result c.index-b-corner.result c.index-c-corner.result c.in_ok-push.ensures.items
    c.in_ok-push-2.ensures.items c.in_ok-push-3.ensures.items c.in_ok-push-4.ensures.items)
    c.corners.invariant

pub returns : goal.returns
returns g c =
    let all : c.corners.corner ≡ 2 ^ length c.args.point.now = omega (arith, c.corners-test.false, c.corners.auto.corner-end, c.requires.first) in
    rows-whole g.F.Represented.repr g.F.Represented.product c.args.point.now c.args.a.now c.args.b.now c.args.c.now c.corners.rows.items
    c.corners.corner all c.corners.invariant
