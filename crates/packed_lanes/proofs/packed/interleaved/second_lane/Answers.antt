use Rattle.std.proofs.Common.{◌+◌, sym, ◌∙◌, length, arith}
use Rattle.packed_lanes.proofs.Blocks.{after_a_block, block_fits}
use Rattle.packed_lanes.proofs.LanePoints.{same_entry}
use Rattle.packed_lanes.proofs.packed.interleaved.second_lane.Goals as goal

pub overflow_add-result : goal.overflow_add-result
overflow_add-result g c =
    let next = block_fits (length c.args.left.now) c.args.block_len c.args.lane c.requires.width c.requires.block c.requires.few c.if-block_len-count.false
    c.requires.room c.if-lane-block_len-eq0.true in
    omega (arith, next, c.ranges)

pub offset_bounds-left-lane : goal.offset_bounds-left-lane
offset_bounds-left-lane g c =
    let next = block_fits (length c.args.left.now) c.args.block_len c.args.lane c.requires.width c.requires.block c.requires.few c.if-block_len-count.false
    c.requires.room c.if-lane-block_len-eq0.true in
    omega (arith, next)

pub bounds-left-lane : goal.bounds-left-lane
bounds-left-lane g c =
    block_fits (length c.args.left.now) c.args.block_len c.args.lane c.requires.width c.requires.block c.requires.few c.if-block_len-count.false
    c.requires.room c.if-lane-block_len-eq0.true

pub returns-then-lane-block_len-eq0 : goal.returns-then-lane-block_len-eq0
returns-then-lane-block_len-eq0 g c =
    λ d.
    let next = block_fits (length c.args.left.now) c.args.block_len c.args.lane c.requires.width c.requires.block c.requires.few
    c.if-block_len-count.false c.requires.room c.if-lane-block_len-eq0.true in
    c.index-left-lane.is
    ∙ same_entry c.args.left.now (c.args.lane + c.args.block_len) c.index-left-lane.result d next
    ∙ sym (after_a_block c.args.block_len c.args.left.now c.args.right.now d c.args.lane c.if-block_len-count.false c.if-lane-block_len-eq0.true)
