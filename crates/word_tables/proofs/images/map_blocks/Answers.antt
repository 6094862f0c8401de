use Rattle.std.proofs.Common.{◌≡◌, ◌*◌, ◌+◌, ◌-◌, ◌≤◌, length, arith}
use Rattle.field_base.specs.LinearMaps.{linear_image}
use Rattle.word_tables.proofs.BlockLemmas.{block_done, end_done}
use Rattle.word_tables.proofs.images.map_blocks.Goals as goal

pub loop-pair-preserved : goal.loop-pair-preserved
loop-pair-preserved c =
    let test = c.loop-pair-test.true in
    block_done (linear_image c.args.images.now) 32 c.loop-pair.pair c.args.bytes.now c.loop-pair.bytes c.images_in_lanes-mapped.result
    (omega arith) c.loop-pair.invariant c.images_in_lanes-mapped.ensures

pub loop-block-preserved : goal.loop-block-preserved
loop-block-preserved c =
    let test = c.loop-block-test.true in
    block_done (linear_image c.args.images.now) 16 c.loop-block.block c.args.bytes.now c.loop-block.bytes
    c.images_in_lanes-mapped-in-loop-block.result (omega arith) c.loop-block.invariant c.images_in_lanes-mapped-in-loop-block.ensures

pub returns : goal.returns
returns c =
    let last = length c.args.bytes.now - 16 in
    let room = c.requires in
    let whole : last + 16 ≡ length c.args.bytes.now = omega arith in
    let over = c.loop-block-test.false in
    let reach : last ≤ 16 * c.loop-block.block = omega arith in
    end_done (linear_image c.args.images.now) last 16 (16 * c.loop-block.block) c.args.bytes.now c.loop-block.bytes
    c.images_in_lanes-end.result whole reach c.loop-block.invariant c.images_in_lanes-end.ensures
