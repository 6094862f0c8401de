use Rattle.std.proofs.Common.{◌≡◌, ℕ, ◌+◌, ◌*◌, ◌<◌, ap, arith}
use Rattle.bit_slices.proofs.BlockLanes.{one_more_block, room_for_block}
use Rattle.bit_slices.proofs.blocks.change_blocks.Goals as goal

pub change_block-requires-clause-fits : goal.change_block-requires-clause-fits
change_block-requires-clause-fits g c =
    let size : ℕ = 128 * g.T.Sliced.units in
    let number = c.loop-number.number in
    let start : number * c.lanes.result ≡ number * size = ap (λ (n : ℕ). number * n) c.lanes.ensures in
    let less : number < c.args.blocks = omega (arith, c.loop-number-test.true) in
    let room = room_for_block size c.args.blocks number _ less c.requires.fits in
    omega (arith, start, room, c.loop-number.invariant.0)

pub change_block-requires-clause-reaches : goal.change_block-requires-clause-reaches
change_block-requires-clause-reaches g c n inside =
    let size : ℕ = 128 * g.T.Sliced.units in
    let number = c.loop-number.number in
    let start : number * c.lanes.result ≡ number * size = ap (λ (n : ℕ). number * n) c.lanes.ensures in
    let less : number < c.args.blocks = omega (arith, c.loop-number-test.true) in
    let room = room_for_block size c.args.blocks number _ less c.requires.fits in
    c.requires.reaches (number * c.lanes.result + n) (omega (arith, start, room, inside))

pub loop-number-preserved : goal.loop-number-preserved
loop-number-preserved g c =
    let size : ℕ = 128 * g.T.Sliced.units in
    let number = c.loop-number.number in
    one_more_block size (g.O.Operation.gives c.args.others.now) g.W.Reads.number c.args.words.now c.loop-number.words
    c.change_block.new.words number (number * c.lanes.result) (ap (λ (n : ℕ). number * n) c.lanes.ensures) c.loop-number.invariant
    c.change_block.ensures.changed c.change_block.ensures.kept
