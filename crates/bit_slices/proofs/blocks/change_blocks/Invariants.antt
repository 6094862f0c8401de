use Rattle.std.proofs.Common.{◌*◌}
use Rattle.bit_slices.proofs.BlockLanes.{BlocksDone}
use Rattle.bit_slices.proofs.blocks.change_blocks.Given as goal

-- the blocks before are done
abbrev pub invariant-loop-number : goal.invariant-loop-number
invariant-loop-number g l =
    BlocksDone (128 * g.T.Sliced.units) (g.O.Operation.gives l.others) g.W.Reads.number l.fn.words l.words l.number
