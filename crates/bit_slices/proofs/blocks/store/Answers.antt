use Rattle.std.proofs.Common.{◌+◌, ◌*◌, get_or}
use Rattle.bit_slices.proofs.BlockLanes.{lanes_before_turn}
use Rattle.bit_slices.proofs.blocks.store.Goals as goal

pub returns-clause-stored : goal.returns-clause-stored
returns-clause-stored g c d =
    let lane = g.T.Sliced.lane in
    lanes_before_turn g.T.Sliced.LEVEL g.R.TowerWord.LEVEL (g.T.Sliced.units * g.R.TowerWord.COUNT) (lane c.args.block.now)
    (lane c.turn.new.self) (λ n. g.W.Reads.number (get_or c.write.new.words (c.args.start + n) d)) g.met.T.SlicesOf.level_law (c.write.ensures.written d)
    c.turn.ensures (g.T.Sliced.fits_law c.args.block.now)
