use Rattle.std.proofs.Common.{◌+◌, ◌*◌, get_or}
use Rattle.bit_slices.proofs.BlockLanes.{turned_in_lanes}
use Rattle.bit_slices.proofs.blocks.load.Goals as goal

pub returns : goal.returns
returns g c d =
    let lane = g.T.Sliced.lane in
    turned_in_lanes g.T.Sliced.LEVEL g.R.TowerWord.LEVEL (g.T.Sliced.units * g.R.TowerWord.COUNT) (lane c.read.new.self) (lane c.turn.new.self)
    (λ n. g.W.Reads.number (get_or c.args.words.now (c.args.start + n) d)) g.met.T.SlicesOf.level_law (c.read.ensures.read d) c.turn.ensures
    (g.T.Sliced.fits_law c.turn.new.self)
