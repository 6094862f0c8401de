use Rattle.bit_slices.proofs.LaneBits.{bit_lane-square}
use Rattle.bit_slices.proofs.bit.BitSliced.square.Goals as goal

pub returns : goal.returns
returns g c l = bit_lane-square (g.V.WordVector.words c.args.self.now.words) l
