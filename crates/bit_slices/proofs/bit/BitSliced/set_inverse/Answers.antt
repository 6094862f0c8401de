use Rattle.bit_slices.proofs.LaneBits.{bit_lane-inverse}
use Rattle.bit_slices.proofs.bit.BitSliced.set_inverse.Goals as goal

pub returns : goal.returns
returns g c l = (λ none. none, bit_lane-inverse (g.V.WordVector.words c.args.x.now.words) l)
