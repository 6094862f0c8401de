use Rattle.bit_slices.proofs.LaneBits.{bit_lane-root}
use Rattle.bit_slices.proofs.bit.BitSliced.add_by_root.Goals as goal

pub returns : goal.returns
returns g c l =
    let by_root = bit_lane-root (g.V.WordVector.words c.args.x.now.words) l in
    cc (by_root, c.sum_of-self.ensures l)
