use Rattle.std.proofs.Common.{sym}
use Rattle.packed_lanes.specs.lemmas.Joined.{joined-part, whole-below}
use Rattle.packed_lanes.proofs.block.BlockUnderlier.word.Goals as goal

pub returns : goal.returns
returns g c = sym (joined-part 64 c.args.self.now.words (whole-below 64 g.row.N c.args.self.now.words c.checked-row.ensures.whole) c.args.i)
