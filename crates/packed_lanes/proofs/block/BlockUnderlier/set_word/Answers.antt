use Rattle.packed_lanes.specs.lemmas.Joined.{whole-set, with_part}
use Rattle.packed_lanes.proofs.block.BlockUnderlier.set_word.Goals as goal

pub returns-clause-replaced : goal.returns-clause-replaced
returns-clause-replaced g c =
    with_part 64 g.row.N c.args.self.now.words c.checked-row.ensures.whole c.args.i c.args.word c.requires c.ranges.word.fits

pub returns-clause-whole : goal.returns-clause-whole
returns-clause-whole g c =
    whole-set 64 g.row.N c.args.self.now.words c.checked-row.ensures.whole c.args.i c.args.word c.ranges.word.fits
