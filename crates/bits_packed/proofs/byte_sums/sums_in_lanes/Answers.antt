use Rattle.bits_packed.proofs.MaskedSums.{word-bits, word-lt}
use Rattle.bits_packed.proofs.byte_sums.sums_in_lanes.Goals as goal

pub returns-clause-few : goal.returns-clause-few
returns-clause-few c =
    word-lt c.args.mask c.args.bytes c.entry_sums.result c.ranges.mask.fits c.fits-bytes.0 c.fits-bytes.1 c.entry_sums.ensures

pub returns-clause-sums : goal.returns-clause-sums
returns-clause-sums c =
    word-bits c.args.mask c.args.bytes c.entry_sums.result c.ranges.mask.fits c.fits-bytes.0 c.fits-bytes.1 c.entry_sums.ensures
