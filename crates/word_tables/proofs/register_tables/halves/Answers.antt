use Rattle.word_tables.proofs.Lookups.{first_half, second_half}
use Rattle.word_tables.proofs.register_tables.halves.Goals as goal

pub returns : goal.returns
returns c first second long also is =
    (first_half c.args.lanes first second c.fits-lanes.0 long is, second_half c.args.lanes first second c.fits-lanes.0 long also is)
