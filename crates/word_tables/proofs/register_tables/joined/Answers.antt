use Rattle.word_tables.proofs.Lookups.{picked_all}
use Rattle.word_tables.proofs.register_tables.joined.Goals as goal

pub returns : goal.returns
returns c = picked_all c.args.first c.args.second c.fits-first.0 c.fits-second.0
