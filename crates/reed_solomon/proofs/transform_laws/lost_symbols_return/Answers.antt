use Rattle.additive_transforms.specs.Words.{level_element}
use Rattle.reed_solomon.proofs.MendedColumns.{lost_symbols_return}
use Rattle.reed_solomon.proofs.transform_laws.lost_symbols_return.Goals as goal

pub returns : goal.returns
returns g c = lost_symbols_return (level_element g.R.Stored.number g.L.Level.LEVEL) g.R.Stored.ZERO g.L.Level.LEVEL
