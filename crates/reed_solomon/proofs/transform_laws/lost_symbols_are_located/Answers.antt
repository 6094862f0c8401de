use Rattle.reed_solomon.proofs.Decoding.{lost_symbols_are_located}
use Rattle.reed_solomon.proofs.transform_laws.lost_symbols_are_located.Goals as goal

pub returns : goal.returns
returns c = lost_symbols_are_located
