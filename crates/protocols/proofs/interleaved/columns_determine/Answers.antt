use Rattle.protocols.proofs.CodeColumns.{columns_determine}
use Rattle.protocols.proofs.interleaved.columns_determine.Goals as goal

pub returns : goal.returns
returns c = columns_determine
