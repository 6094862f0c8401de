use Rattle.protocols.proofs.Words.{parts_determine}
use Rattle.protocols.proofs.extension.parts_determine.Goals as goal

pub returns : goal.returns
returns c = parts_determine
