use Rattle.field_base.proofs.Codewords.{codeword_exists}
use Rattle.field_base.proofs.laws.codeword_exists.Goals as goal

pub returns : goal.returns
returns c = codeword_exists
