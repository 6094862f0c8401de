use Rattle.field_base.proofs.Codewords.{codeword_is_unique}
use Rattle.field_base.proofs.laws.codeword_is_unique.Goals as goal

pub returns : goal.returns
returns c = codeword_is_unique
