use Rattle.tags.proofs.Hashes.{polyval_result}
use Rattle.tags.proofs.encoding.LowestFirstEncoding.write.Goals as goal

pub returns : goal.returns
returns c = λ key blocks. polyval_result key blocks c.args.sum _ _ c.to_le_bytes.ensures c.reversed_bits.ensures
