use Rattle.tags.proofs.Hashes.{ghash_result}
use Rattle.tags.proofs.encoding.HighestFirstEncoding.write.Goals as goal

pub returns : goal.returns
returns c = λ key blocks. ghash_result key blocks c.args.sum _ _ c.to_be_bytes.ensures c.reversed_bits.ensures
