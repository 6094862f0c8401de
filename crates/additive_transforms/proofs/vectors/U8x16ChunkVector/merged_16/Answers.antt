use Rattle.std.proofs.Common.{refl}
use Rattle.additive_transforms.proofs.Exchanges.{merged}
use Rattle.additive_transforms.proofs.vectors.U8x16ChunkVector.merged_16.Goals as goal

pub returns : goal.returns
returns c = merged 16 1 4 c.args.self c.args.highs refl c.fits-self.0 c.fits-highs.0
