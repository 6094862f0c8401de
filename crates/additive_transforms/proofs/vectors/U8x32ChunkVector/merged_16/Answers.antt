use Rattle.std.proofs.Common.{refl}
use Rattle.additive_transforms.proofs.Exchanges.{merged}
use Rattle.additive_transforms.proofs.vectors.U8x32ChunkVector.merged_16.Goals as goal

pub returns : goal.returns
returns c = merged 32 1 8 c.args.self c.args.highs refl c.fits-self.0 c.fits-highs.0
