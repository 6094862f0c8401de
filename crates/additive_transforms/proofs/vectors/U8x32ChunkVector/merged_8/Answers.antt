use Rattle.std.proofs.Common.{refl}
use Rattle.additive_transforms.proofs.Exchanges.{merged}
use Rattle.additive_transforms.proofs.vectors.U8x32ChunkVector.merged_8.Goals as goal

pub returns : goal.returns
returns c = merged 32 0 16 c.args.self c.args.highs refl c.fits-self.0 c.fits-highs.0
