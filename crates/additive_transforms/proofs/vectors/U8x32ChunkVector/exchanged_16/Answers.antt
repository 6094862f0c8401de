use Rattle.std.proofs.Common.{refl}
use Rattle.additive_transforms.proofs.Exchanges.{exchanged}
use Rattle.additive_transforms.proofs.vectors.U8x32ChunkVector.exchanged_16.Goals as goal

pub returns : goal.returns
returns c = exchanged 32 1 8 c.args.self refl c.fits-self.0
