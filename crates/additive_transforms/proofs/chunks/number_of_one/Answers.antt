use Rattle.std.proofs.Common.{sym, ◌∙◌}
use Rattle.additive_transforms.proofs.ChunkProducts.{chunk-number}
use Rattle.additive_transforms.proofs.chunks.number_of_one.Goals as goal

pub returns : goal.returns
returns c = c.number_of_bytes.ensures ∙ sym (chunk-number c.args.bytes c.fits-bytes.0)
