use Rattle.std.proofs.Common.{map}
use Rattle.additive_transforms.proofs.WordSteps.{products_read}
use Rattle.additive_transforms.proofs.scaled_words.products_at.Goals as goal

pub returns : goal.returns
returns g c s are =
    products_read g.P.Planes.depth g.W.WordBytes.size c.args.start g.P.Planes.lanes s _ _ (map g.W.Reads.number c.args.words.now) c.requires.size
    c.gather-elements.ensures (c.set_product.ensures s are)
