use Rattle.std.proofs.Common.{◌∙◌}
use Rattle.ghash_slices.specs.LowStages.{ghash_product}
use Rattle.many_words.proofs.WordDots.{dot_of-map}
use Rattle.many_words.proofs.products.dot_product.Goals as goal

pub returns : goal.returns
returns g c = c.dot_of_words.ensures ∙ dot_of-map ghash_product g.P.Reads.number c.args.left.now c.args.right.now
