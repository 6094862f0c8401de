use Rattle.std.proofs.Common.{sym}
use Rattle.ghash_slices.specs.LowStages.{ghash_product}
use Rattle.many_words.proofs.WordNumbers.{changed_at, changed_long}
use Rattle.many_words.proofs.products.multiply_all.Goals as goal

pub returns-clause-long : goal.returns-clause-long
returns-clause-long g c =
    changed_long g.W.Reads.number ghash_product c.args.products.now c.args.words.now c.multiply_each.new.words (sym c.requires)
    c.multiply_each.ensures

pub returns-clause-products : goal.returns-clause-products
returns-clause-products g c =
    changed_at g.W.Reads.number ghash_product c.args.products.now c.args.words.now c.multiply_each.new.words (sym c.requires)
    c.multiply_each.ensures
