use Rattle.ghash_slices.proofs.SplitProducts.{same_halves}
use Rattle.ghash_slices.proofs.split_scalar.narrow.Goals as goal

pub returns : goal.returns
returns c words classes =
    same_halves words _ _ _ _ _ _ _ _ classes c.masked.ensures c.masked-2.ensures c.masked-3.ensures c.masked-4.ensures
