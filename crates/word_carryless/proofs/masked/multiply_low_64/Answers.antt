use Rattle.std.proofs.Common.{ap, List, ℕ}
use Rattle.std.specs.Prelude.{slice_index}
use Rattle.word_carryless.proofs.masked.multiply_low_64.Goals as goal

pub returns : goal.returns
returns c = ap (λ (xs : List ℕ). slice_index xs 0) c.multiply_low_words-product.ensures
