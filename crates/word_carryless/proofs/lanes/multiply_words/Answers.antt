use Rattle.std.proofs.Common.{◌%◌, ◌^◌, ◌∙◌, ap, ap₂, List, ℕ}
use Rattle.std.specs.Prelude.{bit_xor}
use Rattle.std.specs.Simd.Lanes.{zip2}
use Rattle.field_base.specs.Carryless.{carryless}
use Rattle.word_carryless.specs.DoubleWords.{low_halves}
use Rattle.word_carryless.proofs.lanes.multiply_words.Goals as goal

pub returns : goal.returns
returns g c =
    let V = g.V.WordVector.words in
    let products = λ (xs ys : List ℕ). zip2 (λ a b. carryless a b % 2 ^ 64) (low_halves xs) (low_halves ys) in
    c.join_halves.ensures (V c.args.left) (V c.args.right) c.holds_words.ensures.fit c.holds_words-2.ensures.fit record {
      of_low = c.multiply_low_halves-low.ensures;
      of_high = c.multiply_low_halves-high.ensures ∙ ap₂ products c.down-left_high.ensures c.down-right_high.ensures;
      of_both = c.multiply_low_halves-both.ensures
          ∙ ap₂ products (c.sum.ensures ∙ ap (zip2 bit_xor (V c.args.left)) c.down-left_high.ensures)
          (c.sum-2.ensures ∙ ap (zip2 bit_xor (V c.args.right)) c.down-right_high.ensures);
    }
