use Rattle.std.proofs.Common.{◌<◌, ◌^◌, [], ◌∷◌, arith}
use Rattle.word_carryless.specs.DoubleWords.{high_halves, sums_of_halves}
use Rattle.ghash_slices.specs.SplitWords.{high_words_of, low_words_of}
use Rattle.ghash_slices.proofs.SplitProducts.{high_words_fit, low_words_fit, split_product, two_fit}
use Rattle.ghash_slices.proofs.split_scalar.SplitScalarScalarProducts.product.Goals as goal

pub returns : goal.returns
returns c =
    let split = c.args.self.now in
    let l = c.split_128-low.result.0 in
    let h = c.split_128-low.result.1 in
    let l_fits : l < 2 ^ 64 = omega arith in
    let h_fits : h < 2 ^ 64 = omega arith in
    let words = c.halves_of-words.ensures in
    let lows = low_words_of split.scalar in
    let highs = high_words_of split.scalar in
    let low = c.narrow_halves.ensures in
    let high = c.narrow_halves-2.ensures in
    split_product split.scalar l h c.args.value c.sum_of_lanes.result _ _ _ _ split.fits l_fits h_fits c.split_128-low.ensures
    (c.multiply_halves.ensures lows (l ∷ h ∷ []) (low_words_fit split.scalar) (two_fit l h l_fits h_fits)
    (low.low lows split.low_low) (low.high (high_halves lows) split.low_high) (low.both (sums_of_halves lows) split.low_both)
    words.low words.high words.both)
    (c.multiply_halves-2.ensures highs (l ∷ h ∷ []) (high_words_fit split.scalar split.fits) (two_fit l h l_fits h_fits)
    (high.low highs split.high_low) (high.high (high_halves highs) split.high_high) (high.both (sums_of_halves highs) split.high_both)
    words.low words.high words.both)
    c.sum_of_lanes.ensures
