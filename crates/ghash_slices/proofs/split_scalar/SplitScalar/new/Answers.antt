use Rattle.std.proofs.Common.{◌≡◌, [], ◌∷◌, ◌/◌, ◌%◌, ◌^◌, ◌∙◌, ap, ap₂, arith, List, ℕ}
use Rattle.word_carryless.specs.DoubleWords.{high_halves, low_halves, sums_of_halves}
use Rattle.word_carryless.proofs.LaneProducts.{same_classes}
use Rattle.ghash_slices.specs.SplitWords.{high_words_of, low_words_of}
use Rattle.ghash_slices.proofs.split_scalar.SplitScalar.new.Goals as goal

pub invariant_of-result : goal.invariant_of-result
invariant_of-result c =
    let words = c.split_128-low in
    let others = c.split_128-companion_low in
    let low : words.result.0 ≡ c.args.scalar % 2 ^ 64 = omega (arith, words.ensures) in
    let high : words.result.1 ≡ c.args.scalar / 2 ^ 64 = omega (arith, words.ensures) in
    let other_low : others.result.0 ≡ c.times_power.result % 2 ^ 64 = omega (arith, others.ensures) in
    let other_high : others.result.1 ≡ c.times_power.result / 2 ^ 64 = omega (arith, others.ensures) in
    let lows : words.result.0 ∷ others.result.0 ∷ [] ≡ low_words_of c.args.scalar =
    ap₂ (λ (x y : ℕ). x ∷ y ∷ []) low (other_low ∙ ap (λ (z : ℕ). z % 2 ^ 64) c.times_power.ensures) in
    let highs : words.result.1 ∷ others.result.1 ∷ [] ≡ high_words_of c.args.scalar =
    ap₂ (λ (x y : ℕ). x ∷ y ∷ []) high (other_high ∙ ap (λ (z : ℕ). z / 2 ^ 64) c.times_power.ensures) in
    record {
      fits = omega arith;
      low_low = same_classes _ _ _ _ _ _ (ap low_halves lows) c.halves_of.ensures.low;
      low_high = same_classes _ _ _ _ _ _ (ap (λ (ws : List ℕ). low_halves (high_halves ws)) lows) c.halves_of.ensures.high;
      low_both = same_classes _ _ _ _ _ _ (ap (λ (ws : List ℕ). low_halves (sums_of_halves ws)) lows) c.halves_of.ensures.both;
      high_low = same_classes _ _ _ _ _ _ (ap low_halves highs) c.halves_of-2.ensures.low;
      high_high = same_classes _ _ _ _ _ _ (ap (λ (ws : List ℕ). low_halves (high_halves ws)) highs) c.halves_of-2.ensures.high;
      high_both = same_classes _ _ _ _ _ _ (ap (λ (ws : List ℕ). low_halves (sums_of_halves ws)) highs) c.halves_of-2.ensures.both;
    }
