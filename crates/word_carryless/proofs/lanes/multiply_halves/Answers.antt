use Rattle.word_carryless.specs.DoubleWords.{high_halves, low_halves, sums_of_halves}
use Rattle.word_carryless.proofs.LaneProducts.{halves_fit}
use Rattle.word_carryless.proofs.lanes.multiply_halves.Goals as goal

pub returns : goal.returns
returns g c left right left_fits right_fits x_low x_high x_both y_low y_high y_both =
    c.join_halves.ensures left right left_fits right_fits record {
      of_low = c.products_of_classes-low.ensures (low_halves left) (low_halves right) (halves_fit left) (halves_fit right) x_low y_low;
      of_high = c.products_of_classes-high.ensures (low_halves (high_halves left)) (low_halves (high_halves right))
          (halves_fit (high_halves left)) (halves_fit (high_halves right)) x_high y_high;
      of_both = c.products_of_classes-both.ensures (low_halves (sums_of_halves left)) (low_halves (sums_of_halves right))
          (halves_fit (sums_of_halves left)) (halves_fit (sums_of_halves right)) x_both y_both;
    }
