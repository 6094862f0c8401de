use Rattle.std.proofs.Common.{◌≡◌, ℕ, ◌*◌, ◌%◌, ◌^◌, ◌<◌, ◌≤◌, ◌∙◌, ap, arith}
use Rattle.ghash_slices.specs.LowStages.{ghash_product}
use Rattle.ghash_slices.specs.SplitWords.{two_words}
use Rattle.ghash_slices.proofs.TabledProducts.{all_digits, digit_added, no_digits}
use Rattle.ghash_slices.proofs.scalar_products.sum_of_entries.Goals as goal

pub loop-digit-init : goal.loop-digit-init
loop-digit-init c scalar are = no_digits scalar c.args.word c.args.first

pub loop-digit-preserved : goal.loop-digit-preserved
loop-digit-preserved c scalar are =
    let far : c.args.first ≤ 16 = c.requires in
    let few : c.loop-digit.digit < 16 = omega arith in
    digit_added scalar c.args.word c.args.first c.loop-digit.digit c.args.entries.now c.loop-digit.sum c.lanes_of-sum.result far few are
    (c.loop-digit.invariant scalar are) c.lanes_of-sum.ensures

pub returns : goal.returns
returns c scalar are =
    let last : c.loop-digit.digit ≡ 16 = omega arith in
    c.loop-digit.invariant scalar are
    ∙ ap (λ (n : ℕ). two_words (ghash_product scalar (c.args.word % 2 ^ (4 * n) * 2 ^ (4 * c.args.first)))) last
    ∙ all_digits scalar c.args.word c.args.first (omega arith)
