use Rattle.std.proofs.Common.{◌<◌, ◌∙◌, ap, arith, rules, ℕ}
use Rattle.ghash_slices.specs.LowStages.{ghash_product}
use Rattle.ghash_slices.proofs.TabledProducts.{row_held}
use Rattle.ghash_slices.proofs.scalar_products.digit_products.Goals as goal

pub loop-row-init : goal.loop-row-init
loop-row-init c = (search rules, λ p below. absurd (omega arith))

pub loop-row-preserved : goal.loop-row-preserved
loop-row-preserved c =
    let row = c.loop-row.row in
    let few : row < 32 = omega arith in (
      c.put_row.ensures.same_length ∙ c.loop-row.invariant.0,
      row_held c.args.scalar row c.loop-row.products c.put_row.new.numbers c.multiples_of-multiples.result few c.loop-row.invariant.0
          c.loop-row.invariant.1
          (λ d small. c.multiples_of-multiples.ensures d small ∙ ap (λ (s : ℕ). ghash_product s d) c.times_power.ensures)
          c.put_row.ensures,
    )

pub returns : goal.returns
returns c p below = c.loop-row.invariant.1 p (omega (arith, below))
