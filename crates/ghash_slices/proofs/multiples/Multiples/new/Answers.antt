use Rattle.std.proofs.Common.{◌*◌, ◌∙◌}
use Rattle.std.specs.Prelude.{slice_index}
use Rattle.ghash_slices.specs.LowStages.{ghash_product}
use Rattle.ghash_slices.proofs.DigitMultiples.{high_multiple}
use Rattle.ghash_slices.proofs.HornerProducts.{rows_same}
use Rattle.ghash_slices.proofs.multiples.Multiples.new.Goals as goal

pub invariant_of-result : goal.invariant_of-result
invariant_of-result c = record {
  low_is =
      rows_same c.rows_of-low.result (slice_index c.multiples_of.result) (λ digit. ghash_product c.args.scalar digit)
      c.multiples_of.ensures c.rows_of-low.ensures;
  high_is =
      rows_same c.rows_of-high.result (slice_index c.multiples_of-2.result) (λ digit. ghash_product c.args.scalar (digit * 16))
      (λ e small. c.multiples_of-2.ensures e small ∙ high_multiple c.args.scalar c.times_power.result e small c.times_power.ensures)
      c.rows_of-high.ensures;
}
