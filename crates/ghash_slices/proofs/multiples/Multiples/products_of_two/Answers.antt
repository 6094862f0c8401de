use Rattle.std.proofs.Common.{◌+◌, ap, sym}
use Rattle.ghash_slices.specs.LowStages.{ghash_product}
use Rattle.ghash_slices.proofs.BlockLemmas.{rows_of, values_of}
use Rattle.ghash_slices.proofs.HornerProducts.{rows_same}
use Rattle.ghash_slices.proofs.TwoBlocks.{both_blocks, in_first, in_second}
use Rattle.ghash_slices.proofs.multiples.Multiples.products_of_two.Goals as goal

pub returns : goal.returns
returns c one other held held_too =
    let scalar = c.args.self.now.scalar in
    let values = both_blocks one other in
    let first = rows_of c.args.first.now c.transposed.result one c.transposed.ensures held in
    let second = rows_of c.args.second.now c.transposed-2.result other c.transposed-2.ensures held_too in
    let sums = c.sums_of_two-sums.ensures values
    (rows_same c.transposed.result one values (λ e small. sym (in_first one other e small)) first)
    (rows_same c.transposed-2.result other (λ e. values (16 + e)) (λ e small. sym (in_second one other e)) second) in
    let split = c.bytes_of_both.ensures (λ e. ghash_product scalar (values e)) sums in (
      values_of c.bytes_of_both.result.0 c.transposed-3.result (λ e. ghash_product scalar (one e)) c.transposed-3.ensures
          (rows_same c.bytes_of_both.result.0 (λ e. ghash_product scalar (values e)) (λ e. ghash_product scalar (one e))
          (λ e small. ap (ghash_product scalar) (in_first one other e small)) split.0),
      values_of c.bytes_of_both.result.1 c.transposed-4.result (λ e. ghash_product scalar (other e)) c.transposed-4.ensures
          (rows_same c.bytes_of_both.result.1 (λ e. ghash_product scalar (values (16 + e))) (λ e. ghash_product scalar (other e))
          (λ e small. ap (ghash_product scalar) (in_second one other e)) split.1),
    )
