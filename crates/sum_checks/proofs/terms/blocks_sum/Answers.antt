use Rattle.std.proofs.Common.{◌+◌, ◌*◌, ◌≤◌, length, map, take, ap, ◌∙◌, sym, arith}
use Rattle.std.proofs.Math.Nat.{mul-le-mul_right}
use Rattle.std.proofs.lemmas.List.{length-take-le}
use Rattle.sum_checks.specs.Products.{term_product}
use Rattle.sum_checks.specs.Terms.{row_entry, terms_value}
use Rattle.sum_checks.proofs.BlockSums.{block-more}
use Rattle.sum_checks.proofs.terms.blocks_sum.Goals as goal
use Rattle.field_base.proofs.BasisSums.{sum_below-none}

pub loop-start-init : goal.loop-start-init
loop-start-init g c =
    let field = g.F.Represented in (
      omega arith,
      ap field.repr c.ZERO-sum.ensures ∙ g.met.F.PrimeCharacteristicRing.zero_law
          ∙ sym (sum_below-none (λ i. terms_value field.product (map (term_product field.repr) c.args.terms.now)
          (row_entry c.args.count (map field.repr c.args.values.now) i))),
    )

pub rows_from-block-requires : goal.rows_from-block-requires
rows_from-block-requires g c =
    let most : (c.loop-start.start + c.min-size.result) * c.args.count ≤ c.args.rows * c.args.count = mul-le-mul_right c.args.count (omega arith) in
    let long = c.requires.size in
    omega (arith, most, long)

pub loop-start-preserved : goal.loop-start-preserved
loop-start-preserved g c =
    let field = g.F.Represented in
    let size = c.min-size.result in
    let left = c.loop-start.left in
    let small : size ≤ length left = omega arith in (
      omega arith,
      block-more field.repr field.product (map (term_product field.repr) c.args.terms.now) c.args.count c.requires.within c.args.values.now _
          c.loop-start.start size (length (take size left)) (field.repr c.loop-start.sum) (field.repr c.terms_sum-part.result)
          (field.repr c.add-sum.result) c.rows_from-block.ensures.values (length-take-le size left small) c.loop-start.invariant.1
          c.terms_sum-part.ensures
          (g.met.F.Represented.add_law c.loop-start.sum c.terms_sum-part.result c.add-sum.result c.add-sum.ensures),
    )
