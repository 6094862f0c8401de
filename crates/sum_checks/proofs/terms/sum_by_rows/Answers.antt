use Rattle.std.proofs.Common.{◌+◌, ◌*◌, ◌≤◌, map, ap, ◌∙◌, sym, arith}
use Rattle.std.specs.Prelude.{bit_xor}
use Rattle.std.proofs.Math.Nat.{mul-le-mul_right}
use Rattle.field_slices.proofs.NextTerms.{sum-more}
use Rattle.sum_checks.specs.Products.{term_product}
use Rattle.sum_checks.specs.Terms.{row_entry, terms_value}
use Rattle.sum_checks.proofs.Rows.{terms_value-same}
use Rattle.sum_checks.proofs.TermSteps.{row-value}
use Rattle.sum_checks.proofs.terms.sum_by_rows.Goals as goal
use Rattle.field_base.proofs.BasisSums.{sum_below-none}

pub loop-row-init : goal.loop-row-init
loop-row-init g c =
    let field = g.F.Represented in
    ap field.repr c.ZERO-sum.ensures ∙ g.met.F.PrimeCharacteristicRing.zero_law
    ∙ sym (sum_below-none (λ i. terms_value field.product (map (term_product field.repr) c.args.terms.now)
    (row_entry c.args.count (map field.repr c.args.values.now) i)))

pub loop-row-preserved : goal.loop-row-preserved
loop-row-preserved g c =
    let field = g.F.Represented in
    sum-more (λ i. terms_value field.product (map (term_product field.repr) c.args.terms.now)
    (row_entry c.args.count (map field.repr c.args.values.now) i)) c.loop-row.row (field.repr c.loop-row.sum)
    (field.repr c.add-sum.result) c.loop-row.invariant
    (g.met.F.Represented.add_law c.loop-row.sum c.terms_at-value.result c.add-sum.result c.add-sum.ensures
    ∙ ap (bit_xor (field.repr c.loop-row.sum))
    (c.terms_at-value.ensures
    ∙ terms_value-same field.product c.args.count (map (term_product field.repr) c.args.terms.now) _
    (row_entry c.args.count (map field.repr c.args.values.now) c.loop-row.row) c.requires.within
    (λ j inside.
    row-value field.repr c.args.values.now _ (c.loop-row.row * c.args.count) (1 * c.args.count) c.args.count j c.rows_from.ensures.values
    (omega arith) inside)))

pub rows_from-requires : goal.rows_from-requires
rows_from-requires g c =
    let most : (c.loop-row.row + 1) * c.args.count ≤ c.args.rows * c.args.count = mul-le-mul_right c.args.count (omega arith) in
    let long = c.requires.size in
    omega (arith, most, long)
