use Rattle.std.proofs.Common.{◌≡◌, ℕ, ◌-◌, suc, length, map, ◌∙◌, ap, ap₂, refl, arith}
use Rattle.std.specs.Prelude.{slice_index}
use Rattle.field_base.specs.Basis.{sum_below}
use Rattle.field_base.proofs.BasisSums.{sum_below-same}
use Rattle.sum_checks.specs.Terms.{row_entry, row_product}
use Rattle.field_slices.proofs.CubeTables.{none-if_empty, some-unless_empty}
use Rattle.sum_checks.proofs.ColumnSteps.{dot-sum, last-factor, no-factors}
use Rattle.sum_checks.proofs.columns.sum_of_products.Goals as goal

pub returns-then-is_empty : goal.returns-then-is_empty
returns-then-is_empty g c =
    no-factors g.F.Represented.product c.args.count (map g.F.Represented.repr c.args.rows.now) c.args.factors.now (length c.args.left.now)
    g.F.Represented.unit _ (none-if_empty _ _ c.is_empty.ensures c.if-is_empty.true) g.met.F.Field.unit_law c.from_u64.ensures

pub returns-then-factors-eq1 : goal.returns-then-factors-eq1
returns-then-factors-eq1 g c =
    let field = g.F.Represented in
    let column = c.put_products.new.column in
    let size = length c.args.left.now in
    let long : length column ≡ size = omega arith in
    c.sum_of_column.ensures ∙ ap (sum_below (slice_index (map field.repr column))) long
    ∙ sum_below-same (slice_index (map field.repr column)) (row_product field.product c.args.count (map field.repr c.args.rows.now) c.args.factors.now)
    size c.put_products.ensures

pub returns : goal.returns
returns g c =
    let field = g.F.Represented in
    let left = c.put_products-2.new.column in
    let right = c.put_column.new.column in
    let size = length c.args.left.now in
    let factors = c.args.factors.now in
    let rows = map field.repr c.args.rows.now in
    let long : length left ≡ size = omega arith in
    let same : length left ≡ length right = omega arith in
    let some = some-unless_empty _ _ c.is_empty.ensures c.if-is_empty.false in
    let last : suc (length factors - 1) ≡ length factors = omega (arith, some) in
    let products = λ (i : ℕ). field.product (slice_index (map field.repr left) i) (slice_index (map field.repr right) i) in
    c.dot_product_of_slices.ensures ∙ dot-sum field.product field.repr left right same ∙ ap (sum_below products) long
    ∙ sum_below-same products (row_product field.product c.args.count rows factors) size
    (λ i below.
    ap₂ field.product (c.put_products-2.ensures i below) (c.put_column.ensures i (omega (arith, below)))
    ∙ last-factor field.product (row_entry c.args.count rows i) factors _ (length factors - 1) last refl)
