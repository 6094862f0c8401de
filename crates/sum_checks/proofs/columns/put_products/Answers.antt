use Rattle.std.proofs.Common.{◌≡◌, ◌+◌, ◌*◌, length, map, ◌∙◌, ap, arith}
use Rattle.std.specs.Prelude.{slice_index}
use Rattle.field_base.specs.Basis.{product_below}
use Rattle.sum_checks.specs.Terms.{row_entry}
use Rattle.field_base.proofs.Places.{numbers-lt}
use Rattle.sum_checks.proofs.TermSteps.{product-first, product-more}
use Rattle.sum_checks.proofs.columns.put_products.Goals as goal

pub put_column-requires-clause-inside : goal.put_column-requires-clause-inside
put_column-requires-clause-inside g c = c.requires.inside 0 c.requires.some

pub loop-place-init : goal.loop-place-init
loop-place-init g c i below =
    let field = g.F.Represented in
    c.put_column.ensures i below
    ∙ product-first field.width field.product g.met.F.Field.field_law.ring
    (λ k. row_entry c.args.count (map field.repr c.args.rows.now) i (slice_index c.args.factors.now k))
    (numbers-lt field.repr field.width field.range_law c.args.rows.now (i * c.args.count + slice_index c.args.factors.now 0))

pub multiply_column-requires-clause-inside : goal.multiply_column-requires-clause-inside
multiply_column-requires-clause-inside g c = c.requires.inside c.loop-place.place (omega arith)

pub loop-place-preserved : goal.loop-place-preserved
loop-place-preserved g c i below =
    let field = g.F.Represented in
    product-more field.product (λ k. row_entry c.args.count (map field.repr c.args.rows.now) i (slice_index c.args.factors.now k)) c.loop-place.place
    (slice_index (map field.repr c.loop-place.column) i) (slice_index (map field.repr c.multiply_column.new.column) i)
    (c.loop-place.invariant i below) (c.multiply_column.ensures i (omega (arith, below)))

pub returns : goal.returns
returns g c i below =
    let field = g.F.Represented in
    let all : c.loop-place.place ≡ length c.args.factors.now = omega arith in
    c.loop-place.invariant i below
    ∙ ap (product_below field.product (λ k. row_entry c.args.count (map field.repr c.args.rows.now) i (slice_index c.args.factors.now k))) all
