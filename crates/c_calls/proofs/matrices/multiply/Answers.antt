use Rattle.c_calls.proofs.Calls.{product_is}
use Rattle.c_calls.proofs.Endings.{call_done, call_misfit, call_no_elements, refuted}
use Rattle.c_calls.proofs.LowNumbers.{now_numbers}
use Rattle.c_calls.proofs.matrices.multiply.Goals as goal

pub multiply_into-requires-clause-left : goal.multiply_into-requires-clause-left
multiply_into-requires-clause-left g c = (c.have_product_shapes.ensures.0 c.if-not-have_product_shapes.false).0

pub multiply_into-requires-clause-right : goal.multiply_into-requires-clause-right
multiply_into-requires-clause-right g c = (c.have_product_shapes.ensures.0 c.if-not-have_product_shapes.false).1

pub multiply_into-requires-clause-shape : goal.multiply_into-requires-clause-shape
multiply_into-requires-clause-shape g c = (c.have_product_shapes.ensures.0 c.if-not-have_product_shapes.false).2

pub returns-then-not-have_product_shapes : goal.returns-then-not-have_product_shapes
returns-then-not-have_product_shapes g c =
    call_misfit (λ fit. refuted c.if-not-have_product_shapes.true (c.have_product_shapes.ensures.1 fit))

pub returns-then-not-are_both_elements : goal.returns-then-not-are_both_elements
returns-then-not-are_both_elements g c =
    call_no_elements (c.have_product_shapes.ensures.0 c.if-not-have_product_shapes.false)
    (λ both. refuted c.if-not-are_both_elements.true (c.are_both_elements.ensures.1 both))

pub returns : goal.returns
returns g c =
    let field = g.S.ScalarWords.field c.args.field in
    let target = c.multiply_into.new.target in
    let product = c.truncate_all.new.words in
    let fits = c.are_both_elements.ensures.0 c.if-not-are_both_elements.false in
    call_done (c.have_product_shapes.ensures.0 c.if-not-have_product_shapes.false)
    fits
    (product_is field c.args.rows c.args.inner c.args.columns c.args.left.now c.args.right.now target product fits.0 fits.1
    (now_numbers field target product c.truncate_all.ensures.long c.truncate_all.ensures.low) c.multiply_into.ensures.product)
