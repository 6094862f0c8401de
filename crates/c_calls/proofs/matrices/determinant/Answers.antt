use Rattle.std.proofs.Common.{◌∙◌}
use Rattle.c_calls.proofs.Calls.{determinant_is}
use Rattle.c_calls.proofs.Endings.{call_done, call_no_elements, refuted}
use Rattle.c_calls.proofs.matrices.determinant.Goals as goal

pub returns-then-not-are_elements : goal.returns-then-not-are_elements
returns-then-not-are_elements g c =
    let shape = c.has_shape.ensures.0 c.if-not-has_shape.false in
    call_no_elements (shape, c.if-space-matrix.false ∙ shape) (λ fits. refuted c.if-not-are_elements.true (c.are_elements.ensures.1 fits))

pub returns : goal.returns
returns g c =
    let field = g.S.ScalarWords.field c.args.field in
    let shape = c.has_shape.ensures.0 c.if-not-has_shape.false in
    let fits = c.are_elements.ensures.0 c.if-not-are_elements.false in
    call_done (shape, c.if-space-matrix.false ∙ shape) fits
    (determinant_is field c.args.size (field.number c.truncated.result) c.args.matrix.now c.copy_from_slice.new.self fits
    c.copy_from_slice.ensures.after (c.truncated.ensures ∙ c.determinant-value.ensures.determinant))
