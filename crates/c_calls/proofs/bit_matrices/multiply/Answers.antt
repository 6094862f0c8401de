use Rattle.c_calls.proofs.Endings.{call_done, call_misfit, call_no_elements, refuted}
use Rattle.c_calls.proofs.PackedRows.{product_bits}
use Rattle.c_calls.proofs.bit_matrices.multiply.Goals as goal
use Rattle.c_calls.proofs.bit_matrices.multiply.Goals.{then-not-has_bit_shape-via-then-not-has_bit_shape, then-not-has_bit_shape-via-else-not-has_bit_shape+then-not-has_bit_shape-2}
use Rattle.c_calls.proofs.bit_matrices.multiply.Goals.{then-not-has_bit_shape-via-else-not-has_bit_shape+else-not-has_bit_shape-2+then-not-has_bit_shape-3}
use Rattle.c_calls.proofs.bit_matrices.multiply.Goals.{then-not-are_bits-via-then-not-are_bits, then-not-are_bits-via-else-not-are_bits+then-not-are_bits-2}

pub multiply_into-requires-clause-left : goal.multiply_into-requires-clause-left
multiply_into-requires-clause-left c = c.has_bit_shape.ensures.0 c.if-not-has_bit_shape.false

pub multiply_into-requires-clause-right : goal.multiply_into-requires-clause-right
multiply_into-requires-clause-right c = c.has_bit_shape-else-not-has_bit_shape.ensures.0 c.if-not-has_bit_shape-2.false

pub multiply_into-requires-clause-shape : goal.multiply_into-requires-clause-shape
multiply_into-requires-clause-shape c = c.has_bit_shape-else-not-has_bit_shape-2.ensures.0 c.if-not-has_bit_shape-3.false

pub returns-then-not-has_bit_shape : goal.returns-then-not-has_bit_shape
returns-then-not-has_bit_shape c =
    call_misfit
    (λ fit.
    elim c.then-not-has_bit_shape.branch [
      | then-not-has_bit_shape-via-then-not-has_bit_shape w ↦ refuted w.if-not-has_bit_shape.true (c.has_bit_shape.ensures.1 fit.0)
      | then-not-has_bit_shape-via-else-not-has_bit_shape+then-not-has_bit_shape-2 w ↦
          refuted w.if-not-has_bit_shape-2.true (w.has_bit_shape-else-not-has_bit_shape.ensures.1 fit.1)
      | then-not-has_bit_shape-via-else-not-has_bit_shape+else-not-has_bit_shape-2+then-not-has_bit_shape-3 w ↦
          refuted w.if-not-has_bit_shape-3.true (w.has_bit_shape-else-not-has_bit_shape-2.ensures.1 fit.2)
    ])

pub returns-then-not-are_bits : goal.returns-then-not-are_bits
returns-then-not-are_bits c =
    call_no_elements (
      c.has_bit_shape.ensures.0 c.if-not-has_bit_shape.false,
      c.has_bit_shape-else-not-has_bit_shape.ensures.0 c.if-not-has_bit_shape-2.false,
      c.has_bit_shape-else-not-has_bit_shape-2.ensures.0 c.if-not-has_bit_shape-3.false,
    )
    (λ fits.
    elim c.then-not-are_bits.branch [
      | then-not-are_bits-via-then-not-are_bits w ↦ refuted w.if-not-are_bits.true (c.are_bits.ensures.1 fits.0)
      | then-not-are_bits-via-else-not-are_bits+then-not-are_bits-2 w ↦
          refuted w.if-not-are_bits-2.true (w.are_bits-else-not-are_bits.ensures.1 fits.1)
    ])

pub returns : goal.returns
returns c =
    let left = c.are_bits.ensures.0 c.if-not-are_bits.false in
    let right = c.are_bits-else-not-are_bits.ensures.0 c.if-not-are_bits-2.false in
    call_done (
      c.has_bit_shape.ensures.0 c.if-not-has_bit_shape.false,
      c.has_bit_shape-else-not-has_bit_shape.ensures.0 c.if-not-has_bit_shape-2.false,
      c.has_bit_shape-else-not-has_bit_shape-2.ensures.0 c.if-not-has_bit_shape-3.false,
    )
    (left, right)
    (product_bits c.args.rows c.args.inner c.args.columns c.args.left.now c.args.right.now c.multiply_into.new.target right
    c.multiply_into.ensures.product)
