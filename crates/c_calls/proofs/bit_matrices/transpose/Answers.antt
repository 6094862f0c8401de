use Rattle.c_calls.proofs.Endings.{call_done, call_misfit, call_no_elements, refuted}
use Rattle.c_calls.proofs.bit_matrices.transpose.Goals as goal
use Rattle.c_calls.proofs.bit_matrices.transpose.Goals.{then-not-has_bit_shape-via-then-not-has_bit_shape, then-not-has_bit_shape-via-else-not-has_bit_shape+then-not-has_bit_shape-2}

pub are_bits-requires : goal.are_bits-requires
are_bits-requires c = c.has_bit_shape.ensures.0 c.if-not-has_bit_shape.false

pub transpose_into-requires-clause-source : goal.transpose_into-requires-clause-source
transpose_into-requires-clause-source c = c.has_bit_shape.ensures.0 c.if-not-has_bit_shape.false

pub transpose_into-requires-clause-shape : goal.transpose_into-requires-clause-shape
transpose_into-requires-clause-shape c = c.has_bit_shape-else-not-has_bit_shape.ensures.0 c.if-not-has_bit_shape-2.false

pub returns-then-not-has_bit_shape : goal.returns-then-not-has_bit_shape
returns-then-not-has_bit_shape c =
    call_misfit
    (λ fit.
    elim c.then-not-has_bit_shape.branch [
      | then-not-has_bit_shape-via-then-not-has_bit_shape w ↦ refuted w.if-not-has_bit_shape.true (c.has_bit_shape.ensures.1 fit.0)
      | then-not-has_bit_shape-via-else-not-has_bit_shape+then-not-has_bit_shape-2 w ↦
          refuted w.if-not-has_bit_shape-2.true (w.has_bit_shape-else-not-has_bit_shape.ensures.1 fit.1)
    ])

pub returns-then-not-are_bits : goal.returns-then-not-are_bits
returns-then-not-are_bits c =
    call_no_elements (
      c.has_bit_shape.ensures.0 c.if-not-has_bit_shape.false,
      c.has_bit_shape-else-not-has_bit_shape.ensures.0 c.if-not-has_bit_shape-2.false,
    )
    (λ fits. refuted c.if-not-are_bits.true (c.are_bits.ensures.1 fits))

pub returns : goal.returns
returns c =
    call_done (
      c.has_bit_shape.ensures.0 c.if-not-has_bit_shape.false,
      c.has_bit_shape-else-not-has_bit_shape.ensures.0 c.if-not-has_bit_shape-2.false,
    )
    (c.are_bits.ensures.0 c.if-not-are_bits.false) (c.transpose_into.ensures.behind, c.transpose_into.ensures.entries)
