use Rattle.c_calls.proofs.Endings.{call_done, call_no_elements, refuted}
use Rattle.c_calls.proofs.PackedRows.{reduced_bits}
use Rattle.c_calls.proofs.bit_matrices.row_reduce.Goals as goal

pub row_reduce-requires-clause-shape : goal.row_reduce-requires-clause-shape
row_reduce-requires-clause-shape c = c.has_bit_shape.ensures.0 c.if-not-has_bit_shape.false

pub are_bits-requires : goal.are_bits-requires
are_bits-requires c = c.has_bit_shape.ensures.0 c.if-not-has_bit_shape.false

pub returns-then-not-are_bits : goal.returns-then-not-are_bits
returns-then-not-are_bits c =
    call_no_elements (c.has_bit_shape.ensures.0 c.if-not-has_bit_shape.false, c.if-pivots-rows.false)
    (λ fits. refuted c.if-not-are_bits.true (c.are_bits.ensures.1 fits))

pub returns : goal.returns
returns c =
    let fits = c.are_bits.ensures.0 c.if-not-are_bits.false in
    call_done (c.has_bit_shape.ensures.0 c.if-not-has_bit_shape.false, c.if-pivots-rows.false) fits
    (reduced_bits c.args.rows c.args.columns c.row_reduce.result c.args.matrix.now c.row_reduce.new.matrix c.args.pivots.now c.row_reduce.new.pivots
    fits c.row_reduce.ensures.reduced c.row_reduce.ensures.whole)
