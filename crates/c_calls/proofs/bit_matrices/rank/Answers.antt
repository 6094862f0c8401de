use Rattle.std.proofs.Common.{length, ◌∙◌, ap}
use Rattle.c_calls.proofs.Endings.{call_done, call_no_elements, refuted}
use Rattle.c_calls.proofs.PackedRows.{bit_rank_is}
use Rattle.c_calls.proofs.bit_matrices.rank.Goals as goal

pub are_bits-requires : goal.are_bits-requires
are_bits-requires c = c.has_bit_shape.ensures.0 c.if-not-has_bit_shape.false

pub returns-then-not-are_bits : goal.returns-then-not-are_bits
returns-then-not-are_bits c =
    let shape = c.has_bit_shape.ensures.0 c.if-not-has_bit_shape.false in
    call_no_elements (shape, c.if-space-matrix.false ∙ shape, c.if-places-rows.false)
    (λ fits. refuted c.if-not-are_bits.true (c.are_bits.ensures.1 fits))

pub row_reduce-requires-clause-shape : goal.row_reduce-requires-clause-shape
row_reduce-requires-clause-shape c = ap length c.copy_from_slice.ensures.after ∙ c.has_bit_shape.ensures.0 c.if-not-has_bit_shape.false

pub row_reduce-requires-clause-room : goal.row_reduce-requires-clause-room
row_reduce-requires-clause-room c = c.if-places-rows.false

pub returns : goal.returns
returns c =
    let shape = c.has_bit_shape.ensures.0 c.if-not-has_bit_shape.false in
    let fits = c.are_bits.ensures.0 c.if-not-are_bits.false in
    call_done (shape, c.if-space-matrix.false ∙ shape, c.if-places-rows.false) fits
    (bit_rank_is c.args.rows c.args.columns c.row_reduce.result c.args.matrix.now c.copy_from_slice.new.self c.row_reduce.new.matrix c.args.places.now
    c.row_reduce.new.pivots c.copy_from_slice.ensures.after c.row_reduce.ensures.reduced)
