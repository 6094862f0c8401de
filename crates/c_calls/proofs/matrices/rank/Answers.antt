use Rattle.std.proofs.Common.{length, ◌∙◌, ap}
use Rattle.c_calls.proofs.Calls.{rank_is}
use Rattle.c_calls.proofs.Endings.{call_done, call_no_elements, refuted}
use Rattle.c_calls.proofs.matrices.rank.Goals as goal

pub returns-then-not-are_elements : goal.returns-then-not-are_elements
returns-then-not-are_elements g c =
    let shape = c.has_shape.ensures.0 c.if-not-has_shape.false in
    call_no_elements (shape, c.if-space-matrix.false ∙ shape, c.if-places-rows.false)
    (λ fits. refuted c.if-not-are_elements.true (c.are_elements.ensures.1 fits))

pub row_reduce-requires-clause-shape : goal.row_reduce-requires-clause-shape
row_reduce-requires-clause-shape g c = ap length c.copy_from_slice.ensures.after ∙ c.has_shape.ensures.0 c.if-not-has_shape.false

pub row_reduce-requires-clause-room : goal.row_reduce-requires-clause-room
row_reduce-requires-clause-room g c = c.if-places-rows.false

pub returns : goal.returns
returns g c =
    let field = g.S.ScalarWords.field c.args.field in
    let shape = c.has_shape.ensures.0 c.if-not-has_shape.false in
    let fits = c.are_elements.ensures.0 c.if-not-are_elements.false in
    call_done (shape, c.if-space-matrix.false ∙ shape, c.if-places-rows.false) fits
    (rank_is field c.args.rows c.args.columns c.row_reduce.result c.row_reduce.new.pivots c.args.matrix.now c.copy_from_slice.new.self
    c.row_reduce.new.matrix fits c.copy_from_slice.ensures.after c.row_reduce.ensures.reduced c.row_reduce.ensures.space)
