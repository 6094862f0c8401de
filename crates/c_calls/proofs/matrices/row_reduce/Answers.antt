use Rattle.c_calls.proofs.Calls.{reduced_is}
use Rattle.c_calls.proofs.Endings.{call_done, call_no_elements, refuted}
use Rattle.c_calls.proofs.LowNumbers.{now_elements, now_numbers}
use Rattle.c_calls.proofs.matrices.row_reduce.Goals as goal

pub returns-then-not-are_elements : goal.returns-then-not-are_elements
returns-then-not-are_elements g c =
    call_no_elements (c.has_shape.ensures.0 c.if-not-has_shape.false, c.if-pivots-rows.false)
    (λ fits. refuted c.if-not-are_elements.true (c.are_elements.ensures.1 fits))

pub row_reduce-requires-clause-shape : goal.row_reduce-requires-clause-shape
row_reduce-requires-clause-shape g c = c.has_shape.ensures.0 c.if-not-has_shape.false

pub row_reduce-requires-clause-room : goal.row_reduce-requires-clause-room
row_reduce-requires-clause-room g c = c.if-pivots-rows.false

pub returns : goal.returns
returns g c =
    let field = g.S.ScalarWords.field c.args.field in
    let target = c.row_reduce.new.matrix in
    let new = c.truncate_all.new.words in
    let long = c.truncate_all.ensures.long in
    let cut = c.truncate_all.ensures.low in
    let fits = c.are_elements.ensures.0 c.if-not-are_elements.false in
    call_done (c.has_shape.ensures.0 c.if-not-has_shape.false, c.if-pivots-rows.false) fits
    (reduced_is field c.args.rows c.args.columns c.row_reduce.result c.args.pivots.now c.row_reduce.new.pivots c.args.matrix.now target new
    fits (now_elements field target new long cut) (now_numbers field target new long cut) c.row_reduce.ensures.reduced
    c.row_reduce.ensures.rest c.row_reduce.ensures.space)
