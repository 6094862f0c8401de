use Rattle.std.proofs.Common.{ℕ, ◌+◌, ◌*◌, List, refl, sym, ◌∙◌, ap, arith}
use Rattle.std.specs.Prelude.{slice_index}
use Rattle.field_slices.specs.Matrices.{entry_of}
use Rattle.field_slices.proofs.MatrixRows.{put-whole}
use Rattle.c_calls.specs.Matrices.{entries}
use Rattle.c_calls.specs.Low.{low_number}
use Rattle.c_calls.proofs.Endings.{call_solved, call_unsolved, equations_no_elements, refuted}
use Rattle.c_calls.proofs.Equations.{first_entry, inverse_same}
use Rattle.c_calls.proofs.LowNumbers.{now_elements, now_numbers}
use Rattle.c_calls.proofs.matrices.inverse.Goals as goal

pub returns-then-not-are_elements : goal.returns-then-not-are_elements
returns-then-not-are_elements g c =
    let shape = c.has_shape.ensures.0 c.if-not-has_shape.false in
    equations_no_elements
    (shape, c.if-inverse-matrix.false ∙ shape, c.has_shape-2.ensures.0 c.if-not-has_shape-2.false, c.if-places-size.false)
    (λ fits. refuted c.if-not-are_elements.true (c.are_elements.ensures.1 fits))

pub copy_columns-requires-clause-source : goal.copy_columns-requires-clause-source
copy_columns-requires-clause-source g c = c.has_shape.ensures.0 c.if-not-has_shape.false

pub copy_columns-requires-clause-shape : goal.copy_columns-requires-clause-shape
copy_columns-requires-clause-shape g c = c.has_shape-2.ensures.0 c.if-not-has_shape-2.false

pub invert_beside-requires-clause-shape : goal.invert_beside-requires-clause-shape
invert_beside-requires-clause-shape g c = c.copy_columns.ensures.shape ∙ c.has_shape-2.ensures.0 c.if-not-has_shape-2.false

pub copy_columns-requires-2-clause-source : goal.copy_columns-requires-2-clause-source
copy_columns-requires-2-clause-source g c =
    c.invert_beside.ensures.shape ∙ c.copy_columns.ensures.shape ∙ c.has_shape-2.ensures.0 c.if-not-has_shape-2.false

pub copy_columns-requires-2-clause-shape : goal.copy_columns-requires-2-clause-shape
copy_columns-requires-2-clause-shape g c = c.if-inverse-matrix.false ∙ c.has_shape.ensures.0 c.if-not-has_shape.false

pub returns-then-not-invert_beside : goal.returns-then-not-invert_beside
returns-then-not-invert_beside g c =
    let field = g.S.ScalarWords.field c.args.field in
    let n = c.args.size in
    let matrix = c.args.matrix.now in
    let beside = entry_of (low_number field.number field.width) (n + n) c.copy_columns.new.target in
    let shape = c.has_shape.ensures.0 c.if-not-has_shape.false in
    let fits = c.are_elements.ensures.0 c.if-not-are_elements.false in
    call_unsolved
    (shape, c.if-inverse-matrix.false ∙ shape, c.has_shape-2.ensures.0 c.if-not-has_shape-2.false, c.if-places-size.false) fits
    (λ found.
    c.invert_beside.ensures.singular c.if-not-invert_beside.true found.0
    (inverse_same field.times n (entries field n matrix) found.0 beside found.0
    (λ i j inside within.
    first_entry field (n + n) n matrix c.args.space.now fits beside i j within
    (c.copy_columns.ensures.entries i j inside (omega (arith, within))))
    (λ i j inside within. refl) found.1).1)
    refl

pub returns : goal.returns
returns g c =
    let field = g.S.ScalarWords.field c.args.field in
    let n = c.args.size in
    let matrix = c.args.matrix.now in
    let beside = entry_of (low_number field.number field.width) (n + n) c.copy_columns.new.target in
    let after = entry_of (low_number field.number field.width) (n + n) c.invert_beside.new.augmented in
    let target = c.copy_columns-2.new.target in
    let new = c.truncate_all.new.words in
    let long = c.truncate_all.ensures.long in
    let cut = c.truncate_all.ensures.low in
    let shape = c.has_shape.ensures.0 c.if-not-has_shape.false in
    let fits = c.are_elements.ensures.0 c.if-not-are_elements.false in
    let inverses =
    inverse_same field.times n beside (λ i j. after i (n + j)) (entries field n matrix) (entries field n new)
    (λ i j inside within.
    sym (first_entry field (n + n) n matrix c.args.space.now fits beside i j within
    (c.copy_columns.ensures.entries i j inside (omega (arith, within)))))
    (λ i j inside within.
    ap (λ (ns : List ℕ). slice_index ns (i * n + j)) (now_numbers field target new long cut)
    ∙ c.copy_columns-2.ensures.entries i j inside within
    ∙ put-whole n (λ k. after i (n + k)) (entry_of (low_number field.number field.width) n c.args.inverse.now i) j within)
    (c.invert_beside.ensures.inverse c.if-not-invert_beside.false) in
    call_solved
    (shape, c.if-inverse-matrix.false ∙ shape, c.has_shape-2.ensures.0 c.if-not-has_shape-2.false, c.if-places-size.false) fits
    (entries field n new, inverses) (now_elements field target new long cut, inverses)
