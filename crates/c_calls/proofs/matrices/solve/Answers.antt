use Rattle.std.proofs.Common.{ℕ, ◌+◌, List, length, map, sym, subst, ◌∙◌, ap, arith}
use Rattle.std.specs.Prelude.{slice_index}
use Rattle.field_slices.specs.Matrices.{IsSolution, entry_of}
use Rattle.c_calls.specs.Low.{low_number}
use Rattle.c_calls.proofs.Endings.{call_solved, call_unsolved, equations_misfit, equations_no_elements, refuted}
use Rattle.c_calls.proofs.Equations.{is_solution, solution_is}
use Rattle.c_calls.proofs.LowNumbers.{now_elements, now_numbers}
use Rattle.c_calls.proofs.matrices.solve.Goals as goal

pub returns-then-not-have_lengths : goal.returns-then-not-have_lengths
returns-then-not-have_lengths g c = equations_misfit (λ fit. refuted c.if-not-have_lengths.true (c.have_lengths.ensures.1 fit))

pub returns-then-not-are_both_elements : goal.returns-then-not-are_both_elements
returns-then-not-are_both_elements g c =
    equations_no_elements (c.have_lengths.ensures.0 c.if-not-have_lengths.false)
    (λ both. refuted c.if-not-are_both_elements.true (c.are_both_elements.ensures.1 both))

pub overflow_add-width : goal.overflow_add-width
overflow_add-width g c = omega (arith, (c.have_lengths.ensures.0 c.if-not-have_lengths.false).few)

pub copy_columns-requires-clause-source : goal.copy_columns-requires-clause-source
copy_columns-requires-clause-source g c = (c.have_lengths.ensures.0 c.if-not-have_lengths.false).coefficients

pub copy_columns-requires-clause-shape : goal.copy_columns-requires-clause-shape
copy_columns-requires-clause-shape g c = (c.have_lengths.ensures.0 c.if-not-have_lengths.false).beside

pub copy_columns-requires-2-clause-source : goal.copy_columns-requires-2-clause-source
copy_columns-requires-2-clause-source g c = omega (arith, (c.have_lengths.ensures.0 c.if-not-have_lengths.false).right_sides)

pub copy_columns-requires-2-clause-shape : goal.copy_columns-requires-2-clause-shape
copy_columns-requires-2-clause-shape g c =
    c.copy_columns.ensures.shape ∙ (c.have_lengths.ensures.0 c.if-not-have_lengths.false).beside

pub solve_augmented-requires-clause-shape : goal.solve_augmented-requires-clause-shape
solve_augmented-requires-clause-shape g c =
    c.copy_columns-2.ensures.shape ∙ c.copy_columns.ensures.shape ∙ (c.have_lengths.ensures.0 c.if-not-have_lengths.false).beside

pub solve_augmented-requires-clause-unknowns : goal.solve_augmented-requires-clause-unknowns
solve_augmented-requires-clause-unknowns g c =
    ap (λ (n : ℕ). n + 1) (sym (c.have_lengths.ensures.0 c.if-not-have_lengths.false).unknowns)

pub solve_augmented-requires-clause-room : goal.solve_augmented-requires-clause-room
solve_augmented-requires-clause-room g c = (c.have_lengths.ensures.0 c.if-not-have_lengths.false).each

pub returns-then-not-solve_augmented : goal.returns-then-not-solve_augmented
returns-then-not-solve_augmented g c =
    let field = g.S.ScalarWords.field c.args.field in
    let fits = c.are_both_elements.ensures.0 c.if-not-are_both_elements.false in
    let lengths = c.have_lengths.ensures.0 c.if-not-have_lengths.false in
    let beside = entry_of (low_number field.number field.width) (c.args.columns + 1) c.copy_columns-2.new.target in
    call_unsolved lengths fits
    (λ found.
    c.solve_augmented.ensures.unsolvable c.if-not-solve_augmented.true found.0
    (subst (λ (n : ℕ). IsSolution field.times c.args.rows n beside found.0) (sym lengths.unknowns)
    (is_solution field c.args.rows c.args.columns c.args.matrix.now c.args.right.now fits.0 fits.1 c.args.space.now
    c.copy_columns.new.target c.copy_columns-2.new.target c.copy_columns.ensures.entries c.copy_columns-2.ensures.entries found.0 found.1)))
    (c.solve_augmented.ensures.stays c.if-not-solve_augmented.true)

pub returns : goal.returns
returns g c =
    let field = g.S.ScalarWords.field c.args.field in
    let fits = c.are_both_elements.ensures.0 c.if-not-are_both_elements.false in
    let lengths = c.have_lengths.ensures.0 c.if-not-have_lengths.false in
    let beside = entry_of (low_number field.number field.width) (c.args.columns + 1) c.copy_columns-2.new.target in
    let target = c.solve_augmented.new.solution in
    let new = c.truncate_all.new.words in
    let long = c.truncate_all.ensures.long in
    let cut = c.truncate_all.ensures.low in
    let x = slice_index (map field.number new) in
    let solved =
    solution_is field c.args.rows c.args.columns c.args.matrix.now c.args.right.now fits.0 fits.1 c.args.space.now
    c.copy_columns.new.target c.copy_columns-2.new.target c.copy_columns.ensures.entries c.copy_columns-2.ensures.entries x
    (subst (λ (n : ℕ). IsSolution field.times c.args.rows n beside x) lengths.unknowns
    (subst (λ (ns : List ℕ). IsSolution field.times c.args.rows (length c.args.solution.now) beside (slice_index ns)) (sym (now_numbers field target new long cut))
    (c.solve_augmented.ensures.solution c.if-not-solve_augmented.false))) in
    call_solved lengths fits (x, solved) (now_elements field target new long cut, solved)
