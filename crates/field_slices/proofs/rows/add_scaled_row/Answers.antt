use Rattle.std.proofs.Common.{◌≡◌, ℕ, ◌*◌, ◌<◌, max, ◌∙◌, ap, arith}
use Rattle.field_slices.specs.Matrices.{HasMatrixRow}
use Rattle.field_slices.proofs.MatrixRows.{earlier_added, later_added, rows_behind}
use Rattle.field_slices.proofs.rows.add_scaled_row.Goals as goal

-- the later one of two rows is one of them
later_row : {rows columns to from split len : ℕ} → HasMatrixRow rows columns to len → from < rows → split ≡ max to from
    → HasMatrixRow rows columns split len
later_row has inside is = record { shape = has.shape; row_within = omega (arith, has.row_within, inside, is) }

-- as many entries as the rows in front of a row have
rows_in_front : (columns : ℕ) {split row start len : ℕ} → len ≡ start → start ≡ split * columns → split ≡ row → len ≡ row * columns
rows_in_front columns long at is = long ∙ at ∙ ap (λ (n : ℕ). n * columns) is

pub row_start-start-requires : goal.row_start-start-requires
row_start-start-requires g c = later_row c.requires.to c.requires.from c.max-split.ensures

pub add_to_row-requires-clause-row : goal.add_to_row-requires-clause-row
add_to_row-requires-clause-row g c =
    rows_behind (later_row c.requires.to c.requires.from c.max-split.ensures) c.row_start-start.ensures.is c.split_at_mut-front.ensures.back_len

pub row_of-requires-else-from-to : goal.row_of-requires-else-from-to
row_of-requires-else-from-to g c =
    rows_behind (later_row c.requires.to c.requires.from c.max-split.ensures) c.row_start-start.ensures.is c.split_at_mut-front.ensures.back_len

pub returns-then-from-to : goal.returns-then-from-to
returns-then-from-to g c =
    let number = g.S.Scalars.number c.args.field in
    let times = g.S.Scalars.product c.args.field in
    let parts = c.split_at_mut-front in
    earlier_added number c.args.shape.columns times (number c.args.scalar) c.args.to c.args.from
    parts.result.0.now c.row_of.result.now parts.ensures.value
    (rows_in_front c.args.shape.columns parts.ensures.front_len c.row_start-start.ensures.is (omega (arith, c.max-split.ensures)))
    c.if-from-to.true c.row_of.ensures.entries c.add_to_row.ensures

pub returns-else-from-to : goal.returns-else-from-to
returns-else-from-to g c =
    let number = g.S.Scalars.number c.args.field in
    let times = g.S.Scalars.product c.args.field in
    let parts = c.split_at_mut-front in
    later_added number c.args.shape.columns times (number c.args.scalar) c.args.to c.args.from
    parts.result.1.now c.row_of-else-from-to.result.now parts.ensures.value
    (rows_in_front c.args.shape.columns parts.ensures.front_len c.row_start-start.ensures.is (omega (arith, c.max-split.ensures)))
    (omega arith) c.row_of-else-from-to.ensures.entries c.add_to_row-else-from-to.ensures
