use Rattle.std.proofs.Common.{ℕ, sym, ◌∙◌, arith}
use Rattle.field_slices.specs.Matrices.{entry_of}
use Rattle.field_slices.proofs.MatrixRows.{row_from, row_step, row_end}
use Rattle.field_slices.proofs.InverseMatrices.{beside-left, beside-right}
use Rattle.field_slices.proofs.identities.write_identity_row.Goals as goal

pub loop-column-init : goal.loop-column-init
loop-column-init g c =
    let number = g.S.Scalars.number c.args.field in
    let old = λ (i : ℕ). entry_of number c.args.shape.columns c.args.matrix.now c.args.row in
    row_from (λ j below. sym (beside-left c.args.from old c.args.place j below))

pub loop-column-preserved : goal.loop-column-preserved
loop-column-preserved g c =
    let number = g.S.Scalars.number c.args.field in
    let old = λ (i : ℕ). entry_of number c.args.shape.columns c.args.matrix.now c.args.row in
    row_step c.loop-column.invariant (omega arith)
    (c.identity_value-value.ensures ∙ sym (beside-right c.args.from old c.args.place c.loop-column.column (omega arith)))
    c.set_entry.ensures

pub returns : goal.returns
returns g c = row_end c.loop-column.invariant (omega arith)
