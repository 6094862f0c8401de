use Rattle.std.proofs.Common.{ℕ, arith}
use Rattle.field_slices.specs.Matrices.{entry_of}
use Rattle.field_slices.proofs.MatrixRows.{rows_start, rows_step, rows_end}
use Rattle.field_slices.proofs.InverseMatrices.{beside-same}
use Rattle.field_slices.proofs.identities.write_identity.Goals as goal

pub loop-row-init : goal.loop-row-init
loop-row-init g c = rows_start

pub loop-row-preserved : goal.loop-row-preserved
loop-row-preserved g c =
    let number = g.S.Scalars.number c.args.field in
    let entries = entry_of number c.args.shape.columns in
    let row = c.loop-row.row in
    let so_far = c.loop-row.invariant in
    rows_step so_far
    (λ j inside.
    beside-same c.args.from (λ (i : ℕ). entries c.loop-row.matrix row) (entries c.args.matrix.now) row j
    (λ within. so_far.rest row j (omega arith) inside)) c.write_identity_row.ensures

pub returns-clause-entries : goal.returns-clause-entries
returns-clause-entries g c = rows_end c.loop-row.invariant c.args.shape.rows (omega arith)
