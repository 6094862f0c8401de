use Rattle.std.proofs.Common.{◌*◌, ℕ, arith}
use Rattle.field_slices.proofs.InverseMatrices.{beside-same}
use Rattle.field_slices.proofs.MatrixRows.{rows_end, rows_start, rows_step}
use Rattle.bits_packed.specs.BitMatrices.{bit_entry}
use Rattle.bits_packed.proofs.identities.write_identity.Goals as goal

pub loop-row-init : goal.loop-row-init
loop-row-init c = rows_start

pub loop-row-preserved : goal.loop-row-preserved
loop-row-preserved c =
    let entries = bit_entry c.args.shape.words in
    let row = c.loop-row.row in
    let so_far = c.loop-row.invariant in
    rows_step so_far
    (λ j inside.
    beside-same (64 * c.args.from) (λ (i : ℕ). entries c.loop-row.matrix row) (entries c.args.matrix.now) row j
    (λ before. so_far.rest row j (omega arith) inside)) c.write_identity_row.ensures

pub returns-clause-entries : goal.returns-clause-entries
returns-clause-entries c = rows_end c.loop-row.invariant c.args.shape.rows (omega arith)
