use Rattle.std.proofs.Common.{ℕ, ap, arith}
use Rattle.std.specs.Prelude.{if◌then◌else◌, nat_lt}
use Rattle.field_slices.proofs.MatrixRows.{rows_end, rows_start, rows_step}
use Rattle.bits_packed.proofs.draws.cut_rows.Goals as goal

pub loop-row-init : goal.loop-row-init
loop-row-init c = rows_start

pub loop-row-preserved : goal.loop-row-preserved
loop-row-preserved c =
    rows_step c.loop-row.invariant
    (λ j inside.
    ap (λ (x : ℕ). if nat_lt j c.args.column then x else 0) (c.loop-row.invariant.rest c.loop-row.row j (omega arith) inside)) c.cut_row.ensures

pub returns-clause-entries : goal.returns-clause-entries
returns-clause-entries c = rows_end c.loop-row.invariant c.args.shape.rows (omega arith)

pub returns-then-shape-eq0-clause-entries : goal.returns-then-shape-eq0-clause-entries
returns-then-shape-eq0-clause-entries c = λ i j below inside. absurd (omega (arith, inside, c.if-shape-eq0.true))
