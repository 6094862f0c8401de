use Rattle.std.proofs.Common.{refl, arith}
use Rattle.field_slices.proofs.MatrixRows.{rows_start, rows_step, rows_end}
use Rattle.field_slices.proofs.products.transpose_into.Goals as goal

pub loop-row-init : goal.loop-row-init
loop-row-init g c = rows_start

pub loop-row-preserved : goal.loop-row-preserved
loop-row-preserved g c = rows_step c.loop-row.invariant (λ j inside. refl) c.write_transposed_row.ensures

pub returns-clause-entries : goal.returns-clause-entries
returns-clause-entries g c = rows_end c.loop-row.invariant c.args.columns (omega arith)

pub returns-then-rows-eq0-clause-entries : goal.returns-then-rows-eq0-clause-entries
returns-then-rows-eq0-clause-entries g c = λ i j inside within. absurd (omega (arith, within, c.if-rows-eq0.true))
