use Rattle.std.proofs.Common.{refl, arith}
use Rattle.field_slices.proofs.MatrixRows.{rows_start, rows_step, rows_end}
use Rattle.field_slices.proofs.products.multiply_into.Goals as goal

pub loop-row-init : goal.loop-row-init
loop-row-init g c = rows_start

pub loop-row-preserved : goal.loop-row-preserved
loop-row-preserved g c = rows_step c.loop-row.invariant (λ j inside. refl) c.write_product_row.ensures

pub returns-clause-product : goal.returns-clause-product
returns-clause-product g c = rows_end c.loop-row.invariant c.args.rows (omega arith)

pub returns-then-columns-eq0-clause-product : goal.returns-then-columns-eq0-clause-product
returns-then-columns-eq0-clause-product g c = λ i j inside within. absurd (omega (arith, within, c.if-columns-eq0.true))
