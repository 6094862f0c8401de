use Rattle.std.proofs.Common.{arith}
use Rattle.field_slices.proofs.MatrixRows.{row_start, row_step, row_end}
use Rattle.field_slices.proofs.products.write_zero_row.Goals as goal

pub loop-column-init : goal.loop-column-init
loop-column-init g c = row_start

pub loop-column-preserved : goal.loop-column-preserved
loop-column-preserved g c = row_step c.loop-column.invariant (omega arith) c.zero.ensures c.set_entry.ensures

pub returns : goal.returns
returns g c = row_end c.loop-column.invariant (omega arith)
