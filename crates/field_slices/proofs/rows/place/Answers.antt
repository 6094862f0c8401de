use Rattle.std.proofs.Common.{◌+◌, ◌*◌, ◌<◌, arith}
use Rattle.std.proofs.lemmas.Nat.{mul-add-lt}
use Rattle.field_slices.specs.Matrices.{HasMatrixEntry}
use Rattle.field_slices.proofs.rows.place.Goals as goal

-- the place is one of the matrix
inside : {rows columns row column len : _} → HasMatrixEntry rows columns row column len → row * columns + column < columns * rows
inside {rows} {columns} {row} {column} has = mul-add-lt row columns column rows has.row_within has.column_within

pub overflow_mul-result : goal.overflow_mul-result
overflow_mul-result c = omega (arith, inside c.requires)

pub overflow_add-result : goal.overflow_add-result
overflow_add-result c = omega (arith, inside c.requires)

pub returns-clause-inside : goal.returns-clause-inside
returns-clause-inside c = omega (arith, inside c.requires)
