use Rattle.std.proofs.Common.{arith}
use Rattle.c_calls.proofs.slices.write_all.Goals as goal

pub overflow_mul-place : goal.overflow_mul-place
overflow_mul-place g c = omega (arith, c.pairs_of-pairs.ensures)
