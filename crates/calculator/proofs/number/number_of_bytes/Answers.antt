-- The number of fewer than 16 bytes has room for one more.
use Rattle.std.proofs.Common.{arith, lit<}
use Rattle.std.proofs.Math.Nat.{pow-le-pow_right}
use Rattle.calculator.proofs.number.number_of_bytes.Goals as goal

pub overflow_mul-number : goal.overflow_mul-number
overflow_mul-number c = omega (arith, pow-le-pow_right {n = 256} (lit< tt) {i = c.loop-byte.byte-index} {j = 15} (omega arith))

pub overflow_add-number : goal.overflow_add-number
overflow_add-number c = omega (arith, pow-le-pow_right {n = 256} (lit< tt) {i = c.loop-byte.byte-index} {j = 15} (omega arith))
