use Rattle.std.proofs.Common.{sym}
use native.Mathlib.Nat.{mod-eq_of_lt}
use Rattle.word_polynomial.proofs.cubic_kernel.CubicKernelFieldKernel.truncate.Goals as goal

pub returns : goal.returns
returns g c = sym (mod-eq_of_lt (g.met.R.HoldsTriple.range_law c.args.x))
