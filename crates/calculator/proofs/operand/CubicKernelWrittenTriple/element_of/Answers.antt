-- The coefficients are the parts of the number, the highest first.
use Rattle.std.proofs.Common.{ℕ, ◌^◌, ◌<◌, arith, subst, sym}
use Rattle.calculator.specs.Number.{wide_value}
use Rattle.calculator.proofs.CoefficientLemmas.{element-written, lowest_first-lt}
use Rattle.calculator.proofs.operand.CubicKernelWrittenTriple.element_of.Goals as goal

pub returns-clause-value : goal.returns-clause-value
returns-clause-value c = element-written c.args.written.high c.args.written.low (omega arith) (omega arith)

pub returns-clause-fits : goal.returns-clause-fits
returns-clause-fits c = subst (λ (n : ℕ). n < 2 ^ 192) (sym (returns-clause-value c)) (lowest_first-lt (wide_value c.args.written))
