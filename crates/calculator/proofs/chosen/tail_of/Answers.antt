-- A polynomial of less than 128 bits has its degree by its low word.
use Rattle.calculator.proofs.ModulusLemmas.{high-degree}
use Rattle.calculator.proofs.chosen.tail_of.Goals as goal

pub returns-then-polynomial-ne0 : goal.returns-then-polynomial-ne0
returns-then-polynomial-ne0 c =
    high-degree c.args.degree c.args.polynomial.high c.args.polynomial.low c.requires.few c.if-degree-eq128.false c.if-polynomial-ne0.true
