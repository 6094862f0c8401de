use Rattle.prove_sums.proofs.Sizes.{power-few}
use Rattle.prove_sums.proofs.shapes.Shape.height.Goals as goal

pub returns-clause-few : goal.returns-clause-few
returns-clause-few c = power-few 16 c.power_of_two.ensures.power c.args.self.now.few_rows
