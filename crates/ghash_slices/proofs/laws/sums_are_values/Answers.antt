use Rattle.ghash_slices.proofs.CantorValues.{factors_are_subspace_values, sums_are_values}
use Rattle.ghash_slices.proofs.laws.sums_are_values.Goals as goal

pub returns-clause-factors : goal.returns-clause-factors
returns-clause-factors c = factors_are_subspace_values

pub returns-clause-sums : goal.returns-clause-sums
returns-clause-sums c = sums_are_values
