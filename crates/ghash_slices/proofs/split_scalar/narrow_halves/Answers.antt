use Rattle.ghash_slices.proofs.split_scalar.narrow_halves.Goals as goal

pub returns-clause-low : goal.returns-clause-low
returns-clause-low c = c.narrow.ensures

pub returns-clause-high : goal.returns-clause-high
returns-clause-high c = c.narrow-2.ensures

pub returns-clause-both : goal.returns-clause-both
returns-clause-both c = c.narrow-3.ensures
