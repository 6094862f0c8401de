use Rattle.word_polynomial.proofs.cubic_kernel.CubicKernelFieldKernel.sqrt.Goals as goal

pub returns-clause-fits : goal.returns-clause-fits
returns-clause-fits g c = g.met.R.HoldsTriple.range_law c.of_triple.result
