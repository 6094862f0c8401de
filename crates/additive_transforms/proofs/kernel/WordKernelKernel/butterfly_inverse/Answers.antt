use Rattle.additive_transforms.proofs.kernel.WordKernelKernel.butterfly_inverse.Goals as goal

pub returns-clause-values : goal.returns-clause-values
returns-clause-values g c = record {
  high = c.add_words.ensures;
  low = c.add_products.ensures;
}
