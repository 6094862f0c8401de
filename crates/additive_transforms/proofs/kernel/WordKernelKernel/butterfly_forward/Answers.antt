use Rattle.additive_transforms.proofs.kernel.WordKernelKernel.butterfly_forward.Goals as goal

pub returns-clause-values : goal.returns-clause-values
returns-clause-values g c = record {
  low = c.add_products.ensures;
  high = c.add_words.ensures;
}
