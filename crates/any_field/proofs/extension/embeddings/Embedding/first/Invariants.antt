use Rattle.std.proofs.Common.{◌-◌, ◌≢◌, ℕ, ◌≤◌, ◌<◌}
use Rattle.any_field.specs.Contexts.{field_product, with_top}
use Rattle.any_field.specs.Values.{binary_value}
use Rattle.any_field.proofs.extension.embeddings.Embedding.first.Given as goal

-- no word before this one is a root
abbrev pub invariant-loop-root : goal.invariant-loop-root
invariant-loop-root l = record {
  most : l.root ≤ l.last;
  before : (r : ℕ) → r < l.root
      → binary_value (field_product l.fn.target.degree l.fn.target.tail) r (with_top l.fn.source.degree l.fn.source.tail) ≢ 0;
}

abbrev pub decreases-loop-root : goal.decreases-loop-root
decreases-loop-root l = l.last - l.root
