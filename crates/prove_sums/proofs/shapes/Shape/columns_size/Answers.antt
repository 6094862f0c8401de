use Rattle.std.proofs.Common.{◌*◌, ℕ, ap₂}
use Rattle.prove_sums.proofs.Sizes.{product-few}
use Rattle.prove_sums.proofs.shapes.Shape.columns_size.Goals as goal

pub returns-clause-size : goal.returns-clause-size
returns-clause-size c = ap₂ (λ (a b : ℕ). a * b) c.block_count.ensures.count c.height.ensures.size

pub returns-clause-few : goal.returns-clause-few
returns-clause-few c = product-few c.block_count.result c.height.result 256 65536 c.block_count.ensures.few c.height.ensures.few
