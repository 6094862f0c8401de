use Rattle.std.proofs.Common.{◌+◌, ◌*◌, ℕ, ap₂}
use Rattle.prove_sums.proofs.shapes.Shape.element_count.Goals as goal

pub returns-clause-count : goal.returns-clause-count
returns-clause-count c =
    ap₂ (λ (r s : ℕ). 2 * c.args.self.now.rounds + 4 + r + 2 * s) c.row_size.ensures.size c.columns_size.ensures.size
