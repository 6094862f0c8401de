use Rattle.std.proofs.Common.{ℕ, List}
use Rattle.std.specs.Prelude.{IfOk}
use Rattle.additive_transforms.specs.Transform.{HoldPolynomialValues}
use Rattle.additive_transforms.proofs.NumberValues.{of_own_low}
use Rattle.additive_transforms.proofs.ghash.forward.Goals as goal

pub returns-clause-values : goal.returns-clause-values
returns-clause-values g c =
    of_own_low (λ (old new : List ℕ). IfOk c.forward_with-done.result (λ _. HoldPolynomialValues c.args.z old new)) c.args.values.now
    c.forward_with-done.new.values c.words_fit.ensures c.words_fit-2.ensures c.forward_with-done.ensures.values
