use Rattle.std.proofs.Common.{refl, ◌∙◌, ap, ◌++◌, ◌∷◌, [], List}
use Rattle.sum_checks.proofs.SumcheckSteps.{nodes-are}
use Rattle.sum_checks.proofs.TermSteps.{first-rest}
use Rattle.sum_checks.proofs.sumcheck.node_values.Goals as goal

pub returns : goal.returns
returns g c =
    let repr = g.F.Represented.repr in
    let first = c.index-message-0.result in
    nodes-are repr c.args.message.now _ c.push.new.self.items c.push-2.new.self.items c.extend_from_slice.new.self.items first _
    (repr c.args.claim) (first-rest c.args.message.now first _ c.requires c.index-message-0.is refl)
    (c.in_ok-push.ensures.items ∙ ap (λ (xs : List _). xs ++ first ∷ []) c.new-nodes.ensures.items)
    c.in_ok-push-2.ensures.items c.in_ok-extend_from_slice.ensures.items
    (g.met.F.Represented.add_law c.args.claim _ _ c.add-second.ensures)
