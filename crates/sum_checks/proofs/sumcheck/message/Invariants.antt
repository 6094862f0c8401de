use Rattle.std.proofs.Common.{◌≡◌, ◌-◌, ◌∷◌, length, map}
use Rattle.std.specs.List.{range_with_len}
use Rattle.sum_checks.specs.Products.{term_product}
use Rattle.sum_checks.specs.Terms.{honest_at}
use Rattle.sum_checks.proofs.sumcheck.message.Given as goal

-- the values at 0 and at the nodes before this one
abbrev pub invariant-loop-node : goal.invariant-loop-node
invariant-loop-node g l =
    let field = g.F.Represented in
    let round = l.round in
    (map field.repr l.message.items
    ≡ map (honest_at field.product (map (term_product field.repr) round.terms.now) round.count round.rounds (map field.repr round.values.now))
    (0 ∷ range_with_len 2 (l.node - 2)))
    × (length l.scratch ≡ length round.values.now)
