use Rattle.std.proofs.Common.{◌≡◌, ◌-◌, ◌≤◌, map}
use Rattle.sum_checks.specs.Products.{term_product}
use Rattle.sum_checks.specs.Terms.{rows_sum}
use Rattle.sum_checks.proofs.terms.blocks_sum.Given as goal

-- the sum so far is that over the rows before this block
abbrev pub invariant-loop-start : goal.invariant-loop-start
invariant-loop-start g l =
    let field = g.F.Represented in
    (l.start ≤ l.rows)
    × (field.repr l.sum ≡ rows_sum field.product (map (term_product field.repr) l.terms) l.count l.start (map field.repr l.values))

abbrev pub decreases-loop-start : goal.decreases-loop-start
decreases-loop-start g l = l.rows - l.start
