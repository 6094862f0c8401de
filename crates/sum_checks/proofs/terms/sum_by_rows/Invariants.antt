use Rattle.std.proofs.Common.{◌≡◌, map}
use Rattle.sum_checks.specs.Products.{term_product}
use Rattle.sum_checks.specs.Terms.{rows_sum}
use Rattle.sum_checks.proofs.terms.sum_by_rows.Given as goal

-- the sum so far is that over the rows before this one
abbrev pub invariant-loop-row : goal.invariant-loop-row
invariant-loop-row g l =
    let field = g.F.Represented in
    field.repr l.sum ≡ rows_sum field.product (map (term_product field.repr) l.terms) l.count l.row (map field.repr l.values)
