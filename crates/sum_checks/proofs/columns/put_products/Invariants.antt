use Rattle.std.proofs.Common.{◌≡◌, ◌<◌, ℕ, length, map}
use Rattle.std.specs.Prelude.{slice_index}
use Rattle.field_base.specs.Basis.{product_below}
use Rattle.sum_checks.specs.Terms.{row_entry}
use Rattle.sum_checks.proofs.columns.put_products.Given as goal

-- each place has the product of the factors before this one
abbrev pub invariant-loop-place : goal.invariant-loop-place
invariant-loop-place g l =
    let field = g.F.Represented in
    (i : ℕ) → i < length l.fn.column → slice_index (map field.repr l.column) i
    ≡ product_below field.product (λ k. row_entry l.count (map field.repr l.rows) i (slice_index l.factors k)) l.place
