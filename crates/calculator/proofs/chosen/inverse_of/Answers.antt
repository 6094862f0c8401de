-- An element is its own remainder.
use Rattle.std.proofs.Common.{ℕ, ◌∙◌, ap, sym}
use native.Mathlib.Nat.{mod-eq_of_lt}
use Rattle.any_field.specs.Contexts.{field_product}
use Rattle.calculator.proofs.chosen.inverse_of.Goals as goal

pub returns-else-x-eq0-clause-inverse : goal.returns-else-x-eq0-clause-inverse
returns-else-x-eq0-clause-inverse c =
    let s = c.args.field in
    let low = mod-eq_of_lt c.requires in
    ap (λ (z : ℕ). field_product s.degree s.tail z c.invert-inverse.result) (sym low)
    ∙ c.invert-inverse.ensures.inverse.1 (λ none. c.if-x-eq0.false (sym low ∙ none))
