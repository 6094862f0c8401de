-- Terms over elements, as products over numbers.
use Rattle.std.specs.Prelude.{ℕ, List, min, take}
use Rattle.sum_checks.specs.Terms.{Product}
use Rattle.sum_checks.specs.declared.terms.Term.{Term}

-- the factors of a term, of which there are at most four
abbrev pub factors_of : {F : Type 0} → Term F → List ℕ
factors_of term = take (min term.count 4) term.factors

-- the product of a term
abbrev pub term_product : {F : Type 0} → (F → ℕ) → Term F → Product
term_product repr term = record { coefficient = repr term.coefficient; factors = factors_of term }
