-- Logarithms as calls tell them.
use Rattle.std.proofs.Common.{◌≡◌, ◌≢◌, ℕ, ◌+◌, ◌<◌, Option, None, Some, List, get_or, length, set, below_more, sym, ◌∙◌, subst, arith}
use Rattle.std.specs.Prelude.{IfNone, IfSome}
use Rattle.std.proofs.lemmas.List.{get_or_default, get_or-set_other, get_or-set_same}
use Rattle.field_base.specs.Powers.{power}
use Rattle.any_field.specs.Orders.{TableIsPrime}
use Rattle.c_calls.specs.ChosenFields.{IsLogarithm}
use Rattle.c_calls.specs.Fields.{wide_number}
use Rattle.c_calls.specs.declared.wide.Wide.{Wide}

module _ (times : ℕ → ℕ → ℕ) (base low x : ℕ) (same : low ≡ x) where
  -- the logarithm of the low bits of an element, where no lower exponent is one, and where that rests on the table
  pub logarithm-least : (found : Option ℕ) → IfSome found (λ e. power 1 times base e ≡ low)
      → IfSome found (λ e. (k : ℕ) → k < e → power 1 times base k ≢ low) → IfSome found (λ e. IsLogarithm times base x e)
  logarithm-least None is least = tt
  logarithm-least (Some e) is least = (is ∙ same, λ prime k less at. least k less (at ∙ sym same))

  pub logarithm-by-table : (found : Option ℕ) → IfSome found (λ e. power 1 times base e ≡ low)
      → IfSome found (λ e. TableIsPrime → (k : ℕ) → k < e → power 1 times base k ≢ low) → IfSome found (λ e. IsLogarithm times base x e)
  logarithm-by-table None is least = tt
  logarithm-by-table (Some e) is least = (is ∙ same, λ prime k less at. least prime k less (at ∙ sym same))

  -- and none
  pub logarithm-none : (found : Option ℕ) → IfNone found ((k : ℕ) → power 1 times base k ≢ low)
      → IfNone found ((k : ℕ) → power 1 times base k ≢ x)
  logarithm-none None none = λ k at. none k (at ∙ sym same)
  logarithm-none (Some e) none = tt

-- a logarithm more is written
pub one-logarithm-more : (times : ℕ → ℕ → ℕ) (base : ℕ) (words logarithms : List Wide) (place : ℕ) (word exponent : Wide)
    → place < length words → place < length logarithms → word ≡ get_or words place word
    → IsLogarithm times base (wide_number word) (wide_number exponent)
    → ((k : ℕ) → k < place → (d : Wide) → IsLogarithm times base (wide_number (get_or words k d)) (wide_number (get_or logarithms k d)))
    → (k : ℕ) → k < place + 1 → (d : Wide)
    → IsLogarithm times base (wide_number (get_or words k d)) (wide_number (get_or (set logarithms place exponent) k d))
one-logarithm-more times base words logarithms place word exponent within inside word_is is before =
    below_more
    (λ k. (d : Wide) → IsLogarithm times base (wide_number (get_or words k d)) (wide_number (get_or (set logarithms place exponent) k d))) place
    (λ k less d.
    subst (λ (w : Wide). IsLogarithm times base (wide_number (get_or words k d)) (wide_number w))
    (sym (get_or-set_other logarithms place k exponent d (λ e. absurd (omega (arith, e, less))))) (before k less d))
    (λ d.
    subst (λ (w : Wide). IsLogarithm times base (wide_number (get_or words place d)) (wide_number w))
    (sym (get_or-set_same logarithms place exponent d inside))
    (subst (λ (w : Wide). IsLogarithm times base (wide_number w) (wide_number exponent))
    (word_is ∙ sym (get_or_default words place d word within)) is))
