-- Lists of powers, each the one before times the base.
use Rattle.std.proofs.Common.{◌≡◌, ℕ, ◌+◌, ◌^◌, ◌<◌, List, [], ◌∷◌, ◌++◌, map, refl, sym, ◌∙◌, ap, ap₂, arith}
use Rattle.std.specs.List.{range_with_len}
use Rattle.std.proofs.lemmas.List.{map-append}
use Rattle.std.proofs.lemmas.List.FromFn.{map-range_with_len_more}
use Rattle.field_base.specs.Powers.{power}
use Rattle.field_base.specs.Ring.{IsRing}
use Rattle.field_base.proofs.PowerLemmas.{times-one}
use Rattle.field_slices.proofs.NextTerms.{power-next}

-- one element more at the end of a list of numbers that a function gives
pub pushed : {A : Type 0} (repr : A → ℕ) (f : ℕ → ℕ) (xs : List A) (n : ℕ) (x : A) → map repr xs ≡ map f (range_with_len 0 n)
    → repr x ≡ f n → map repr (xs ++ x ∷ []) ≡ map f (range_with_len 0 (n + 1))
pushed repr f xs n x so_far is =
    map-append repr xs (x ∷ []) ∙ ap₂ (λ (front : List ℕ) (y : ℕ). front ++ y ∷ []) so_far is
    ∙ sym (map-range_with_len_more f 0 n n (omega arith))

-- powers that are each times a first element
module _ (unit : ℕ) (times : ℕ → ℕ → ℕ) (a width : ℕ) (ring : IsRing width unit times) (first : ℕ) where
  pub shifted-none : first < 2 ^ width → first ≡ times first (power unit times a 0)
  unfolding power
  shifted-none fits = sym (times-one width unit times ring first fits)

  pub shifted-next : (n current next : ℕ) → current ≡ times first (power unit times a n) → next ≡ times current a
      → next ≡ times first (power unit times a (n + 1))
  shifted-next n current next is multiplied =
      multiplied ∙ ap (λ (x : ℕ). times x a) is ∙ ring.assoc first (power unit times a n) a
      ∙ ap (times first) (power-next unit times a n (power unit times a n) (times (power unit times a n) a) refl refl)
