-- Sums and powers that a loop goes on with, one term or factor at a time.
use Rattle.std.proofs.Common.{◌≡◌, ℕ, ◌+◌, sym, ◌∙◌, ap}
use Rattle.std.specs.Prelude.{bit_xor}
use native.Mathlib.Numerals.{add-one}
use Rattle.field_base.specs.Basis.{sum_below}
use Rattle.field_base.specs.Powers.{power}

pub sum-more : (f : ℕ → ℕ) (n sum next : ℕ) → sum ≡ sum_below f n → next ≡ bit_xor sum (f n) → next ≡ sum_below f (n + 1)
unfolding sum_below
sum-more f n sum next so_far is = is ∙ ap (λ (s : ℕ). bit_xor s (f n)) so_far ∙ ap (sum_below f) (sym (add-one n))

-- the power of no factors, and of one factor more
module _ (unit : ℕ) (times : ℕ → ℕ → ℕ) (a : ℕ) where
  pub power-next : (n current next : ℕ) → current ≡ power unit times a n → next ≡ times current a → next ≡ power unit times a (n + 1)
  unfolding power
  power-next n current next is multiplied =
      multiplied ∙ ap (λ (x : ℕ). times x a) is ∙ ap (power unit times a) (sym (add-one n))
