-- The trace of an element of a field is 0 or 1, since it is its own square.
use Rattle.std.proofs.Common.{◌≡◌, inl, inr, ℕ, zero, suc, ◌+◌, ◌%◌, ◌^◌, ◌<◌, refl, sym, ◌∙◌, ap, ap₂, subst, arith, lit<}
use Rattle.std.specs.Prelude.{bit_xor}
use Rattle.std.proofs.lemmas.Nat.{pow_pos, pow_below, xor_lt}
use lib.Bits.{xor_self, xor_zero_r}
use Rattle.field_base.specs.Field.{IsField}
use Rattle.field_base.specs.Powers.{repeated_square, sum_of_squarings}
use Rattle.field_base.specs.Ring.{IsRing}
use Rattle.field_base.proofs.FieldLemmas.{no_zero_divisors}
use Rattle.field_base.proofs.PowerLemmas.{times-one, square_xor, repeated_square-lt, repeated_square_times, repeated_square_more, sum_of_squarings-telescope}
use Rattle.field_base.proofs.RingLemmas.{xor_nothing, times-zero}

module _ (width : ℕ) (times : ℕ → ℕ → ℕ) (ring : IsRing width 1 times) where
  pub sum-lt : (n a : ℕ) → sum_of_squarings 1 times n a < 2 ^ width
  unfolding sum_of_squarings
  sum-lt zero a = pow_pos width
  sum-lt (suc n) a = xor_lt width (sum_of_squarings 1 times n a) (repeated_square 1 times n a) (sum-lt n a) (repeated_square-lt width 1 times ring n a)

  -- the square of the sum is the sum for the square
  sum-square : (n a : ℕ) → times (sum_of_squarings 1 times n a) (sum_of_squarings 1 times n a) ≡ sum_of_squarings 1 times n (times a a)
  unfolding sum_of_squarings
  sum-square zero a = times-zero width 1 times ring 0
  sum-square (suc n) a =
      square_xor width 1 times ring (sum_of_squarings 1 times n a) (repeated_square 1 times n a)
      ∙ ap₂ bit_xor (sum-square n a) (sym (repeated_square_times width 1 times ring n a a))

  -- before the first term
  pub sum-start : (a low : ℕ) → low ≡ a % 2 ^ width → (0 ≡ sum_of_squarings 1 times 0 a) × (low ≡ repeated_square 1 times 0 a)
  unfolding sum_of_squarings repeated_square
  sum-start a low is = (refl, is ∙ sym (ring.one a))

  -- one term more
  pub sum-step : (n a sum moved next : ℕ) → sum ≡ sum_of_squarings 1 times n a → moved ≡ repeated_square 1 times n a → next ≡ times moved moved
      → (bit_xor sum moved ≡ sum_of_squarings 1 times (n + 1) a) × (next ≡ repeated_square 1 times (n + 1) a)
  unfolding sum_of_squarings
  sum-step n a sum moved next sum_is moved_is next_is =
      let count : suc n ≡ n + 1 = omega arith in (
        ap₂ bit_xor sum_is moved_is ∙ ap (λ (k : ℕ). sum_of_squarings 1 times k a) count,
        next_is ∙ ap₂ times moved_is moved_is ∙ sym (repeated_square_more width 1 times ring n a),
      )

pub trace-bit : (width : ℕ) (times : ℕ → ℕ → ℕ) → IsField width times → 0 < width → (a t : ℕ) → t ≡ sum_of_squarings 1 times width a → t < 2
trace-bit width times field wide a t is =
    elim (no_zero_divisors width times ring field.inverses t (bit_xor t 1) t_fits (xor_lt width t 1 t_fits one_fits) product) [
      | inl none ↦ subst (λ (z : ℕ). z < 2) (sym none) (lit< tt)
      | inr one ↦ subst (λ (z : ℕ). z < 2) (sym (xor_nothing t 1 one)) (lit< tt)
    ]
  where
    ring : IsRing width 1 times
    ring = field.ring

    one_fits : 1 < 2 ^ width
    one_fits = pow_below 0 width wide

    t_fits : t < 2 ^ width
    t_fits = subst (λ (z : ℕ). z < 2 ^ width) (sym is) (sum-lt width times ring width a)

    -- the last square and the first are the same
    own : times t t ≡ t
    own =
        ap (λ (z : ℕ). times z z) is ∙ sum-square width times ring width a ∙ sum_of_squarings-telescope width 1 times ring width a
        ∙ ap (λ (z : ℕ). bit_xor (sum_of_squarings 1 times width a) z)
        (ap₂ bit_xor (ring.one a) (field.squarings_return a) ∙ xor_self (a % 2 ^ width))
        ∙ xor_zero_r (sum_of_squarings 1 times width a) ∙ sym is

    product : times t (bit_xor t 1) ≡ 0
    product = ring.over_sum t t 1 ∙ ap₂ bit_xor own (times-one width 1 times ring t t_fits) ∙ xor_self t
