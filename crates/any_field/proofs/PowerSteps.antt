-- A step of raising to a power by squaring and multiplying, from the exponent's lowest bit.
use Rattle.std.proofs.Common.{◌≡◌, ◌≢◌, ℕ, ◌/◌, ◌%◌, ◌^◌, ◌<◌, sym, ◌∙◌, ap, ap₂, subst, arith}
use Rattle.field_base.specs.Powers.{power}
use Rattle.field_base.specs.Ring.{IsRing}
use Rattle.field_base.proofs.PowerLemmas.{power_step, power_skip}

module _ (width : ℕ) (times : ℕ → ℕ → ℕ) (ring : IsRing width 1 times) (one_fits : 1 < 2 ^ width) where
  pub power-odd_step : (value next base square rest whole : ℕ) → next ≡ times value base → square ≡ times base base → rest % 2 ≡ 1
      → times value (power 1 times base rest) ≡ whole
      → record { whole : times next (power 1 times square (rest / 2)) ≡ whole; fits : next < 2 ^ width }
  power-odd_step value next base square rest whole next_is square_is odd so_far = record {
    whole =
        ap₂ (λ (u v : ℕ). times u (power 1 times v (rest / 2))) next_is square_is
        ∙ power_step width 1 times ring one_fits value base rest odd ∙ so_far;
    fits = subst (λ (z : ℕ). z < 2 ^ width) (sym next_is) (ring.below value base);
  }

  pub power-even_step : (value next base square rest whole : ℕ) → next ≡ value → square ≡ times base base → rest % 2 ≢ 1
      → times value (power 1 times base rest) ≡ whole → value < 2 ^ width
      → record { whole : times next (power 1 times square (rest / 2)) ≡ whole; fits : next < 2 ^ width }
  power-even_step value next base square rest whole next_is square_is other so_far fits =
      let even : rest % 2 ≡ 0 = omega (arith, other) in
      record {
        whole =
            ap₂ (λ (u v : ℕ). times u (power 1 times v (rest / 2))) next_is square_is
            ∙ ap (times value) (power_skip width 1 times ring one_fits base rest even) ∙ so_far;
        fits = subst (λ (z : ℕ). z < 2 ^ width) (sym next_is) fits;
      }
