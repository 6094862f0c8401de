-- Powers by squaring and multiplying, at one place of slices: what a step keeps.
use Rattle.std.proofs.Common.{◌≡◌, ℕ, ◌<◌, ◌^◌, ◌/◌, ◌%◌, Bool, true, false, cond, nat_eq, refl, ap, arith}
use Rattle.std.proofs.lemmas.Bool.{eqb-false, eqb-true}
use Rattle.field_base.specs.Powers.{power}
use Rattle.field_base.specs.Ring.{IsRing}
use Rattle.field_base.proofs.PowerLemmas.{power_skip, power_step}

module _ (width : ℕ) (times : ℕ → ℕ → ℕ) (ring : IsRing width 1 times) (fits : 1 < 2 ^ width) where
  -- the value is multiplied by the base where the exponent is odd; it stays an element
  pub value_fits : (v b n : ℕ) → v < 2 ^ width → cond (nat_eq (n % 2) 1) (times v b) v < 2 ^ width
  value_fits v b n low = at (nat_eq (n % 2) 1)
    where
      at : (odd : Bool) → cond odd (times v b) v < 2 ^ width
      at true = ring.below v b
      at false = low

  -- and the base is squared: times the power that is left, the value is what it was
  pub step_kept : (v b n : ℕ)
      → times (cond (nat_eq (n % 2) 1) (times v b) v) (power 1 times (times b b) (n / 2)) ≡ times v (power 1 times b n)
  step_kept v b n = at (nat_eq (n % 2) 1) refl
    where
      at : (odd : Bool) → nat_eq (n % 2) 1 ≡ odd → times (cond odd (times v b) v) (power 1 times (times b b) (n / 2)) ≡ times v (power 1 times b n)
      at true is = power_step width 1 times ring fits v b n (eqb-true (n % 2) 1 is)
      at false is =
          let other = eqb-false (n % 2) 1 is in
          ap (times v) (power_skip width 1 times ring fits b n (omega (arith, other)))
