-- Bits in a field, where they are the numbers 0 and 1. It stands here since an implementation of a trait cites it.
use Rattle.std.proofs.Common.{◌≡◌, ℕ, ◌^◌, ◌<◌, sym, ◌∙◌}
use Rattle.std.proofs.lemmas.Nat.{pow_below}
use native.Mathlib.Nat.{mod-eq_of_lt}
use Rattle.field_base.specs.lemmas.BitRing.{two_cases}
use Rattle.field_base.specs.Ring.{IsRing}
use Rattle.field_base.specs.Tower.{tower_mul}
use Rattle.field_base.proofs.RingLemmas.{times-zero, zero-times}

module _ (width : ℕ) (times : ℕ → ℕ → ℕ) (ring : IsRing width 1 times) (wide : 0 < width) where
  -- the product of two bits in GF(2) is their product in the field
  pub bit_product : (a : ℕ) → a < 2 → (b : ℕ) → b < 2 → tower_mul 0 a b ≡ times a b
  unfolding tower_mul
  bit_product =
      two_cases (λ a. (b : ℕ) → b < 2 → tower_mul 0 a b ≡ times a b)
      (two_cases (λ b. tower_mul 0 0 b ≡ times 0 b) (sym (zero-times width 1 times ring 0)) (sym (zero-times width 1 times ring 1)))
      (two_cases (λ b. tower_mul 0 1 b ≡ times 1 b) (sym (times-zero width 1 times ring 1))
      (sym (ring.one 1 ∙ mod-eq_of_lt one_fits)))
    where
      one_fits : 1 < 2 ^ width
      one_fits = pow_below 0 width wide

  -- x · 1 = x
  pub times_one : (x : ℕ) → x < 2 ^ width → x ≡ times x 1
  times_one x fits = sym (ring.comm x 1 ∙ ring.one x ∙ mod-eq_of_lt fits)

  -- x · 0 = 0
  pub times_none : (x : ℕ) → 0 ≡ times x 0
  times_none x = sym (times-zero width 1 times ring x)
