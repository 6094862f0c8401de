-- A bit in every lane: how GF(2) lies in packed bits. These lemmas stand here since the implementation of the algebra cites them.
use Rattle.std.proofs.Common.{◌≡◌, ℕ, ◌*◌, ◌-◌, ◌^◌, ◌<◌, sym, ◌∙◌, ap, ap₂}
use native.Mathlib.Nat.{mod-eq_of_lt, one-mul, zero-mul}
use Rattle.field_base.specs.lemmas.BitRing.{two_cases}
use Rattle.field_base.specs.Ring.{IsRing}
use Rattle.field_base.specs.Tower.{tower_mul}
use Rattle.field_base.proofs.RingLemmas.{times-zero, zero-times}
use Rattle.bits_packed.specs.lemmas.BitsRing.{bits_ring, ones_fit}
use Rattle.bits_packed.specs.Lanes.{bitwise_product}

module _ (w : ℕ) where
  -- 2 ^ w - 1 is neutral
  one_times : (n : ℕ) → n < 2 ^ w → bitwise_product w (2 ^ w - 1) n ≡ n
  one_times n fits = IsRing.one (bits_ring w) n ∙ mod-eq_of_lt fits

  -- the product with a bit in every lane
  pub times_every : (n bit : ℕ) → n < 2 ^ w → bit < 2 → bit * n ≡ bitwise_product w n (bit * (2 ^ w - 1))
  times_every n bit fits small =
      two_cases (λ x. x * n ≡ bitwise_product w n (x * (2 ^ w - 1)))
      (zero-mul n ∙ sym (ap (bitwise_product w n) (zero-mul (2 ^ w - 1)) ∙ times-zero w (2 ^ w - 1) (bitwise_product w) (bits_ring w) n))
      (one-mul n ∙ sym (ap (bitwise_product w n) (one-mul (2 ^ w - 1)) ∙ IsRing.comm (bits_ring w) n (2 ^ w - 1) ∙ one_times n fits))
      bit small

  -- the product of two bits, in every lane, is the product of both in every lane
  pub every_product : (a b : ℕ) → a < 2 → b < 2
      → tower_mul 0 a b * (2 ^ w - 1) ≡ bitwise_product w (a * (2 ^ w - 1)) (b * (2 ^ w - 1))
  unfolding tower_mul
  every_product a b p q =
      two_cases (λ x. (y : ℕ) → y < 2 → tower_mul 0 x y * (2 ^ w - 1) ≡ bitwise_product w (x * (2 ^ w - 1)) (y * (2 ^ w - 1)))
      (two_cases (λ y. tower_mul 0 0 y * (2 ^ w - 1) ≡ bitwise_product w (0 * (2 ^ w - 1)) (y * (2 ^ w - 1))) (nothing 0) (nothing 1))
      (two_cases (λ y. tower_mul 0 1 y * (2 ^ w - 1) ≡ bitwise_product w (1 * (2 ^ w - 1)) (y * (2 ^ w - 1)))
      (zero-mul (2 ^ w - 1)
      ∙ sym (ap (bitwise_product w (1 * (2 ^ w - 1))) (zero-mul (2 ^ w - 1)) ∙ times-zero w (2 ^ w - 1) (bitwise_product w) (bits_ring w) (1 * (2 ^ w - 1))))
      (one-mul (2 ^ w - 1)
      ∙ sym (ap₂ (bitwise_product w) (one-mul (2 ^ w - 1)) (one-mul (2 ^ w - 1)) ∙ one_times (2 ^ w - 1) (ones_fit w))))
      a p b q
    where
      nothing : (y : ℕ) → 0 * (2 ^ w - 1) ≡ bitwise_product w (0 * (2 ^ w - 1)) (y * (2 ^ w - 1))
      nothing y =
          zero-mul (2 ^ w - 1)
          ∙ sym (ap (λ (x : ℕ). bitwise_product w x (y * (2 ^ w - 1))) (zero-mul (2 ^ w - 1))
          ∙ zero-times w (2 ^ w - 1) (bitwise_product w) (bits_ring w) (y * (2 ^ w - 1)))
