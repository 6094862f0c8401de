-- The elements of GF(2) in a ring: a bit stands for itself times the one. These lemmas stand here since the packing's
-- implementation of the traits cites them.
use Rattle.std.proofs.Common.{◌≡◌, ◌≢◌, ℕ, ◌*◌, ◌^◌, ◌<◌, refl, sym, ◌∙◌, ap, ap₂, subst}
use Rattle.std.specs.Prelude.{bit_xor}
use Rattle.std.proofs.lemmas.Nat.{pow_pos}
use lib.Bits.{xor_self, xor_zero_r}
use native.Mathlib.Nat.{mod-eq_of_lt, one-mul, zero-mul}
use Rattle.field_base.specs.lemmas.BitRing.{two_cases}
use Rattle.field_base.specs.Ring.{IsRing}
use Rattle.field_base.specs.Tower.{tower_mul}
use Rattle.field_base.proofs.RingLemmas.{zero-times}

-- a bit times the one is an element
pub bit_fits : (width unit : ℕ) → unit < 2 ^ width → (b : ℕ) → b < 2 → b * unit < 2 ^ width
bit_fits width unit fits =
    two_cases (λ b. b * unit < 2 ^ width) (subst (λ (n : ℕ). n < 2 ^ width) (sym (zero-mul unit)) (pow_pos width))
    (subst (λ (n : ℕ). n < 2 ^ width) (sym (one-mul unit)) fits)

-- the image of a sum of bits is the sum of the images
pub bit_sum : (unit a : ℕ) → a < 2 → (b : ℕ) → b < 2 → bit_xor a b * unit ≡ bit_xor (a * unit) (b * unit)
bit_sum unit =
    two_cases (λ a. (b : ℕ) → b < 2 → bit_xor a b * unit ≡ bit_xor (a * unit) (b * unit))
    (two_cases (λ b. bit_xor 0 b * unit ≡ bit_xor (0 * unit) (b * unit)) (simp zero-mul) (simp (zero-mul, one-mul)))
    (two_cases (λ b. bit_xor 1 b * unit ≡ bit_xor (1 * unit) (b * unit)) (simp (zero-mul, one-mul, xor_zero_r)) (simp (zero-mul, one-mul, xor_self)))

-- bits of one image are one, where the one is not 0
pub bit_same : (unit : ℕ) → unit ≢ 0 → (a : ℕ) → a < 2 → (b : ℕ) → b < 2 → a * unit ≡ b * unit → a ≡ b
bit_same unit proper =
    two_cases (λ a. (b : ℕ) → b < 2 → a * unit ≡ b * unit → a ≡ b)
    (two_cases (λ b. 0 * unit ≡ b * unit → 0 ≡ b) (λ same. refl)
    (λ same. absurd (proper (sym (one-mul unit) ∙ sym same ∙ zero-mul unit))))
    (two_cases (λ b. 1 * unit ≡ b * unit → 1 ≡ b)
    (λ same. absurd (proper (sym (one-mul unit) ∙ same ∙ zero-mul unit))) (λ same. refl))

module _ (width unit : ℕ) (times : ℕ → ℕ → ℕ) (ring : IsRing width unit times) (fits : unit < 2 ^ width) where
  -- 0 · x = 0, with 0 written as the image of the bit 0
  of_zero : (x : ℕ) → 0 * unit ≡ times (0 * unit) x
  of_zero x = zero-mul unit ∙ sym (zero-times width unit times ring x) ∙ ap (λ (n : ℕ). times n x) (sym (zero-mul unit))

  -- the image of a product of bits is the product of the images
  pub bit_product : (a : ℕ) → a < 2 → (b : ℕ) → b < 2 → tower_mul 0 a b * unit ≡ times (a * unit) (b * unit)
  unfolding tower_mul
  bit_product =
      two_cases (λ a. (b : ℕ) → b < 2 → tower_mul 0 a b * unit ≡ times (a * unit) (b * unit))
      (two_cases (λ b. tower_mul 0 0 b * unit ≡ times (0 * unit) (b * unit)) (of_zero (0 * unit)) (of_zero (1 * unit)))
      (two_cases (λ b. tower_mul 0 1 b * unit ≡ times (1 * unit) (b * unit))
      (of_zero (1 * unit) ∙ ring.comm (0 * unit) (1 * unit))
      (one-mul unit ∙ sym (mod-eq_of_lt fits) ∙ sym (ring.one unit) ∙ ap₂ times (sym (one-mul unit)) (sym (one-mul unit))))
