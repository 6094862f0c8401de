-- Polynomials that agree at all but few places are the same, and one that is 0 at few places is not 0.
use Rattle.std.proofs.Common.{◌≡◌, ℕ, ◌+◌, ◌^◌, ◌<◌, ◌≤◌, Bool, true, false, ◌∙◌, ap, arith}
use Rattle.std.specs.Prelude.{bit_xor, not}
use lib.Bits.{xor_self}
use Rattle.field_base.specs.Field.{IsField}
use Rattle.field_base.proofs.RingLemmas.{xor_nothing}
use Rattle.field_base.specs.PolynomialRoots.{AreDistinctBelow}
use Rattle.field_base.proofs.Polynomials.{IsPolynomial, polynomial-sum, polynomial-vanishes}
use Rattle.field_slices.specs.Marks.{marked_below}
use Rattle.field_slices.proofs.Counts.{enumerated, unmarked-count}
use Rattle.error_codes.proofs.Marks.{not-false}

module _ (width : ℕ) (times : ℕ → ℕ → ℕ) (field : IsField width times) (n : ℕ)
    (point : ℕ → ℕ) (points : AreDistinctBelow n (2 ^ width) point) where
  -- of k coefficients, and 0 at all but n - k places
  pub vanishes : (k : ℕ) (f : ℕ → ℕ) → IsPolynomial times k f → (marked : ℕ → Bool) → marked_below marked n + k ≤ n
      → ((i : ℕ) → i < n → marked i ≡ false → f (point i) ≡ 0) → (x : ℕ) → f x ≡ 0
  vanishes k f p marked few zeros x =
      polynomial-vanishes width times field.ring field.inverses k f p (λ i. point (numbered.0 i))
      (λ i below. points.below (numbered.0 i) (inside i below))
      (λ i j i_below j_below same.
      numbered.2 i j (enough i i_below) (enough j j_below)
      (points.differ (numbered.0 i) (numbered.0 j) (inside i i_below) (inside j j_below) same))
      (λ i below. zeros (numbered.0 i) (inside i below) (not-false (marked (numbered.0 i))
      (numbered.1 i (enough i below)).1)) x
    where
      numbered : (y : ℕ → ℕ) × ((i : ℕ) → i < marked_below (λ p. not (marked p)) n
          → (y i < n) × (not (marked (y i)) ≡ true))
          × ((i j : ℕ) → i < marked_below (λ p. not (marked p)) n → j < marked_below (λ p. not (marked p)) n
          → y i ≡ y j → i ≡ j)
      numbered = enumerated (λ p. not (marked p)) n

      enough : (i : ℕ) → i < k → i < marked_below (λ p. not (marked p)) n
      enough i below = let count = unmarked-count marked n in omega (arith, below, count, few)

      inside : (i : ℕ) → i < k → numbered.0 i < n
      inside i below = (numbered.1 i (enough i below)).0

  pub agrees : (k : ℕ) (f g : ℕ → ℕ) → IsPolynomial times k f → IsPolynomial times k g → (marked : ℕ → Bool)
      → marked_below marked n + k ≤ n
      → ((i : ℕ) → i < n → marked i ≡ false → f (point i) ≡ g (point i)) → (x : ℕ) → f x ≡ g x
  agrees k f g p q marked few same x =
      xor_nothing (f x) (g x)
      (vanishes k (λ y. bit_xor (f y) (g y)) (polynomial-sum width times field.ring k f g p q) marked few
      (λ i below free. ap (λ (z : ℕ). bit_xor z (g (point i))) (same i below free) ∙ xor_self (g (point i))) x)
