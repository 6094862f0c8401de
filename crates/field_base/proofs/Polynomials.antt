-- Polynomials as functions, with as many coefficients as are stated: a function carries the proofs by closure, where a list of
-- coefficients would be added and shifted place by place.
use Rattle.std.proofs.Common.{◌≡◌, ℕ, zero, suc, ◌^◌, ◌<◌, inl, inr, refl, sym, ◌∙◌, ap, ap₂, subst, arith}
use Rattle.std.specs.Prelude.{bit_xor}
use Rattle.std.proofs.lemmas.Nat.{xor_lt, pow_pos}
use lib.Bits.{xor_assoc, xor_self, xor_zero_r, xor_zero_l}
use Rattle.field_base.specs.Ring.{IsRing}
use Rattle.field_base.specs.Field.{HasInverses}
use Rattle.field_base.proofs.RingLemmas.{xor_left_comm, xor_nothing, sum_times, times_left_comm, times-zero, xor_exchange}
use Rattle.field_base.proofs.FieldLemmas.{no_zero_divisors}

-- f is a polynomial of k coefficients: c + x g, where g is one of k - 1
unfoldable pub IsPolynomial : (ℕ → ℕ → ℕ) → ℕ → (ℕ → ℕ) → Type 0
IsPolynomial times zero f = (x : ℕ) → f x ≡ 0
IsPolynomial times (suc k) f = (c : ℕ) × (g : ℕ → ℕ) × IsPolynomial times k g × ((x : ℕ) → f x ≡ bit_xor (times 1 c) (times x (g x)))

module _ (width : ℕ) (times : ℕ → ℕ → ℕ) (ring : IsRing width 1 times) where
  pub polynomial-same : (k : ℕ) (f g : ℕ → ℕ) → ((x : ℕ) → f x ≡ g x) → IsPolynomial times k f → IsPolynomial times k g
  unfolding IsPolynomial
  polynomial-same zero f g same p = λ x. sym (same x) ∙ p x
  polynomial-same (suc k) f g same p = (p.0, p.1, p.2, λ x. sym (same x) ∙ p.3 x)

  pub polynomial-zero : (k : ℕ) → IsPolynomial times k (λ x. 0)
  unfolding IsPolynomial
  polynomial-zero zero = λ x. refl
  polynomial-zero (suc k) = (
    0,
    (λ x. 0),
    polynomial-zero k,
    λ x. sym (ap₂ bit_xor (times-zero width 1 times ring 1) (times-zero width 1 times ring x)),
  )

  pub polynomial-sum : (k : ℕ) (f g : ℕ → ℕ) → IsPolynomial times k f → IsPolynomial times k g → IsPolynomial times k (λ x. bit_xor (f x) (g x))
  unfolding IsPolynomial
  polynomial-sum zero f g p q = λ x. ap₂ bit_xor (p x) (q x)
  polynomial-sum (suc k) f g p q = (
    bit_xor p.0 q.0,
    (λ x. bit_xor (p.1 x) (q.1 x)),
    polynomial-sum k p.1 q.1 p.2 q.2,
    λ x.
        ap₂ bit_xor (p.3 x) (q.3 x) ∙ xor_exchange (times 1 p.0) (times x (p.1 x)) (times 1 q.0) (times x (q.1 x))
        ∙ sym (ap₂ bit_xor (ring.over_sum 1 p.0 q.0) (ring.over_sum x (p.1 x) (q.1 x))),
  )

  pub polynomial-scale : (k : ℕ) (s : ℕ) (f : ℕ → ℕ) → IsPolynomial times k f → IsPolynomial times k (λ x. times s (f x))
  unfolding IsPolynomial
  polynomial-scale zero s f p = λ x. ap (times s) (p x) ∙ times-zero width 1 times ring s
  polynomial-scale (suc k) s f p = (
    times s p.0,
    (λ x. times s (p.1 x)),
    polynomial-scale k s p.1 p.2,
    λ x.
        ap (times s) (p.3 x) ∙ ring.over_sum s (times 1 p.0) (times x (p.1 x))
        ∙ ap₂ bit_xor (times_left_comm width 1 times ring s 1 p.0) (times_left_comm width 1 times ring s x (p.1 x)),
  )

  pub polynomial-shift : (k : ℕ) (f : ℕ → ℕ) → IsPolynomial times k f → IsPolynomial times (suc k) (λ x. times x (f x))
  unfolding IsPolynomial
  polynomial-shift k f p =
      (0, f, p, λ x. sym (ap (λ (z : ℕ). bit_xor z (times x (f x))) (times-zero width 1 times ring 1) ∙ xor_zero_l (times x (f x))))

  pub polynomial-more : (k : ℕ) (f : ℕ → ℕ) → IsPolynomial times k f → IsPolynomial times (suc k) f
  unfolding IsPolynomial
  polynomial-more zero f p = (
    0,
    (λ x. 0),
    (λ x. refl),
    λ x. p x ∙ sym (ap₂ bit_xor (times-zero width 1 times ring 1) (times-zero width 1 times ring x)),
  )
  polynomial-more (suc k) f p = (p.0, p.1, polynomial-more k p.1 p.2, p.3)

  -- a product by x + a has one coefficient more
  pub polynomial-root : (k : ℕ) (a : ℕ) (f : ℕ → ℕ) → IsPolynomial times k f → IsPolynomial times (suc k) (λ x. times (bit_xor x a) (f x))
  polynomial-root k a f p =
      polynomial-same (suc k) (λ x. bit_xor (times x (f x)) (times a (f x))) (λ x. times (bit_xor x a) (f x))
      (λ x. sym (sum_times width 1 times ring x a (f x)))
      (polynomial-sum (suc k) (λ x. times x (f x)) (λ x. times a (f x)) (polynomial-shift k f p) (polynomial-more k (λ x. times a (f x)) (polynomial-scale k a f p)))

  pub polynomial-lt : (k : ℕ) (f : ℕ → ℕ) → IsPolynomial times k f → (x : ℕ) → f x < 2 ^ width
  unfolding IsPolynomial
  polynomial-lt zero f p x = subst (λ (z : ℕ). z < 2 ^ width) (sym (p x)) (pow_pos width)
  polynomial-lt (suc k) f p x =
      subst (λ (z : ℕ). z < 2 ^ width) (sym (p.3 x))
      (xor_lt width (times 1 p.0) (times x (p.1 x)) (ring.below 1 p.0) (ring.below x (p.1 x)))

  -- f is its value at a, and x + a times a quotient of one coefficient fewer
  pub polynomial-divide : (k : ℕ) (f : ℕ → ℕ) (a : ℕ) → IsPolynomial times (suc k) f
      → (q : ℕ → ℕ) × IsPolynomial times k q × ((x : ℕ) → f x ≡ bit_xor (f a) (times (bit_xor x a) (q x)))
  unfolding IsPolynomial
  polynomial-divide zero f a p = (
    (λ x. 0),
    (λ x. refl),
    λ x. constant x ∙ sym (constant a) ∙ sym (ap (bit_xor (f a)) (times-zero width 1 times ring (bit_xor x a)) ∙ xor_zero_r (f a)),
  )
    where
      constant : (x : ℕ) → f x ≡ times 1 p.0
      constant x =
          p.3 x ∙ ap (λ (z : ℕ). bit_xor (times 1 p.0) (times x z)) (p.2 x)
          ∙ ap (bit_xor (times 1 p.0)) (times-zero width 1 times ring x) ∙ xor_zero_r (times 1 p.0)
  polynomial-divide (suc k) f a p =
      let inner = polynomial-divide k p.1 a p.2 in (
        (λ x. bit_xor (p.1 x) (times a (inner.0 x))),
        polynomial-sum (suc k) p.1 (λ x. times a (inner.0 x)) p.2 (polynomial-more k (λ x. times a (inner.0 x)) (polynomial-scale k a inner.0 inner.1)),
        λ x. divides inner.0 inner.2 x,
      )
    where
      divides : (h : ℕ → ℕ) → ((x : ℕ) → p.1 x ≡ bit_xor (p.1 a) (times (bit_xor x a) (h x))) → (x : ℕ)
          → f x ≡ bit_xor (f a) (times (bit_xor x a) (bit_xor (p.1 x) (times a (h x))))
      divides h step x =
          -- (x + a) (g x + a h x) = x g x + a g x + a (x + a) h x = x g x + a g a
          let product : times (bit_xor x a) (bit_xor (p.1 x) (times a (h x))) ≡ bit_xor (times x (p.1 x)) (times a (p.1 a)) =
          ring.over_sum (bit_xor x a) (p.1 x) (times a (h x))
          ∙ ap₂ bit_xor (sum_times width 1 times ring x a (p.1 x)) (times_left_comm width 1 times ring (bit_xor x a) a (h x))
          ∙ xor_assoc (times x (p.1 x)) (times a (p.1 x)) (times a (times (bit_xor x a) (h x)))
          ∙ ap (bit_xor (times x (p.1 x)))
          (sym (ring.over_sum a (p.1 x) (times (bit_xor x a) (h x)))
          ∙ ap (times a) (ap (λ (z : ℕ). bit_xor z (times (bit_xor x a) (h x))) (step x) ∙ xor_assoc (p.1 a) (times (bit_xor x a) (h x)) (times (bit_xor x a) (h x))
          ∙ ap (bit_xor (p.1 a)) (xor_self (times (bit_xor x a) (h x))) ∙ xor_zero_r (p.1 a))) in
          p.3 x
          ∙ sym (ap₂ bit_xor (p.3 a) product
          ∙ xor_assoc (times 1 p.0) (times a (p.1 a)) (bit_xor (times x (p.1 x)) (times a (p.1 a)))
          ∙ ap (bit_xor (times 1 p.0)) (xor_left_comm (times a (p.1 a)) (times x (p.1 x)) (times a (p.1 a))
          ∙ ap (bit_xor (times x (p.1 x))) (xor_self (times a (p.1 a))) ∙ xor_zero_r (times x (p.1 x))))

  module _ (inverses : HasInverses width times) where
    -- a polynomial of k coefficients that is 0 at k distinct points is 0
    pub polynomial-vanishes : (k : ℕ) (f : ℕ → ℕ) → IsPolynomial times k f → (point : ℕ → ℕ)
        → ((i : ℕ) → i < k → point i < 2 ^ width)
        → ((i j : ℕ) → i < k → j < k → point i ≡ point j → i ≡ j)
        → ((i : ℕ) → i < k → f (point i) ≡ 0) → (x : ℕ) → f x ≡ 0
    unfolding IsPolynomial
    polynomial-vanishes zero f p point fits distinct zeros x = p x
    polynomial-vanishes (suc k) f p point fits distinct zeros x =
        let parts = polynomial-divide k f (point k) p in
        let q = parts.0 in
        let last : f (point k) ≡ 0 = zeros k (omega arith) in
        let product : (y : ℕ) → f y ≡ times (bit_xor y (point k)) (q y) =
        λ y. parts.2 y ∙ ap (λ (z : ℕ). bit_xor z (times (bit_xor y (point k)) (q y))) last ∙ xor_zero_l (times (bit_xor y (point k)) (q y)) in
        product x
        ∙ ap (times (bit_xor x (point k)))
        (polynomial-vanishes k q parts.1 point (λ i below. fits i (omega (arith, below)))
        (λ i j i_below j_below. distinct i j (omega (arith, i_below)) (omega (arith, j_below)))
        (λ i below.
        quotient_zero i below (q (point i)) (polynomial-lt k q parts.1 (point i))
        (sym (product (point i)) ∙ zeros i (omega (arith, below))))
        x)
        ∙ times-zero width 1 times ring (bit_xor x (point k))
      where
        quotient_zero : (i : ℕ) → i < k → (z : ℕ) → z < 2 ^ width → times (bit_xor (point i) (point k)) z ≡ 0 → z ≡ 0
        quotient_zero i below z z_fits nothing =
            elim (no_zero_divisors width times ring inverses (bit_xor (point i) (point k)) z
            (xor_lt width (point i) (point k) (fits i (omega (arith, below))) (fits k (omega arith))) z_fits nothing) [
              | inl e ↦ absurd (omega (arith, below, distinct i k (omega (arith, below)) (omega arith) (xor_nothing (point i) (point k) e)))
              | inr e ↦ e
            ]

    -- two that agree at k distinct points agree everywhere
    pub polynomial-unique : (k : ℕ) (f g : ℕ → ℕ) → IsPolynomial times k f → IsPolynomial times k g → (point : ℕ → ℕ)
        → ((i : ℕ) → i < k → point i < 2 ^ width)
        → ((i j : ℕ) → i < k → j < k → point i ≡ point j → i ≡ j)
        → ((i : ℕ) → i < k → f (point i) ≡ g (point i)) → (x : ℕ) → f x ≡ g x
    polynomial-unique k f g p q point fits distinct agree x =
        xor_nothing (f x) (g x)
        (polynomial-vanishes k (λ y. bit_xor (f y) (g y)) (polynomial-sum k f g p q) point fits distinct
        (λ i below. ap (λ (z : ℕ). bit_xor z (g (point i))) (agree i below) ∙ xor_self (g (point i))) x)
