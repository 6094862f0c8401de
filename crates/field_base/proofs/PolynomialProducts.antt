-- Products of polynomials are polynomials.
use Rattle.std.proofs.Common.{◌≡◌, ℕ, zero, suc, ◌+◌, ◌<◌, sym, ◌∙◌, ap, ap₂, subst, arith}
use Rattle.std.specs.Prelude.{bit_xor}
use lib.Bits.{xor_zero_r}
use Rattle.field_base.specs.Ring.{IsRing}
use Rattle.field_base.proofs.RingLemmas.{mod-times, sum_times, times-zero}
use Rattle.field_base.proofs.Polynomials.{IsPolynomial, polynomial-more, polynomial-same, polynomial-scale, polynomial-shift, polynomial-sum}

module _ (width : ℕ) (times : ℕ → ℕ → ℕ) (wide : 0 < width) (ring : IsRing width 1 times) where
  -- a polynomial of k coefficients is one of d + k
  pub polynomial-widen : (d k : ℕ) (f : ℕ → ℕ) → IsPolynomial times k f → IsPolynomial times (d + k) f
  polynomial-widen zero k f p = let same : k ≡ 0 + k = omega arith in subst (λ (n : ℕ). IsPolynomial times n f) same p
  polynomial-widen (suc d) k f p =
      let same : suc (d + k) ≡ suc d + k = omega arith in
      subst (λ (n : ℕ). IsPolynomial times n f) same (polynomial-more width times ring (d + k) f (polynomial-widen d k f p))

  -- (c + x g) h = c h + x (g h)
  spread : (c x g h : ℕ) → times (bit_xor (times 1 c) (times x g)) h ≡ bit_xor (times c h) (times x (times g h))
  spread c x g h =
      sum_times width 1 times ring (times 1 c) (times x g) h
      ∙ ap₂ bit_xor (ap (λ (a : ℕ). times a h) (ring.one c) ∙ mod-times width 1 times ring c h) (ring.assoc x g h)

  -- a product of j + 1 and k coefficients has j + k
  pub polynomial-product : (j k : ℕ) (f g : ℕ → ℕ) → IsPolynomial times (suc j) f → IsPolynomial times k g
      → IsPolynomial times (j + k) (λ x. times (f x) (g x))
  unfolding IsPolynomial
  polynomial-product zero k f g p q =
      polynomial-same width times ring (0 + k) (λ x. times p.0 (g x)) (λ x. times (f x) (g x)) constant
      (polynomial-widen 0 k (λ x. times p.0 (g x)) (polynomial-scale width times ring k p.0 g q))
    where
      constant : (x : ℕ) → times p.0 (g x) ≡ times (f x) (g x)
      constant x =
          sym (ap (λ (a : ℕ). times a (g x))
          (p.3 x ∙ ap (λ (a : ℕ). bit_xor (times 1 p.0) (times x a)) (p.2 x) ∙ ap (bit_xor (times 1 p.0)) (times-zero width 1 times ring x)
          ∙ xor_zero_r (times 1 p.0) ∙ ring.one p.0)
          ∙ mod-times width 1 times ring p.0 (g x))
  polynomial-product (suc j) k f g p q =
      let same : suc (j + k) ≡ suc j + k = omega arith in
      let low = polynomial-widen (suc j) k (λ x. times p.0 (g x)) (polynomial-scale width times ring k p.0 g q) in
      let high =
      subst (λ (n : ℕ). IsPolynomial times n (λ x. times x (times (p.1 x) (g x)))) same
      (polynomial-shift width times ring (j + k) (λ x. times (p.1 x) (g x)) (polynomial-product j k p.1 g p.2 q)) in
      polynomial-same width times ring (suc j + k) (λ x. bit_xor (times p.0 (g x)) (times x (times (p.1 x) (g x)))) (λ x. times (f x) (g x))
      (λ x. sym (ap (λ (a : ℕ). times a (g x)) (p.3 x) ∙ spread p.0 x (p.1 x) (g x)))
      (polynomial-sum width times ring (suc j + k) (λ x. times p.0 (g x)) (λ x. times x (times (p.1 x) (g x))) low high)
