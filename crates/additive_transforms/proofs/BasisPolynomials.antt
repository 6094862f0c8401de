-- Values in the transform's basis are values of polynomials of 2 ^ n coefficients, since s_j is one of 2 ^ j + 1.
use Rattle.std.proofs.Common.{◌≡◌, ℕ, zero, suc, ◌+◌, ◌%◌, ◌^◌, ◌<◌, refl, sym, ◌∙◌, ap, ap₂, subst, arith}
use Rattle.std.specs.Prelude.{bit_xor}
use Rattle.std.proofs.Math.Nat.{two-pow-succ}
use Rattle.std.proofs.lemmas.Nat.{xor_mod}
use native.Mathlib.Nat.{mod-eq_of_lt}
use lib.Bits.{xor_comm, xor_zero_r}
use Rattle.field_base.specs.Basis.{sum_below, product_below}
use Rattle.field_base.specs.Ring.{IsRing}
use Rattle.field_base.proofs.RingLemmas.{mod-times, times-mod, times-zero}
use Rattle.field_base.proofs.PolynomialProducts.{polynomial-product, polynomial-widen}
use Rattle.field_base.proofs.Polynomials.{IsPolynomial, polynomial-same, polynomial-sum}
use Rattle.ghash_slices.specs.Cantor.{polynomial_value, subspace_value}
use Rattle.ghash_slices.specs.Stages.{factors_at, sum_of_factors}
use Rattle.additive_transforms.proofs.CantorSums.{value-halves}

module _ (width : ℕ) (times : ℕ → ℕ → ℕ) (wide : 0 < width) (ring : IsRing width 1 times) where
  -- ---- s_j, and values

  -- the point itself, in the bits of an element
  itself : IsPolynomial times 2 (λ x. x % 2 ^ width)
  unfolding IsPolynomial
  itself = (
    0,
    (λ x. times 1 1),
    (1, (λ x. 0), (λ x. refl), λ x. sym (ap (bit_xor (times 1 1)) (times-zero width 1 times ring x) ∙ xor_zero_r (times 1 1))),
    λ x.
        sym (ap₂ bit_xor (times-zero width 1 times ring 1)
        (ap (times x) (ring.one 1) ∙ times-mod width 1 times ring x 1 ∙ ring.comm x 1 ∙ ring.one x)
        ∙ xor_comm 0 (x % 2 ^ width) ∙ xor_zero_r (x % 2 ^ width)),
  )

  -- s_j in the bits of an element
  abbrev subspace : ℕ → ℕ → ℕ
  subspace j x = subspace_value times j x % 2 ^ width

  subspace-square : (j x : ℕ) → bit_xor (times (subspace j x) (subspace j x)) (subspace j x) ≡ subspace (suc j) x
  unfolding subspace_value
  subspace-square j x =
      let s : ℕ = subspace_value times j x in
      ap (λ (a : ℕ). bit_xor a (s % 2 ^ width))
      (mod-times width 1 times ring s (s % 2 ^ width) ∙ times-mod width 1 times ring s s ∙ sym (mod-eq_of_lt (ring.below s s)))
      ∙ sym (xor_mod (times s s) s width)

  subspace-first : (x : ℕ) → x % 2 ^ width ≡ subspace 0 x
  unfolding subspace_value
  subspace-first x = refl

  subspace-polynomial : (j : ℕ) → IsPolynomial times (suc (2 ^ j)) (subspace j)
  subspace-polynomial zero = polynomial-same width times ring 2 (λ x. x % 2 ^ width) (subspace 0) subspace-first itself
  subspace-polynomial (suc j) =
      let p = subspace-polynomial j in
      let size : 2 ^ j + suc (2 ^ j) ≡ suc (2 ^ suc j) = let twice = two-pow-succ j in omega arith in
      let square : IsPolynomial times (2 ^ j + suc (2 ^ j)) (λ x. times (subspace j x) (subspace j x)) =
      polynomial-product width times wide ring (2 ^ j) (suc (2 ^ j)) (subspace j) (subspace j) p p in
      polynomial-same width times ring (suc (2 ^ suc j)) (λ x. bit_xor (times (subspace j x) (subspace j x)) (subspace j x)) (subspace (suc j))
      (subspace-square j)
      (subst (λ (n : ℕ). IsPolynomial times n (λ x. bit_xor (times (subspace j x) (subspace j x)) (subspace j x))) size
      (polynomial-sum width times ring (2 ^ j + suc (2 ^ j)) (λ x. times (subspace j x) (subspace j x)) (subspace j) square
      (polynomial-widen width times wide ring (2 ^ j) (suc (2 ^ j)) (subspace j) p)))

  -- one coefficient
  value-constant : (c : ℕ → ℕ) (x : ℕ) → polynomial_value times 0 c x ≡ bit_xor (times 1 (c 0)) (times x 0)
  unfolding polynomial_value sum_of_factors factors_at sum_below product_below
  value-constant c x =
      xor_comm 0 (times (c 0) 1) ∙ xor_zero_r (times (c 0) 1) ∙ ring.comm (c 0) 1
      ∙ sym (ap (bit_xor (times 1 (c 0))) (times-zero width 1 times ring x) ∙ xor_zero_r (times 1 (c 0)))

  pub value-polynomial : (n : ℕ) (c : ℕ → ℕ) → IsPolynomial times (2 ^ n) (polynomial_value times n c)
  unfolding IsPolynomial
  value-polynomial zero c = (c 0, (λ x. 0), (λ x. refl), value-constant c)
  value-polynomial (suc n) c =
      let low : IsPolynomial times (2 ^ n + 2 ^ n) (polynomial_value times n c) =
      polynomial-widen width times wide ring (2 ^ n) (2 ^ n) (polynomial_value times n c) (value-polynomial n c) in
      let high : IsPolynomial times (2 ^ n + 2 ^ n) (λ x. times (subspace n x) (polynomial_value times n upper x)) =
      polynomial-product width times wide ring (2 ^ n) (2 ^ n) (subspace n) (polynomial_value times n upper) (subspace-polynomial n) (value-polynomial n upper) in
      subst (λ (m : ℕ). IsPolynomial times m (polynomial_value times (suc n) c)) (sym (two-pow-succ n))
      (polynomial-same width times ring (2 ^ n + 2 ^ n)
      (λ x. bit_xor (polynomial_value times n c x) (times (subspace n x) (polynomial_value times n upper x))) (polynomial_value times (suc n) c) halves
      (polynomial-sum width times ring (2 ^ n + 2 ^ n) (polynomial_value times n c)
      (λ x. times (subspace n x) (polynomial_value times n upper x)) low high))
    where
      upper : ℕ → ℕ
      upper k = c (2 ^ n + k)

      halves : (x : ℕ) → bit_xor (polynomial_value times n c x) (times (subspace n x) (polynomial_value times n upper x)) ≡ polynomial_value times (suc n) c x
      halves x =
          ap (bit_xor (polynomial_value times n c x)) (mod-times width 1 times ring (subspace_value times n x) (polynomial_value times n upper x))
          ∙ sym (value-halves width times wide ring n c x)
