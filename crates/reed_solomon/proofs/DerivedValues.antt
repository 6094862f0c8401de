-- Derivatives of values in the transform's basis: the quotient of f(x) + f(a) by x + a has the derivative of f as its value at a.
use Rattle.std.proofs.Common.{◌≡◌, ◌≢◌, inl, inr, ℕ, zero, suc, ◌+◌, ◌-◌, ◌%◌, ◌^◌, ◌<◌, ◌≤◌, if◌then◌else◌, nat_lt, lit<, refl, sym, ◌∙◌, ap, ap₂, subst, arith}
use Rattle.std.specs.Prelude.{bit_xor}
use Rattle.std.proofs.Math.Nat.{pow-le-pow_right, two-pow-succ}
use Rattle.std.proofs.lemmas.Bool.{cases_lt}
use Rattle.std.proofs.lemmas.Bool.Decides.{nat_tests}
use Rattle.std.proofs.lemmas.Nat.{pow_pos, xor_lt, xor_mod}
use native.Mathlib.Nat.{mod-eq_of_lt}
use lib.Bits.{xor_assoc, xor_comm, xor_self, xor_zero_r}
use Rattle.field_base.specs.Basis.{sum_below, product_below}
use Rattle.field_base.specs.Field.{IsField}
use Rattle.field_base.specs.Ring.{IsRing}
use Rattle.field_base.proofs.BasisSums.{sum_below-same}
use Rattle.field_base.proofs.FieldLemmas.{no_zero_divisors}
use Rattle.field_base.proofs.RingLemmas.{mod-times, sum_times, times-mod, times-zero, times_left_comm, xor_left_comm, xor_nothing, zero-times}
use Rattle.field_base.proofs.Polynomials.{IsPolynomial, polynomial-lt, polynomial-root, polynomial-scale, polynomial-sum, polynomial-unique, polynomial-zero}
use Rattle.ghash_slices.specs.Cantor.{polynomial_value, subspace_value}
use Rattle.ghash_slices.specs.Stages.{factors_at, sum_of_factors}
use Rattle.ghash_slices.proofs.CantorValues.{subspace_value-sum}
use Rattle.ghash_slices.proofs.StageSums.{sum_below-xor}
use Rattle.field_base.proofs.PolynomialProducts.{polynomial-product, polynomial-widen}
use Rattle.additive_transforms.proofs.BasisPolynomials.{value-polynomial}
use Rattle.additive_transforms.proofs.CantorSums.{value-halves, value-none, value-same}
use Rattle.reed_solomon.specs.Derivatives.{derived}

-- ---- coefficients

-- a constant has none
pub derived-none : (c : ℕ → ℕ) (k : ℕ) → derived 0 c k ≡ 0
unfolding derived
derived-none c k = refl

-- the lower half, and the upper one
pub derived-low : (n : ℕ) (c : ℕ → ℕ) (k : ℕ) → k < 2 ^ n → derived (suc n) c k ≡ bit_xor (derived n c k) (c (2 ^ n + k))
unfolding derived
derived-low n c k below = grind (arith, nat_tests)

pub derived-high : (n : ℕ) (c : ℕ → ℕ) (k : ℕ) → 2 ^ n ≤ k → derived (suc n) c k ≡ derived n (λ i. c (2 ^ n + i)) (k - 2 ^ n)
unfolding derived
derived-high n c k past = grind (arith, nat_tests)

derived-upper : (n : ℕ) (c : ℕ → ℕ) (k : ℕ) → derived (suc n) c (2 ^ n + k) ≡ derived n (λ i. c (2 ^ n + i)) k
derived-upper n c k =
    let behind : 2 ^ n + k - 2 ^ n ≡ k = omega arith in
    derived-high n c (2 ^ n + k) (omega arith) ∙ ap (derived n (λ i. c (2 ^ n + i))) behind

-- only 2 ^ n coefficients count
pub derived-same : (n : ℕ) (c d : ℕ → ℕ) → ((i : ℕ) → i < 2 ^ n → c i ≡ d i) → (k : ℕ) → derived n c k ≡ derived n d k
derived-same zero c d same k = derived-none c k ∙ sym (derived-none d k)
derived-same (suc n) c d same k =
    let twice = two-pow-succ n in
    elim (cases_lt k (2 ^ n)) [
      | inl below ↦
          derived-low n c k below
          ∙ ap₂ bit_xor (derived-same n c d (λ i less. same i (omega (arith, less, twice))) k) (same (2 ^ n + k) (omega (arith, below, twice)))
          ∙ sym (derived-low n d k below)
      | inr past ↦
          derived-high n c k past
          ∙ derived-same n (λ i. c (2 ^ n + i)) (λ i. d (2 ^ n + i)) (λ i less. same (2 ^ n + i) (omega (arith, less, twice))) (k - 2 ^ n)
          ∙ sym (derived-high n d k past)
    ]

-- the low bits of a derivative are that of the low bits
pub derived-mod : (width n : ℕ) (c : ℕ → ℕ) (k : ℕ) → derived n c k % 2 ^ width ≡ derived n (λ i. c i % 2 ^ width) k
derived-mod width zero c k =
    ap (λ (v : ℕ). v % 2 ^ width) (derived-none c k) ∙ mod-eq_of_lt (pow_pos width) ∙ sym (derived-none (λ i. c i % 2 ^ width) k)
derived-mod width (suc n) c k =
    elim (cases_lt k (2 ^ n)) [
      | inl below ↦
          ap (λ (v : ℕ). v % 2 ^ width) (derived-low n c k below)
          ∙ xor_mod (derived n c k) (c (2 ^ n + k)) width
          ∙ ap (λ (v : ℕ). bit_xor v (c (2 ^ n + k) % 2 ^ width)) (derived-mod width n c k)
          ∙ sym (derived-low n (λ i. c i % 2 ^ width) k below)
      | inr past ↦
          ap (λ (v : ℕ). v % 2 ^ width) (derived-high n c k past)
          ∙ derived-mod width n (λ i. c (2 ^ n + i)) (k - 2 ^ n)
          ∙ sym (derived-high n (λ i. c i % 2 ^ width) k past)
    ]

module _ (width : ℕ) (times : ℕ → ℕ → ℕ) (wide : 0 < width) (ring : IsRing width 1 times) where
  -- values of sums
  value-sum : (n : ℕ) (c d : ℕ → ℕ) (x : ℕ)
      → polynomial_value times n (λ k. bit_xor (c k) (d k)) x ≡ bit_xor (polynomial_value times n c x) (polynomial_value times n d x)
  unfolding polynomial_value sum_of_factors
  value-sum n c d x =
      let factors : ℕ → ℕ = factors_at times (λ j. subspace_value times j x) n in
      sum_below-same (λ k. times (bit_xor (c k) (d k)) (factors k)) (λ k. bit_xor (times (c k) (factors k)) (times (d k) (factors k))) (2 ^ n)
      (λ k below. sum_times width 1 times ring (c k) (d k) (factors k))
      ∙ sym (sum_below-xor (λ k. times (c k) (factors k)) (λ k. times (d k) (factors k)) (2 ^ n))

  -- one coefficient has the same value everywhere
  value-first : (c : ℕ → ℕ) (x y : ℕ) → polynomial_value times 0 c x ≡ polynomial_value times 0 c y
  unfolding polynomial_value sum_of_factors factors_at sum_below product_below
  value-first c x y = refl

  -- a constant is a polynomial
  pub constant : (k c : ℕ) → c < 2 ^ width → IsPolynomial times (suc k) (λ x. c)
  unfolding IsPolynomial
  constant k c fits = (
    c,
    (λ x. 0),
    polynomial-zero width times ring k,
    λ x.
        sym (ap₂ bit_xor (ring.one c ∙ mod-eq_of_lt fits) (times-zero width 1 times ring x) ∙ xor_zero_r c),
  )

  -- one is an element
  pub one-lt : 1 < 2 ^ width
  one-lt = let least : 2 ^ 1 ≤ 2 ^ width = pow-le-pow_right (lit< tt) wide in omega (arith, least)

  module _ (a : ℕ) where
    -- ---- s_j(x) + s_j(a) = (x + a) slope j x

    unfoldable pub slope : ℕ → ℕ → ℕ
    slope zero x = 1
    slope (suc n) x = times (bit_xor (times (bit_xor x a) (slope n x)) 1) (slope n x)

    slope-polynomial : (n : ℕ) → IsPolynomial times (2 ^ n) (slope n)
    unfolding slope
    slope-polynomial zero = constant 0 1 one-lt
    slope-polynomial (suc n) =
        let size : 2 ^ n + 1 ≡ suc (2 ^ n) = omega arith in
        let step : ℕ → ℕ = λ x. times (bit_xor x a) (slope n x) in
        let one : IsPolynomial times (suc (2 ^ n)) (λ x. 1) = constant (2 ^ n) 1 one-lt in
        subst (λ (k : ℕ). IsPolynomial times k (λ x. times (bit_xor (step x) 1) (slope n x))) (sym (two-pow-succ n))
        (polynomial-product width times wide ring (2 ^ n) (2 ^ n) (λ x. bit_xor (step x) 1) (slope n)
        (polynomial-sum width times ring (suc (2 ^ n)) step (λ x. 1)
        (polynomial-root width times ring (2 ^ n) a (slope n) (slope-polynomial n)) one)
        (slope-polynomial n))

    slope-steps : (n x : ℕ) → subspace_value times n (bit_xor x a) % 2 ^ width ≡ times (bit_xor x a) (slope n x)
    unfolding subspace_value slope
    slope-steps zero x = sym (ring.comm (bit_xor x a) 1 ∙ ring.one (bit_xor x a))
    slope-steps (suc n) x =
        let h : ℕ = bit_xor x a in
        let u : ℕ = subspace_value times n h in
        let d : ℕ = times h (slope n x) in
        let square : times u u ≡ times d d =
        sym (mod-times width 1 times ring u u) ∙ sym (times-mod width 1 times ring (u % 2 ^ width) u)
        ∙ ap (λ (v : ℕ). times v v) (slope-steps n x) in
        xor_mod (times u u) u width
        ∙ ap₂ bit_xor (mod-eq_of_lt (ring.below u u) ∙ square)
        (slope-steps n x ∙ sym (mod-eq_of_lt (ring.below h (slope n x))) ∙ sym (ring.one d))
        ∙ sym (sum_times width 1 times ring d 1 d)
        ∙ times_left_comm width 1 times ring (bit_xor d 1) h (slope n x)

    pub slope-first : (x : ℕ) → slope 0 x ≡ 1
    unfolding slope
    slope-first x = refl

    -- by s_n
    pub slope-next : (n x : ℕ) → slope (suc n) x ≡ times (bit_xor (subspace_value times n (bit_xor x a) % 2 ^ width) 1) (slope n x)
    unfolding slope
    slope-next n x = ap (λ (v : ℕ). times (bit_xor v 1) (slope n x)) (sym (slope-steps n x))

    slope-own : (n : ℕ) → slope n a ≡ 1
    unfolding slope
    slope-own zero = refl
    slope-own (suc n) =
        ap (λ (v : ℕ). times (bit_xor (times v (slope n a)) 1) (slope n a)) (xor_self a)
        ∙ ap (λ (v : ℕ). times (bit_xor v 1) (slope n a)) (zero-times width 1 times ring (slope n a))
        ∙ ap (times 1) (slope-own n)
        ∙ ring.one 1 ∙ mod-eq_of_lt one-lt

    -- ---- f(x) + f(a) = (x + a) quotient x

    abbrev value : ℕ → (ℕ → ℕ) → ℕ → ℕ
    value n c x = polynomial_value times n c x

    -- s_n by its value at a
    abbrev around : ℕ → ℕ → ℕ
    around n x = bit_xor (subspace_value times n a % 2 ^ width) (times (bit_xor x a) (slope n x))

    around-is : (n x : ℕ) → subspace_value times n x % 2 ^ width ≡ around n x
    around-is n x =
        let u : ℕ = subspace_value times n x in
        let v : ℕ = subspace_value times n a in
        ap (λ (w : ℕ). w % 2 ^ width) (back u v ∙ ap (bit_xor v) (sym (subspace_value-sum width times wide ring n x a)))
        ∙ xor_mod v (subspace_value times n (bit_xor x a)) width
        ∙ ap (bit_xor (v % 2 ^ width)) (slope-steps n x)
      where
        back : (u v : ℕ) → u ≡ bit_xor v (bit_xor u v)
        back u v = sym (xor_left_comm v u v ∙ ap (bit_xor u) (xor_self v) ∙ xor_zero_r u)

    around-polynomial : (n : ℕ) → IsPolynomial times (suc (2 ^ n)) (around n)
    around-polynomial n =
        polynomial-sum width times ring (suc (2 ^ n)) (λ x. subspace_value times n a % 2 ^ width) (λ x. times (bit_xor x a) (slope n x))
        (constant (2 ^ n) (subspace_value times n a % 2 ^ width) (mod-lt (subspace_value times n a)))
        (polynomial-root width times ring (2 ^ n) a (slope n) (slope-polynomial n))
      where
        mod-lt : (v : ℕ) → v % 2 ^ width < 2 ^ width
        mod-lt v = subst (λ (w : ℕ). w < 2 ^ width) (ring.one v) (ring.below 1 v)

    unfoldable pub quotient : ℕ → (ℕ → ℕ) → ℕ → ℕ
    quotient zero c x = 0
    quotient (suc n) c x =
        bit_xor (bit_xor (quotient n c x) (times (around n x) (quotient n (λ k. c (2 ^ n + k)) x)))
        (times (value n (λ k. c (2 ^ n + k)) a) (slope n x))

    pub quotient-first : (c : ℕ → ℕ) (x : ℕ) → quotient 0 c x ≡ 0
    unfolding quotient
    quotient-first c x = refl

    -- by s_n
    pub quotient-next : (n : ℕ) (c : ℕ → ℕ) (x : ℕ) → quotient (suc n) c x
        ≡ bit_xor (bit_xor (quotient n c x) (times (subspace_value times n x % 2 ^ width) (quotient n (λ k. c (2 ^ n + k)) x)))
        (times (polynomial_value times n (λ k. c (2 ^ n + k)) a) (slope n x))
    unfolding quotient
    quotient-next n c x =
        ap (λ (s : ℕ). bit_xor (bit_xor (quotient n c x) (times s (quotient n (λ k. c (2 ^ n + k)) x)))
        (times (value n (λ k. c (2 ^ n + k)) a) (slope n x))) (sym (around-is n x))

    quotient-polynomial : (n : ℕ) (c : ℕ → ℕ) → IsPolynomial times (2 ^ n - 1) (quotient n c)
    unfolding quotient
    quotient-polynomial zero c = polynomial-zero width times ring 0
    quotient-polynomial (suc n) c =
        let some = pow_pos n in
        let size : 2 ^ n + (2 ^ n - 1) ≡ 2 ^ suc n - 1 = let twice = two-pow-succ n in omega (arith, twice, some) in
        let other : (2 ^ n - 1) + 2 ^ n ≡ 2 ^ n + (2 ^ n - 1) = omega arith in
        let upper : ℕ → ℕ = λ k. c (2 ^ n + k) in
        let first : IsPolynomial times (2 ^ n + (2 ^ n - 1)) (quotient n c) =
        polynomial-widen width times wide ring (2 ^ n) (2 ^ n - 1) (quotient n c) (quotient-polynomial n c) in
        let second : IsPolynomial times (2 ^ n + (2 ^ n - 1)) (λ x. times (around n x) (quotient n upper x)) =
        polynomial-product width times wide ring (2 ^ n) (2 ^ n - 1) (around n) (quotient n upper) (around-polynomial n)
        (quotient-polynomial n upper) in
        let third : IsPolynomial times (2 ^ n + (2 ^ n - 1)) (λ x. times (value n upper a) (slope n x)) =
        subst (λ (k : ℕ). IsPolynomial times k (λ x. times (value n upper a) (slope n x))) other
        (polynomial-widen width times wide ring (2 ^ n - 1) (2 ^ n) (λ x. times (value n upper a) (slope n x))
        (polynomial-scale width times ring (2 ^ n) (value n upper a) (slope n) (slope-polynomial n))) in
        subst (λ (k : ℕ). IsPolynomial times k (quotient (suc n) c)) size
        (polynomial-sum width times ring (2 ^ n + (2 ^ n - 1)) (λ x. bit_xor (quotient n c x) (times (around n x) (quotient n upper x)))
        (λ x. times (value n upper a) (slope n x))
        (polynomial-sum width times ring (2 ^ n + (2 ^ n - 1)) (quotient n c) (λ x. times (around n x) (quotient n upper x)) first second) third)

    quotient-divides : (n : ℕ) (c : ℕ → ℕ) (x : ℕ) → value n c x ≡ bit_xor (value n c a) (times (bit_xor x a) (quotient n c x))
    unfolding quotient
    quotient-divides zero c x =
        value-first c x a ∙ sym (ap (bit_xor (value 0 c a)) (times-zero width 1 times ring (bit_xor x a)) ∙ xor_zero_r (value 0 c a))
    quotient-divides (suc n) c x =
        let upper : ℕ → ℕ = λ k. c (2 ^ n + k) in
        let h : ℕ = bit_xor x a in
        let s : ℕ = subspace_value times n x in
        let v : ℕ = subspace_value times n a in
        let q : ℕ = quotient n upper x in
        let w : ℕ = value n upper a in
        let t : ℕ = slope n x in
        let product : times s (value n upper x) ≡ bit_xor (times v w) (times h (bit_xor (times (around n x) q) (times w t))) =
        ap (times s) (quotient-divides n upper x)
        ∙ ring.over_sum s w (times h q)
        ∙ ap₂ bit_xor
        (sym (mod-times width 1 times ring s w) ∙ ap (λ (u : ℕ). times u w) (around-is n x)
        ∙ sum_times width 1 times ring (v % 2 ^ width) (times h t) w
        ∙ ap₂ bit_xor (mod-times width 1 times ring v w) (ring.assoc h t w ∙ ap (times h) (ring.comm t w)))
        (times_left_comm width 1 times ring s h q
        ∙ ap (times h) (sym (mod-times width 1 times ring s q) ∙ ap (λ (u : ℕ). times u q) (around-is n x)))
        ∙ xor_assoc (times v w) (times h (times w t)) (times h (times (around n x) q))
        ∙ ap (bit_xor (times v w)) (xor_comm (times h (times w t)) (times h (times (around n x) q))
        ∙ sym (ring.over_sum h (times (around n x) q) (times w t))) in
        value-halves width times wide ring n c x
        ∙ ap₂ bit_xor (quotient-divides n c x) product
        ∙ swap (value n c a) (times h (quotient n c x)) (times v w) (times h (bit_xor (times (around n x) q) (times w t)))
        ∙ ap₂ bit_xor (sym (value-halves width times wide ring n c a))
        (sym (ring.over_sum h (quotient n c x) (bit_xor (times (around n x) q) (times w t)))
        ∙ ap (times h) (sym (xor_assoc (quotient n c x) (times (around n x) q) (times w t))))
      where
        swap : (i j k l : ℕ) → bit_xor (bit_xor i j) (bit_xor k l) ≡ bit_xor (bit_xor i k) (bit_xor j l)
        swap i j k l = xor_assoc i j (bit_xor k l) ∙ ap (bit_xor i) (xor_left_comm j k l) ∙ sym (xor_assoc i k (bit_xor j l))

    value-lt : (n : ℕ) (c : ℕ → ℕ) (x : ℕ) → value n c x < 2 ^ width
    value-lt n c x = polynomial-lt width times ring (2 ^ n) (polynomial_value times n c) (value-polynomial width times wide ring n c) x

    quotient-own : (n : ℕ) (c : ℕ → ℕ) → quotient n c a ≡ value n (derived n c) a
    unfolding quotient
    quotient-own zero c = sym (value-none width times wide ring 0 (derived 0 c) a (derived-none c))
    quotient-own (suc n) c =
        let upper : ℕ → ℕ = λ k. c (2 ^ n + k) in
        let v : ℕ = subspace_value times n a in
        let own : around n a ≡ v % 2 ^ width = sym (around-is n a) in
        ap₂ bit_xor
        (ap₂ bit_xor (quotient-own n c)
        (ap₂ times own (quotient-own n upper) ∙ mod-times width 1 times ring v (value n (derived n upper) a)))
        (ap (times (value n upper a)) (slope-own n) ∙ ring.comm (value n upper a) 1 ∙ ring.one (value n upper a)
        ∙ mod-eq_of_lt (value-lt n upper a))
        ∙ order (value n (derived n c) a) (times v (value n (derived n upper) a)) (value n upper a)
        ∙ ap₂ bit_xor
        (sym (value-same width times wide ring n (derived (suc n) c) (λ k. bit_xor (derived n c k) (upper k)) a (derived-low n c)
        ∙ value-sum n (derived n c) upper a))
        (ap (times v) (sym (value-same width times wide ring n (λ k. derived (suc n) c (2 ^ n + k)) (derived n upper) a
        (λ k below. derived-upper n c k))))
        ∙ sym (value-halves width times wide ring n (derived (suc n) c) a)
      where
        order : (i j k : ℕ) → bit_xor (bit_xor i j) k ≡ bit_xor (bit_xor i k) j
        order i j k = xor_assoc i j k ∙ ap (bit_xor i) (xor_comm j k) ∙ sym (xor_assoc i k j)

  -- ---- roots

  -- where f(x) = (x + a) g(x), the quotient is g, if the field has more elements than g has coefficients
  pub quotient_at_root : IsField width times → (a r : ℕ) → a < 2 ^ width → r ≤ width → (c g : ℕ → ℕ) → IsPolynomial times (2 ^ r - 1) g
      → ((x : ℕ) → polynomial_value times r c x ≡ times (bit_xor x a) (g x)) → (x : ℕ) → quotient a r c x ≡ g x
  quotient_at_root field a r fits few c g g_is divides =
      polynomial-unique width times ring field.inverses (2 ^ r - 1) (quotient a r c) g (quotient-polynomial a r c) g_is other others-lt apart
      (λ i below. same (other i) (others-lt i below) (others-differ i))
    where
      other : ℕ → ℕ
      other i = if nat_lt i a then i else suc i

      room : 2 ^ r ≤ 2 ^ width
      room = pow-le-pow_right (lit< tt) few

      others-lt : (i : ℕ) → i < 2 ^ r - 1 → other i < 2 ^ width
      others-lt i below = let most = room in grind (arith, nat_tests)

      others-differ : (i : ℕ) → other i ≢ a
      others-differ i is = grind (arith, nat_tests)

      apart : (i j : ℕ) → i < 2 ^ r - 1 → j < 2 ^ r - 1 → other i ≡ other j → i ≡ j
      apart i j i_below j_below is = grind (arith, nat_tests)

      root : polynomial_value times r c a ≡ 0
      root = divides a ∙ ap (λ (v : ℕ). times v (g a)) (xor_self a) ∙ zero-times width 1 times ring (g a)

      same : (x : ℕ) → x < 2 ^ width → x ≢ a → quotient a r c x ≡ g x
      same x x_fits differs =
          let h : ℕ = bit_xor x a in
          let q : ℕ = quotient a r c x in
          let products : times h q ≡ times h (g x) =
          sym (quotient-divides a r c x ∙ ap (λ (v : ℕ). bit_xor v (times h q)) root ∙ xor_comm 0 (times h q) ∙ xor_zero_r (times h q))
          ∙ divides x in
          let nothing : times h (bit_xor q (g x)) ≡ 0 =
          ring.over_sum h q (g x) ∙ ap (λ (v : ℕ). bit_xor v (times h (g x))) products ∙ xor_self (times h (g x)) in
          elim (no_zero_divisors width times ring field.inverses h (bit_xor q (g x)) (xor_lt width x a x_fits fits)
          (xor_lt width q (g x) (polynomial-lt width times ring (2 ^ r - 1) (quotient a r c) (quotient-polynomial a r c) x)
          (polynomial-lt width times ring (2 ^ r - 1) g g_is x)) nothing) [
            | inl e ↦ absurd (differs (xor_nothing x a e))
            | inr e ↦ xor_nothing q (g x) e
          ]

  -- and the derivative of f at a is g(a)
  pub derived_at_root : IsField width times → (a r : ℕ) → a < 2 ^ width → r ≤ width → (c g : ℕ → ℕ) → IsPolynomial times (2 ^ r - 1) g
      → ((x : ℕ) → polynomial_value times r c x ≡ times (bit_xor x a) (g x)) → polynomial_value times r (derived r c) a ≡ g a
  derived_at_root field a r fits few c g g_is divides = sym (quotient-own a r c) ∙ quotient_at_root field a r fits few c g g_is divides a
