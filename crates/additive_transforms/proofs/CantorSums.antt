-- Values of polynomials in the basis of the products of the s_j, by halves of their coefficients.
use Rattle.std.proofs.Common.{◌≡◌, ◌⊎◌, inl, inr, ℕ, zero, suc, ◌+◌, ◌-◌, ◌^◌, ◌<◌, ◌≤◌, List, [], ◌∷◌, length, map, take, drop, refl, sym, ◌∙◌, ap, ap₂, le_trans, arith, lit<}
use Rattle.std.specs.Prelude.{bit_xor, slice_index}
use Rattle.std.proofs.lemmas.Bool.{cases_lt}
use Rattle.std.proofs.lemmas.Nat.{pow_pos}
use Rattle.std.proofs.Math.Nat.{pow-le-pow_right}
use native.Mathlib.Nat.{mod-eq_of_lt}
use lib.Bits.{xor_comm, xor_zero_r}
use Rattle.field_base.specs.Basis.{sum_below, product_below}
use Rattle.field_base.specs.Ring.{IsRing}
use Rattle.field_base.proofs.BasisSums.{sum_below-same}
use Rattle.field_base.proofs.RingLemmas.{sum_times, zero-times}
use Rattle.ghash_slices.specs.Cantor.{polynomial_value, subspace_value}
use Rattle.ghash_slices.specs.Stages.{factors_at, sum_of_factors}
use Rattle.ghash_slices.proofs.CantorValues.{sum_below-image, sum_below-nothing}
use Rattle.ghash_slices.proofs.StageSums.{sum_below-xor, sum_of_factors-next, sum_of_factors-values}

-- 2 is positive
two_above : 0 < 2
two_above = lit< tt

-- n is at most n + d
more : (n d : ℕ) → n ≤ n + d
more n d = omega arith

-- ---- lists, read at a place

module _ {A : Type 0} (repr : A → ℕ) where
  -- an item below m is read from the first m
  read-front : (m k : ℕ) (cs : List A) → k < m → slice_index (map repr (take m cs)) k ≡ slice_index (map repr cs) k
  read-front zero k cs below = absurd (omega arith)
  read-front (suc m) k [] below = refl
  read-front (suc m) zero (c ∷ cs) below = refl
  read-front (suc m) (suc k) (c ∷ cs) below = read-front m k cs (omega arith)

  -- item k behind the first m is item m + k
  read-back : (m k : ℕ) (cs : List A) → slice_index (map repr (drop m cs)) k ≡ slice_index (map repr cs) (m + k)
  read-back zero k cs = let same : k ≡ 0 + k = omega arith in ap (slice_index (map repr cs)) same
  read-back (suc m) k [] = refl
  read-back (suc m) k (c ∷ cs) =
      let same : suc (m + k) ≡ suc m + k = omega arith in
      read-back m k cs ∙ ap (slice_index (map repr (c ∷ cs))) same

  -- past the end of a list one reads 0
  read-past : (k : ℕ) (cs : List A) → length cs ≤ k → slice_index (map repr cs) k ≡ 0
  read-past k [] past = refl
  read-past zero (c ∷ cs) past = absurd (omega arith)
  read-past (suc k) (c ∷ cs) past = read-past k cs (omega arith)

-- ---- values by halves

module _ (width : ℕ) (times : ℕ → ℕ → ℕ) (wide : 0 < width) (ring : IsRing width 1 times) where
  -- a sum of values times factors over 2 ^ (n + 1) values is that of the lower half, and factor n times that of the upper half
  sum_of_factors-halves : (f : ℕ → ℕ) (n : ℕ) (c : ℕ → ℕ)
      → sum_of_factors times f (suc n) c
      ≡ bit_xor (sum_of_factors times f n c) (times (f n) (sum_of_factors times f n (λ k. c (2 ^ n + k))))
  unfolding sum_of_factors
  sum_of_factors-halves f n c =
      sum_of_factors-next width times wide ring f n c
      ∙ sum_below-same (λ k. times (bit_xor (c k) (times (f n) (c (2 ^ n + k)))) (factors_at times f n k))
      (λ k. bit_xor (times (c k) (factors_at times f n k)) (times (f n) (times (c (2 ^ n + k)) (factors_at times f n k)))) (2 ^ n)
      (λ k below. sum_times width 1 times ring (c k) (times (f n) (c (2 ^ n + k))) (factors_at times f n k)
      ∙ ap (bit_xor (times (c k) (factors_at times f n k))) (ring.assoc (f n) (c (2 ^ n + k)) (factors_at times f n k)))
      ∙ sym (sum_below-xor (λ k. times (c k) (factors_at times f n k)) (λ k. times (f n) (times (c (2 ^ n + k)) (factors_at times f n k))) (2 ^ n))
      ∙ ap (bit_xor (sum_below (λ k. times (c k) (factors_at times f n k)) (2 ^ n)))
      (sym (sum_below-image (times (f n)) (ring.over_sum (f n)) (λ k. times (c (2 ^ n + k)) (factors_at times f n k)) (2 ^ n)))

  -- so is the value of a polynomial
  pub value-halves : (n : ℕ) (c : ℕ → ℕ) (x : ℕ) → polynomial_value times (suc n) c x
      ≡ bit_xor (polynomial_value times n c x) (times (subspace_value times n x) (polynomial_value times n (λ k. c (2 ^ n + k)) x))
  unfolding polynomial_value
  value-halves n c x = sum_of_factors-halves (λ j. subspace_value times j x) n c

  -- one coefficient is its own value
  pub value-one : (c : ℕ → ℕ) (x : ℕ) → c 0 < 2 ^ width → polynomial_value times 0 c x ≡ c 0
  unfolding polynomial_value sum_of_factors factors_at sum_below product_below
  value-one c x fits =
      xor_comm 0 (times (c 0) 1) ∙ xor_zero_r (times (c 0) 1) ∙ ring.comm (c 0) 1 ∙ ring.one (c 0) ∙ mod-eq_of_lt fits

  -- coefficients that are the same
  pub value-same : (n : ℕ) (c d : ℕ → ℕ) (x : ℕ) → ((k : ℕ) → k < 2 ^ n → c k ≡ d k)
      → polynomial_value times n c x ≡ polynomial_value times n d x
  unfolding polynomial_value
  value-same n c d x same = sum_of_factors-values times (λ j. subspace_value times j x) n c d same

  -- coefficients that are 0 give the value 0
  pub value-none : (n : ℕ) (c : ℕ → ℕ) (x : ℕ) → ((k : ℕ) → c k ≡ 0) → polynomial_value times n c x ≡ 0
  unfolding polynomial_value sum_of_factors
  value-none n c x none =
      sum_below-nothing (λ k. times (c k) (factors_at times (λ j. subspace_value times j x) n k)) (2 ^ n)
      (λ k below. ap (λ (v : ℕ). times v (factors_at times (λ j. subspace_value times j x) n k)) (none k)
      ∙ zero-times width 1 times ring (factors_at times (λ j. subspace_value times j x) n k))

  -- where the upper half is 0, the value is that of the lower half
  pub value-lower : (n : ℕ) (c : ℕ → ℕ) (x : ℕ) → ((k : ℕ) → 2 ^ n ≤ k → c k ≡ 0)
      → polynomial_value times (suc n) c x ≡ polynomial_value times n c x
  value-lower n c x none =
      value-halves n c x
      ∙ ap (bit_xor (polynomial_value times n c x))
      (ap (times (subspace_value times n x)) (value-none n (λ k. c (2 ^ n + k)) x (λ k. none (2 ^ n + k) (omega arith)))
      ∙ ring.comm (subspace_value times n x) 0 ∙ zero-times width 1 times ring (subspace_value times n x))
      ∙ xor_zero_r (polynomial_value times n c x)

  -- ---- lists of coefficients

  module _ {A : Type 0} (repr : A → ℕ) (x : ℕ) where
    -- the value by both halves of a list
    pub value-of-halves : (n : ℕ) (cs lower upper : List A) → lower ≡ take (2 ^ n) cs → upper ≡ drop (2 ^ n) cs
        → polynomial_value times (suc n) (slice_index (map repr cs)) x
        ≡ bit_xor (polynomial_value times n (slice_index (map repr lower)) x)
        (times (subspace_value times n x) (polynomial_value times n (slice_index (map repr upper)) x))
    value-of-halves n cs lower upper front back =
        value-halves n (slice_index (map repr cs)) x
        ∙ ap₂ (λ (v w : ℕ). bit_xor v (times (subspace_value times n x) w))
        (value-same n (slice_index (map repr cs)) (slice_index (map repr lower)) x
        (λ k below. sym (ap (λ (ls : List A). slice_index (map repr ls) k) front ∙ read-front repr (2 ^ n) k cs below)))
        (value-same n (λ k. slice_index (map repr cs) (2 ^ n + k)) (slice_index (map repr upper)) x
        (λ k below. sym (ap (λ (ls : List A). slice_index (map repr ls) k) back ∙ read-back repr (2 ^ n) k cs)))

    -- a list that fits into the lower half
    pub value-of-fewer : (n : ℕ) (cs : List A) → length cs ≤ 2 ^ n
        → polynomial_value times (suc n) (slice_index (map repr cs)) x ≡ polynomial_value times n (slice_index (map repr cs)) x
    value-of-fewer n cs few =
        value-lower n (slice_index (map repr cs)) x (λ k past. read-past repr k cs (le_trans few past))

    -- so the number of levels does not matter where the list fits
    pub value-of-more : (n d : ℕ) (cs : List A) → length cs ≤ 2 ^ n
        → polynomial_value times (n + d) (slice_index (map repr cs)) x ≡ polynomial_value times n (slice_index (map repr cs)) x
    value-of-more n zero cs few = let same : n + 0 ≡ n = omega arith in ap (λ (m : ℕ). polynomial_value times m (slice_index (map repr cs)) x) same
    value-of-more n (suc d) cs few =
        let next : n + suc d ≡ suc (n + d) = omega arith in
        ap (λ (m : ℕ). polynomial_value times m (slice_index (map repr cs)) x) next
        ∙ value-of-fewer (n + d) cs (le_trans few (pow-le-pow_right two_above (more n d)))
        ∙ value-of-more n d cs few

    pub value-of-levels : (n m : ℕ) (cs : List A) → length cs ≤ 2 ^ n → length cs ≤ 2 ^ m
        → polynomial_value times n (slice_index (map repr cs)) x ≡ polynomial_value times m (slice_index (map repr cs)) x
    value-of-levels n m cs few few' = pick (cases_lt n m)
      where
        pick : (n < m) ⊎ (m ≤ n)
            → polynomial_value times n (slice_index (map repr cs)) x ≡ polynomial_value times m (slice_index (map repr cs)) x
        pick (inl below) =
            let parts : n + (m - n) ≡ m = omega arith in
            sym (value-of-more n (m - n) cs few) ∙ ap (λ (k : ℕ). polynomial_value times k (slice_index (map repr cs)) x) parts
        pick (inr above) =
            let parts : m + (n - m) ≡ n = omega arith in
            ap (λ (k : ℕ). polynomial_value times k (slice_index (map repr cs)) x) (sym parts) ∙ value-of-more m (n - m) cs few'

    -- no levels
    pub value-of-first : (range : (c : A) → repr c < 2 ^ width) (cs : List A)
        → polynomial_value times 0 (slice_index (map repr cs)) x ≡ slice_index (map repr cs) 0
    value-of-first range cs = value-one (slice_index (map repr cs)) x (fits cs)
      where
        fits : (ds : List A) → slice_index (map repr ds) 0 < 2 ^ width
        fits [] = pow_pos width
        fits (d ∷ ds) = range d
