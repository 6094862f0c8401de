-- The values of a polynomial by those of the two halves that its highest stage leaves.
use Rattle.std.proofs.Common.{◌≡◌, ◌≢◌, ◌⊎◌, inl, inr, ℕ, suc, ◌+◌, ◌-◌, ◌*◌, ◌^◌, ◌<◌, ◌≤◌, Bool, false, List, length, take, drop, sym, ◌∙◌, ap, ap₂, subst, arith}
use Rattle.std.specs.Prelude.{bit_xor, slice_index, IsTrue}
use Rattle.std.specs.Int.{bit_at}
use Rattle.std.proofs.Math.Nat.{two-pow-succ}
use Rattle.std.proofs.lemmas.Bool.{cases_lt}
use Rattle.std.proofs.lemmas.List.{get_or-drop, get_or-take, length-drop, length-take-le}
use Rattle.std.proofs.lemmas.Nat.Bits.{bit_at-lt, bit_at-pow_other, bit_at-pow_same, bit_at_above}
use native.Mathlib.Nat.{one-mul, zero-mul}
use lib.Bits.{xor_comm, xor_zero_r}
use Rattle.field_base.specs.Basis.{sum_below}
use Rattle.field_base.specs.lemmas.BitRing.{two_cases}
use Rattle.field_base.specs.Orders.{AreCantorVectors}
use Rattle.field_base.specs.Ring.{IsRing}
use Rattle.field_base.proofs.AdditiveMaps.{keeps_zero}
use Rattle.ghash_slices.specs.Cantor.{point, polynomial_value, subspace_value, SubspaceValues}
use Rattle.ghash_slices.proofs.CantorValues.{cantor_vectors_step_down, sum_below-image, sum_below-nothing, sum_below-stops}
use Rattle.ghash_slices.proofs.StageSums.{sum_of_factors-next}
use Rattle.additive_transforms.specs.Stages.{IsButterfly}
use Rattle.additive_transforms.specs.Transform.{HoldValuesAtPoints, TakesTransform}
use Rattle.additive_transforms.proofs.BlockPoints.{point-joined}
use Rattle.additive_transforms.proofs.CantorSums.{value-same}
use Rattle.additive_transforms.proofs.Counts.{one_exponent}
use Rattle.additive_transforms.proofs.WholeStages.{upper_result}

-- ---- which way

module _ (width : ℕ) (times : ℕ → ℕ → ℕ) (vector : ℕ → ℕ) (z : ℕ) (old new : List ℕ) (inverse : Bool) where
  -- where `inverse` is true the inverse transform takes the values
  pub held_back : IsTrue inverse → HoldValuesAtPoints width times vector z new old → TakesTransform inverse width times vector z old new
  held_back chosen hold = subst (λ (way : Bool). TakesTransform way width times vector z old new) (sym chosen) hold

  -- and else the forward one
  pub held_on : inverse ≡ false → HoldValuesAtPoints width times vector z old new → TakesTransform inverse width times vector z old new
  held_on chosen hold = subst (λ (way : Bool). TakesTransform way width times vector z old new) (sym chosen) hold

module _ (width : ℕ) (times : ℕ → ℕ → ℕ) (vector : ℕ → ℕ) (wide : 0 < width) (ring : IsRing width 1 times) (vectors : AreCantorVectors width times vector) (n : ℕ) (below : n < width) where
  steps : SubspaceValues width times vector
  steps = cantor_vectors_step_down width times vector wide ring vectors

  -- ---- the points of both halves

  -- s_n is the same at the points of all numbers below 2 ^ n
  subspace-lower : (z p : ℕ) → p < 2 ^ n → subspace_value times n (point width vector z p) ≡ subspace_value times n z
  unfolding point
  subspace-lower z p small =
      steps.of_sum n z (sum_below (λ b. bit_at p b * vector b) width)
      ∙ ap (bit_xor (subspace_value times n z))
      (sum_below-image (subspace_value times n) (steps.of_sum n) (λ b. bit_at p b * vector b) width
      ∙ sum_below-nothing (λ b. subspace_value times n (bit_at p b * vector b)) width (λ b within. none b within (cases_lt b n)))
      ∙ xor_zero_r (subspace_value times n z)
    where
      no_vector : (b : ℕ) → subspace_value times n (0 * vector b) ≡ 0
      no_vector b = ap (subspace_value times n) (zero-mul (vector b)) ∙ keeps_zero (subspace_value times n) (steps.of_sum n)

      none : (b : ℕ) → b < width → (b < n) ⊎ (n ≤ b) → subspace_value times n (bit_at p b * vector b) ≡ 0
      none b within (inl lower) =
          two_cases (λ d. subspace_value times n (d * vector b) ≡ 0) (no_vector b)
          (ap (subspace_value times n) (one-mul (vector b)) ∙ steps.of_lower_vector n b lower within) (bit_at p b) (bit_at-lt p b)
      none b within (inr higher) =
          ap (λ (d : ℕ). subspace_value times n (d * vector b)) (bit_at_above p n b small higher) ∙ no_vector b

  -- one vector on it is 1 more
  subspace-upper : (z : ℕ) → subspace_value times n (bit_xor z (vector n)) ≡ bit_xor (subspace_value times n z) 1
  subspace-upper z =
      let same : n ≤ n = omega arith in
      let none : n - n ≡ 0 = omega arith in
      steps.of_sum n z (vector n)
      ∙ ap (bit_xor (subspace_value times n z)) (steps.of_vector n n same below ∙ ap vector none ∙ vectors.first)

  -- which is where point 2 ^ n is
  point-half : (z : ℕ) → point width vector z (2 ^ n) ≡ bit_xor z (vector n)
  unfolding point sum_below
  point-half z =
      ap (bit_xor z)
      (sum_below-stops (λ b. bit_at (2 ^ n) b * vector b) (suc n) width below (λ k past. other k (omega arith))
      ∙ ap₂ bit_xor (sum_below-nothing (λ b. bit_at (2 ^ n) b * vector b) n (λ k less. other k (omega arith)))
      (ap (λ (d : ℕ). d * vector n) (bit_at-pow_same n) ∙ one-mul (vector n))
      ∙ xor_comm 0 (vector n) ∙ xor_zero_r (vector n))
    where
      other : (k : ℕ) → k ≢ n → bit_at (2 ^ n) k * vector k ≡ 0
      other k is_other = ap (λ (d : ℕ). d * vector k) (bit_at-pow_other n k is_other) ∙ zero-mul (vector k)

  -- so the points of the upper half are those of a transform from there on
  point-upper : (z p : ℕ) → p < 2 ^ n → point width vector (bit_xor z (vector n)) p ≡ point width vector z (2 ^ n + p)
  point-upper z p small =
      let one : 2 ^ n ≡ 1 * 2 ^ n = omega arith in
      ap (λ (s : ℕ). point width vector s p) (sym (point-half z) ∙ ap (point width vector z) one)
      ∙ point-joined vector n 1 p small width z ∙ ap (λ (s : ℕ). point width vector z (s + p)) (sym one)

  -- ---- values of polynomials

  -- half as many coefficients have the same value at x, with s_n(x) times the upper ones added to the lower ones
  value-folded : (c : ℕ → ℕ) (x : ℕ) → polynomial_value times (suc n) c x
      ≡ polynomial_value times n (λ k. bit_xor (c k) (times (subspace_value times n x) (c (2 ^ n + k)))) x
  unfolding polynomial_value
  value-folded c x = sum_of_factors-next width times wide ring (λ j. subspace_value times j x) n c

  module _ (z t : ℕ) (twiddle : t ≡ subspace_value times n z) (c b : ℕ → ℕ) (fits : (k : ℕ) → c k < 2 ^ width) (is : IsButterfly times t (2 ^ n) c b) where
    -- the butterfly leaves the coefficients of the values at the lower points
    value-lower_half : (p : ℕ) → p < 2 ^ n
        → polynomial_value times n b (point width vector z p) ≡ polynomial_value times (suc n) c (point width vector z p)
    value-lower_half p small =
        let x : ℕ = point width vector z p in
        value-same width times wide ring n b (λ k. bit_xor (c k) (times (subspace_value times n x) (c (2 ^ n + k)))) x
        (λ k inside.
        is.lower k inside ∙ ap (λ (s : ℕ). bit_xor (c k) (times s (c (2 ^ n + k)))) (twiddle ∙ sym (subspace-lower z p small)))
        ∙ sym (value-folded c x)

    -- and those of the values at the upper points
    value-upper_half : (p : ℕ) → p < 2 ^ n
        → polynomial_value times n (λ k. b (2 ^ n + k)) (point width vector (bit_xor z (vector n)) p)
        ≡ polynomial_value times (suc n) c (point width vector z (2 ^ n + p))
    value-upper_half p small =
        let x : ℕ = point width vector (bit_xor z (vector n)) p in
        value-same width times wide ring n (λ k. b (2 ^ n + k)) (λ k. bit_xor (c k) (times (subspace_value times n x) (c (2 ^ n + k)))) x
        (λ k inside.
        is.upper k inside ∙ ap (bit_xor (c (2 ^ n + k))) (is.lower k inside)
        ∙ upper_result width times ring t (c k) (c (2 ^ n + k)) (fits (2 ^ n + k))
        ∙ ap (λ (s : ℕ). bit_xor (c k) (times s (c (2 ^ n + k))))
        (ap (λ (s : ℕ). bit_xor s 1) twiddle ∙ sym (subspace-lower (bit_xor z (vector n)) p small ∙ subspace-upper z)))
        ∙ sym (value-folded c x) ∙ ap (polynomial_value times (suc n) c) (point-upper z p small)

  -- ---- lists

  -- the values of both halves of what the butterfly leaves are those of the whole
  pub halves_hold : (z t : ℕ) → t ≡ subspace_value times n z → (old mid new : List ℕ) → length old ≡ 2 ^ suc n → length mid ≡ 2 ^ suc n
      → ((k : ℕ) → slice_index old k < 2 ^ width) → IsButterfly times t (2 ^ n) (slice_index old) (slice_index mid)
      → HoldValuesAtPoints width times vector z (take (2 ^ n) mid) (take (2 ^ n) new)
      → HoldValuesAtPoints width times vector (bit_xor z (vector n)) (drop (2 ^ n) mid) (drop (2 ^ n) new)
      → HoldValuesAtPoints width times vector z old new
  halves_hold z t twiddle old mid new whole whole' fits is lower upper m count p inside = pick (cases_lt p (2 ^ n))
    where
      same : suc n ≡ m
      same = one_exponent (suc n) m (sym whole ∙ count)

      stages_are : polynomial_value times (suc n) (slice_index old) (point width vector z p)
          ≡ polynomial_value times m (slice_index old) (point width vector z p)
      stages_are = ap (λ (e : ℕ). polynomial_value times e (slice_index old) (point width vector z p)) same

      low : length (take (2 ^ n) mid) ≡ 2 ^ n
      low = let halves = two-pow-succ n in length-take-le (2 ^ n) mid (omega (arith, whole', halves))

      high : length (drop (2 ^ n) mid) ≡ 2 ^ n
      high = let halves = two-pow-succ n in length-drop (2 ^ n) mid ∙ omega (arith, whole', halves)

      pick : (p < 2 ^ n) ⊎ (2 ^ n ≤ p) → slice_index new p ≡ polynomial_value times m (slice_index old) (point width vector z p)
      pick (inl small) =
          sym (get_or-take (2 ^ n) new p 0 small) ∙ lower n low p small
          ∙ value-same width times wide ring n (slice_index (take (2 ^ n) mid)) (slice_index mid) (point width vector z p)
          (λ k within. get_or-take (2 ^ n) mid k 0 within)
          ∙ value-lower_half z t twiddle (slice_index old) (slice_index mid) fits is p small ∙ stages_are
      pick (inr large) =
          let r : ℕ = p - 2 ^ n in
          let at : 2 ^ n + r ≡ p = omega (arith, large) in
          let halves = two-pow-succ n in
          let small : r < 2 ^ n = omega (arith, at, halves, inside, ap (λ (e : ℕ). 2 ^ e) same) in
          ap (slice_index new) (sym at) ∙ sym (get_or-drop (2 ^ n) new r 0) ∙ upper n high r small
          ∙ value-same width times wide ring n (slice_index (drop (2 ^ n) mid)) (λ k. slice_index mid (2 ^ n + k))
          (point width vector (bit_xor z (vector n)) r) (λ k within. get_or-drop (2 ^ n) mid k 0)
          ∙ value-upper_half z t twiddle (slice_index old) (slice_index mid) fits is r small
          ∙ ap (λ (q : ℕ). polynomial_value times (suc n) (slice_index old) (point width vector z q)) at ∙ stages_are
