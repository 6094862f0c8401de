-- Stages in the lanes of two rows: what is left to do after each of them.
use Rattle.std.proofs.Common.{◌≡◌, ◌⊎◌, inl, inr, ℕ, zero, suc, Bool, true, false, ◌+◌, ◌-◌, ◌*◌, ◌/◌, ◌%◌, ◌^◌, ◌<◌, ◌≤◌, List, length, refl, sym, ◌∙◌, ap, ap₂, subst, arith, lit<, lit≤}
use Rattle.std.specs.Prelude.{bit_xor, slice_index}
use Rattle.std.specs.Int.{bit_at}
use Rattle.std.proofs.Math.Nat.{div-eq_of_lt, div-lt_iff_lt-mul, mul-le-mul_right, pow-le-pow_right, two-pow-succ}
use Rattle.std.proofs.lemmas.Bool.{cases_lt}
use Rattle.std.proofs.lemmas.Nat.{pow-add, pow_pos}
use Rattle.std.proofs.lemmas.Nat.Bits.{bit_at-lt, bit_at_above}
use native.Mathlib.Nat.{zero-mul}
use lib.Bits.{xor_zero_r}
use Rattle.field_base.specs.lemmas.BitRing.{two_cases}
use Rattle.field_base.specs.LinearMaps.{linear_image}
use Rattle.field_base.specs.Orders.{AreCantorVectors}
use Rattle.field_base.specs.Ring.{IsRing}
use Rattle.field_base.proofs.BasisSums.{sum_below-same}
use Rattle.ghash_slices.specs.Cantor.{point, polynomial_value, subspace_value}
use Rattle.ghash_slices.specs.Stages.{factor}
use Rattle.ghash_slices.proofs.CantorValues.{factors_are_subspace_values, sum_below-stops}
use Rattle.ghash_slices.proofs.Places.{next_quotient}
use Rattle.ghash_slices.proofs.StageSums.{sum_of_factors-next}
use Rattle.word_tables.specs.Cantor.{cantor_vector}
use Rattle.additive_transforms.specs.Elements.{level_shifts, twiddle_basis}
use Rattle.additive_transforms.specs.Lanes.{AreLaneShifts, HoldInRows, IsLaneStage, TakesRows, lane_twiddle}
use Rattle.additive_transforms.specs.Rows.{level_of}
use Rattle.additive_transforms.specs.Units.{joint}
use Rattle.additive_transforms.proofs.BlockPoints.{low_bit}
use Rattle.additive_transforms.proofs.CantorSums.{value-one, value-same}
use Rattle.additive_transforms.proofs.ElementStages.{basis_at, basis_length, level_twiddles, shift_at}
use Rattle.additive_transforms.proofs.UnitFacts.{evens_of, joint-first, joint-second, odds_of}
use Rattle.additive_transforms.proofs.WholeStages.{upper_result}

-- the block of a place of 2 ^ (k + n + 1), and the lane of a place of its lower half
column_below : (n k p : ℕ) → p < 2 ^ (k + suc n) → p / 2 ^ suc n < 2 ^ k
column_below n k p inside = let size = pow-add 2 k (suc n) in (div-lt_iff_lt-mul (pow_pos (suc n))).1 (omega (arith, size, inside))

lane_below : (n k i p : ℕ) → i < 2 ^ n → p < 2 ^ (k + suc n) → i * 2 ^ k + p / 2 ^ suc n < 2 ^ (k + n)
lane_below n k i p column inside =
    let size = pow-add 2 k n in
    let few = column_below n k p inside in
    let room : suc i * 2 ^ k ≤ 2 ^ n * 2 ^ k = mul-le-mul_right (2 ^ k) column in
    omega (arith, size, few, room)

-- the lane's vectors are those of the block, whose number is that of its column
vectors_of_lane : (width k i q : ℕ) → 0 < width → q < 2 ^ k → k < width
    → linear_image (twiddle_basis width cantor_vector) q ≡ lane_twiddle k (i * 2 ^ k + q)
unfolding linear_image lane_twiddle
vectors_of_lane width k i q wide below few =
    let long = basis_length width cantor_vector wide in
    sum_below-stops (λ t. bit_at q t * slice_index (twiddle_basis width cantor_vector) t) k (length (twiddle_basis width cantor_vector))
    (omega (arith, long, few))
    (λ t past. ap (λ (d : ℕ). d * slice_index (twiddle_basis width cantor_vector) t) (bit_at_above q k t below past)
    ∙ zero-mul (slice_index (twiddle_basis width cantor_vector) t))
    ∙ sum_below-same (λ t. bit_at q t * slice_index (twiddle_basis width cantor_vector) t)
    (λ b. bit_at (i * 2 ^ k + q) b * cantor_vector (suc b)) k
    (λ t within. ap₂ (λ (d v : ℕ). d * v) (sym (low_bit k i q t below within))
    (basis_at width cantor_vector t (omega (arith, within, few))))

-- half as many coefficients, with s_n(x) times the upper ones added to the lower ones, have the same value
folded : {width : ℕ} (times : ℕ → ℕ → ℕ) → 0 < width → IsRing width 1 times → (n : ℕ) (c : ℕ → ℕ) (x : ℕ)
    → polynomial_value times (suc n) c x
    ≡ polynomial_value times n (λ k. bit_xor (c k) (times (subspace_value times n x) (c (2 ^ n + k)))) x
unfolding polynomial_value
folded {width} times wide ring n c x = sum_of_factors-next width times wide ring (λ j. subspace_value times j x) n c

-- elements of bytes and more have six bits
pub six_bits : (d : ℕ) → 6 ≤ 2 ^ level_of d
six_bits zero = lit≤ tt
six_bits (suc d) = let before = six_bits d in let twice = two-pow-succ (level_of d) in omega (arith, before, twice)

-- what both rows hold fits
pub joint-lt : (n : ℕ) (x y : ℕ → ℕ) (most : ℕ) → ((l : ℕ) → x l < most) → ((l : ℕ) → y l < most) → (p : ℕ) → joint n x y p < most
joint-lt n x y most x_fits y_fits p = pick (cases_lt p n)
  where
    pick : (p < n) ⊎ (n ≤ p) → joint n x y p < most
    pick (inl below) = subst (λ (v : ℕ). v < most) (sym (joint-first n x y p below)) (x_fits p)
    pick (inr past) = subst (λ (v : ℕ). v < most) (sym (joint-second n x y p past)) (y_fits (p - n))

-- which way
pub rows_on : (width : ℕ) (times : ℕ → ℕ → ℕ) (z : ℕ) (old new : ℕ → ℕ) (inverse : Bool) → inverse ≡ false
    → HoldInRows width times z old new → TakesRows inverse width times z old new
rows_on width times z old new inverse chosen hold = subst (λ (way : Bool). TakesRows way width times z old new) (sym chosen) hold

pub rows_back : (width : ℕ) (times : ℕ → ℕ → ℕ) (z : ℕ) (old new : ℕ → ℕ) (inverse : Bool) → inverse ≡ true
    → HoldInRows width times z new old → TakesRows inverse width times z old new
rows_back width times z old new inverse chosen hold = subst (λ (way : Bool). TakesRows way width times z old new) (sym chosen) hold

module _ {width : ℕ} {times : ℕ → ℕ → ℕ} (wide : 0 < width) (ring : IsRing width 1 times)
    (vectors : AreCantorVectors width times cantor_vector) (z : ℕ) where
  -- n stages are left where the elements of each of 2 ^ k blocks stand 2 ^ k places apart
  abbrev pub LeftInLanes : ℕ → ℕ → (ℕ → ℕ) → (ℕ → ℕ) → Type 0
  LeftInLanes n k values target =
      (p : ℕ) → p < 2 ^ (k + n)
      → target p ≡ polynomial_value times n (λ i. values (i * 2 ^ k + p / 2 ^ n)) (point width cantor_vector z p)

  -- s_n at a point, by the twiddle of the lane
  value_in_lane : (n k i p s : ℕ) → k + suc n ≤ width → s ≡ subspace_value times n z → p < 2 ^ (k + suc n)
      → bit_xor (bit_xor s (lane_twiddle k (i * 2 ^ k + p / 2 ^ suc n))) (bit_at p n)
      ≡ subspace_value times n (point width cantor_vector z p)
  unfolding factor
  value_in_lane n k i p s few is inside =
      let below : n < width = omega (arith, few) in
      let few_columns : k < width = omega (arith, few) in
      ap₂ (λ (a b : ℕ). bit_xor (bit_xor a b) (bit_at p n)) (is ∙ sym (shift_at width times z n below))
      (sym (vectors_of_lane width k i (p / 2 ^ suc n) wide (column_below n k p inside) few_columns))
      ∙ factors_are_subspace_values width times cantor_vector wide ring vectors z width (level_shifts width times z)
      (twiddle_basis width cantor_vector) (level_twiddles wide z) n p below reach
    where
      reach : p < 2 ^ suc (length (twiddle_basis width cantor_vector))
      reach =
          let long = basis_length width cantor_vector wide in
          let most : 2 ^ (k + suc n) ≤ 2 ^ suc (length (twiddle_basis width cantor_vector)) =
          pow-le-pow_right (lit< tt) (omega (arith, long, few)) in
          omega (arith, most, inside)

  module _ (n k s : ℕ) (few : k + suc n ≤ width) (is : s ≡ subspace_value times n z) (low high first second : ℕ → ℕ)
      (fits : (l : ℕ) → high l < 2 ^ width) (whole : 2 ^ (k + n) % 16 ≡ 0)
      (stage : IsLaneStage times s k (2 ^ (k + n)) low high first second) where
    -- what stands at both places of a pair
    pair_place : (l d : ℕ) → d < 2 → l < 2 ^ (k + n)
        → joint (2 ^ (k + n)) first second (2 * l + d)
        ≡ bit_xor (low l) (times (bit_xor (bit_xor s (lane_twiddle k l)) d) (high l))
    pair_place l d bit below =
        two_cases
        (λ e. joint (2 ^ (k + n)) first second (2 * l + e) ≡ bit_xor (low l) (times (bit_xor (bit_xor s (lane_twiddle k l)) e) (high l)))
        (ap (joint (2 ^ (k + n)) first second) lower
        ∙ sym (evens_of (2 ^ (k + n)) first second _ _ whole stage l below)
        ∙ ap (λ (t : ℕ). bit_xor (low l) (times t (high l))) (sym (xor_zero_r (bit_xor s (lane_twiddle k l)))))
        (sym (odds_of (2 ^ (k + n)) first second _ _ whole stage l below)
        ∙ upper_result width times ring (bit_xor s (lane_twiddle k l)) (low l) (high l) (fits l))
        d bit
      where
        lower : 2 * l + 0 ≡ 2 * l
        lower = omega arith

    -- so the value at a point is as before
    value_kept : (p : ℕ) → p < 2 ^ (k + suc n)
        → polynomial_value times (suc n) (λ i. joint (2 ^ (k + n)) low high (i * 2 ^ k + p / 2 ^ suc n)) (point width cantor_vector z p)
        ≡ polynomial_value times n (λ i. joint (2 ^ (k + n)) first second (i * 2 ^ suc k + p / 2 ^ n)) (point width cantor_vector z p)
    value_kept p inside =
        folded times wide ring n (λ i. joint (2 ^ (k + n)) low high (i * 2 ^ k + p / 2 ^ suc n)) x
        ∙ sym (value-same width times wide ring n (λ i. joint (2 ^ (k + n)) first second (i * 2 ^ suc k + p / 2 ^ n))
        (λ i. bit_xor (joint (2 ^ (k + n)) low high (i * 2 ^ k + p / 2 ^ suc n))
        (times (subspace_value times n x) (joint (2 ^ (k + n)) low high ((2 ^ n + i) * 2 ^ k + p / 2 ^ suc n))))
        x each)
      where
        x : ℕ
        x = point width cantor_vector z p

        each : (i : ℕ) → i < 2 ^ n
            → joint (2 ^ (k + n)) first second (i * 2 ^ suc k + p / 2 ^ n)
            ≡ bit_xor (joint (2 ^ (k + n)) low high (i * 2 ^ k + p / 2 ^ suc n))
            (times (subspace_value times n x) (joint (2 ^ (k + n)) low high ((2 ^ n + i) * 2 ^ k + p / 2 ^ suc n)))
        each i column =
            let l : ℕ = i * 2 ^ k + p / 2 ^ suc n in
            let lane = lane_below n k i p column inside in
            let size = pow-add 2 k n in
            let twice = two-pow-succ k in
            let doubled = ap (λ (w : ℕ). i * w) twice in
            let quotient = next_quotient p n in
            let place : i * 2 ^ suc k + p / 2 ^ n ≡ 2 * (i * 2 ^ k + p / 2 ^ suc n) + bit_at p n = omega (arith, doubled, quotient) in
            let far : (2 ^ n + i) * 2 ^ k + p / 2 ^ suc n ≡ 2 ^ (k + n) + (i * 2 ^ k + p / 2 ^ suc n) = omega (arith, size) in
            let past : 2 ^ (k + n) ≤ (2 ^ n + i) * 2 ^ k + p / 2 ^ suc n = omega (arith, far) in
            let back : (2 ^ n + i) * 2 ^ k + p / 2 ^ suc n - 2 ^ (k + n) ≡ i * 2 ^ k + p / 2 ^ suc n = omega (arith, far) in
            ap (joint (2 ^ (k + n)) first second) place ∙ pair_place l (bit_at p n) (bit_at-lt p n) lane
            ∙ ap₂ (λ (a b : ℕ). bit_xor a (times (bit_xor (bit_xor s (lane_twiddle k l)) (bit_at p n)) b))
            (sym (joint-first (2 ^ (k + n)) low high l lane))
            (sym (joint-second (2 ^ (k + n)) low high ((2 ^ n + i) * 2 ^ k + p / 2 ^ suc n) past ∙ ap high back))
            ∙ ap (λ (t : ℕ).
            bit_xor (joint (2 ^ (k + n)) low high l) (times t (joint (2 ^ (k + n)) low high ((2 ^ n + i) * 2 ^ k + p / 2 ^ suc n))))
            (value_in_lane n k i p s few is inside)

    -- one stage fewer is left
    pub one_fewer : (target : ℕ → ℕ) → LeftInLanes (suc n) k (joint (2 ^ (k + n)) low high) target
        → LeftInLanes n (suc k) (joint (2 ^ (k + n)) first second) target
    one_fewer target left p inside =
        let same : suc k + n ≡ k + suc n = omega arith in
        let within : p < 2 ^ (k + suc n) = subst (λ (e : ℕ). p < 2 ^ e) same inside in
        left p within ∙ value_kept p within

  -- before the first stage the value is that of all places
  whole_value : (m : ℕ) (values : ℕ → ℕ) (p : ℕ) → p < 2 ^ m
      → polynomial_value times m (λ i. values (i * 2 ^ 0 + p / 2 ^ m)) (point width cantor_vector z p)
      ≡ polynomial_value times m values (point width cantor_vector z p)
  whole_value m values p inside =
      value-same width times wide ring m (λ i. values (i * 2 ^ 0 + p / 2 ^ m)) values (point width cantor_vector z p)
      (λ i below. ap values (ap (λ (q : ℕ). i * 2 ^ 0 + q) (div-eq_of_lt inside) ∙ (let same : i * 1 + 0 ≡ i = omega arith in same)))

  -- and after the last one that of one place
  one_value : (m : ℕ) (values : ℕ → ℕ) (p : ℕ) → values p < 2 ^ width
      → polynomial_value times 0 (λ i. values (i * 2 ^ m + p / 2 ^ 0)) (point width cantor_vector z p) ≡ values p
  one_value m values p fits =
      value-one width times wide ring (λ i. values (i * 2 ^ m + p / 2 ^ 0)) (point width cantor_vector z p)
      (subst (λ (q : ℕ). values q < 2 ^ width) (sym here) fits)
      ∙ ap values here
    where
      here : 0 * 2 ^ m + p / 1 ≡ p
      here = omega arith

  -- six stages of 64 places
  module _ (few : 6 ≤ width) (n : ℕ) (lanes : n ≡ 32) (shifts : List ℕ) (are : AreLaneShifts times z shifts) where
    -- one of them
    next_stage : (j k : ℕ) → j + k ≡ 5 → (a b a' b' : ℕ → ℕ) (target : ℕ → ℕ) → ((l : ℕ) → b l < 2 ^ width)
        → IsLaneStage times (slice_index shifts j) k n a b a' b' → LeftInLanes (suc j) k (joint 32 a b) target
        → LeftInLanes j (suc k) (joint 32 a' b') target
    next_stage j k six a b a' b' target fits stage left =
        subst (λ (m : ℕ). LeftInLanes j (suc k) (joint m a' b') target) size
        (one_fewer j k (slice_index shifts j) (omega (arith, six, few)) (are j (omega (arith, six))) a b a' b' fits
        (ap (λ (m : ℕ). m % 16) size)
        (subst (λ (m : ℕ). IsLaneStage times (slice_index shifts j) k m a b a' b') (lanes ∙ sym size) stage) target
        (subst (λ (m : ℕ). LeftInLanes (suc j) k (joint m a b) target) (sym size) left))
      where
        size : 2 ^ (k + j) ≡ 32
        size = let five : k + j ≡ 5 = omega (arith, six) in ap (λ (e : ℕ). 2 ^ e) five

    -- all of them
    pub six_stages : (a b c d e f g a' b' c' d' e' f' g' : ℕ → ℕ)
        → ((l : ℕ) → a' l < 2 ^ width) → ((l : ℕ) → b' l < 2 ^ width) → ((l : ℕ) → c' l < 2 ^ width) → ((l : ℕ) → d' l < 2 ^ width)
        → ((l : ℕ) → e' l < 2 ^ width) → ((l : ℕ) → f' l < 2 ^ width) → ((p : ℕ) → joint 32 g g' p < 2 ^ width)
        → IsLaneStage times (slice_index shifts 5) 0 n a a' b b' → IsLaneStage times (slice_index shifts 4) 1 n b b' c c'
        → IsLaneStage times (slice_index shifts 3) 2 n c c' d d' → IsLaneStage times (slice_index shifts 2) 3 n d d' e e'
        → IsLaneStage times (slice_index shifts 1) 4 n e e' f f' → IsLaneStage times (slice_index shifts 0) 5 n f f' g g'
        → HoldInRows width times z (joint 32 a a') (joint 32 g g')
    six_stages a b c d e f g a' b' c' d' e' f' g' a_fits b_fits c_fits d_fits e_fits f_fits g_fits
        first second third fourth fifth sixth p inside =
        sym (left p inside ∙ one_value 6 (joint 32 g g') p (g_fits p))
      where
        target : ℕ → ℕ
        target q = polynomial_value times 6 (joint 32 a a') (point width cantor_vector z q)

        left : LeftInLanes 0 6 (joint 32 g g') target
        left =
            next_stage 0 5 refl f f' g g' target f_fits sixth
            (next_stage 1 4 refl e e' f f' target e_fits fifth
            (next_stage 2 3 refl d d' e e' target d_fits fourth
            (next_stage 3 2 refl c c' d d' target c_fits third
            (next_stage 4 1 refl b b' c c' target b_fits second
            (next_stage 5 0 refl a a' b b' target a_fits first
            (λ q within. sym (whole_value 6 (joint 32 a a') q within)))))))
