-- s_j at Cantor vectors and at the points that they span, and the factors of the stages.
use Rattle.std.proofs.Common.{◌≡◌, ◌⊎◌, inl, inr, ℕ, zero, suc, ◌+◌, ◌-◌, ◌*◌, ◌/◌, ◌^◌, ◌<◌, ◌≤◌, List, length, refl, sym, ◌∙◌, ap, ap₂, arith}
use Rattle.std.specs.Prelude.{bit_xor, slice_index}
use Rattle.std.specs.Int.{bit_at}
use Rattle.std.proofs.lemmas.Bool.{cases_lt}
use Rattle.std.proofs.lemmas.Nat.{pow_below}
use Rattle.std.proofs.lemmas.Nat.Bits.{bit_at_above, bit_at-lt, same_from_bits_below}
use native.Mathlib.Nat.{mod-eq_of_lt, zero-mul, one-mul, mul-zero, mul-one}
use lib.Bits.{xor_assoc, xor_comm, xor_self, xor_zero_r}
use Rattle.field_base.specs.Basis.{sum_below}
use Rattle.field_base.specs.lemmas.BitRing.{two_cases}
use Rattle.field_base.specs.LinearMaps.{linear_image}
use Rattle.field_base.specs.Orders.{AreCantorVectors}
use Rattle.field_base.specs.Ring.{IsRing}
use Rattle.field_base.proofs.AdditiveMaps.{KeepsSums, keeps_zero}
use Rattle.field_base.proofs.BasisSums.{sum_below-add, sum_below-same, bit_at-add}
use Rattle.field_base.proofs.RingLemmas.{sum_times, xor_cancel, xor_left_comm}
use Rattle.ghash_slices.specs.Cantor.{subspace_value, polynomial_value, point, AreCantorTwiddles, ArePointsDistinct, CantorVectorsStepDown, FactorsAreSubspaceValues, PointsAreDistinct, SumsAreValues}
use Rattle.ghash_slices.specs.Stages.{factor}
use Rattle.ghash_slices.proofs.StageSums.{sum_of_factors-same}

-- ---- sums

-- terms that are 0 count for nothing
pub sum_below-nothing : (f : ℕ → ℕ) (n : ℕ) → ((k : ℕ) → k < n → f k ≡ 0) → sum_below f n ≡ 0
unfolding sum_below
sum_below-nothing f zero none = refl
sum_below-nothing f (suc n) none =
    ap₂ bit_xor (sum_below-nothing f n (λ k below. none k (omega arith))) (none n (omega arith))

-- terms that are 0 from m on can be left out of a sum
pub sum_below-stops : (f : ℕ → ℕ) (m n : ℕ) → m ≤ n → ((k : ℕ) → m ≤ k → f k ≡ 0) → sum_below f n ≡ sum_below f m
sum_below-stops f m n less none =
    let parts : n ≡ m + (n - m) = omega arith in
    ap (sum_below f) parts ∙ sum_below-add f m (n - m)
    ∙ ap (bit_xor (sum_below f m)) (sum_below-nothing (λ k. f (m + k)) (n - m) (λ k below. none (m + k) (omega arith)))
    ∙ xor_zero_r (sum_below f m)

-- a map that keeps sums takes a sum to the sum of the images
pub sum_below-image : (s : ℕ → ℕ) → KeepsSums s → (f : ℕ → ℕ) (n : ℕ) → s (sum_below f n) ≡ sum_below (λ k. s (f k)) n
unfolding sum_below
sum_below-image s keeps f zero = keeps_zero s keeps
sum_below-image s keeps f (suc n) =
    keeps (sum_below f n) (f n) ∙ ap (λ (x : ℕ). bit_xor x (s (f n))) (sum_below-image s keeps f n)

-- a map that keeps sums sends d v to d times the image of v, for a bit d
image_at_bit : (s : ℕ → ℕ) → KeepsSums s → (v d : ℕ) → d < 2 → s (d * v) ≡ d * s v
image_at_bit s keeps v =
    two_cases (λ d. s (d * v) ≡ d * s v)
    (ap s (zero-mul v) ∙ keeps_zero s keeps ∙ sym (zero-mul (s v)))
    (ap s (one-mul v) ∙ sym (one-mul (s v)))

-- ---- s_j

module _ (width : ℕ) (times : ℕ → ℕ → ℕ) (wide : 0 < width) (ring : IsRing width 1 times) where
  -- a square of a sum is the sum of the squares
  square-sum : (x y : ℕ) → times (bit_xor x y) (bit_xor x y) ≡ bit_xor (times x x) (times y y)
  square-sum x y =
      sum_times width 1 times ring x y (bit_xor x y)
      ∙ ap₂ bit_xor (ring.over_sum x x y) (ring.over_sum y x y ∙ ap (λ (m : ℕ). bit_xor m (times y y)) (ring.comm y x))
      ∙ xor_assoc (times x x) (times x y) (bit_xor (times x y) (times y y))
      ∙ ap (bit_xor (times x x)) (sym (xor_assoc (times x y) (times x y) (times y y))
      ∙ ap (λ (m : ℕ). bit_xor m (times y y)) (xor_self (times x y))
      ∙ xor_comm 0 (times y y) ∙ xor_zero_r (times y y))

  -- every s_j keeps sums
  pub subspace_value-sum : (j : ℕ) → KeepsSums (subspace_value times j)
  unfolding subspace_value
  subspace_value-sum zero x y = refl
  subspace_value-sum (suc j) x y =
      ap (λ (s : ℕ). bit_xor (times s s) s) (subspace_value-sum j x y)
      ∙ ap (λ (m : ℕ). bit_xor m (bit_xor (subspace_value times j x) (subspace_value times j y)))
      (square-sum (subspace_value times j x) (subspace_value times j y))
      ∙ order (times (subspace_value times j x) (subspace_value times j x)) (times (subspace_value times j y) (subspace_value times j y))
      (subspace_value times j x) (subspace_value times j y)
    where
      order : (a b c d : ℕ) → bit_xor (bit_xor a b) (bit_xor c d) ≡ bit_xor (bit_xor a c) (bit_xor b d)
      order a b c d =
          xor_assoc a b (bit_xor c d) ∙ ap (bit_xor a) (xor_left_comm b c d) ∙ sym (xor_assoc a c (bit_xor b d))

  module _ (vector : ℕ → ℕ) (vectors : AreCantorVectors width times vector) where
    pub subspace_value-vector : (j b : ℕ) → j ≤ b → b < width → subspace_value times j (vector b) ≡ vector (b - j)
    unfolding subspace_value
    subspace_value-vector zero b within below = let all : b ≡ b - 0 = omega arith in ap vector all
    subspace_value-vector (suc j) b within below =
        let next : b - j - 1 ≡ b - suc j = omega arith in
        ap (λ (s : ℕ). bit_xor (times s s) s) (subspace_value-vector j b (omega arith) below)
        ∙ vectors.rule (b - j) (omega arith) (omega arith) ∙ ap vector next

    one_vanishes : bit_xor (times (vector 0) (vector 0)) (vector 0) ≡ 0
    one_vanishes =
        ap (λ (v : ℕ). bit_xor (times v v) v) vectors.first
        ∙ ap (λ (m : ℕ). bit_xor m 1) (ring.one 1 ∙ mod-eq_of_lt (pow_below 0 width wide))

    pub subspace_value-lower : (j b : ℕ) → b < j → b < width → subspace_value times j (vector b) ≡ 0
    unfolding subspace_value
    subspace_value-lower zero b above below = absurd (omega arith)
    subspace_value-lower (suc j) b above below = pick (cases_lt b j) (λ lower. subspace_value-lower j b lower below)
      where
        pick : (b < j) ⊎ (j ≤ b) → (b < j → subspace_value times j (vector b) ≡ 0)
            → bit_xor (times (subspace_value times j (vector b)) (subspace_value times j (vector b))) (subspace_value times j (vector b)) ≡ 0
        pick (inl lower) before =
            ap (λ (s : ℕ). bit_xor (times s s) s) (before lower) ∙ keeps_zero (subspace_value times 1) (subspace_value-sum 1)
        pick (inr same) before =
            let none : b - j ≡ 0 = omega arith in
            ap (λ (s : ℕ). bit_xor (times s s) s) (subspace_value-vector j b same below ∙ ap vector none) ∙ one_vanishes

    -- ---- points

    -- s_j at vector b, if it is there
    term : ℕ → ℕ → ℕ → ℕ
    term j p b = bit_at p b * subspace_value times j (vector b)

    value_at_point : (j p : ℕ) (z : ℕ) → subspace_value times j (point width vector z p)
        ≡ bit_xor (subspace_value times j z) (sum_below (term j p) width)
    unfolding point term
    value_at_point j p z =
        subspace_value-sum j z (sum_below (λ b. bit_at p b * vector b) width)
        ∙ ap (bit_xor (subspace_value times j z))
        (sum_below-image (subspace_value times j) (subspace_value-sum j) (λ b. bit_at p b * vector b) width
        ∙ sum_below-same (λ b. subspace_value times j (bit_at p b * vector b)) (term j p) width
        (λ b below. image_at_bit (subspace_value times j) (subspace_value-sum j) (vector b) (bit_at p b) (bit_at-lt p b)))

    -- the vectors below j give nothing, vector j gives bit j, and each above it the vector j + 1 before
    split_at : (j p : ℕ) → j < width → sum_below (term j p) width
        ≡ bit_xor (bit_at p j) (sum_below (λ t. bit_at p (suc j + t) * vector (suc t)) (width - suc j))
    unfolding sum_below term
    split_at j p below =
        let parts : width ≡ suc j + (width - suc j) = omega arith in
        ap (sum_below (term j p)) parts ∙ sum_below-add (term j p) (suc j) (width - suc j)
        ∙ ap₂ bit_xor
        (ap₂ bit_xor
        (sum_below-nothing (term j p) j (λ b lower. ap (λ (s : ℕ). bit_at p b * s) (subspace_value-lower j b lower (omega arith))
        ∙ mul-zero (bit_at p b)))
        (ap (λ (s : ℕ). bit_at p j * s) at_j ∙ mul-one (bit_at p j))
        ∙ xor_comm 0 (bit_at p j) ∙ xor_zero_r (bit_at p j))
        (sum_below-same (λ t. term j p (suc j + t)) (λ t. bit_at p (suc j + t) * vector (suc t)) (width - suc j)
        (λ t within. ap (λ (s : ℕ). bit_at p (suc j + t) * s) (above t within)))
      where
        at_j : subspace_value times j (vector j) ≡ 1
        at_j =
            let same : j ≤ j = omega arith in
            let none : j - j ≡ 0 = omega arith in
            subspace_value-vector j j same below ∙ ap vector none ∙ vectors.first

        above : (t : ℕ) → t < width - suc j → subspace_value times j (vector (suc j + t)) ≡ vector (suc t)
        above t within =
            let less : j ≤ suc j + t = omega arith in
            let fits : suc j + t < width = omega arith in
            let left : suc j + t - j ≡ suc t = omega arith in
            subspace_value-vector j (suc j + t) less fits ∙ ap vector left

    -- equal points with the same bits above j have the same bit j, since s_j takes them to the same
    module _ (z p q : ℕ) (same : point width vector z p ≡ point width vector z q) where
      same_bit : (j : ℕ) → j < width → ((i : ℕ) → j < i → i < width → bit_at p i ≡ bit_at q i) → bit_at p j ≡ bit_at q j
      same_bit j below above =
          xor_same (subspace_value times j z) (bit_at p j) (bit_at q j) rest
          (sym at_p ∙ ap (subspace_value times j) same ∙ value_at_point j q z
          ∙ ap (bit_xor (subspace_value times j z)) (split_at j q below ∙ ap (bit_xor (bit_at q j)) (sym rests)))
        where
          rest : ℕ
          rest = sum_below (λ t. bit_at p (suc j + t) * vector (suc t)) (width - suc j)

          rests : rest ≡ sum_below (λ t. bit_at q (suc j + t) * vector (suc t)) (width - suc j)
          rests =
              sum_below-same (λ t. bit_at p (suc j + t) * vector (suc t)) (λ t. bit_at q (suc j + t) * vector (suc t)) (width - suc j)
              (λ t within. ap (λ (d : ℕ). d * vector (suc t)) (above (suc j + t) (omega arith) (omega arith)))

          at_p : subspace_value times j (point width vector z p) ≡ bit_xor (subspace_value times j z) (bit_xor (bit_at p j) rest)
          at_p = value_at_point j p z ∙ ap (bit_xor (subspace_value times j z)) (split_at j p below)

          xor_same : (s b d r : ℕ) → bit_xor s (bit_xor b r) ≡ bit_xor s (bit_xor d r) → b ≡ d
          xor_same s b d r are =
              sym (undone b) ∙ ap (λ (x : ℕ). bit_xor x r) (sym (xor_cancel s (bit_xor b r)) ∙ ap (bit_xor s) are ∙ xor_cancel s (bit_xor d r))
              ∙ undone d
            where
              undone : (x : ℕ) → bit_xor (bit_xor x r) r ≡ x
              undone x = xor_assoc x r r ∙ ap (bit_xor x) (xor_self r) ∙ xor_zero_r x

      -- so they have the same k highest bits
      same_high_bits : (k : ℕ) → k ≤ width → (j : ℕ) → width - k ≤ j → j < width → bit_at p j ≡ bit_at q j
      same_high_bits zero within j past below = absurd (omega arith)
      same_high_bits (suc k) within j past below =
          pick (cases_lt j (width - k)) (λ i later i_below. same_high_bits k (omega arith) i later i_below)
        where
          pick : (j < width - k) ⊎ (width - k ≤ j) → ((i : ℕ) → width - k ≤ i → i < width → bit_at p i ≡ bit_at q i) → bit_at p j ≡ bit_at q j
          pick (inl last) higher = same_bit j below (λ i above i_below. higher i (omega arith) i_below)
          pick (inr before) higher = higher j before below

    pub points-distinct : ArePointsDistinct width vector
    points-distinct z p q p_below q_below same =
        same_from_bits_below width p q p_below q_below
        (λ j below. same_high_bits z p q same width (omega arith) j (omega arith) below)

    module _ (z n : ℕ) (shifts basis : List ℕ) (twiddles : AreCantorTwiddles width times vector z n shifts basis) where
      -- the sum over the basis is that over the vectors above
      basis_sum : (j p : ℕ) → j < width → p < 2 ^ suc (length basis) → linear_image basis (p / 2 ^ suc j)
          ≡ sum_below (λ t. bit_at p (suc j + t) * vector (suc t)) (width - suc j)
      unfolding linear_image
      basis_sum j p below fits =
          sum_below-same (λ t. bit_at (p / 2 ^ suc j) t * slice_index basis t) (λ t. bit_at p (suc j + t) * vector (suc t)) (length basis)
          (λ t within. ap₂ (λ (d v : ℕ). d * v) (sym (bit_at-add p (suc j) t)) (twiddles.basis_is t within))
          ∙ sum_below-stops (λ t. bit_at p (suc j + t) * vector (suc t)) (length basis - j) (length basis) (omega arith) none
          ∙ sym (sum_below-stops (λ t. bit_at p (suc j + t) * vector (suc t)) (length basis - j) (width - suc j) room none)
        where
          room : length basis - j ≤ width - suc j
          room = let enough = twiddles.basis_fits in omega (arith, enough)

          none : (t : ℕ) → length basis - j ≤ t → bit_at p (suc j + t) * vector (suc t) ≡ 0
          none t past =
              let over : suc (length basis) ≤ suc j + t = omega arith in
              ap (λ (d : ℕ). d * vector (suc t)) (bit_at_above p (suc (length basis)) (suc j + t) fits over)
              ∙ zero-mul (vector (suc t))

      pub factor-value : (j p : ℕ) → j < n → p < 2 ^ suc (length basis)
          → factor shifts basis j p ≡ subspace_value times j (point width vector z p)
      unfolding factor
      factor-value j p staged fits =
          let few = twiddles.stages_fit in
          let below : j < width = omega (arith, few) in
          let rest : ℕ = sum_below (λ t. bit_at p (suc j + t) * vector (suc t)) (width - suc j) in
          ap₂ (λ (s b : ℕ). bit_xor (bit_xor s b) (bit_at p j)) (twiddles.shifts_are j staged) (basis_sum j p below fits)
          ∙ xor_assoc (subspace_value times j z) rest (bit_at p j)
          ∙ ap (bit_xor (subspace_value times j z)) (xor_comm rest (bit_at p j))
          ∙ sym (value_at_point j p z ∙ ap (bit_xor (subspace_value times j z)) (split_at j p below))

-- ---- the laws

-- s_j(v_b) = v_(b - j) for b at least j, and 0 below
pub cantor_vectors_step_down : CantorVectorsStepDown
cantor_vectors_step_down width times vector wide ring vectors =
    record {
      of_sum = subspace_value-sum width times wide ring;
      of_vector = subspace_value-vector width times wide ring vector vectors;
      of_lower_vector = subspace_value-lower width times wide ring vector vectors;
    }

-- points are the same only where their numbers are
pub points_are_distinct : PointsAreDistinct
points_are_distinct width times vector wide ring vectors = points-distinct width times wide ring vector vectors

-- with the twiddles for Cantor points the factor of stage j at place p is s_j at point p
pub factors_are_subspace_values : FactorsAreSubspaceValues
factors_are_subspace_values width times vector wide ring vectors z n shifts basis twiddles j p staged fits =
    factor-value width times wide ring vector vectors z n shifts basis twiddles j p staged fits

-- so the sum of coefficients times factors at place p is the value of the polynomial at point p
pub sums_are_values : SumsAreValues
unfolding polynomial_value
sums_are_values width times vector wide ring vectors z n shifts basis twiddles c p fits =
    sum_of_factors-same times (λ j. factor shifts basis j p) (λ j. subspace_value times j (point width vector z p)) n c
    (λ j staged. factor-value width times wide ring vector vectors z n shifts basis twiddles j p staged fits)
