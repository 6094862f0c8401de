-- The stages of a transform from one of them on, whichever way.
use Rattle.std.proofs.Common.{◌≡◌, ℕ, suc, Bool, true, false, ◌+◌, ◌-◌, ◌/◌, ◌%◌, ◌^◌, ◌<◌, ◌≤◌, List, length, map, take, sym, ◌∙◌, ap, subst, arith, lit<}
use Rattle.std.specs.Prelude.{slice_index, IsTrue}
use Rattle.std.proofs.lemmas.List.{length-map}
use Rattle.field_base.specs.Orders.{AreCantorVectors}
use Rattle.field_base.specs.Ring.{IsRing}
use Rattle.field_base.proofs.WordValues.{values_fit}
use Rattle.field_base.proofs.RemainderRing.{ghash_ring}
use Rattle.ghash_slices.specs.Cantor.{AreCantorTwiddles, subspace_value}
use Rattle.ghash_slices.specs.LowStages.{ghash_cantor_vector, ghash_product, HoldSums}
use Rattle.ghash_slices.specs.Stages.{factor, stages}
use Rattle.ghash_slices.proofs.GhashVectors.{ghash_vectors}
use Rattle.additive_transforms.specs.Elements.{level_shifts, twiddle_basis}
use Rattle.additive_transforms.specs.Stages.{AreLeft, IsStage, TakesStagesFrom}
use Rattle.additive_transforms.specs.Transform.{HoldPolynomialValues, TakesTransform}
use Rattle.additive_transforms.proofs.Counts.{block_count}
use Rattle.additive_transforms.proofs.ElementStages.{basis_length, level_twiddles, shift_at}
use Rattle.additive_transforms.proofs.OneOrigin.{all_leave, values_of}
use Rattle.additive_transforms.proofs.WholeStages.{left_step, low_stages_are}

-- ---- which way

module _ (times : ℕ → ℕ → ℕ) (shifts basis : List ℕ) (m n : ℕ) where
  -- where none is left nothing changes
  pub none_from : (inverse : Bool) (values : List ℕ) → n ≡ m → TakesStagesFrom inverse times shifts basis m n values values
  none_from true values same p inside = ap (λ (k : ℕ). stages times (factor shifts basis) k (slice_index values) p) same
  none_from false values same p inside = ap (λ (k : ℕ). stages times (factor shifts basis) k (slice_index values) p) same

  -- where `inverse` is true the inverse stages take the values
  pub taken_back_from : (inverse : Bool) (old new : List ℕ) → IsTrue inverse → AreLeft times shifts basis m n new old
      → TakesStagesFrom inverse times shifts basis m n old new
  taken_back_from inverse old new chosen left =
      subst (λ (way : Bool). TakesStagesFrom way times shifts basis m n old new) (sym chosen) left

  -- and else the forward ones
  pub taken_on_from : (inverse : Bool) (old new : List ℕ) → inverse ≡ false → AreLeft times shifts basis m n old new
      → TakesStagesFrom inverse times shifts basis m n old new
  taken_on_from inverse old new chosen left =
      subst (λ (way : Bool). TakesStagesFrom way times shifts basis m n old new) (sym chosen) left

-- ---- the twiddles of a field

module _ {width : ℕ} {times : ℕ → ℕ → ℕ} (vector : ℕ → ℕ) (ring : IsRing width 1 times) {A : Type 0} (value : A → ℕ)
    (range : (x : A) → value x < 2 ^ width) (z : ℕ) {m : ℕ} (few : m ≤ width) where
  -- one stage more, below the others
  pub stage_below : (j s count : ℕ) → j < m → count ≡ 2 ^ m → s ≡ subspace_value times j z → (old middle new : List A)
      → AreLeft times (level_shifts width times z) (twiddle_basis width vector) m (j + 1) (map value old) (map value middle)
      → IsStage times s (twiddle_basis width vector) j (count / 2 ^ (j + 1)) (map value middle) (map value new)
      → AreLeft times (level_shifts width times z) (twiddle_basis width vector) m j (map value old) (map value new)
  stage_below j s count below whole is old middle new left taken =
      let next : j + 1 ≡ suc j = omega arith in
      left_step width times ring (level_shifts width times z) (twiddle_basis width vector) m j (count / 2 ^ (j + 1)) (map value old)
      (map value middle) (map value new) below (block_count m j count below whole) (values_fit width value range middle)
      (subst
      (λ (t : ℕ). IsStage times t (twiddle_basis width vector) j (count / 2 ^ (j + 1)) (map value middle) (map value new))
      (is ∙ sym (shift_at width times z j (omega (arith, below, few)))) taken)
      (subst
      (λ (k : ℕ). AreLeft times (level_shifts width times z) (twiddle_basis width vector) m k (map value old) (map value middle)) next left)

  module _ (wide : 0 < width) (vectors : AreCantorVectors width times vector) (old new : List A) (old_is : length old ≡ 2 ^ m)
      (new_is : length new ≡ 2 ^ m) where
    -- all stages are the transform
    pub all_from : (inverse : Bool)
        → TakesStagesFrom inverse times (level_shifts width times z) (twiddle_basis width vector) m 0 (map value old) (map value new)
        → TakesTransform inverse width times vector z (map value old) (map value new)
    all_from false left =
        all_leave width times vector wide ring vectors (level_shifts width times z) (twiddle_basis width vector) z width
        (level_twiddles wide z) (basis_length width vector wide) m few (map value old) (map value new) (length-map old value ∙ old_is)
        (values_fit width value range new) left
    all_from true left =
        all_leave width times vector wide ring vectors (level_shifts width times z) (twiddle_basis width vector) z width
        (level_twiddles wide z) (basis_length width vector wide) m few (map value new) (map value old) (length-map new value ∙ new_is)
        (values_fit width value range old) left

-- ---- in the field of GHASH

module _ (shifts basis : List ℕ) (z : ℕ) (twiddles : AreCantorTwiddles 128 ghash_product ghash_cantor_vector z 4 shifts basis)
    (long : length basis ≡ 39) (m : ℕ) (few : m ≤ 40) where
  -- the forward transform leaves the values where the four lowest stages were done in runs
  pub forward_leaves : (enough : 4 ≤ m) (low_shifts low_basis old now new : List ℕ) → low_shifts ≡ take 4 shifts → low_basis ≡ take (m - 1) basis
      → length old ≡ 2 ^ m → length now ≡ 2 ^ m
      → AreLeft ghash_product (level_shifts 128 ghash_product z) (twiddle_basis 128 ghash_cantor_vector) m 4 old now
      → HoldSums low_shifts low_basis 0 now new → HoldPolynomialValues z old new
  forward_leaves enough low_shifts low_basis old now new are_shifts are_basis whole whole' left sums =
      values_of 128 ghash_product ghash_cantor_vector (lit< tt) ghash_ring ghash_vectors all_shifts all_basis z 128 all all_long m
      (omega (arith, few)) old new whole
      (λ p inside.
      low_stages_are shifts basis z twiddles long m enough few all_shifts all_basis 128 all all_long (omega (arith, few)) now new whole'
      (subst (λ (b : List ℕ). HoldSums (take 4 shifts) b 0 now new) are_basis
      (subst (λ (s : List ℕ). HoldSums s low_basis 0 now new) are_shifts sums))
      p inside
      ∙ ap (λ (v : ℕ). v % 2 ^ 128) (left p inside))
    where
      all_shifts : List ℕ
      all_shifts = level_shifts 128 ghash_product z

      all_basis : List ℕ
      all_basis = twiddle_basis 128 ghash_cantor_vector

      all : AreCantorTwiddles 128 ghash_product ghash_cantor_vector z 128 all_shifts all_basis
      all = level_twiddles (lit< tt) z

      all_long : suc (length all_basis) ≡ 128
      all_long = basis_length 128 ghash_cantor_vector (lit< tt)
