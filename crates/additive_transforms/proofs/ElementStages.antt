-- The twiddles of a field of `width` bits, which reach as many stages as it has bits, and the coefficients that a transform leaves.
use Rattle.std.proofs.Common.{◌≡◌, ℕ, suc, ◌+◌, ◌-◌, ◌/◌, ◌^◌, ◌<◌, ◌≤◌, List, length, map, sym, ◌∙◌, ap, subst, arith, lit<}
use Rattle.std.specs.Prelude.{slice_index}
use Rattle.std.proofs.Math.Nat.{pow-le-pow_right}
use Rattle.std.proofs.lemmas.List.{length-map}
use Rattle.std.proofs.lemmas.List.FromFn.{get_or-map-range_with_len, length-map-range_with_len}
use Rattle.field_base.specs.Orders.{AreCantorVectors}
use Rattle.field_base.specs.Ring.{IsRing}
use Rattle.field_base.proofs.RemainderRing.{ghash_ring}
use Rattle.ghash_slices.specs.Cantor.{AreCantorTwiddles, subspace_value}
use Rattle.ghash_slices.proofs.GhashVectors.{ghash_vectors}
use Rattle.field_base.proofs.WordValues.{values_fit}
use Rattle.additive_transforms.specs.Transform.{AreOnlyCoefficients, AreTheCoefficients, HasStages, HoldPolynomialValues, HoldValuesAtPoints}
use Rattle.additive_transforms.proofs.Counts.{block_count}
use Rattle.additive_transforms.proofs.OneOrigin.{only_these}
use Rattle.additive_transforms.specs.Elements.{FitsField, level_shifts, twiddle_basis}

-- ---- how many

-- the stages of the values are those that the field has room for
pub fits_stages : (width values stages : ℕ) → FitsField width values → ((m : ℕ) → values ≡ 2 ^ m → m ≡ stages) → stages ≤ width
fits_stages width values stages fits only = subst (λ (m : ℕ). m ≤ width) (only fits.0 fits.1.1) fits.2

-- so the blocks of a stage have numbers below half the elements of the field
pub few_blocks : (width m s values : ℕ) → s < m → m ≤ width → values ≡ 2 ^ m → values / 2 ^ (s + 1) ≤ 2 ^ (width - 1)
few_blocks width m s values below few is =
    let blocks = block_count m s values below is in
    let most : 2 ^ (m - suc s) ≤ 2 ^ (width - 1) = pow-le-pow_right (lit< tt) (omega (arith, below, few)) in
    omega (arith, blocks, most)

-- ---- the twiddles

-- the basis of the twiddles is one shorter than the field has bits
pub basis_length : (width : ℕ) (vector : ℕ → ℕ) → 0 < width → suc (length (twiddle_basis width vector)) ≡ width
unfolding twiddle_basis
basis_length width vector wide =
    let next : suc (width - 1) ≡ width = omega (arith, wide) in
    ap suc (length-map-range_with_len (λ t. vector (suc t)) 0 (width - 1)) ∙ next

-- element t of the basis
pub basis_at : (width : ℕ) (vector : ℕ → ℕ) (t : ℕ) → t < width - 1 → slice_index (twiddle_basis width vector) t ≡ vector (suc t)
unfolding twiddle_basis
basis_at width vector t below = get_or-map-range_with_len (λ i. vector (suc i)) 0 (width - 1) t t 0 below (omega arith)

-- shift j
pub shift_at : (width : ℕ) (times : ℕ → ℕ → ℕ) (z j : ℕ) → j < width
    → slice_index (level_shifts width times z) j ≡ subspace_value times j z
unfolding level_shifts
shift_at width times z j below = get_or-map-range_with_len (λ i. subspace_value times i z) 0 width j j 0 below (omega arith)

-- they are the twiddles for the points from z on
pub level_twiddles : {width : ℕ} {times : ℕ → ℕ → ℕ} {vector : ℕ → ℕ} → 0 < width → (z : ℕ)
    → AreCantorTwiddles width times vector z width (level_shifts width times z) (twiddle_basis width vector)
level_twiddles {width} {times} {vector} wide z =
    let long = basis_length width vector wide in
    record {
      stages_fit = omega arith;
      basis_fits = omega (arith, long);
      shifts_are = shift_at width times z;
      basis_is = λ t below. basis_at width vector t (omega (arith, long, below));
    }

-- ---- coefficients

-- the coefficients that have the values are the only ones
pub the_numbers : {width : ℕ} {times : ℕ → ℕ → ℕ} {vector : ℕ → ℕ} → 0 < width → IsRing width 1 times → AreCantorVectors width times vector
    → (z : ℕ) (old new : List ℕ) → FitsField width (length old) → length new ≡ length old → ((p : ℕ) → slice_index new p < 2 ^ width)
    → HoldValuesAtPoints width times vector z new old → AreTheCoefficients width times vector z old new
the_numbers wide ring vectors z old new room same =
    only_these _ _ _ wide ring vectors _ _ z _ (level_twiddles wide z) (basis_length _ _ wide) room.0 room.2 old new room.1.1
    (same ∙ room.1.1)

-- and so are those of elements
pub the_coefficients : {width : ℕ} {times : ℕ → ℕ → ℕ} {vector : ℕ → ℕ} → 0 < width → IsRing width 1 times
    → AreCantorVectors width times vector → {A : Type 0} (value : A → ℕ) → ((x : A) → value x < 2 ^ width) → (z : ℕ) (old new : List A)
    → FitsField width (length old) → length new ≡ length old → HoldValuesAtPoints width times vector z (map value new) (map value old)
    → AreTheCoefficients width times vector z (map value old) (map value new)
the_coefficients wide ring vectors value range z old new room same =
    the_numbers wide ring vectors z (map value old) (map value new) (room.0, (room.1.0, length-map old value ∙ room.1.1), room.2)
    (length-map new value ∙ same ∙ sym (length-map old value)) (values_fit _ value range new)

-- in the field of GHASH
pub ghash_coefficients : {A : Type 0} (value : A → ℕ) → ((x : A) → value x < 2 ^ 128) → (z m : ℕ) (old new : List A)
    → HasStages m (length old) → length new ≡ length old → HoldPolynomialValues z (map value new) (map value old)
    → AreOnlyCoefficients z (map value old) (map value new)
ghash_coefficients value range z m old new has same =
    the_coefficients (lit< tt) ghash_ring ghash_vectors value range z old new (m, has, omega (arith, has.0)) same
