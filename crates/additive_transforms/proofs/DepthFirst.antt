-- Transforms depth first: of a slice its highest stage, and both of its halves.
use Rattle.std.proofs.Common.{◌≡◌, ℕ, suc, ◌+◌, ◌-◌, ◌*◌, ◌/◌, ◌^◌, ◌<◌, ◌≤◌, List, length, map, take, drop, refl, sym, ◌∙◌, ap, subst, arith}
use Rattle.std.specs.Prelude.{bit_xor, slice_index}
use Rattle.std.proofs.lemmas.List.{length-map}
use Rattle.std.proofs.lemmas.Nat.{pow_pos}
use Rattle.field_base.specs.LinearMaps.{linear_image}
use Rattle.field_base.specs.Orders.{AreCantorVectors}
use Rattle.field_base.specs.Ring.{IsRing}
use Rattle.field_base.proofs.WordValues.{values_fit}
use Rattle.additive_transforms.specs.Elements.{level_shifts, twiddle_basis}
use Rattle.additive_transforms.specs.Stages.{IsButterfly, IsStage}
use Rattle.additive_transforms.specs.Transform.{HoldValuesAtPoints}
use Rattle.additive_transforms.proofs.BlockStages.{butterfly-at, butterfly-same}
use Rattle.additive_transforms.proofs.Carries.{no_image}
use Rattle.additive_transforms.proofs.Counts.{block_count}
use Rattle.additive_transforms.proofs.ElementStages.{shift_at}
use Rattle.additive_transforms.proofs.HalfValues.{halves_hold}
use Rattle.additive_transforms.proofs.Written.{map-drop, map-take}

-- the first block of a stage begins at place 0, and its scalar is the shift
first_block : (times : ℕ → ℕ → ℕ) (shift : ℕ) (basis : List ℕ) (j blocks : ℕ) (a b : List ℕ) → 0 < blocks
    → IsStage times shift basis j blocks a b → IsButterfly times shift (2 ^ j) (slice_index a) (slice_index b)
first_block times shift basis j blocks a b some is =
    butterfly-at times (bit_xor shift (linear_image basis 0)) shift (2 ^ j) (2 ^ j) (slice_index a) (slice_index b)
    (sym (no_image basis 0 shift refl)) refl
    (butterfly-same times (bit_xor shift (linear_image basis 0)) (2 ^ j) _ _ (slice_index a) (slice_index b)
    (λ r below. ap (slice_index a) (start r)) (λ r below. ap (slice_index b) (start r)) (is 0 some))
  where
    start : (r : ℕ) → r ≡ 0 * 2 ^ suc j + r
    start r = omega arith

module _ {width : ℕ} {times : ℕ → ℕ → ℕ} {vector : ℕ → ℕ} (wide : 0 < width) (ring : IsRing width 1 times)
    (vectors : AreCantorVectors width times vector) {A : Type 0} (value : A → ℕ) (range : (x : A) → value x < 2 ^ width) (z : ℕ) {m : ℕ}
    (few : m ≤ width) where
  -- where the highest stage takes the values `old` to `middle`, in which the count is that of either, and the transforms of both halves
  -- take `middle` to `new`, the transform of the whole takes `old` to `new`
  pub halves_joined : (count : ℕ) → 0 < m → (old middle new : List A) → length old ≡ 2 ^ m → length middle ≡ 2 ^ m → count ≡ 2 ^ m
      → IsStage times (slice_index (level_shifts width times z) (m - 1)) (twiddle_basis width vector) (m - 1) (count / 2 ^ (m - 1 + 1))
      (map value old) (map value middle)
      → HoldValuesAtPoints width times vector z (map value (take (2 ^ (m - 1)) middle)) (map value (take (2 ^ (m - 1)) new))
      → HoldValuesAtPoints width times vector (bit_xor z (vector (m - 1))) (map value (drop (2 ^ (m - 1)) middle))
      (map value (drop (2 ^ (m - 1)) new))
      → HoldValuesAtPoints width times vector z (map value old) (map value new)
  halves_joined count above old middle new long long' whole stage lower upper =
      halves_hold width times vector wide ring vectors (m - 1) below z _ (shift_at width times z (m - 1) below) (map value old)
      (map value middle) (map value new) (length-map old value ∙ long ∙ size) (length-map middle value ∙ long' ∙ size)
      (values_fit width value range old) (first_block times _ _ (m - 1) _ _ _ some stage)
      (moved z _ _ _ _ (map-take value (2 ^ (m - 1)) middle) (map-take value (2 ^ (m - 1)) new) lower)
      (moved (bit_xor z (vector (m - 1))) _ _ _ _ (map-drop value (2 ^ (m - 1)) middle) (map-drop value (2 ^ (m - 1)) new) upper)
    where
      below : m - 1 < width
      below = omega arith

      size : 2 ^ m ≡ 2 ^ suc (m - 1)
      size = let next : m ≡ suc (m - 1) = omega arith in ap (λ (e : ℕ). 2 ^ e) next

      some : 0 < count / 2 ^ (m - 1 + 1)
      some =
          let highest : m - 1 < m = omega arith in
          let blocks = block_count m (m - 1) count highest whole in
          let one = pow_pos (m - suc (m - 1)) in
          omega (arith, blocks, one)

      moved : (s : ℕ) (a a' b b' : List ℕ) → a ≡ a' → b ≡ b' → HoldValuesAtPoints width times vector s a b
          → HoldValuesAtPoints width times vector s a' b'
      moved s a a' b b' first second hold =
          subst (λ (l : List ℕ). HoldValuesAtPoints width times vector s a' l) second
          (subst (λ (l : List ℕ). HoldValuesAtPoints width times vector s l b) first hold)
