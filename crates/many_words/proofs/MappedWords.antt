-- Words of a field of 64 bits by one scalar, whose products with the bits are the images of a linear map.
use Rattle.std.proofs.Common.{◌≡◌, ℕ, ◌%◌, ◌^◌, ◌<◌, ◌≤◌, List, length, get_or, map, sym, ◌∙◌, ap, ap₂, subst, arith, lit<}
use Rattle.std.specs.Prelude.{bit_xor, slice_index}
use Rattle.std.proofs.lemmas.List.{get_or-map}
use native.Mathlib.Nat.{mod-eq_of_lt, mod-lt}
use Rattle.field_base.specs.LinearMaps.{linear_image}
use Rattle.field_base.specs.Ring.{IsRing}
use Rattle.field_base.proofs.RingLemmas.{times-mod}
use Rattle.additive_transforms.specs.Units.{FirstAre}
use Rattle.many_words.specs.Places.{FirstHold}
use Rattle.many_words.proofs.FirstPlaces.{first_of_numbers, multiplied, summed}

module _ {W : Type 0} (number : W → ℕ) (width : ℕ) (product : ℕ → ℕ → ℕ) (ring : IsRing width 1 product) (wide : width ≡ 64) (images : List ℕ)
    (s : ℕ) (are : (x : ℕ) → x < 2 ^ 64 → linear_image images x ≡ product x s) where
  -- the image of the low 64 bits is the product
  image : (y : ℕ) → linear_image images (y % 2 ^ 64) ≡ product s y
  image y =
      are (y % 2 ^ 64) (mod-lt y (lit< tt)) ∙ ring.comm (y % 2 ^ 64) s ∙ ap (λ (w : ℕ). product s (y % 2 ^ w)) (sym wide)
      ∙ times-mod width 1 product ring s y

  -- the first words are multiplied
  pub first_mapped : (n : ℕ) (old new : List W) → length new ≡ length old → n ≤ length old
      → FirstAre n (λ k. linear_image images (slice_index (map number old) k % 2 ^ 64)) (map number old) (map number new)
      → FirstHold number n (multiplied number product s old) old new
  first_mapped n old new long few first =
      first_of_numbers number (multiplied number product s old) n old new (λ k. linear_image images (slice_index (map number old) k % 2 ^ 64)) long few
      first.done first.kept
      (λ i below d.
      ap (λ (x : ℕ). linear_image images (x % 2 ^ 64)) (get_or-map number old i d 0 (omega (arith, below, few)))
      ∙ image (number (get_or old i d)) ∙ ring.comm s (number (get_or old i d)))

  -- the products are added to the first sums
  pub first_summed : (n : ℕ) (words old new : List W) → length words ≡ length old → length new ≡ length old → n ≤ length old
      → ((k : ℕ) → k < length old → (d : W) → number (get_or old k d) < 2 ^ width)
      → FirstAre n (λ k. bit_xor (slice_index (map number old) k % 2 ^ 64) (linear_image images (slice_index (map number words) k % 2 ^ 64)))
      (map number old) (map number new)
      → FirstHold number n (summed number product s old words) old new
  first_summed n words old new same long few fit first =
      first_of_numbers number (summed number product s old words) n old new
      (λ k. bit_xor (slice_index (map number old) k % 2 ^ 64) (linear_image images (slice_index (map number words) k % 2 ^ 64))) long few
      first.done first.kept
      (λ i below d.
      ap₂ bit_xor
      (ap (λ (x : ℕ). x % 2 ^ 64) (get_or-map number old i d 0 (omega (arith, below, few)))
      ∙ mod-eq_of_lt (subst (λ (w : ℕ). number (get_or old i d) < 2 ^ w) wide (fit i (omega (arith, below, few)) d)))
      (ap (λ (x : ℕ). linear_image images (x % 2 ^ 64)) (get_or-map number words i d 0 (omega (arith, below, few, same)))
      ∙ image (number (get_or words i d))))
