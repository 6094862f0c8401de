-- Slices of words whose first words are changed, and fields whose words are changed in planes.
use Rattle.std.specs.Prelude.{◌≡◌, ℕ, ◌^◌, ◌<◌, ◌≤◌, List, length, get_or, refl}
use Rattle.field_base.specs.Tower.{tower_mul}
use Rattle.additive_transforms.specs.Rows.{level_of}

-- a field of so many bits and such a product, in words of 2 ^ size bytes, is the level of the tower of elements of 2 ^ d bytes, which words are
pub record IsInPlanes (d size width : ℕ) (product : ℕ → ℕ → ℕ) : Type 0 where
  pub size_is : size ≡ d
  pub width_is : width ≡ 2 ^ level_of d
  pub few : width ≤ 128
  pub product_is : (x y : ℕ) → product x y ≡ tower_mul (level_of d) x y

-- the first n words stand for these values, and the others for what they stood for
pub record FirstHold {W : Type 0} (number : W → ℕ) (n : ℕ) (value : ℕ → W → ℕ) (old new : List W) : Type 0 where
  pub long : length new ≡ length old
  pub few : n ≤ length old
  pub done : (k : ℕ) → k < n → (d : W) → number (get_or new k d) ≡ value k d
  pub kept : (k : ℕ) → n ≤ k → k < length old → (d : W) → number (get_or new k d) ≡ number (get_or old k d)
