-- A field whose bits are a power of two, as a level of the tower in a basis of its own: the change of basis carries what is
-- defined in the tower to the field.
use Rattle.std.specs.Prelude.{◌≡◌, ℕ, ◌-◌, ◌%◌, ◌^◌, ◌<◌, [], ◌∷◌, slice_index, bit_xor}
use Rattle.field_base.specs.Tower.{tower_mul}

-- `basis` is an isomorphism from level k of the tower to a field of 2 ^ width elements with the product `times`: it carries 1, sums
-- and products, and has an inverse
pub record IsIsomorphism (k width : ℕ) (times : ℕ → ℕ → ℕ) (basis : ℕ → ℕ) : Type 0 where
  pub below : (a : ℕ) → a < 2 ^ 2 ^ k → basis a < 2 ^ width
  pub one_image : basis 1 ≡ 1
  pub sum_image : (a b : ℕ) → basis (bit_xor a b) ≡ bit_xor (basis a) (basis b)
  pub product_image : (a b : ℕ) → basis (tower_mul k a b) ≡ times (basis a) (basis b)
  pub inverse : ℕ → ℕ
  pub inverse_below : (b : ℕ) → inverse b < 2 ^ 2 ^ k
  pub image_of_inverse : (b : ℕ) → b < 2 ^ width → basis (inverse b) ≡ b
  pub inverse_of_image : (a : ℕ) → a < 2 ^ 2 ^ k → inverse (basis a) ≡ a

-- the Cantor vectors of level k of the tower: vector 0 is 1, and each other is the even solution v of v² + v = the vector
-- before it
pub record AreEvenCantorVectors (k : ℕ) (vector : ℕ → ℕ) : Type 0 where
  pub first : vector 0 ≡ 1
  pub below : (i : ℕ) → i < 2 ^ k → vector i < 2 ^ 2 ^ k
  pub rule : (i : ℕ) → 0 < i → i < 2 ^ k → bit_xor (tower_mul k (vector i) (vector i)) (vector i) ≡ vector (i - 1)
  pub even : (i : ℕ) → 0 < i → i < 2 ^ k → vector i % 2 ≡ 0

-- the generator of the nonzero elements of level k, for k up to 7
abbrev pub tower_generator : ℕ → ℕ
tower_generator k =
    slice_index (1 ∷ 2 ∷ 5 ∷ 0x13 ∷ 0x102 ∷ 0x1_0005 ∷ 0x1_0000_0004 ∷ 0x1_0000_0000_0000_0005 ∷ []) k
