-- Every level of the tower is a field. The root that a level adjoins and its inverse have the trace 1, so the polynomial
-- whose root the next level adjoins has no root, and every nonzero element has an inverse (D. Wiedemann, An iterated
-- quadratic extension of GF(2), Fibonacci Quarterly 26, 1988).
use Rattle.std.specs.Prelude.{◌≡◌, ◌≢◌, ℕ, zero, suc, ◌+◌, ◌%◌, ◌^◌, ◌<◌, bit_xor}
use Rattle.field_base.specs.Field.{HasInverses, IsField}
use Rattle.field_base.specs.Norm.{conjugate, norm}
use Rattle.field_base.specs.Quadratic.{pair}
use Rattle.field_base.specs.Tower.{root, tower_mul}
use Rattle.field_base.specs.Powers.{repeated_square, sum_of_squarings}

-- the absolute trace of an element of level k, 0 or 1: the sum of its 2 ^ k conjugates over the field of two elements,
-- which are the element squared 0, 1, .., 2 ^ k - 1 times
abbrev pub trace : ℕ → ℕ → ℕ
trace k a = sum_of_squarings 1 (tower_mul k) (2 ^ k) a

-- the inverse of the root X that level k adjoins: 1 at level 0, and else X + t, by X (X + t) = 1
unfoldable pub root_inverse : ℕ → ℕ
root_inverse zero = 1
root_inverse (suc k) = pair (2 ^ k) (root k) 1

-- at every level the adjoined root and its inverse have the trace 1
abbrev pub TracesAreOne : Type 0
TracesAreOne = (k : ℕ) → (trace k (root k) ≡ 1) × (trace k (root_inverse k) ≡ 1)

-- at every level the product of the adjoined root and its inverse is 1
abbrev pub RootInverse : Type 0
RootInverse = (k : ℕ) → tower_mul k (root k) (root_inverse k) ≡ 1

-- no level has a root of the polynomial x² + t x + 1 whose root the next level adjoins
abbrev pub NoLevelHasARoot : Type 0
NoLevelHasARoot = (k x : ℕ) → bit_xor (bit_xor (tower_mul k x x) (tower_mul k (root k) x)) 1 ≢ 0

-- at every level each nonzero element has an inverse
abbrev pub NonzeroHasInverse : Type 0
NonzeroHasInverse = (k : ℕ) → HasInverses (2 ^ k) (tower_mul k)

-- at every level 2 ^ k squarings return the element (Frobenius)
abbrev pub SquaringsReturn : Type 0
SquaringsReturn = (k a : ℕ) → repeated_square 1 (tower_mul k) (2 ^ k) a ≡ a % 2 ^ 2 ^ k

-- so every level is a field of 2 ^ 2 ^ k elements
abbrev pub TowerIsField : Type 0
TowerIsField = (k : ℕ) → IsField (2 ^ k) (tower_mul k)

-- an element of level k is one of each level j + k above it, where sums and products of such elements are the same: level k
-- lies inside the levels above
pub record LevelsLieInside : Type 0 where
  pub fits : (j k a : ℕ) → a < 2 ^ 2 ^ k → a < 2 ^ 2 ^ (j + k)
  pub sum_fits : (k a b : ℕ) → a < 2 ^ 2 ^ k → b < 2 ^ 2 ^ k → bit_xor a b < 2 ^ 2 ^ k
  pub product : (j k a b : ℕ) → a < 2 ^ 2 ^ k → b < 2 ^ 2 ^ k → tower_mul (j + k) a b ≡ tower_mul k a b

-- the norm of an element of level k + 1 over level k, its conjugate and half as many squarings as it has bits: the norm is the
-- product with the conjugate, the conjugate is those squarings, and only 0 has the norm 0
pub record NormsAndConjugates : Type 0 where
  pub norm_is_product : (k a : ℕ) → tower_mul (suc k) a (conjugate (2 ^ k) (tower_mul k) (root k) a)
      ≡ norm (2 ^ k) (tower_mul k) (root k) a
  pub conjugate_is_squarings : (k a : ℕ) → conjugate (2 ^ k) (tower_mul k) (root k) a ≡ repeated_square 1 (tower_mul (suc k)) (2 ^ k) a
  pub norm_below : (k a : ℕ) → norm (2 ^ k) (tower_mul k) (root k) a < 2 ^ 2 ^ k
  pub norm_of_nonzero : (k a : ℕ) → a < 2 ^ 2 ^ suc k → a ≢ 0 → norm (2 ^ k) (tower_mul k) (root k) a ≢ 0
