-- Lost symbols come back by a derivative (S.-J. Lin, W.-H. Chung and Y. S. Han, Novel polynomial basis and its application to Reed-Solomon
-- erasure codes, 2014): the product of a word's polynomial and the locator of its lost symbols is known at all points, and its derivative at a
-- lost one is the lost symbol times the product of the differences from the other lost points.
use Rattle.std.specs.Prelude.{◌≡◌, ◌≢◌, ℕ, ◌+◌, ◌^◌, ◌<◌, ◌≤◌, Bool, true, false}
use Rattle.field_base.specs.Tower.{tower_mul}
use Rattle.ghash_slices.specs.Cantor.{point, polynomial_value}
use Rattle.word_tables.specs.Cantor.{cantor_vector}
use Rattle.reed_solomon.specs.Derivatives.{derived}
use Rattle.reed_solomon.specs.Locators.{locator, lost_count, others_lost}

-- point p of a level
abbrev pub level_point : ℕ → ℕ → ℕ
level_point level p = point (2 ^ level) cantor_vector 0 p

-- the locator, at x, of the lost ones among the first 2 ^ r points
abbrev pub lost_locator : ℕ → ℕ → (ℕ → Bool) → ℕ → ℕ
lost_locator level r lost x = locator (tower_mul level) (level_point level) lost (2 ^ r) x

-- at point p, of the lost ones but p itself
abbrev pub own_locator : ℕ → ℕ → (ℕ → Bool) → ℕ → ℕ
own_locator level r lost p = lost_locator level r (others_lost lost p) (level_point level p)

-- a polynomial of 2 ^ n coefficients whose values are known at all but the lost ones of the first 2 ^ r points. Where those points have, as
-- values of the coefficients `product`, the products of the known values and the locator, whatever stands for the lost ones, the derivative
-- has at a lost point the product of the polynomial's value and the locator of the others. That is not 0, and is what the derivative of the
-- locator itself has there.
pub record AreLocated (level n r : ℕ) (lost : ℕ → Bool) : Type 0 where
  pub invertible : (p : ℕ) → p < 2 ^ r → lost p ≡ true → own_locator level r lost p ≢ 0
  pub slopes : (coefficients : ℕ → ℕ)
      → ((p : ℕ) → p < 2 ^ r → polynomial_value (tower_mul level) r coefficients (level_point level p) ≡ lost_locator level r lost (level_point level p))
      → (p : ℕ) → p < 2 ^ r → lost p ≡ true
      → polynomial_value (tower_mul level) r (derived r coefficients) (level_point level p) ≡ own_locator level r lost p
  pub decoded : (coefficients product word : ℕ → ℕ)
      → ((p : ℕ) → p < 2 ^ r → lost p ≡ false → word p ≡ polynomial_value (tower_mul level) n coefficients (level_point level p))
      → ((p : ℕ) → p < 2 ^ r → polynomial_value (tower_mul level) r product (level_point level p)
      ≡ tower_mul level (word p) (lost_locator level r lost (level_point level p)))
      → (p : ℕ) → p < 2 ^ r → lost p ≡ true
      → polynomial_value (tower_mul level) r (derived r product) (level_point level p)
      ≡ tower_mul level (own_locator level r lost p) (polynomial_value (tower_mul level) n coefficients (level_point level p))

-- that holds where no fewer than 2 ^ n values are known, in every level that has the points
abbrev pub LostSymbolsAreLocated : Type 0
LostSymbolsAreLocated =
    (level n r : ℕ) (lost : ℕ → Bool) → level ≤ 7 → r ≤ 2 ^ level → lost_count lost (2 ^ r) + 2 ^ n ≤ 2 ^ r → AreLocated level n r lost
