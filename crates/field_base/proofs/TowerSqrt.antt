-- The square root of an element of the tower by recursion on the level. Squaring is (r0 + r1 X)² =
-- (r0² + r1²) + t r1² X, so r1² is a1 / t, and r0² is a0 + a1 / t.
use Rattle.std.proofs.Common.{◌≡◌, ℕ, zero, suc, ◌*◌, ◌%◌, ◌^◌, ◌<◌, refl, ◌∙◌, ap, lit<}
use Rattle.std.specs.Prelude.{bit_xor}
use Rattle.std.proofs.lemmas.Nat.{xor_lt}
use native.Mathlib.Nat.{mod-lt, mod-eq_of_lt}
use Rattle.field_base.specs.Quadratic.{low_half, high_half, pair}
use Rattle.field_base.specs.Tower.{root, tower_mul}
use Rattle.field_base.specs.TowerField.{root_inverse}
use Rattle.field_base.proofs.TowerRing.{tower_ring, bits_double, halves-lt}
use Rattle.field_base.specs.lemmas.BitRing.{two_cases}
use Rattle.field_base.proofs.TowerTraces.{tower_inverses, root_inverse_is}
use Rattle.field_base.proofs.FieldLemmas.{square-injective}
use Rattle.field_base.proofs.QuadraticRing.{low_half-lt}
use Rattle.field_base.proofs.QuadraticProducts.{quadratic-sqrt}

-- the number of level k whose square is the element
unfoldable pub tower_sqrt : ℕ → ℕ → ℕ
tower_sqrt zero a = a % 2
tower_sqrt (suc k) a =
    pair (2 ^ k)
    (tower_sqrt k (bit_xor (low_half (2 ^ k) a) (tower_mul k (high_half (2 ^ k) a) (root_inverse k))))
    (tower_sqrt k (tower_mul k (high_half (2 ^ k) a) (root_inverse k)))

-- a square root is an element
pub tower_sqrt-lt : (k a : ℕ) → tower_sqrt k a < 2 ^ 2 ^ k
unfolding tower_sqrt
tower_sqrt-lt zero a = mod-lt a (lit< tt)
tower_sqrt-lt (suc k) a = halves-lt k _ _ (tower_sqrt-lt k _) (tower_sqrt-lt k _)

-- the square of the root is the element
pub tower_mul-sqrt : (k a : ℕ) → tower_mul k (tower_sqrt k a) (tower_sqrt k a) ≡ a % 2 ^ 2 ^ k
unfolding tower_mul tower_sqrt
tower_mul-sqrt zero a = two_cases (λ x. x % 2 * (x % 2) ≡ x) refl refl (a % 2) (mod-lt a (lit< tt))
tower_mul-sqrt (suc k) a =
    quadratic-sqrt (2 ^ k) (tower_mul k) (tower_ring k) (root k) (root_inverse k) (root_inverse_is k) a _ _
    (tower_sqrt-lt k _) (tower_sqrt-lt k _)
    (tower_mul-sqrt k _ ∙ mod-eq_of_lt (xor_lt (2 ^ k) _ _ (low_half-lt (2 ^ k) a) quotient_fits))
    (tower_mul-sqrt k _ ∙ mod-eq_of_lt quotient_fits)
    ∙ ap (λ (x : ℕ). a % 2 ^ x) (bits_double k)
  where
    quotient_fits : tower_mul k (high_half (2 ^ k) a) (root_inverse k) < 2 ^ 2 ^ k
    quotient_fits = (tower_ring k).below (high_half (2 ^ k) a) (root_inverse k)

-- two elements with the same square are one
pub tower_mul-square_injective : (k a b : ℕ) → a < 2 ^ 2 ^ k → b < 2 ^ 2 ^ k → tower_mul k a a ≡ tower_mul k b b → a ≡ b
tower_mul-square_injective k = square-injective (2 ^ k) (tower_mul k) (tower_ring k) (tower_inverses k)
