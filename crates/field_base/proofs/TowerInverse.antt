-- The inverse of an element of the tower by recursion on the level, as the conjugate over the norm, and what follows
-- from inverses: there are no divisors of 0, and an inverse is the only one.
use Rattle.std.proofs.Common.{◌≡◌, ◌≢◌, ℕ, zero, suc, ◌%◌, ◌^◌, ◌<◌, ◌⊎◌, refl, sym, subst, arith, lit<}
use Rattle.std.specs.Prelude.{bit_xor}
use Rattle.std.proofs.lemmas.Nat.{pow_pos}
use native.Mathlib.Nat.{mod-lt}
use Rattle.field_base.specs.Quadratic.{low_half, high_half, pair}
use Rattle.field_base.specs.Norm.{conjugate, norm}
use Rattle.field_base.specs.Tower.{root, tower_mul}
use Rattle.field_base.proofs.TowerRing.{tower_ring, bits_double, halves-lt}
use Rattle.field_base.proofs.TowerTraces.{tower_inverses, tower_no_root}
use Rattle.field_base.proofs.FieldLemmas.{no_zero_divisors}
use Rattle.field_base.proofs.Norms.{norm-lt, norm-zero, quadratic-conjugate, quadratic-inverse}

-- the inverse of an element of level k, and 0 of 0: the halves of the conjugate by the inverse of the norm
unfoldable pub tower_inverse : ℕ → ℕ → ℕ
tower_inverse zero a = a % 2
tower_inverse (suc k) a =
    pair (2 ^ k)
    (tower_mul k (bit_xor (low_half (2 ^ k) a) (tower_mul k (root k) (high_half (2 ^ k) a)))
    (tower_inverse k (norm (2 ^ k) (tower_mul k) (root k) a)))
    (tower_mul k (high_half (2 ^ k) a) (tower_inverse k (norm (2 ^ k) (tower_mul k) (root k) a)))

-- an inverse is an element
pub tower_inverse-lt : (k a : ℕ) → tower_inverse k a < 2 ^ 2 ^ k
unfolding tower_inverse
tower_inverse-lt zero a = mod-lt a (lit< tt)
tower_inverse-lt (suc k) a = halves-lt k _ _ ((tower_ring k).below _ _) ((tower_ring k).below _ _)

-- a norm of the tower is below the level's bound, and 0 only at 0
pub tower_norm-lt : (k a : ℕ) → norm (2 ^ k) (tower_mul k) (root k) a < 2 ^ 2 ^ k
tower_norm-lt k a = norm-lt (2 ^ k) (tower_mul k) (tower_ring k) (root k) a

-- only 0 has the norm 0
pub tower_norm-zero : (k a : ℕ) → a < 2 ^ 2 ^ suc k → norm (2 ^ k) (tower_mul k) (root k) a ≡ 0 → a ≡ 0
tower_norm-zero k a fits nothing =
    norm-zero (2 ^ k) (tower_mul k) (tower_ring k) (root k) (pow_pos k) (tower_inverses k) (tower_no_root k) a
    (subst (λ (x : ℕ). a < 2 ^ x) (sym (bits_double k)) fits) nothing

-- an element times its conjugate is its norm
pub tower_mul-conjugate : (k a : ℕ) → tower_mul (suc k) a (conjugate (2 ^ k) (tower_mul k) (root k) a)
    ≡ norm (2 ^ k) (tower_mul k) (root k) a
unfolding tower_mul
tower_mul-conjugate k a = quadratic-conjugate (2 ^ k) (tower_mul k) (tower_ring k) (root k) a

-- the conjugate by the inverse of the norm is the inverse, half by half
pub tower_mul-conjugate_over_norm : (k a inverse : ℕ) → tower_mul k (norm (2 ^ k) (tower_mul k) (root k) a) inverse ≡ 1
    → tower_mul (suc k) a
    (pair (2 ^ k)
    (tower_mul k (bit_xor (low_half (2 ^ k) a) (tower_mul k (root k) (high_half (2 ^ k) a))) inverse)
    (tower_mul k (high_half (2 ^ k) a) inverse))
    ≡ 1
unfolding tower_mul
tower_mul-conjugate_over_norm k a inverse inverts =
    quadratic-inverse (2 ^ k) (tower_mul k) (tower_ring k) (root k) (pow_pos k) a inverse inverts

-- at level 0 each nonzero element is its own inverse
bit_inverse : (a : ℕ) → a < 2 → a ≢ 0 → tower_mul 0 a (a % 2) ≡ 1
unfolding tower_mul
bit_inverse zero fits nonzero = absurd (nonzero refl)
bit_inverse (suc zero) fits nonzero = refl
bit_inverse (suc (suc a)) fits nonzero = absurd (omega arith)

-- the product of a nonzero element and its inverse is 1
pub tower_mul-inverse : (k a : ℕ) → a < 2 ^ 2 ^ k → a ≢ 0 → tower_mul k a (tower_inverse k a) ≡ 1
unfolding tower_mul tower_inverse
tower_mul-inverse zero a fits nonzero = bit_inverse a fits nonzero
tower_mul-inverse (suc k) a fits nonzero =
    tower_mul-conjugate_over_norm k a _
    (tower_mul-inverse k (norm (2 ^ k) (tower_mul k) (root k) a) (tower_norm-lt k a)
    (λ e. nonzero (tower_norm-zero k a fits e)))

-- ---- what follows

-- a product is 0 only where a factor is
pub tower_mul-zero_divisors : (k a b : ℕ) → a < 2 ^ 2 ^ k → b < 2 ^ 2 ^ k → tower_mul k a b ≡ 0 → (a ≡ 0) ⊎ (b ≡ 0)
tower_mul-zero_divisors k = no_zero_divisors (2 ^ k) (tower_mul k) (tower_ring k) (tower_inverses k)
