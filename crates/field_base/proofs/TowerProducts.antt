-- The tower's product at the next level in the forms in which it is computed: of the halves, with three products below,
-- of a square, by the root, and of elements of lower levels, which are subrings.
use Rattle.std.proofs.Common.{◌≡◌, ℕ, zero, suc, ◌+◌, ◌%◌, ◌^◌, ◌<◌, sym, ◌∙◌, ap, subst, arith}
use Rattle.std.specs.Prelude.{bit_xor}
use Rattle.std.proofs.lemmas.Nat.{pow_pos, pow_below}
use native.Mathlib.Nat.{one-mul, zero-add}
use Rattle.field_base.specs.Quadratic.{low_half, high_half, pair}
use Rattle.field_base.specs.Tower.{root, tower_mul}
use Rattle.field_base.proofs.TowerRing.{tower_ring}
use Rattle.field_base.proofs.QuadraticProducts.{quadratic-karatsuba, quadratic-square, quadratic-root, quadratic-low, quadratic-low_times}

-- ---- the next level by the level below

-- three products below: of the low halves, of the high halves, and of the sums of the halves
pub tower_mul-karatsuba : (k a b : ℕ) → tower_mul (suc k) a b
    ≡ pair (2 ^ k)
    (bit_xor (tower_mul k (low_half (2 ^ k) a) (low_half (2 ^ k) b))
    (tower_mul k (high_half (2 ^ k) a) (high_half (2 ^ k) b)))
    (bit_xor
    (bit_xor
    (bit_xor
    (tower_mul k (bit_xor (low_half (2 ^ k) a) (high_half (2 ^ k) a))
    (bit_xor (low_half (2 ^ k) b) (high_half (2 ^ k) b)))
    (tower_mul k (low_half (2 ^ k) a) (low_half (2 ^ k) b)))
    (tower_mul k (high_half (2 ^ k) a) (high_half (2 ^ k) b)))
    (tower_mul k (root k) (tower_mul k (high_half (2 ^ k) a) (high_half (2 ^ k) b))))
unfolding tower_mul
tower_mul-karatsuba k a b = quadratic-karatsuba (2 ^ k) (tower_mul k) (tower_ring k) (root k) a b

-- (a0 + a1 X)² = (a0² + a1²) + t a1² X
pub tower_mul-square : (k a : ℕ) → tower_mul (suc k) a a
    ≡ pair (2 ^ k)
    (bit_xor (tower_mul k (low_half (2 ^ k) a) (low_half (2 ^ k) a))
    (tower_mul k (high_half (2 ^ k) a) (high_half (2 ^ k) a)))
    (tower_mul k (root k) (tower_mul k (high_half (2 ^ k) a) (high_half (2 ^ k) a)))
unfolding tower_mul
tower_mul-square k a = quadratic-square (2 ^ k) (tower_mul k) (tower_ring k) (root k) a

-- ---- by the root

-- the root of level 0 is 1, and the product by it is the lowest bit
pub tower_mul-root_zero : (a : ℕ) → tower_mul 0 (root 0) a ≡ a % 2
unfolding tower_mul root
tower_mul-root_zero a = one-mul (a % 2)

-- X (a0 + a1 X) is a1 + (a0 + t a1) X, and so on down the levels
pub tower_mul-root_suc : (k a : ℕ) → tower_mul (suc k) (root (suc k)) a
    ≡ pair (2 ^ k) (high_half (2 ^ k) a) (bit_xor (low_half (2 ^ k) a) (tower_mul k (root k) (high_half (2 ^ k) a)))
unfolding tower_mul root
tower_mul-root_suc k a = quadratic-root (2 ^ k) (tower_mul k) (tower_ring k) (root k) (pow_pos k) a

-- ---- lower levels

-- an element of a level is one of each level above
pub level-lt : (j k a : ℕ) → a < 2 ^ 2 ^ k → a < 2 ^ 2 ^ (j + k)
level-lt zero k a fits = subst (λ (x : ℕ). a < 2 ^ 2 ^ x) (sym (zero-add k)) fits
level-lt (suc j) k a fits =
    let below : a < 2 ^ 2 ^ (j + k) = level-lt j k a fits in
    let up : 2 ^ 2 ^ (j + k) < 2 ^ 2 ^ suc (j + k) = pow_below _ _ (pow_below (j + k) (suc (j + k)) (omega arith)) in
    let next : suc j + k ≡ suc (j + k) = omega arith in
    subst (λ (x : ℕ). a < 2 ^ 2 ^ x) (sym next) (omega (arith, below, up))

-- a product of elements of level k is the same at level k + 1
pub tower_mul-suc_low : (k a b : ℕ) → a < 2 ^ 2 ^ k → b < 2 ^ 2 ^ k → tower_mul (suc k) a b ≡ tower_mul k a b
unfolding tower_mul
tower_mul-suc_low k a b a_fits b_fits =
    quadratic-low (2 ^ k) (tower_mul k) (tower_ring k) (root k) a b a_fits b_fits

-- the product of two elements of a level is the same at each level above
pub tower_mul-low : (j k a b : ℕ) → a < 2 ^ 2 ^ k → b < 2 ^ 2 ^ k → tower_mul (j + k) a b ≡ tower_mul k a b
tower_mul-low zero k a b a_fits b_fits = ap (λ (x : ℕ). tower_mul x a b) (zero-add k)
tower_mul-low (suc j) k a b a_fits b_fits =
    let next : suc j + k ≡ suc (j + k) = omega arith in
    ap (λ (x : ℕ). tower_mul x a b) next
    ∙ tower_mul-suc_low (j + k) a b (level-lt j k a a_fits) (level-lt j k b b_fits)
    ∙ tower_mul-low j k a b a_fits b_fits

-- an element of the level below multiplies half by half
pub tower_mul-low_times : (k a b : ℕ) → a < 2 ^ 2 ^ k → tower_mul (suc k) a b
    ≡ pair (2 ^ k) (tower_mul k a (low_half (2 ^ k) b)) (tower_mul k a (high_half (2 ^ k) b))
unfolding tower_mul
tower_mul-low_times k a b fits = quadratic-low_times (2 ^ k) (tower_mul k) (tower_ring k) (root k) a b fits
