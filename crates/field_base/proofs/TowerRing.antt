-- The tower's product at every level is that of a ring, by induction on the level.
use Rattle.std.proofs.Common.{◌≡◌, ℕ, zero, suc, ◌+◌, ◌^◌, ◌<◌, sym, ◌∙◌, subst, arith}
use Rattle.std.proofs.lemmas.Nat.{pow_pos}
use native.Mathlib.Nat.{pow-suc}
use Rattle.field_base.specs.Ring.{IsRing}
use Rattle.field_base.specs.Quadratic.{pair, quadratic}
use Rattle.field_base.specs.Tower.{root, tower_mul, TowerIsRing}
use Rattle.field_base.specs.lemmas.BitRing.{bits_ring}
use Rattle.field_base.proofs.QuadraticRing.{pair-lt, quadratic_ring}

-- the bits of a level are twice those of the level below
pub bits_double : (k : ℕ) → 2 ^ k + 2 ^ k ≡ 2 ^ suc k
bits_double k = sym (pow-suc 2 k ∙ omega arith)

-- two elements of a level are the halves of an element of the next
pub halves-lt : (k low high : ℕ) → low < 2 ^ 2 ^ k → high < 2 ^ 2 ^ k → pair (2 ^ k) low high < 2 ^ 2 ^ suc k
halves-lt k low high low_fits high_fits =
    subst (λ (x : ℕ). pair (2 ^ k) low high < 2 ^ x) (bits_double k) (pair-lt (2 ^ k) low high low_fits high_fits)

-- ---- every level

-- every level is a ring
pub tower_ring : TowerIsRing
unfolding tower_mul
tower_ring zero = bits_ring
tower_ring (suc k) =
    subst (λ (x : ℕ). IsRing x 1 (quadratic (2 ^ k) (tower_mul k) (root k))) (bits_double k)
    (quadratic_ring (2 ^ k) (tower_mul k) (tower_ring k) (root k) (pow_pos k))
