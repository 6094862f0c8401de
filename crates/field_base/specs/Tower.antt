-- The tower of fields GF(2), GF(2²), GF(2⁴), .. of Wiedemann (An iterated quadratic extension of GF(2), 1988): level k
-- has 2 ^ k bits, level 0 is the bits, and level k + 1 adjoins to level k a root X of X² + t X + 1, where t is the root
-- that level k adjoined, and 1 over the bits. The low half of a number is the part without the root.
use Rattle.std.specs.Prelude.{ℕ, zero, suc, ◌*◌, ◌%◌, ◌^◌}
use Rattle.field_base.specs.Quadratic.{quadratic}
use Rattle.field_base.specs.Ring.{IsRing}

-- the root that level k adjoins, as an element of level k: 1 at level 0, and else the number whose high half is 1
unfoldable pub root : ℕ → ℕ
root zero = 1
root (suc k) = 2 ^ 2 ^ k

-- the product of two elements of level k; of wider numbers it reads the low 2 ^ k bits
unfoldable pub tower_mul : ℕ → ℕ → ℕ → ℕ
tower_mul zero a b = a % 2 * (b % 2)
tower_mul (suc k) a b = quadratic (2 ^ k) (tower_mul k) (root k) a b

-- at every level the tower's product is that of a commutative ring of characteristic two
abbrev pub TowerIsRing : Type 0
TowerIsRing = (k : ℕ) → IsRing (2 ^ k) 1 (tower_mul k)
