-- The conjugate and the norm of an element of a quadratic extension by a root X of X² + t X + 1. The other root of the
-- polynomial is X + t, so the conjugate of a0 + a1 X is a0 + a1 (X + t), and the norm is their product.
use Rattle.std.specs.Prelude.{ℕ, bit_xor}
use Rattle.field_base.specs.Quadratic.{low_half, high_half, pair}

-- (a0 + t a1) + a1 X
abbrev pub conjugate : ℕ → (ℕ → ℕ → ℕ) → ℕ → ℕ → ℕ
conjugate width times t a =
    pair width (bit_xor (low_half width a) (times t (high_half width a))) (high_half width a)

-- a0² + t a0 a1 + a1², an element of the ring below
abbrev pub norm : ℕ → (ℕ → ℕ → ℕ) → ℕ → ℕ → ℕ
norm width times t a =
    bit_xor
    (bit_xor (times (low_half width a) (low_half width a)) (times t (times (low_half width a) (high_half width a))))
    (times (high_half width a) (high_half width a))
