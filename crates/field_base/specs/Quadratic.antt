-- A quadratic extension of a ring of w-bit elements: it adjoins a root X of X² + t X + 1, as each level of Wiedemann's
-- tower does (D. Wiedemann, An iterated quadratic extension of GF(2), Fibonacci Quarterly 26, 1988). An element
-- `low + high X` is the number with `low` in the low w bits and `high` in the w bits above.
use Rattle.std.specs.Prelude.{ℕ, ◌+◌, ◌*◌, ◌/◌, ◌%◌, ◌^◌, bit_xor}

-- the half of an element that stands without the root
abbrev pub low_half : ℕ → ℕ → ℕ
low_half width a = a % 2 ^ width

-- the half that the root multiplies
abbrev pub high_half : ℕ → ℕ → ℕ
high_half width a = a / 2 ^ width % 2 ^ width

-- the element `low + high X`
abbrev pub pair : ℕ → ℕ → ℕ → ℕ
pair width low high = high * 2 ^ width + low

-- the product of two elements over the product `times` of the halves, by X² = t X + 1:
-- (a0 + a1 X)(b0 + b1 X) = (a0 b0 + a1 b1) + (a0 b1 + a1 b0 + t a1 b1) X
unfoldable pub quadratic : ℕ → (ℕ → ℕ → ℕ) → ℕ → ℕ → ℕ → ℕ
quadratic width times t a b = pair width
    (bit_xor (times (low_half width a) (low_half width b)) (times (high_half width a) (high_half width b)))
    (bit_xor
    (bit_xor (times (low_half width a) (high_half width b)) (times (high_half width a) (low_half width b)))
    (times t (times (high_half width a) (high_half width b))))
