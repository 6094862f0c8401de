-- A cubic extension of a ring of w-bit elements: it adjoins a root y of y³ + y + 1, as the challenge field over GF(2^64) does. An
-- element `c0 + c1 y + c2 y²` is the number with c0 in the lowest w bits, c1 in the next w and c2 in the w above. The polynomial
-- is primitive over GF(2) (R. Lidl and H. Niederreiter, Finite Fields, table C).
use Rattle.std.specs.Prelude.{◌≡◌, ◌≢◌, ℕ, zero, suc, ◌+◌, ◌%◌, ◌^◌, ◌<◌, bit_xor}
use Rattle.field_base.specs.Basis.{sum_below}
use Rattle.field_base.specs.Field.{IsField}
use Rattle.field_base.specs.Powers.{repeated_square}
use Rattle.field_base.specs.Quadratic.{pair}
use Rattle.field_base.specs.Remainder.{mul_mod, poly64_modulus}
use Rattle.field_base.specs.Ring.{IsRing}
use Rattle.field_base.specs.Chunks.{chunk}

-- the element c0 + c1 y + c2 y²
abbrev pub triple : ℕ → ℕ → ℕ → ℕ → ℕ
triple width c0 c1 c2 = pair width c0 (pair width c1 c2)

-- c y^n for n up to 4, by y³ = y + 1 and y⁴ = y² + y
abbrev pub term : ℕ → ℕ → ℕ → ℕ
term width zero c = triple width c 0 0
term width (suc zero) c = triple width 0 c 0
term width (suc (suc zero)) c = triple width 0 0 c
term width (suc (suc (suc zero))) c = triple width c c 0
term width (suc (suc (suc (suc n)))) c = triple width 0 c c

-- the product of two elements over the product `times` of the coefficients: the sum of the nine a_i b_j y^(i + j)
unfoldable pub cubic : ℕ → (ℕ → ℕ → ℕ) → ℕ → ℕ → ℕ
cubic width times a b =
    sum_below (λ i. sum_below (λ j. term width (i + j) (times (chunk width i a) (chunk width j b))) 3) 3

-- the product in the cubic extension of the polynomials modulo x^64 + x^4 + x^3 + x + 1, which has 2^192 elements
abbrev pub cubic_mul : ℕ → ℕ → ℕ
cubic_mul = cubic 64 (mul_mod 64 poly64_modulus)

-- the cubic extension of every ring is a ring
abbrev pub CubicIsRing : Type 0
CubicIsRing = (width : ℕ) (times : ℕ → ℕ → ℕ) → 0 < width → IsRing width 1 times → IsRing (width + width + width) 1 (cubic width times)

-- a field GF(2^n) with n ≡ 1 (mod 3) has no root of y³ + y + 1
abbrev pub NoFieldHasACubicRoot : Type 0
NoFieldHasACubicRoot =
    (width : ℕ) (times : ℕ → ℕ → ℕ) → IsField width times → 0 < width → width % 3 ≡ 1 → (x : ℕ) → x < 2 ^ width
    → bit_xor (bit_xor (times x (times x x)) x) 1 ≢ 0

-- so that its cubic extension is a field
abbrev pub CubicIsField : Type 0
CubicIsField =
    (width : ℕ) (times : ℕ → ℕ → ℕ) → IsField width times → 0 < width → width % 3 ≡ 1
    → IsField (width + width + width) (cubic width times)

-- raising to the power of 2 ^ width, which keeps the coefficients' field, takes y to y²: c0 + c1 y + c2 y² becomes
-- c0 + c2 y + (c1 + c2) y²
abbrev pub CubicFrobenius : Type 0
CubicFrobenius =
    (width : ℕ) (times : ℕ → ℕ → ℕ) → IsField width times → 0 < width → width % 3 ≡ 1 → (c0 c1 c2 : ℕ)
    → c0 < 2 ^ width → c1 < 2 ^ width → c2 < 2 ^ width
    → repeated_square 1 (cubic width times) width (triple width c0 c1 c2) ≡ triple width c0 c2 (bit_xor c1 c2)
