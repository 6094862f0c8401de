-- The moduli without their highest terms, by which a fold multiplies. A polynomial is a number, the set of the places of
-- its set bits.
use Rattle.std.specs.Prelude.{ℕ}

-- x^4 + x^3 + x + 1
abbrev pub poly64_tail : ℕ
poly64_tail = 0x1b

-- x^7 + x^2 + x + 1
abbrev pub ghash_tail : ℕ
ghash_tail = 0x87
