-- Karatsuba's rule (A. Karatsuba and Yu. Ofman, Multiplication of many-digital numbers by automatic computers, 1962) for
-- the carryless product, where a difference is a sum.
use Rattle.std.specs.Prelude.{ℕ, ◌*◌, ◌^◌, bit_xor}

-- the product of two numbers of twice the width, from the products of the low halves, of the high halves, and of both
-- sums of halves: low + (both + low + high) x^width + high x^(2 width)
abbrev pub karatsuba_sum : ℕ → ℕ → ℕ → ℕ → ℕ
karatsuba_sum width low high both =
    bit_xor low (bit_xor (bit_xor (bit_xor both low) high * 2 ^ width) (high * 2 ^ width * 2 ^ width))
