-- POLYVAL (RFC 8452, section 3). An element is the number of the 16 bytes of a block, the lowest first, and bit i is the
-- coefficient of x^i.
use Rattle.std.specs.Prelude.{◌≡◌, ℕ, ◌+◌, ◌^◌, List, All, map, reverse}
use Rattle.std.specs.Int.{from_be_bytes, from_le_bytes, to_be_bytes, to_le_bytes, w128}
use Rattle.field_base.specs.Remainder.{mul_mod}
use Rattle.tags.specs.Blocks.{IsBlock}
use Rattle.tags.specs.Hash.{polynomial_hash}
use Rattle.tags.specs.Gcm.{ghash, shifted}

-- x^128 + x^127 + x^126 + x^121 + 1
abbrev pub polyval_modulus : ℕ
polyval_modulus = 2 ^ 128 + 2 ^ 127 + 2 ^ 126 + 2 ^ 121 + 1

-- x^-128, which is x^127 + x^124 + x^121 + x^114 + 1
abbrev pub inverse_of_x_128 : ℕ
inverse_of_x_128 = 2 ^ 127 + 2 ^ 124 + 2 ^ 121 + 2 ^ 114 + 1

-- dot(a, b) = a b x^-128
unfoldable pub dot : ℕ → ℕ → ℕ
dot a b = mul_mod 128 polyval_modulus (mul_mod 128 polyval_modulus a b) inverse_of_x_128

-- the element that a list of elements leaves, under the key: S_0 is 0, and S_j is dot(S_(j-1) + X_j, key)
abbrev pub polyval_hash : ℕ → List ℕ → ℕ
polyval_hash key blocks = polynomial_hash dot key blocks

-- `polyval_hash` over bytes
unfoldable pub polyval : List ℕ → List (List ℕ) → List ℕ
polyval key blocks = to_le_bytes w128 (polyval_hash (from_le_bytes w128 key) (map (from_le_bytes w128) blocks))

-- a block of GHASH times x (RFC 8452, appendix A)
abbrev pub mul_x_ghash : List ℕ → List ℕ
mul_x_ghash block = to_be_bytes w128 (shifted (from_be_bytes w128 block))

-- POLYVAL by GHASH, each block with its bytes reversed, and the key times x (RFC 8452, appendix A)
abbrev pub PolyvalIsGhash : Type 0
PolyvalIsGhash = (key : List ℕ) (blocks : List (List ℕ)) → IsBlock key → All IsBlock blocks
    → polyval key blocks ≡ reverse (ghash (mul_x_ghash (reverse key)) (map reverse blocks))
