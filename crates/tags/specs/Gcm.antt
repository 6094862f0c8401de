-- GHASH (NIST SP 800-38D, sections 6.3 and 6.4). A block is the number of its 128 bits as the standard writes them: the first bit,
-- which is the highest of byte 0 and the coefficient of x^0, is the highest of the number.
use Rattle.std.specs.Prelude.{ℕ, zero, suc, ◌-◌, ◌*◌, ◌/◌, ◌%◌, ◌^◌, List, bit_xor, map}
use Rattle.std.specs.Int.{bit_at, from_be_bytes, to_be_bytes, w128}
use Rattle.tags.specs.Hash.{polynomial_hash}

-- the block R, 11100001 and 120 zeros
abbrev pub r_block : ℕ
r_block = 0xe1 * 2 ^ 120

-- the next V of the product: V shifted to the right, and R added if a bit 1 falls out. It is V times x.
abbrev pub shifted : ℕ → ℕ
shifted v = bit_xor (v / 2) (v % 2 * r_block)

-- V_i of the product by y: V_0 is y
unfoldable pub v_step : ℕ → ℕ → ℕ
v_step zero y = y
v_step (suc i) y = shifted (v_step i y)

-- Z_i of the product of x and y: Z_0 is 0, and Z_(i+1) is Z_i, with V_i added if bit x_i is 1, the first bit being x_0
unfoldable pub z_step : ℕ → ℕ → ℕ → ℕ
z_step zero x y = 0
z_step (suc i) x y = bit_xor (z_step i x y) (bit_at x (127 - i) * v_step i y)

-- the product of two blocks: Z_128; of wider numbers it reads the low 128 bits
unfoldable pub gcm_product : ℕ → ℕ → ℕ
gcm_product x y = z_step 128 x (y % 2 ^ 128)

-- the block that a list of blocks leaves, under the hash key: Y_0 is 0, and Y_i is (Y_(i-1) + X_i) times the key
abbrev pub gcm_hash : ℕ → List ℕ → ℕ
gcm_hash key blocks = polynomial_hash gcm_product key blocks

-- `gcm_hash` over bytes
unfoldable pub ghash : List ℕ → List (List ℕ) → List ℕ
ghash key blocks = to_be_bytes w128 (gcm_hash (from_be_bytes w128 key) (map (from_be_bytes w128) blocks))
