-- The bytes in the lanes of a vector, their sums and products.
use Rattle.std.proofs.Common.{◌≡◌, ℕ, ◌+◌, ◌*◌, ◌/◌, ◌%◌, ◌^◌, ◌<◌, List, length, get_or, map, sym, ◌∙◌, ap, ap₂, arith, lit<, w8, Fits}
use Rattle.std.specs.Prelude.{bit_xor, slice_index}
use Rattle.std.specs.Simd.Lanes.{Each1, zip2}
use Rattle.std.proofs.lemmas.List.{get_or-map}
use Rattle.std.proofs.lemmas.Nat.{xor_block, xor_lt}
use Rattle.std.proofs.lemmas.Simd.{Each1-get_or, get_or-zip2}
use native.Mathlib.Nat.{mod-eq_of_lt, mod-lt}
use lib.Bits.{xor_comm, xor_shifted}
use Rattle.word_tables.specs.Nibbles.{entry_sum}
use Rattle.field_base.specs.Quadratic.{pair}
use Rattle.field_base.specs.Tower.{tower_mul}
use Rattle.field_base.proofs.TowerRing.{tower_ring}
use Rattle.additive_transforms.specs.Products.{AreMultiples}
use Rattle.additive_transforms.specs.Rows.{byte_of_lane}
use Rattle.additive_transforms.specs.declared.multiples.ByteMultiples.{ByteMultiples}

-- the byte in a lane is its number
pub lane-byte : (bytes : List ℕ) (l : ℕ) → Each1 (Fits w8) bytes → l < length bytes → byte_of_lane bytes l ≡ slice_index bytes l
lane-byte bytes l fit inside = mod-eq_of_lt ((Each1-get_or (Fits w8) bytes l 0 inside fit).fits)

-- ---- sums and products

-- the sum of two pairs is that of their halves
pub sum_of_pairs : (k a0 a1 b0 b1 : ℕ) → a0 < 2 ^ 2 ^ k → b0 < 2 ^ 2 ^ k
    → pair (2 ^ k) (bit_xor a0 b0) (bit_xor a1 b1) ≡ bit_xor (pair (2 ^ k) a0 a1) (pair (2 ^ k) b0 b1)
sum_of_pairs k a0 a1 b0 b1 a_fits b_fits = sym (xor_block (2 ^ k) a1 b1 a0 b0 a_fits b_fits)

-- the byte in a lane of a sum
pub lane_sum : (xs ys zs : List ℕ) (n l : ℕ) → zs ≡ zip2 bit_xor xs ys → length xs ≡ n → length ys ≡ n → Each1 (Fits w8) xs → Each1 (Fits w8) ys
    → l < n → byte_of_lane zs l ≡ bit_xor (byte_of_lane xs l) (byte_of_lane ys l)
lane_sum xs ys zs n l is x_long y_long x_fit y_fit below =
    let x_inside : l < length xs = omega (arith, x_long, below) in
    let y_inside : l < length ys = omega (arith, y_long, below) in
    ap (λ (x : ℕ). x % 2 ^ 8) (ap (λ (r : List ℕ). get_or r l 0) is ∙ get_or-zip2 bit_xor xs ys l 0 0 0 x_inside y_inside)
    ∙ mod-eq_of_lt (xor_lt 8 (slice_index xs l) (slice_index ys l) (Each1-get_or (Fits w8) xs l 0 x_inside x_fit).fits
    (Each1-get_or (Fits w8) ys l 0 y_inside y_fit).fits)
    ∙ sym (ap₂ bit_xor (lane-byte xs l x_fit x_inside) (lane-byte ys l y_fit y_inside))

-- a byte is the sum of its halves
byte-halves : (byte : ℕ) → bit_xor (byte % 16) (byte / 16 * 16) ≡ byte
byte-halves byte =
    let whole : byte / 16 * 16 + byte % 16 ≡ byte = omega arith in
    xor_comm (byte % 16) (byte / 16 * 16) ∙ xor_shifted (byte / 16) 4 (byte % 16) (mod-lt byte (lit< tt)) ∙ whole

-- two multiples of a scalar make its product by a byte
pub multiples_sum : (multiples : ByteMultiples) (s byte : ℕ) → AreMultiples multiples s → byte < 256
    → entry_sum multiples.low multiples.high byte ≡ tower_mul 3 s byte
multiples_sum multiples s byte are fits =
    ap₂ bit_xor (are.of_low (byte % 16) (mod-lt byte (lit< tt))) (are.of_high (byte / 16) (omega (arith, fits)))
    ∙ sym ((tower_ring 3).over_sum s (byte % 16) (byte / 16 * 16)) ∙ ap (tower_mul 3 s) (byte-halves byte)

-- the byte in a lane of a product
pub lane_product : (multiples : ByteMultiples) (s : ℕ) (xs zs : List ℕ) (n l : ℕ) → AreMultiples multiples s
    → zs ≡ map (entry_sum multiples.low multiples.high) xs → length xs ≡ n → Each1 (Fits w8) xs → l < n
    → byte_of_lane zs l ≡ tower_mul 3 s (byte_of_lane xs l)
lane_product multiples s xs zs n l are is long fit below =
    let inside : l < length xs = omega (arith, long, below) in
    let byte = (Each1-get_or (Fits w8) xs l 0 inside fit).fits in
    ap (λ (x : ℕ). x % 2 ^ 8)
    (ap (λ (r : List ℕ). get_or r l 0) is ∙ get_or-map (entry_sum multiples.low multiples.high) xs l 0 0 inside
    ∙ multiples_sum multiples s (slice_index xs l) are byte)
    ∙ mod-eq_of_lt ((tower_ring 3).below s (slice_index xs l))
    ∙ ap (tower_mul 3 s) (sym (lane-byte xs l fit inside))
