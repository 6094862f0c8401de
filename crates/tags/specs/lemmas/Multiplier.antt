-- Bits in the other order are as many, so that what the field multiplies by for a key has 128 bits.
use Rattle.std.proofs.Common.{ℕ, zero, suc, ◌≡◌, ◌+◌, ◌*◌, ◌/◌, ◌%◌, ◌^◌, ◌<◌, ◌≤◌, List, arith, ap, ◌∙◌}
use Rattle.std.specs.Int.{from_be_bytes, reverse_bits_onto, w128}
use Rattle.std.proofs.Math.Nat.{mul-le-mul}
use native.Mathlib.Nat.{mul_assoc, pow-suc}
use Rattle.field_base.proofs.RemainderRing.{ghash_ring}
use Rattle.tags.specs.Reversed.{ghash_element, polyval_element, polyval_multiplier}

-- k bits after those of a
onto-lt : (k n a : ℕ) → reverse_bits_onto k n a < 2 ^ k * suc a
unfolding reverse_bits_onto
onto-lt zero n a = omega arith
onto-lt (suc k) n a =
    let b : ℕ = a * 2 + n % 2 in
    let least : suc b ≤ 2 * suc a = omega arith in
    let same : 2 ^ k ≤ 2 ^ k = omega arith in
    let more : 2 ^ k * suc b ≤ 2 ^ k * (2 * suc a) = mul-le-mul same least in
    let whole : 2 ^ suc k * suc a ≡ 2 ^ k * (2 * suc a) = ap (λ (z : ℕ). z * suc a) (pow-suc 2 k) ∙ mul_assoc (2 ^ k) 2 (suc a) in
    let fits : reverse_bits_onto k (n / 2) b < 2 ^ k * suc b = onto-lt k (n / 2) b in
    omega (arith, fits, more, whole)

-- k bits in the other order are k bits
pub reverse_bits-lt : (k n : ℕ) → reverse_bits_onto k n 0 < 2 ^ k
reverse_bits-lt k n =
    let fits : reverse_bits_onto k n 0 < 2 ^ k * 1 = onto-lt k n 0 in
    omega (arith, fits)

-- for a key of GHASH
pub ghash_element-lt : (key : List ℕ) → ghash_element key < 2 ^ 128
ghash_element-lt key = reverse_bits-lt 128 (from_be_bytes w128 key)

-- for a key of POLYVAL
pub polyval_multiplier-lt : (key : List ℕ) → polyval_multiplier key < 2 ^ 128
polyval_multiplier-lt key = ghash_ring.below 2 (polyval_element key)
