-- Products by scalars of the tower: by the multiples of a byte, and by three products of the level below.
use Rattle.std.specs.Prelude.{◌≡◌, ℕ, suc, ◌*◌, ◌/◌, ◌^◌, ◌<◌, slice_index, bit_xor}
use Rattle.field_base.specs.Quadratic.{pair}
use Rattle.field_base.specs.Tower.{root, tower_mul}
use Rattle.additive_transforms.specs.declared.multiples.ByteMultiples.{ByteMultiples}
use Rattle.additive_transforms.specs.declared.multiples.HalfMultiples.{HalfMultiples}

-- (s0 + s1 X)(a0 + a1 X), where q = s1 (a0 + a1), is q + (s0 + s1) a0 and q + (s0 + s1 + t s1) a1
abbrev pub ThreeProducts : Type 0
ThreeProducts =
    (k s0 s1 a0 a1 : ℕ) → s0 < 2 ^ 2 ^ k → s1 < 2 ^ 2 ^ k → a0 < 2 ^ 2 ^ k → a1 < 2 ^ 2 ^ k
    → tower_mul (suc k) (pair (2 ^ k) s0 s1) (pair (2 ^ k) a0 a1)
    ≡ pair (2 ^ k) (bit_xor (tower_mul k s1 (bit_xor a0 a1)) (tower_mul k (bit_xor s0 s1) a0))
    (bit_xor (tower_mul k s1 (bit_xor a0 a1)) (tower_mul k (bit_xor (bit_xor s0 s1) (tower_mul k (root k) s1)) a1))

-- the multiples of the byte s: its products by 0, .., 15, and by 0, 16, .., 240
pub record AreMultiples (multiples : ByteMultiples) (s : ℕ) : Type 0 where
  pub of_low : (n : ℕ) → n < 16 → slice_index multiples.low n ≡ tower_mul 3 s n
  pub of_high : (n : ℕ) → n < 16 → slice_index multiples.high n ≡ tower_mul 3 s (n * 16)

-- the multiples of a scalar s0 + s1 X of level k + 1: those of s1, of s0 + s1 and of s0 + s1 + t s1, where t is the root of level k
abbrev pub AreMultiplesOfHalves : ℕ → {M : Type 0} → (M → ℕ → Type 0) → HalfMultiples M → ℕ → Type 0
AreMultiplesOfHalves k are multiples s =
    (s0 : ℕ) × (s1 : ℕ) × (s0 < 2 ^ 2 ^ k) × (s1 < 2 ^ 2 ^ k) × (s ≡ pair (2 ^ k) s0 s1) × are multiples.both s1
    × are multiples.low (bit_xor s0 s1) × are multiples.high (bit_xor (bit_xor s0 s1) (tower_mul k (root k) s1))

-- the scalar s has the halves low and high, of `half` bits each, and so many have their sum and the sums with the product by the root
pub record AreHalves (k half s low high product : ℕ) : Type 0 where
  pub half_is : half ≡ 2 ^ k
  pub low_fits : low < 2 ^ half
  pub high_fits : high < 2 ^ half
  pub sum_fits : bit_xor low high < 2 ^ half
  pub low_sum_fits : product ≡ tower_mul k (root k) high → bit_xor low product < 2 ^ half
  pub both_sum_fits : product ≡ tower_mul k (root k) high → bit_xor (bit_xor low high) product < 2 ^ half
  pub of_halves : s ≡ pair half low high

-- so has a number of so many bits those that low and high are, whatever product it is
abbrev pub HasHalves : ℕ → ℕ → ℕ → ℕ → Type 0
HasHalves bits s low high = (k product : ℕ) → bits ≡ 2 ^ suc k → s < 2 ^ bits → AreHalves k (bits / 2) s low high product
