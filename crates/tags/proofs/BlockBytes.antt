-- Blocks as numbers, the bytes in either order.
use Rattle.std.proofs.Common.{◌≡◌, ℕ, zero, suc, ◌+◌, ◌-◌, ◌*◌, ◌/◌, ◌%◌, ◌^◌, ◌<◌, ◌≤◌, List, length, get_or, refl, sym, ◌∙◌, ap}
use Rattle.std.proofs.Common.{arith, lit<, subst}
use Rattle.std.specs.Prelude.{reverse}
use Rattle.std.specs.Int.{byte_worth, from_be_bytes, from_le_bytes, sum_through, to_be_bytes, to_le_bytes, w128}
use Rattle.std.proofs.lemmas.List.{get_or-reverse}
use Rattle.std.proofs.Math.Nat.{div-div-eq-div-mul, mul-le-mul}
use native.Mathlib.Nat.{pow-suc, div-add-mod', div-eq_of_lt}
use Rattle.tags.specs.Blocks.{IsBlock}

-- a byte of a block with its bytes reversed
turned : (b : List ℕ) → length b ≡ 16 → (i : ℕ) → i < 16 → get_or (reverse b) i 0 ≡ get_or b (15 - i) 0
turned b whole i within =
    get_or-reverse b i 0 (omega (arith, whole, within)) ∙ ap (λ (k : ℕ). get_or b k 0) (omega (arith, whole))

-- the bytes of a block the other way round are read in the other order
pub from_reversed : (b : List ℕ) → length b ≡ 16 → from_be_bytes w128 (reverse b) ≡ from_le_bytes w128 b
from_reversed b whole =
    let at = turned b whole in
    omega (
      arith,
      at 0 (lit< tt),
      at 1 (lit< tt),
      at 2 (lit< tt),
      at 3 (lit< tt),
      at 4 (lit< tt),
      at 5 (lit< tt),
      at 6 (lit< tt),
      at 7 (lit< tt),
      at 8 (lit< tt),
      at 9 (lit< tt),
      at 10 (lit< tt),
      at 11 (lit< tt),
      at 12 (lit< tt),
      at 13 (lit< tt),
      at 14 (lit< tt),
      at 15 (lit< tt),
    )

pub reverse_to : (n : ℕ) → reverse (to_be_bytes w128 n) ≡ to_le_bytes w128 n
reverse_to n = refl

-- byte k of a number and those above it
byte_step : (n k : ℕ) → n / 256 ^ suc k * 256 + n / 256 ^ k % 256 ≡ n / 256 ^ k
byte_step n k =
    ap (λ (z : ℕ). z * 256 + n / 256 ^ k % 256)
    (ap (λ (z : ℕ). n / z) (pow-suc 256 k) ∙ sym (div-div-eq-div-mul n (256 ^ k) 256))
    ∙ div-add-mod' (n / 256 ^ k) 256

-- a number of 128 bits from its bytes
pub from_be-to_be : (n : ℕ) → n < 2 ^ 128 → from_be_bytes w128 (to_be_bytes w128 n) ≡ n
from_be-to_be n fits =
    let at = byte_step n in
    let top : n / 256 ^ 16 ≡ 0 = div-eq_of_lt fits in
    omega (arith, top, at 0, at 1, at 2, at 3, at 4, at 5, at 6, at 7, at 8, at 9, at 10, at 11, at 12, at 13, at 14, at 15)

-- k + 1 bytes are a number below 256 to the power of k + 1
pub sum-lt : (f : ℕ → ℕ) (k : ℕ) → ((i : ℕ) → i < suc k → f i < 256) → sum_through (λ i. byte_worth i (f i)) k < 256 ^ suc k
sum-lt f zero below = below 0 (lit< tt)
sum-lt f (suc k) below =
    let rest : sum_through (λ i. byte_worth i (f i)) k < 256 ^ suc k = sum-lt f k (λ i within. below i (omega (arith, within))) in
    let last : f (suc k) < 256 = below (suc k) (omega arith) in
    let least : f (suc k) ≤ 255 = omega (arith, last) in
    let same : 256 ^ suc k ≤ 256 ^ suc k = omega arith in
    let top : f (suc k) * 256 ^ suc k ≤ 255 * 256 ^ suc k = mul-le-mul least same in
    let next : 256 ^ suc (suc k) ≡ 256 ^ suc k * 256 = pow-suc 256 (suc k) in
    omega (arith, rest, top, next)

-- a block has 128 bits
pub from_le-lt : (b : List ℕ) → IsBlock b → from_le_bytes w128 b < 2 ^ 128
from_le-lt b is = sum-lt (λ i. get_or b i 0) 15 (λ i within. is.1 i 0 (subst (λ n. i < n) (sym is.0) within))
