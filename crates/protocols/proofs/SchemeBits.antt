-- Bits of soundness of an opening with 2 ^ 7 places.
use Rattle.std.proofs.Common.{ℕ, suc, ◌+◌, ◌*◌, ◌^◌, ◌<◌, ◌≤◌, le_trans, arith, lit<, lit≤}
use Rattle.std.proofs.Math.Nat.{mul-le-mul, mul-le-mul_left, mul-le-mul_right, pow-le-pow_right}
use Rattle.protocols.specs.CommitmentScheme.{HasBits, HasMostBits, matrix_rows, opening_error, opening_whole, word_levels}

-- fewer bits are reached where more are
pub bits-fewer : (m n bits fewer : ℕ) → fewer ≤ bits → HasBits m n bits → HasBits m n fewer
bits-fewer m n bits fewer less bound = le_trans (mul-le-mul_right (opening_error 0 m n) (pow-le-pow_right (lit< tt) less)) bound

-- and more than the most are not
pub bits-more : (m n bits more : ℕ) → bits < more → HasMostBits m n bits → HasBits m n more → ⊥
bits-more m n bits more less top bound =
    apart (opening_whole m) (2 ^ suc bits * opening_error 0 m n) (2 ^ more * opening_error 0 m n) top.most
    (mul-le-mul_right (opening_error 0 m n) (pow-le-pow_right (lit< tt) less)) bound
  where
    apart : (whole least most : ℕ) → whole < least → least ≤ most → most ≤ whole → ⊥
    apart whole least most one two three = absurd (omega (arith, one, two, three))

-- (163 / 256) ^ 128 < 2 ^ -83 is most of the error with 2 ^ 7 places
pub seven-bits : (n : ℕ) → n ≤ 39 → HasMostBits 7 n 83
seven-bits n few = record {
  bound = le_trans (mul-le-mul_left (2 ^ 83) top) (lit≤ tt);
  most = le_trans least (mul-le-mul_left (2 ^ 84) bottom);
}
  where
    lucky : (0 + matrix_rows 7 n) * (34 * 2 ^ word_levels 7 n) ≤ 2 ^ 40
    lucky =
        le_trans (mul-le-mul (rows-few n few) (mul-le-mul_left 34 (pow-le-pow_right (lit< tt) (levels-few n few)))) (lit≤ tt)
      where
        rows-few : (n : ℕ) → n ≤ 39 → 0 + matrix_rows 7 n ≤ 16
        rows-few n few = omega (arith, few)

        levels-few : (n : ℕ) → n ≤ 39 → word_levels 7 n ≤ 25
        levels-few n few = omega (arith, few)

    top : opening_error 0 7 n ≤ 2 ^ 40 * 256 ^ 2 ^ 7 + 2 ^ 128 * 163 ^ 2 ^ 7
    top =
        roomy ((0 + matrix_rows 7 n) * (34 * 2 ^ word_levels 7 n) * 256 ^ 2 ^ 7) (2 ^ 40 * 256 ^ 2 ^ 7) (2 ^ 128 * 163 ^ 2 ^ 7)
        (mul-le-mul_right (256 ^ 2 ^ 7) lucky)
      where
        roomy : (a b c : ℕ) → a ≤ b → a + c ≤ b + c
        roomy a b c less = omega (arith, less)

    bottom : 2 ^ 128 * 163 ^ 2 ^ 7 ≤ opening_error 0 7 n
    bottom = roomy ((0 + matrix_rows 7 n) * (34 * 2 ^ word_levels 7 n) * 256 ^ 2 ^ 7) (2 ^ 128 * 163 ^ 2 ^ 7)
      where
        roomy : (a b : ℕ) → b ≤ a + b
        roomy a b = omega arith

    least : opening_whole 7 < 2 ^ 84 * (2 ^ 128 * 163 ^ 2 ^ 7)
    least = lit< tt
