-- One byte of a word, read and put there.
use Rattle.std.proofs.Common.{◌≡◌, ℕ, ◌+◌, ◌-◌, ◌*◌, ◌/◌, ◌%◌, ◌^◌, ◌<◌, ◌≤◌, sym, ◌∙◌, ap, arith}
use Rattle.std.proofs.Math.Nat.{lt_of_lt_of_le}
use Rattle.std.proofs.Math.Pow.{mod-mod-pow, pow_mono}
use Rattle.std.proofs.lemmas.Nat.{field_of, pow-add, pow_pos, shr-shr, shr_high}
use native.Mathlib.Nat.{mod-eq_of_lt, mul-add-mod_self_left, mul_assoc}
use Rattle.field_base.specs.Chunks.{chunk}
use Rattle.field_base.specs.Quadratic.{pair}
use Rattle.field_base.proofs.ChunkLists.{more-lt}

-- one byte more fits a number of 16 bytes, and is put there whole
pub byte_placed : (i b : ℕ) → i < 16 → b < 2 ^ 8 → b * 2 ^ (8 * i) % 2 ^ 128 ≡ b * 2 ^ (8 * i)
byte_placed i b few fits =
    mod-eq_of_lt (lt_of_lt_of_le (more-lt 8 i (b * 2 ^ (8 * i)) b 0 (pow_pos (8 * i)) fits (omega arith)) (pow_mono {j = 128} (omega (arith, few))))

-- a byte above a number of i bytes fits where byte i does
pub sum_fits : (i b number placed bits : ℕ) → 8 * i + 8 ≤ bits → b < 2 ^ 8 → number < 2 ^ (8 * i) → placed ≡ b * 2 ^ (8 * i)
    → placed + number < 2 ^ bits
sum_fits i b number placed bits within fits below is =
    lt_of_lt_of_le (more-lt 8 i (placed + number) b number below fits (omega (arith, is))) (pow_mono {i = 8 * (i + 1)} {j = bits} (omega (arith, within)))

-- ---- two parts of 64 bits and more

-- the bytes of the lower part
pub low_byte : (i high low : ℕ) → i < 8 → chunk 8 i (pair 64 low high) ≡ chunk 8 i low
low_byte i high low first =
    sym (field_of (pair 64 low high) 8 (8 * i)) ∙ ap (λ (n : ℕ). n / 2 ^ (8 * i)) same ∙ field_of low 8 (8 * i)
  where
    bits : 64 ≡ (64 - (8 + 8 * i)) + (8 + 8 * i)
    bits = omega (arith, first)

    shorter : (n : ℕ) → n % 2 ^ (8 + 8 * i) ≡ n % 2 ^ 64 % 2 ^ (8 + 8 * i)
    shorter n = sym (ap (λ (k : ℕ). n % 2 ^ k % 2 ^ (8 + 8 * i)) bits ∙ mod-mod-pow n (64 - (8 + 8 * i)) (8 + 8 * i))

    same : pair 64 low high % 2 ^ (8 + 8 * i) ≡ low % 2 ^ (8 + 8 * i)
    same =
        shorter (pair 64 low high)
        ∙ ap (λ (n : ℕ). n % 2 ^ (8 + 8 * i)) (ap (λ (n : ℕ). n % 2 ^ 64) (omega arith) ∙ mul-add-mod_self_left (2 ^ 64) high low)
        ∙ sym (shorter low)

-- bytes 8 and up of a pair of words are those of the upper word
pub high_byte : (i high low : ℕ) → 8 ≤ i → low < 2 ^ 64 → chunk 8 i (pair 64 low high) ≡ chunk 8 (i - 8) high
high_byte i high low later fits =
    let bits : 8 * i ≡ 64 + 8 * (i - 8) = omega (arith, later) in
    ap (λ (k : ℕ). pair 64 low high / 2 ^ k % 2 ^ 8) bits
    ∙ ap (λ (n : ℕ). n % 2 ^ 8) (sym (shr-shr (pair 64 low high) 64 (8 * (i - 8))) ∙ ap (λ (n : ℕ). n / 2 ^ (8 * (i - 8))) (shr_high high 64 low fits))

-- 2 ^ (8 i) = 2 ^ (8 (i - 8)) 2 ^ 64, for i of at least 8
power : (i : ℕ) → 8 ≤ i → 2 ^ (8 * i) ≡ 2 ^ (8 * (i - 8)) * 2 ^ 64
power i later =
    let bits : 8 * i ≡ 8 * (i - 8) + 64 = omega (arith, later) in ap (λ (k : ℕ). 2 ^ k) bits ∙ pow-add 2 (8 * (i - 8)) 64

-- a bound of both parts is one of the upper part
pub high_below : (i high low : ℕ) → 8 ≤ i → pair 64 low high < 2 ^ (8 * i) → high < 2 ^ (8 * (i - 8))
high_below i high low later below = let is = power i later in omega (arith, is, below)

-- a byte of the upper part is worth 2^64 times as much
pub high_worth : (i b : ℕ) → 8 ≤ i → b * 2 ^ (8 * i) ≡ b * 2 ^ (8 * (i - 8)) * 2 ^ 64
high_worth i b later = ap (λ (n : ℕ). b * n) (power i later) ∙ sym (mul_assoc b (2 ^ (8 * (i - 8))) (2 ^ 64))
