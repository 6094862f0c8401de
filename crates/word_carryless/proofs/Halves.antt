-- A number by its halves: what it has from bit w on, and the w bits below.
use Rattle.std.proofs.Common.{◌≡◌, ℕ, ◌+◌, ◌-◌, ◌*◌, ◌/◌, ◌%◌, ◌^◌, ◌<◌, sym, ◌∙◌, ap}
use Rattle.std.specs.Prelude.{bit_and, bit_xor}
use Rattle.std.proofs.lemmas.Nat.{and_mask, shl_below, shr_split, xor_comm}
use native.Mathlib.Nat.{mod-eq_of_lt}
use lib.Bits.{xor_shifted}

-- x = (x / 2^w) 2^w + (the low w bits of x, under a mask)
masked_halves : (w x : ℕ) → x ≡ x / 2 ^ w * 2 ^ w + bit_and x (2 ^ w - 1)
masked_halves w x = sym (ap (λ (y : ℕ). x / 2 ^ w * 2 ^ w + y) (and_mask x w) ∙ shr_split x w)

-- as the code takes them
pub halves_64 : (x : ℕ) → x ≡ x / 2 ^ 32 * 2 ^ 32 + bit_and x 0xffff_ffff
halves_64 = masked_halves 32

-- the two words of a double word
pub halves_128 : (x : ℕ) → x ≡ x / 2 ^ 64 * 2 ^ 64 + bit_and x 0xffff_ffff_ffff_ffff
halves_128 = masked_halves 64

-- the halves as a sum of polynomials
pub split_xor : (w x low high : ℕ) → low < 2 ^ w → x ≡ high * 2 ^ w + low → x ≡ bit_xor low (high * 2 ^ w)
split_xor w x low high fits of_x = of_x ∙ sym (xor_shifted high w low fits) ∙ xor_comm (high * 2 ^ w) low

-- the double word of two words, as the code joins them
pub joined_halves_128 : (low high : ℕ) → low < 2 ^ 64 → high < 2 ^ 64 → bit_xor (high * 2 ^ 64 % 2 ^ 128) low ≡ high * 2 ^ 64 + low
joined_halves_128 low high low_fits high_fits =
    ap (λ (z : ℕ). bit_xor z low) (mod-eq_of_lt (shl_below high 64 64 high_fits)) ∙ xor_shifted high 64 low low_fits
