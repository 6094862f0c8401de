-- A carryless square is the word with its bits spread, since squaring keeps sums; and squares by halves.
use Rattle.std.proofs.Common.{◌≡◌, ℕ, ◌+◌, ◌*◌, ◌%◌, ◌^◌, ◌<◌, true, List, [], ◌∷◌, refl, sym, ◌∙◌, ap, ap₂, lit≤}
use Rattle.std.specs.Prelude.{bit_xor, bit_and}
use Rattle.std.proofs.lemmas.Nat.{xor_comm, xor_mod, shl_whole}
use native.Mathlib.Nat.{mul_assoc}
use lib.Bits.{xor_assoc}
use Rattle.field_base.specs.Carryless.{carryless, carryless_in}
use Rattle.field_base.proofs.RingLemmas.{xor_cancel, xor_exchange}
use Rattle.field_base.proofs.CarrylessProduct.{xor_shl, carryless_comm, carryless_sum, sum_carryless, carryless_shl, shl_carryless}
use Rattle.field_base.proofs.AdditiveMaps.{KeepsSums, maps_agree, agree_on_powers, agree_on_powers-true}
use Rattle.word_carryless.specs.Spread.{spread_step}
use Rattle.word_carryless.proofs.Classes.{xor_and}
use Rattle.word_carryless.proofs.FieldSteps.{steps, steps-sum}
use Rattle.word_carryless.proofs.Halves.{split_xor}

-- ---- a square keeps sums

-- (a + b)² = a² + b²
pub square_sum : (a b : ℕ) → carryless (bit_xor a b) (bit_xor a b) ≡ bit_xor (carryless a a) (carryless b b)
square_sum a b =
    sum_carryless a b (bit_xor a b)
    ∙ ap₂ bit_xor (carryless_sum a a b) (carryless_sum b a b ∙ ap (λ (z : ℕ). bit_xor z (carryless b b)) (carryless_comm b a))
    ∙ cancelled (carryless a a) (carryless a b) (carryless b b)
  where
    cancelled : (p q r : ℕ) → bit_xor (bit_xor p q) (bit_xor q r) ≡ bit_xor p r
    cancelled p q r = xor_assoc p q (bit_xor q r) ∙ ap (bit_xor p) (xor_cancel q r)

-- ---- spreading keeps sums

-- a shift, a sum and a mask of the code keep sums
step-sum : (s m : ℕ) → KeepsSums (spread_step s m)
step-sum s m a b =
    ap (λ (z : ℕ). bit_and (bit_xor (bit_xor a b) z) m)
    (ap (λ (z : ℕ). z % 2 ^ 64) (sym (xor_shl s a b)) ∙ xor_mod (a * 2 ^ s) (b * 2 ^ s) 64)
    ∙ ap (λ (z : ℕ). bit_and z m) (xor_exchange a b (a * 2 ^ s % 2 ^ 64) (b * 2 ^ s % 2 ^ 64))
    ∙ xor_and (bit_xor a (a * 2 ^ s % 2 ^ 64)) (bit_xor b (b * 2 ^ s % 2 ^ 64)) m

-- the shifts and masks of the code
abbrev moves : List (ℕ × ℕ)
moves =
    (16, 0x0000_ffff_0000_ffff) ∷ (8, 0x00ff_00ff_00ff_00ff) ∷ (4, 0x0f0f_0f0f_0f0f_0f0f) ∷ (2, 0x3333_3333_3333_3333)
    ∷ (1, 0x5555_5555_5555_5555) ∷ []

-- the code's steps, one after another
abbrev spread : ℕ → ℕ
spread = steps spread_step moves

-- at the 32 powers of two they are squares, by computation
powers_agree : agree_on_powers spread (λ x. carryless x x) 32 ≡ true
unfolding steps carryless carryless_in
powers_agree = refl

-- the spread bits of half a word are its carryless square (its values at the powers of two are computed)
spread-square : (x : ℕ) → x < 2 ^ 32 → spread x ≡ carryless x x
spread-square =
    maps_agree spread (λ x. carryless x x) (steps-sum spread_step step-sum moves) square_sum 32
    (agree_on_powers-true spread (λ x. carryless x x) 32 powers_agree)

-- the steps one after another, as the code calls them
pub spread_32 : (x a b c d e : ℕ) → x < 2 ^ 32 → a ≡ spread_step 16 0x0000_ffff_0000_ffff x
    → b ≡ spread_step 8 0x00ff_00ff_00ff_00ff a → c ≡ spread_step 4 0x0f0f_0f0f_0f0f_0f0f b
    → d ≡ spread_step 2 0x3333_3333_3333_3333 c → e ≡ spread_step 1 0x5555_5555_5555_5555 d → e ≡ carryless x x
unfolding steps
spread_32 x a b c d e fits of_a of_b of_c of_d of_e =
    of_e
    ∙ ap (spread_step 1 0x5555_5555_5555_5555)
    (of_d
    ∙ ap (spread_step 2 0x3333_3333_3333_3333)
    (of_c
    ∙ ap (spread_step 4 0x0f0f_0f0f_0f0f_0f0f) (of_b ∙ ap (spread_step 8 0x00ff_00ff_00ff_00ff) of_a)))
    ∙ spread-square x fits

-- ---- squares by halves

-- (x0 + x1 X)² = x0² + x1² X², where X is the shift by w places
pub halves : (w x x0 x1 low high : ℕ) → x0 < 2 ^ w → x ≡ x1 * 2 ^ w + x0 → low ≡ carryless x0 x0 → high ≡ carryless x1 x1
    → carryless x x ≡ bit_xor low (high * 2 ^ w * 2 ^ w)
halves w x x0 x1 low high fits of_x of_low of_high =
    ap (λ (z : ℕ). carryless z z) (split_xor w x x0 x1 fits of_x)
    ∙ square_sum x0 (x1 * 2 ^ w)
    ∙ ap₂ bit_xor (sym of_low)
    (carryless_shl w (x1 * 2 ^ w) x1
    ∙ ap (λ (z : ℕ). z * 2 ^ w) (shl_carryless w x1 x1 ∙ ap (λ (z : ℕ). z * 2 ^ w) (sym of_high)))

-- the carryless square of a word from those of its halves
pub carryless_square_64 : (x x0 x1 low high : ℕ) → x0 < 2 ^ 32 → high < 2 ^ 64 → x ≡ x1 * 2 ^ 32 + x0
    → low ≡ carryless x0 x0 → high ≡ carryless x1 x1 → bit_xor (high * 2 ^ 64 % 2 ^ 128) low ≡ carryless x x
carryless_square_64 x x0 x1 low high low_fits fits of_x of_low of_high =
    ap (λ (z : ℕ). bit_xor z low) (shl_whole high 64 64 128 fits (lit≤ tt) ∙ sym (mul_assoc high (2 ^ 32) (2 ^ 32)))
    ∙ xor_comm (high * 2 ^ 32 * 2 ^ 32) low ∙ sym (halves 32 x x0 x1 low high low_fits of_x of_low of_high)
