-- The bytes of a product by x^8 modulo the polynomial of GHASH: a shift, and what is looked up for the byte that leaves the word.
use Rattle.std.proofs.Common.{◌≡◌, ℕ, suc, ◌+◌, ◌*◌, ◌/◌, ◌%◌, ◌^◌, ◌<◌, true, List, [], ◌∷◌, refl, sym, ◌∙◌, ap, ap₂, arith, lit<}
use Rattle.std.specs.Prelude.{bit_xor, slice_index}
use Rattle.std.proofs.Math.Nat.{zero-div}
use Rattle.std.proofs.Math.Pow.{field, mod-mod-pow}
use Rattle.std.proofs.lemmas.Nat.{xor_comm, xor_mod, xor_shr, shr-shr, pow-add}
use native.Mathlib.Nat.{div-eq_of_lt, mod-eq_of_lt, mod-lt, mul-div-mul_right}
use lib.Bits.{xor_shifted, xor_zero_r}
use Rattle.field_base.specs.Carryless.{carryless, carryless_in}
use Rattle.field_base.specs.Remainder.{ghash_modulus, rem}
use Rattle.field_base.proofs.CarrylessProduct.{carryless_lt, sum_carryless, zero_carryless}
use Rattle.field_base.proofs.RemainderLaws.{rem_small}
use Rattle.field_base.proofs.RemainderRing.{mul_mod-rem}
use Rattle.field_base.proofs.TableChecks.{passes, tabulates, tabulates_at}
use Rattle.field_base.proofs.ValueLemmas.{carryless_power}
use Rattle.word_carryless.specs.Tail.{ghash_tail}
use Rattle.word_carryless.proofs.TailFolds.{fold_128}
use Rattle.ghash_slices.specs.LowStages.{ghash_product}

-- byte k of a number
abbrev pub byte : ℕ → ℕ → ℕ
byte k x = x / 2 ^ (8 * k) % 256

-- byte `row` of the product of a byte and the tail of the polynomial, without carries
abbrev pub byte_of_tail : ℕ → ℕ → ℕ
byte_of_tail row b = carryless b ghash_tail / 2 ^ (8 * row) % 256

-- a byte of a sum is the sum of the bytes
pub byte_sum : (k a b : ℕ) → byte k (bit_xor a b) ≡ bit_xor (byte k a) (byte k b)
byte_sum k a b = ap (λ (z : ℕ). z % 256) (xor_shr a b (8 * k)) ∙ xor_mod (a / 2 ^ (8 * k)) (b / 2 ^ (8 * k)) 8

-- ---- products by a power of x

-- what fits is only shifted
pub only_shifted : (n k : ℕ) → n < 2 ^ 128 → 2 ^ k < 2 ^ 128 → n * 2 ^ k < 2 ^ 128 → ghash_product n (2 ^ k) ≡ n * 2 ^ k
only_shifted n k fits power_fits product_fits =
    mul_mod-rem 128 ghash_modulus refl n (2 ^ k) fits power_fits ∙ ap (rem 128 ghash_modulus) (carryless_power n k)
    ∙ rem_small 128 ghash_modulus refl (n * 2 ^ k) product_fits

-- the product of a byte by the tail of the modulus has two bytes
tail_fits : (h : ℕ) → h < 256 → carryless h ghash_tail < 2 ^ 16
tail_fits h fits = carryless_lt 8 8 h ghash_tail fits (lit< tt)

-- the product by x^8: a shift, and for what leaves the word its product by the tail
times_256 : (y : ℕ) → y < 2 ^ 128 → ghash_product y 256 ≡ bit_xor (y * 256 % 2 ^ 128) (carryless (y / 2 ^ 120) ghash_tail)
times_256 y fits =
    mul_mod-rem 128 ghash_modulus refl y 256 fits (lit< tt)
    ∙ ap (rem 128 ghash_modulus) (carryless_power y 8 ∙ split)
    ∙ fold_128.remainder (y * 256 % 2 ^ 128) (y / 2 ^ 120) (mod-lt (y * 256) (lit< tt)) (omega arith)
    ∙ ap₂ bit_xor (ap (bit_xor (y * 256 % 2 ^ 128)) (mod-eq_of_lt small)) none
    ∙ xor_zero_r (bit_xor (y * 256 % 2 ^ 128) (carryless (y / 2 ^ 120) ghash_tail))
  where
    split : y * 256 ≡ y / 2 ^ 120 * 2 ^ 128 + y * 256 % 2 ^ 128
    split = omega arith

    top : y / 2 ^ 120 < 256
    top = omega arith

    small : carryless (y / 2 ^ 120) ghash_tail < 2 ^ 128
    small = let two = tail_fits (y / 2 ^ 120) top in omega (arith, two)

    none : carryless (carryless (y / 2 ^ 120) ghash_tail / 2 ^ 128) ghash_tail % 2 ^ 128 ≡ 0
    none =
        ap (λ (n : ℕ). carryless n ghash_tail % 2 ^ 128) (div-eq_of_lt small)
        ∙ ap (λ (n : ℕ). n % 2 ^ 128) (zero_carryless ghash_tail)

-- ---- the bytes of the product by x^8

-- the lowest byte of a shift by a byte
shifted_first : (y : ℕ) → byte 0 (y * 256 % 2 ^ 128) ≡ 0
shifted_first y = omega arith

-- the others are those of the number
shifted_other : (k r y : ℕ) → k + r ≡ 14 → byte (suc k) (y * 256 % 2 ^ 128) ≡ byte k y
shifted_other k r y few =
    ap (λ (n : ℕ). y * 256 % 2 ^ n / 2 ^ (8 * suc k) % 256) whole
    ∙ ap (λ (z : ℕ). z % 256) (field (y * 256) (8 * r + 8) (8 * suc k))
    ∙ mod-mod-pow (y * 256 / 2 ^ (8 * suc k)) (8 * r) 8
    ∙ ap (λ (z : ℕ). z % 256) moved
  where
    whole : 128 ≡ 8 * r + 8 + 8 * suc k
    whole = omega arith

    next : 8 * suc k ≡ 8 * k + 8
    next = omega arith

    moved : y * 256 / 2 ^ (8 * suc k) ≡ y / 2 ^ (8 * k)
    moved =
        ap (λ (z : ℕ). y * 256 / z) (ap (λ (n : ℕ). 2 ^ n) next ∙ pow-add 2 (8 * k) 8)
        ∙ mul-div-mul_right y (2 ^ (8 * k)) (lit< tt)

-- past two bytes a number of two has none
past_two : (k c : ℕ) → c < 2 ^ 16 → byte (suc (suc k)) c ≡ 0
past_two k c fits =
    let next : 8 * suc (suc k) ≡ 16 + 8 * k = omega arith in
    ap (λ (n : ℕ). c / 2 ^ n % 256) next
    ∙ ap (λ (z : ℕ). z % 256) (sym (shr-shr c 16 (8 * k)) ∙ ap (λ (z : ℕ). z / 2 ^ (8 * k)) (div-eq_of_lt fits) ∙ zero-div (2 ^ (8 * k)))

module _ (y : ℕ) (fits : y < 2 ^ 128) where
  abbrev tail_of_top : ℕ
  tail_of_top = carryless (y / 2 ^ 120) ghash_tail

  two_bytes : tail_of_top < 2 ^ 16
  two_bytes = tail_fits (y / 2 ^ 120) (omega arith)

  -- the first byte is that of the product by the tail
  pub first_byte : byte 0 (ghash_product y 256) ≡ tail_of_top % 256
  first_byte =
      ap (byte 0) (times_256 y fits) ∙ byte_sum 0 (y * 256 % 2 ^ 128) tail_of_top
      ∙ ap (λ (z : ℕ). bit_xor z (byte 0 tail_of_top)) (shifted_first y)
      ∙ xor_comm 0 (byte 0 tail_of_top) ∙ xor_zero_r (byte 0 tail_of_top)
      ∙ (let whole : tail_of_top / 2 ^ (8 * 0) ≡ tail_of_top = omega arith in ap (λ (z : ℕ). z % 256) whole)

  -- the second has the other byte of it
  pub second_byte : byte 1 (ghash_product y 256) ≡ bit_xor (byte 0 y) (tail_of_top / 256 % 256)
  second_byte =
      ap (byte 1) (times_256 y fits) ∙ byte_sum 1 (y * 256 % 2 ^ 128) tail_of_top
      ∙ ap (λ (z : ℕ). bit_xor z (byte 1 tail_of_top)) (shifted_other 0 14 y refl)

  -- the others moved up
  pub other_byte : (k r : ℕ) → suc k + r ≡ 14 → byte (suc (suc k)) (ghash_product y 256) ≡ byte (suc k) y
  other_byte k r few =
      ap (byte (suc (suc k))) (times_256 y fits) ∙ byte_sum (suc (suc k)) (y * 256 % 2 ^ 128) tail_of_top
      ∙ ap₂ bit_xor (shifted_other (suc k) r y few) (past_two k tail_of_top two_bytes)
      ∙ xor_zero_r (byte (suc k) y)

-- ---- the tables of the tail

-- the tables of the code
abbrev pub low_tails_low : List ℕ
low_tails_low = 0 ∷ 135 ∷ 14 ∷ 137 ∷ 28 ∷ 155 ∷ 18 ∷ 149 ∷ 56 ∷ 191 ∷ 54 ∷ 177 ∷ 36 ∷ 163 ∷ 42 ∷ 173 ∷ []

abbrev pub low_tails_high : List ℕ
low_tails_high = 0 ∷ 0 ∷ 1 ∷ 1 ∷ 2 ∷ 2 ∷ 3 ∷ 3 ∷ 4 ∷ 4 ∷ 5 ∷ 5 ∷ 6 ∷ 6 ∷ 7 ∷ 7 ∷ []

abbrev pub high_tails_low : List ℕ
high_tails_low = 0 ∷ 112 ∷ 224 ∷ 144 ∷ 192 ∷ 176 ∷ 32 ∷ 80 ∷ 128 ∷ 240 ∷ 96 ∷ 16 ∷ 64 ∷ 48 ∷ 160 ∷ 208 ∷ []

abbrev pub high_tails_high : List ℕ
high_tails_high = 0 ∷ 8 ∷ 16 ∷ 24 ∷ 33 ∷ 41 ∷ 49 ∷ 57 ∷ 67 ∷ 75 ∷ 83 ∷ 91 ∷ 98 ∷ 106 ∷ 114 ∷ 122 ∷ []

-- they are computed
low_low_checked : tabulates (λ n. carryless n ghash_tail % 256) low_tails_low ≡ true
unfolding tabulates passes carryless carryless_in
low_low_checked = refl

low_high_checked : tabulates (λ n. carryless n ghash_tail / 256 % 256) low_tails_high ≡ true
unfolding tabulates passes carryless carryless_in
low_high_checked = refl

high_low_checked : tabulates (λ n. carryless (n * 16) ghash_tail % 256) high_tails_low ≡ true
unfolding tabulates passes carryless carryless_in
high_low_checked = refl

high_high_checked : tabulates (λ n. carryless (n * 16) ghash_tail / 256 % 256) high_tails_high ≡ true
unfolding tabulates passes carryless carryless_in
high_high_checked = refl

-- a byte is the sum of its halves
pub two_halves : (h : ℕ) → bit_xor (h % 16) (h / 16 * 16) ≡ h
two_halves h = xor_comm (h % 16) (h / 16 * 16) ∙ xor_shifted (h / 16) 4 (h % 16) (mod-lt h (lit< tt)) ∙ omega arith

-- so its product by the tail is the sum of theirs
tail_halves : (h : ℕ) → carryless h ghash_tail ≡ bit_xor (carryless (h % 16) ghash_tail) (carryless (h / 16 * 16) ghash_tail)
tail_halves h = ap (λ (n : ℕ). carryless n ghash_tail) (sym (two_halves h)) ∙ sum_carryless (h % 16) (h / 16 * 16) ghash_tail

pub tail_low : (h : ℕ) → h < 256
    → bit_xor (slice_index low_tails_low (h % 16)) (slice_index high_tails_low (h / 16)) ≡ byte_of_tail 0 h
tail_low h fits =
    let digit : h % 16 < 16 = omega arith in
    let other : h / 16 < 16 = omega arith in
    ap₂ bit_xor (tabulates_at (λ n. carryless n ghash_tail % 256) low_tails_low (h % 16) low_low_checked digit)
    (tabulates_at (λ n. carryless (n * 16) ghash_tail % 256) high_tails_low (h / 16) high_low_checked other)
    ∙ sym (xor_mod (carryless (h % 16) ghash_tail) (carryless (h / 16 * 16) ghash_tail) 8)
    ∙ ap (λ (z : ℕ). z % 256) (sym (tail_halves h))
    ∙ (let whole : carryless h ghash_tail ≡ carryless h ghash_tail / 2 ^ (8 * 0) = omega arith in ap (λ (z : ℕ). z % 256) whole)

pub tail_high : (h : ℕ) → h < 256
    → bit_xor (slice_index low_tails_high (h % 16)) (slice_index high_tails_high (h / 16)) ≡ byte_of_tail 1 h
tail_high h fits =
    let digit : h % 16 < 16 = omega arith in
    let other : h / 16 < 16 = omega arith in
    ap₂ bit_xor (tabulates_at (λ n. carryless n ghash_tail / 256 % 256) low_tails_high (h % 16) low_high_checked digit)
    (tabulates_at (λ n. carryless (n * 16) ghash_tail / 256 % 256) high_tails_high (h / 16) high_high_checked other)
    ∙ sym (byte_sum 1 (carryless (h % 16) ghash_tail) (carryless (h / 16 * 16) ghash_tail))
    ∙ ap (λ (z : ℕ). z / 256 % 256) (sym (tail_halves h))
