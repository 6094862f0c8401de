-- Squares by the halves of bytes: a table of the squares of four bits, read in lanes, and the squares of all halves, in turn,
-- as the bytes of the square of the whole.
use Rattle.std.proofs.Common.{◌≡◌, ℕ, zero, suc, ◌+◌, ◌*◌, ◌/◌, ◌%◌, ◌^◌, ◌<◌, Bool, true, List, [], ◌∷◌, ◌++◌, length, get_or, map, eqb, refl, sym, ◌∙◌, ap, ap₂, subst, arith, lit<, lit≤, w8, Fits}
use Rattle.std.specs.Prelude.{bit_xor, slice_index}
use Rattle.std.specs.Simd.Lanes.{Each1, digits_l, number_l, pick_l}
use Rattle.std.proofs.lemmas.Bool.{eqb-true}
use Rattle.std.proofs.lemmas.Nat.{xor_comm, shl_whole}
use native.Mathlib.Nat.{mul_assoc, mul_comm, mod-lt, zero-add, pow-suc}
use lib.Bits.{xor_shifted}
use Rattle.field_base.specs.Carryless.{carryless, carryless_in}
use Rattle.field_base.proofs.CarrylessProduct.{carryless_lt}
use Rattle.field_base.proofs.TableChecks.{passes, passes_at}
use Rattle.word_carryless.proofs.Squares.{halves}

-- ---- the table

-- the table of the code: the carryless squares of the numbers below 16
abbrev pub nibble_squares : List ℕ
nibble_squares = 0x00 ∷ 0x01 ∷ 0x04 ∷ 0x05 ∷ 0x10 ∷ 0x11 ∷ 0x14 ∷ 0x15 ∷ 0x40 ∷ 0x41 ∷ 0x44 ∷ 0x45 ∷ 0x50 ∷ 0x51 ∷ 0x54 ∷ 0x55 ∷ []

-- whether an entry is the carryless square of its place
abbrev is_square : ℕ → ℕ → Bool
is_square n square = eqb square (carryless n n)

-- every entry is the square of its place (computed)
squares_pass : passes is_square 0 nibble_squares ≡ true
unfolding passes carryless carryless_in
squares_pass = refl

-- entry n is the carryless square of n
entry : (n : ℕ) → n < 16 → get_or nibble_squares n 0 ≡ carryless n n
entry n below =
    eqb-true (get_or nibble_squares n 0) (carryless (0 + n) (0 + n)) (passes_at is_square 0 nibble_squares n squares_pass below)
    ∙ ap (λ (m : ℕ). carryless m m) (zero-add n)

-- the square of four bits is a byte
square_fits : (n : ℕ) → n < 16 → carryless n n < 256
square_fits n below = carryless_lt 4 4 n n below below

-- the square of the low four bits of each byte
abbrev pub low_squares_of : List ℕ → List ℕ
low_squares_of = map (λ byte. carryless (byte % 16) (byte % 16))

-- the square of the high four bits of each byte
abbrev pub high_squares_of : List ℕ → List ℕ
high_squares_of = map (λ byte. carryless (byte / 16) (byte / 16))

-- the entries of the table at them
pub low_entries : (bytes : List ℕ) → map (λ byte. slice_index nibble_squares (byte % 16)) bytes ≡ low_squares_of bytes
low_entries [] = refl
low_entries (byte ∷ bytes) = ap₂ (λ (x : ℕ) (xs : List ℕ). x ∷ xs) (entry (byte % 16) (mod-lt byte (lit< tt))) (low_entries bytes)

pub high_entries : (bytes : List ℕ) → Each1 (Fits w8) bytes → map (λ byte. slice_index nibble_squares (byte / 16)) bytes ≡ high_squares_of bytes
high_entries [] fits = refl
high_entries (byte ∷ bytes) fits =
    let byte_fits = fits.0.fits in
    ap₂ (λ (x : ℕ) (xs : List ℕ). x ∷ xs) (entry (byte / 16) (omega arith)) (high_entries bytes fits.1)

-- ---- numbers and their bytes

-- 256^(n + 1) = 256 * 256^n
power_more : (n : ℕ) → 256 ^ suc n ≡ 256 * 256 ^ n
power_more n = pow-suc 256 n ∙ mul_comm (256 ^ n) 256

-- the number of n bytes is below 256^n
number_lt : (bytes : List ℕ) → Each1 (Fits w8) bytes → number_l 256 bytes < 256 ^ length bytes
number_lt [] fits = lit< tt
number_lt (byte ∷ bytes) fits =
    let low = fits.0.fits in
    let rest = number_lt bytes fits.1 in
    let whole = power_more (length bytes) in omega arith

-- the number of two lists of bytes, one after the other
number-append : (xs ys : List ℕ) → number_l 256 (xs ++ ys) ≡ number_l 256 xs + 256 ^ length xs * number_l 256 ys
number-append [] ys = omega arith
number-append (x ∷ xs) ys =
    let rest = number-append xs ys in
    let power = 256 ^ length xs in
    let higher = number_l 256 ys in
    let moved : 256 ^ suc (length xs) * higher ≡ 256 * (power * higher) =
    ap (λ (z : ℕ). z * higher) (power_more (length xs)) ∙ mul_assoc 256 power higher in
    omega arith

-- the number of the n lowest bytes of x is x, if x fits
pub number-digits : (n x : ℕ) → x < 256 ^ n → number_l 256 (digits_l 256 n x) ≡ x
number-digits zero x fits = omega arith
number-digits (suc n) x fits =
    let whole = power_more n in
    let higher : x / 256 < 256 ^ n = omega arith in
    let rest = number-digits n (x / 256) higher in omega arith

-- the digits of a number to base 256 are bytes
digits_below : (n x : ℕ) → Each1 (λ byte. byte < 256) (digits_l 256 n x)
digits_below zero x = tt
digits_below (suc n) x = (mod-lt x (lit< tt), digits_below n (x / 256))

-- as two words make it
pub number_of : (bytes : List ℕ) → length bytes ≡ 16 → Each1 (Fits w8) bytes
    → bit_xor (number_l 256 bytes / 2 ^ 64 % 2 ^ 64 * 2 ^ 64 % 2 ^ 128) (number_l 256 bytes % 2 ^ 64) ≡ number_l 256 bytes
number_of bytes long fits =
    let number = number_l 256 bytes in
    let low = number % 2 ^ 64 in
    let high = number / 2 ^ 64 % 2 ^ 64 in
    let below : number < 256 ^ 16 = subst (λ (n : ℕ). number < 256 ^ n) long (number_lt bytes fits) in
    ap (λ (z : ℕ). bit_xor z low) (shl_whole high 64 64 128 (mod-lt (number / 2 ^ 64) (lit< tt)) (lit≤ tt))
    ∙ xor_shifted high 64 low (mod-lt number (lit< tt))
    ∙ omega arith

-- ---- squares by bytes

-- the squares of both halves of each byte
abbrev spread : List ℕ → List ℕ
spread [] = []
spread (byte ∷ bytes) = carryless (byte % 16) (byte % 16) ∷ carryless (byte / 16) (byte / 16) ∷ spread bytes

-- the square of a byte has the squares of its two halves as bytes
square_of_byte : (byte : ℕ) → byte < 256 → carryless byte byte ≡ carryless (byte / 16) (byte / 16) * 256 + carryless (byte % 16) (byte % 16)
square_of_byte byte fits =
    let low = carryless (byte % 16) (byte % 16) in
    let high = carryless (byte / 16) (byte / 16) in
    halves 4 byte (byte % 16) (byte / 16) low high (mod-lt byte (lit< tt)) (omega arith) refl refl
    ∙ xor_comm low (high * 16 * 16)
    ∙ ap (λ (z : ℕ). bit_xor z low) (mul_assoc high 16 16)
    ∙ xor_shifted high 8 low (square_fits (byte % 16) (mod-lt byte (lit< tt)))

-- the square of no bytes is 0
square_of_none : 0 ≡ carryless 0 0
unfolding carryless carryless_in
square_of_none = refl

-- the squares of the halves of the bytes, in turn, are the bytes of the square of the number
square_of_bytes : (bytes : List ℕ) → Each1 (λ byte. byte < 256) bytes
    → number_l 256 (spread bytes) ≡ carryless (number_l 256 bytes) (number_l 256 bytes)
square_of_bytes [] fits = square_of_none
square_of_bytes (byte ∷ bytes) fits =
    let rest = number_l 256 bytes in
    let low = carryless byte byte in
    let high = carryless rest rest in
    let joined : carryless (byte + 256 * rest) (byte + 256 * rest) ≡ high * 2 ^ 16 + low =
    halves 8 (byte + 256 * rest) byte rest low high fits.0 (omega arith) refl refl
    ∙ xor_comm low (high * 256 * 256)
    ∙ ap (λ (z : ℕ). bit_xor z low) (mul_assoc high 256 256)
    ∙ xor_shifted high 16 low (carryless_lt 8 8 byte byte fits.0 fits.0) in
    let squared = square_of_bytes bytes fits.1 in
    let byte_squared = square_of_byte byte fits.0 in
    omega arith

-- the bytes of the square, from those of the low halves and of the high halves, in turn
abbrev first_half : List ℕ
first_half = 0 ∷ 16 ∷ 1 ∷ 17 ∷ 2 ∷ 18 ∷ 3 ∷ 19 ∷ 4 ∷ 20 ∷ 5 ∷ 21 ∷ 6 ∷ 22 ∷ 7 ∷ 23 ∷ []

-- the places of the high sixteen bytes of the square, among the squares of the low halves (0 to 15) and of the high (16 to 31)
abbrev second_half : List ℕ
second_half = 8 ∷ 24 ∷ 9 ∷ 25 ∷ 10 ∷ 26 ∷ 11 ∷ 27 ∷ 12 ∷ 28 ∷ 13 ∷ 29 ∷ 14 ∷ 30 ∷ 15 ∷ 31 ∷ []

-- the code's square of a double word is the carryless square
pub carryless_square_128 : (x first second : ℕ) (bytes low high : List ℕ) → x < 2 ^ 128 → bytes ≡ digits_l 256 16 x
    → low ≡ low_squares_of bytes → high ≡ high_squares_of bytes
    → first ≡ number_l 256 (pick_l 0 (low ++ high) first_half) → second ≡ number_l 256 (pick_l 0 (low ++ high) second_half)
    → carryless x x ≡ second * 2 ^ 128 + first
carryless_square_128 x first second bytes low high fits of_bytes of_low of_high of_first of_second =
    ap (λ (z : ℕ). carryless z z) (sym (number-digits 16 x fits))
    ∙ sym (square_of_bytes digits (digits_below 16 x))
    ∙ number-append (woven first_half) (woven second_half)
    ∙ ap₂ (λ (a b : ℕ). a + 2 ^ 128 * b) (sym first_is) (sym second_is)
    ∙ exchanged first second
  where
    exchanged : (a b : ℕ) → a + 2 ^ 128 * b ≡ b * 2 ^ 128 + a
    exchanged a b = omega arith

    digits : List ℕ
    digits = digits_l 256 16 x

    woven : List ℕ → List ℕ
    woven = pick_l 0 (low_squares_of digits ++ high_squares_of digits)

    of_woven : (places : List ℕ) → number_l 256 (pick_l 0 (low ++ high) places) ≡ number_l 256 (woven places)
    of_woven places =
        ap₂ (λ (l h : List ℕ). number_l 256 (pick_l 0 (l ++ h) places)) (of_low ∙ ap low_squares_of of_bytes)
        (of_high ∙ ap high_squares_of of_bytes)

    first_is : first ≡ number_l 256 (woven first_half)
    first_is = of_first ∙ of_woven first_half

    second_is : second ≡ number_l 256 (woven second_half)
    second_is = of_second ∙ of_woven second_half
