-- The bytes of words in vectors of sixteen bytes.
use Rattle.std.proofs.Common.{◌≡◌, ◌⊎◌, inl, inr, ℕ, zero, suc, ◌+◌, ◌-◌, ◌*◌, ◌/◌, ◌%◌, ◌^◌, ◌<◌, ◌≤◌, List, [], ◌∷◌, length, get_or, map, refl, sym, ◌∙◌, ap, ap₂, subst, arith, lit<, w8, Fits}
use Rattle.std.specs.Prelude.{slice_index}
use Rattle.std.specs.Simd.Lanes.{Each1, chunk, digits_l, number_l, put_chunk}
use Rattle.std.proofs.Math.Nat.{div-div-eq-div-mul, div-le_self, div-lt_iff_lt-mul, le_of_mul-le-mul_right, lt_of_mul-lt-mul_right, mul-add-div_right, mul-add-mod_self_right, mul-le-mul_right, one-le-pow, pow-succ'}
use Rattle.std.proofs.lemmas.Nat.{div-add-mod', pow_pos}
use Rattle.std.proofs.Math.ListN.{set}
use Rattle.std.proofs.lemmas.List.{get_or-set_other, get_or-set_same, map-id}
use Rattle.std.proofs.lemmas.Simd.{Each1-chunk, Each1-from_get_or, below_from_Fits, get_or-chunk, get_or-put_chunk_above, get_or-put_chunk_at, get_or-put_chunk_below, get_or_narrower, get_or_wider}
use native.Mathlib.Nat.{mod-lt}
use Rattle.additive_transforms.specs.Units.{ArePut, AreUnits, byte_of, unit_of}

-- a unit of one byte
pub unit-byte : (bytes : ℕ → ℕ) (i : ℕ) → unit_of 0 bytes i ≡ bytes i
unfolding unit_of
unit-byte bytes i = refl

-- so many numbers have these bytes
pub room_for : (size start count long bytes : ℕ) → count * 2 ^ size ≡ bytes → start + count ≤ long
    → start * 2 ^ size + bytes ≤ long * 2 ^ size
room_for size start count long bytes whole inside =
    let total = mul-le-mul_right (2 ^ size) inside in omega (arith, total, whole)

-- a place in n numbers of c bytes each, which are sixteen
module _ (c n l : ℕ) (some : 0 < c) (whole : n * c ≡ 16) (below : l < 16) where
  number_inside : l / c < n
  number_inside = (div-lt_iff_lt-mul some).1 (subst (λ (b : ℕ). l < b) (sym whole) below)

  parts : c * (l / c) + l % c ≡ l
  parts = let is = div-add-mod' l c in omega (arith, is)

  place : c * (l / c) + l % c < 16
  place = subst (λ (p : ℕ). p < 16) (sym parts) below

-- byte l of the numbers from `start` on
byte-place : (size start first l x : ℕ) (numbers : List ℕ) → start * 2 ^ size ≡ first * 1
    → x ≡ slice_index numbers (start + l / 2 ^ size) / 256 ^ (l % 2 ^ size) % 256 → x ≡ unit_of 0 (byte_of size numbers) (first + l)
byte-place size start first l x numbers at is =
    let c = 2 ^ size in
    let same : start * c ≡ first = omega (arith, at) in
    is
    ∙ ap₂ (λ (k r : ℕ). slice_index numbers k / 256 ^ r % 256) (sym (mul-add-div_right (pow_pos size) start l))
    (sym (mul-add-mod_self_right start c l))
    ∙ sym (unit-byte (byte_of size numbers) (start * c + l))
    ∙ ap (λ (f : ℕ). unit_of 0 (byte_of size numbers) (f + l)) same

-- the bytes that are read
pub bytes_read : (size n start : ℕ) (words bytes : List ℕ) → n * 2 ^ size ≡ 16 → ((k : ℕ) → slice_index words k < 256 ^ 2 ^ size)
    → bytes ≡ digits_l 256 16 (number_l (256 ^ 2 ^ size) (chunk start n words))
    → AreUnits 0 size start 16 (slice_index bytes) words
bytes_read size n start words bytes whole fit is first at l below =
    let c = 2 ^ size in
    let some = pow_pos size in
    let j = l / c in
    let i = l % c in
    byte-place size start first l (slice_index bytes l) words at
    (ap (λ (p : ℕ). get_or bytes p 0) (sym (parts c n l some whole below))
    ∙ ap (λ (r : List ℕ). get_or r (c * j + i) 0) is
    ∙ get_or_narrower (256 ^ c) c 256 16 (chunk start n words) j i refl
    (Each1-chunk (λ x. x < 256 ^ c) start n words (Each1-from_get_or (λ x. x < 256 ^ c) words 0 (λ k inside. fit k)))
    (mod-lt l some) (place c n l some whole below)
    ∙ ap (λ (x : ℕ). x / 256 ^ i % 256) (get_or-chunk start n words j 0 (number_inside c n l some whole below)))

-- ---- bytes that are written

length-digits : (q n x : ℕ) → length (digits_l q n x) ≡ n
length-digits q zero x = refl
length-digits q (suc n) x = ap suc (length-digits q n (x / q))

digit-lt : (q n x i : ℕ) → 0 < q → get_or (digits_l q n x) i 0 < q
digit-lt q zero x i some = some
digit-lt q (suc n) x zero some = mod-lt x some
digit-lt q (suc n) x (suc i) some = digit-lt q n (x / q) i some

-- the digits of the number of a list of bytes are these
digit-number : (bytes : List ℕ) (i : ℕ) → Each1 (λ x. x < 256) bytes → number_l 256 bytes / 256 ^ i % 256 ≡ slice_index bytes i
digit-number [] i fit =
    let least = div-le_self 0 (256 ^ i) in
    let none : 0 / 256 ^ i ≡ 0 = omega (arith, least) in
    ap (λ (x : ℕ). x % 256) none
digit-number (b ∷ bytes) zero fit = let low = fit.0 in omega (arith, low)
digit-number (b ∷ bytes) (suc i) fit =
    let low = fit.0 in
    let rest : (b + 256 * number_l 256 bytes) / 256 ≡ number_l 256 bytes = omega (arith, low) in
    ap (λ (x : ℕ). x % 256)
    (ap (λ (p : ℕ). (b + 256 * number_l 256 bytes) / p) (pow-succ' 256 i)
    ∙ sym (div-div-eq-div-mul (b + 256 * number_l 256 bytes) 256 (256 ^ i))
    ∙ ap (λ (x : ℕ). x / 256 ^ i) rest)
    ∙ digit-number bytes i fit.1

-- sixteen bytes that are written over n words
module _ (size n start : ℕ) (old new bytes : List ℕ) (whole : n * 2 ^ size ≡ 16) (room : start * 2 ^ size + 16 ≤ length old * 2 ^ size)
    (fit : Each1 (Fits w8) bytes)
    (is : new ≡ put_chunk start old (digits_l (256 ^ 2 ^ size) n (number_l 256 bytes))) where
  abbrev digits : List ℕ
  digits = digits_l (256 ^ 2 ^ size) n (number_l 256 bytes)

  long : length digits ≡ n
  long = length-digits (256 ^ 2 ^ size) n (number_l 256 bytes)

  inside : start + n ≤ length old
  inside =
      let sum : (start + n) * 2 ^ size ≤ length old * 2 ^ size = omega (arith, room, whole) in
      le_of_mul-le-mul_right sum (pow_pos size)

  written : (j : ℕ) → j < n → slice_index new (start + j) ≡ get_or digits j 0
  written j few =
      ap (λ (r : List ℕ). get_or r (start + j) 0) is
      ∙ get_or-put_chunk_at start old digits j 0 (omega (arith, long, few)) (omega (arith, long, inside))

  below : Each1 (λ x. x < 256) bytes
  below = below_from_Fits w8 bytes fit

  put : AreUnits 0 size start 16 (slice_index bytes) new
  put first at l few =
      let c = 2 ^ size in
      let some = pow_pos size in
      let j = l / c in
      let i = l % c in
      let number = number_inside c n l some whole few in
      byte-place size start first l (slice_index bytes l) new at
      (ap (λ (p : ℕ). get_or bytes p 0) (sym (parts c n l some whole few))
      ∙ sym (get_or-chunk (c * j) c bytes i 0 (mod-lt l some))
      ∙ sym (digit-number (chunk (c * j) c bytes) i (Each1-chunk (λ x. x < 256) (c * j) c bytes below))
      ∙ ap (λ (x : ℕ). x / 256 ^ i % 256)
      (sym (written j number ∙ get_or_wider 256 c (256 ^ c) n bytes j refl below number)))

  fitting : (k : ℕ) → start ≤ k → k * 2 ^ size < start * 2 ^ size + 16 * 1 → slice_index new k < 256 ^ 2 ^ size
  fitting k past before =
      let sum : k * 2 ^ size < (start + n) * 2 ^ size = omega (arith, before, whole) in
      let early : k < start + n = lt_of_mul-lt-mul_right (2 ^ size) sum in
      let at : start + (k - start) ≡ k = omega (arith, past) in
      subst (λ (p : ℕ). slice_index new p < 256 ^ 2 ^ size) at
      (subst (λ (x : ℕ). x < 256 ^ 2 ^ size) (sym (written (k - start) (omega (arith, early, past))))
      (digit-lt (256 ^ 2 ^ size) n (number_l 256 bytes) (k - start) (one-le-pow (2 ^ size) 256 (lit< tt))))

  kept : (k : ℕ) → (k < start) ⊎ (start * 2 ^ size + 16 * 1 ≤ k * 2 ^ size) → slice_index new k ≡ slice_index old k
  kept k (inl before) = ap (λ (r : List ℕ). get_or r k 0) is ∙ get_or-put_chunk_below start old digits k 0 before
  kept k (inr past) =
      let sum : (start + n) * 2 ^ size ≤ k * 2 ^ size = omega (arith, past, whole) in
      let late : start + n ≤ k = le_of_mul-le-mul_right sum (pow_pos size) in
      ap (λ (r : List ℕ). get_or r k 0) is ∙ get_or-put_chunk_above start old digits k 0 (omega (arith, late, long))

  pub words_put : ArePut 0 size start 16 (slice_index bytes) old new
  words_put = record { put = put; fit = fitting; kept = kept }

-- ---- words that are their own numbers

-- the numbers that a vector of words has
pub own_words_read : (size n start : ℕ) (words bytes : List ℕ) → n * 2 ^ size ≡ 16 → ((k : ℕ) → slice_index words k < 256 ^ 2 ^ size)
    → bytes ≡ digits_l 256 16 (number_l (256 ^ 2 ^ size) (chunk start n words))
    → AreUnits 0 size start 16 (slice_index bytes) (map (λ x. x) words)
own_words_read size n start words bytes whole fit is =
    subst (AreUnits 0 size start 16 (slice_index bytes)) (sym (map-id words)) (bytes_read size n start words bytes whole fit is)

-- and those that are written
pub own_words_put : (size n start : ℕ) (old new bytes : List ℕ) → n * 2 ^ size ≡ 16 → start * 2 ^ size + 16 ≤ length old * 2 ^ size
    → Each1 (Fits w8) bytes → new ≡ put_chunk start old (digits_l (256 ^ 2 ^ size) n (number_l 256 bytes))
    → ArePut 0 size start 16 (slice_index bytes) (map (λ x. x) old) (map (λ x. x) new)
own_words_put size n start old new bytes whole room fit is =
    subst (λ (numbers : List ℕ). ArePut 0 size start 16 (slice_index bytes) numbers (map (λ x. x) new)) (sym (map-id old))
    (subst (ArePut 0 size start 16 (slice_index bytes) old) (sym (map-id new)) (words_put size n start old new bytes whole room fit is))

-- the digits of the number of a list of bytes, as a list
pub digits-number : (bytes : List ℕ) → Each1 (Fits w8) bytes → digits_l 256 (length bytes) (number_l 256 bytes) ≡ bytes
digits-number [] fit = refl
digits-number (b ∷ bytes) fit =
    let low = fit.0.fits in
    let digit : (b + 256 * number_l 256 bytes) % 256 ≡ b = omega (arith, low) in
    let rest : (b + 256 * number_l 256 bytes) / 256 ≡ number_l 256 bytes = omega (arith, low) in
    ap₂ (λ (d : ℕ) (ds : List ℕ). d ∷ ds) digit (ap (digits_l 256 (length bytes)) rest ∙ digits-number bytes fit.1)

-- sixteen bytes in a row
pub sixteen_digits : (bytes : List ℕ) → length bytes ≡ 16 → Each1 (Fits w8) bytes → digits_l 256 16 (number_l 256 bytes) ≡ bytes
sixteen_digits bytes long fit =
    subst (λ (n : ℕ). digits_l 256 n (number_l 256 bytes) ≡ bytes) long (digits-number bytes fit)

-- ---- one number of sixteen bytes

digit-at : (n x i : ℕ) → i < n → get_or (digits_l 256 n x) i 0 ≡ x / 256 ^ i % 256
digit-at zero x i below = absurd (omega (arith, below))
digit-at (suc n) x zero below = omega arith
digit-at (suc n) x (suc i) below =
    digit-at n (x / 256) i (omega (arith, below))
    ∙ ap (λ (y : ℕ). y % 256) (div-div-eq-div-mul x 256 (256 ^ i) ∙ ap (λ (p : ℕ). x / p) (sym (pow-succ' 256 i)))

number-lt : (bytes : List ℕ) → Each1 (λ x. x < 256) bytes → number_l 256 bytes < 256 ^ length bytes
number-lt [] fit = omega arith
number-lt (b ∷ bytes) fit =
    let low = fit.0 in
    let high = number-lt bytes fit.1 in
    let next = pow-succ' 256 (length bytes) in omega (arith, low, high, next)

-- byte l of the number at `start`
whole-place : (start first l x : ℕ) (numbers : List ℕ) → l < 16 → start * 2 ^ 4 ≡ first * 1
    → x ≡ slice_index numbers start / 256 ^ l % 256 → x ≡ unit_of 0 (byte_of 4 numbers) (first + l)
whole-place start first l x numbers below at is =
    let same : start ≡ start + l / 16 = omega (arith, below) in
    let byte : l ≡ l % 16 = omega (arith, below) in
    byte-place 4 start first l x numbers at (is ∙ ap₂ (λ (k r : ℕ). slice_index numbers k / 256 ^ r % 256) same byte)

-- that was read
pub number_read : (start x : ℕ) (numbers bytes : List ℕ) → slice_index numbers start ≡ x → bytes ≡ digits_l 256 16 x
    → AreUnits 0 4 start 16 (slice_index bytes) numbers
number_read start x numbers bytes there is first at l below =
    whole-place start first l (slice_index bytes l) numbers below at
    (ap (λ (r : List ℕ). get_or r l 0) is ∙ digit-at 16 x l below ∙ ap (λ (y : ℕ). y / 256 ^ l % 256) (sym there))

-- and one that was written
pub number_put : (start : ℕ) (old new bytes : List ℕ) → start < length old → length bytes ≡ 16 → Each1 (Fits w8) bytes
    → new ≡ set old start (number_l 256 bytes) → ArePut 0 4 start 16 (slice_index bytes) old new
number_put start old new bytes inside long fit is = record { put = put; fit = fitting; kept = kept }
  where
    below : Each1 (λ x. x < 256) bytes
    below = below_from_Fits w8 bytes fit

    there : slice_index new start ≡ number_l 256 bytes
    there = ap (λ (r : List ℕ). get_or r start 0) is ∙ get_or-set_same old start (number_l 256 bytes) 0 inside

    put : AreUnits 0 4 start 16 (slice_index bytes) new
    put first at l few =
        whole-place start first l (slice_index bytes l) new few at
        (sym (digit-number bytes l below) ∙ ap (λ (y : ℕ). y / 256 ^ l % 256) (sym there))

    fitting : (k : ℕ) → start ≤ k → k * 16 < start * 16 + 16 * 1 → slice_index new k < 256 ^ 16
    fitting k past before =
        let same : start ≡ k = omega (arith, past, before) in
        subst (λ (p : ℕ). slice_index new p < 256 ^ 16) same
        (subst (λ (x : ℕ). x < 256 ^ 16) (sym there) (subst (λ (n : ℕ). number_l 256 bytes < 256 ^ n) long (number-lt bytes below)))

    kept : (k : ℕ) → (k < start) ⊎ (start * 16 + 16 * 1 ≤ k * 16) → slice_index new k ≡ slice_index old k
    kept k (inl before) = ap (λ (r : List ℕ). get_or r k 0) is ∙ get_or-set_other old start k (number_l 256 bytes) 0 (λ same. absurd (omega (arith, before, same)))
    kept k (inr past) = ap (λ (r : List ℕ). get_or r k 0) is ∙ get_or-set_other old start k (number_l 256 bytes) 0 (λ same. absurd (omega (arith, past, same)))
