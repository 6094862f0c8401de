-- Three words of 64 bits and their 24 bytes: a byte that is read and put there, and the words of all bytes.
use Rattle.std.proofs.Common.{◌≡◌, ℕ, ◌+◌, ◌-◌, ◌*◌, ◌/◌, ◌^◌, ◌<◌, ◌≤◌, sym, ◌∙◌, ap, ap₂, arith, List, drop, get_or, length, take}
use Rattle.std.specs.Int.{from_le_bytes, w64}
use Rattle.std.specs.Simd.{first_chunks}
use Rattle.std.proofs.lemmas.List.{length-drop, length-take-le, take-append-drop, take_all}
use Rattle.field_base.specs.Chunks.{chunk}
use Rattle.field_base.specs.Quadratic.{pair}
use Rattle.word_polynomial.specs.Cubic.{triple}
use Rattle.field_bytes.specs.Bytes.{number_of_bytes}
use Rattle.field_bytes.proofs.Placing.{high_below, high_byte, high_worth, low_byte}
use Rattle.field_bytes.proofs.Taking.{number-append}
use Rattle.field_bytes.proofs.WordBytes.{of_eight}

-- bytes 0 to 7 of a triple of words are those of its first word
pub first_byte : (i c0 c1 c2 : ℕ) → i < 8 → chunk 8 i c0 ≡ chunk 8 i (triple 64 c0 c1 c2)
first_byte i c0 c1 c2 place = sym (low_byte i (pair 64 c1 c2) c0 place)

-- bytes 8 to 15 of a triple of words are those of its second word
pub second_byte : (i c0 c1 c2 : ℕ) → 8 ≤ i → i < 16 → c0 < 2 ^ 64 → chunk 8 (i - 8) c1 ≡ chunk 8 i (triple 64 c0 c1 c2)
second_byte i c0 c1 c2 later place fits =
    sym (high_byte i (pair 64 c1 c2) c0 later fits ∙ low_byte (i - 8) c2 c1 (omega (arith, later, place)))

-- bytes 16 and up of a triple of words are those of its third word
pub third_byte : (i c0 c1 c2 : ℕ) → 16 ≤ i → c0 < 2 ^ 64 → c1 < 2 ^ 64 → chunk 8 (i - 16) c2 ≡ chunk 8 i (triple 64 c0 c1 c2)
third_byte i c0 c1 c2 later fits0 fits1 =
    let is : i - 8 - 8 ≡ i - 16 = omega arith in
    sym (high_byte i (pair 64 c1 c2) c0 (omega (arith, later)) fits0 ∙ high_byte (i - 8) c2 c1 (omega (arith, later)) fits1
    ∙ ap (λ (k : ℕ). chunk 8 k c2) is)

-- the second word is below what bounds the triple, eight bytes lower
pub second_below : (i c0 c1 c2 : ℕ) → 8 ≤ i → triple 64 c0 c1 c2 < 2 ^ (8 * i) → c1 < 2 ^ (8 * (i - 8))
second_below i c0 c1 c2 later below =
    let upper : pair 64 c1 c2 < 2 ^ (8 * (i - 8)) = high_below i (pair 64 c1 c2) c0 later below in omega (arith, upper)

-- the third word is below what bounds the triple, sixteen bytes lower
pub third_below : (i c0 c1 c2 : ℕ) → 16 ≤ i → triple 64 c0 c1 c2 < 2 ^ (8 * i) → c2 < 2 ^ (8 * (i - 16))
third_below i c0 c1 c2 later below =
    let is : i - 8 - 8 ≡ i - 16 = omega arith in
    let upper : c2 < 2 ^ (8 * (i - 8 - 8)) =
    high_below (i - 8) c2 c1 (omega (arith, later)) (high_below i (pair 64 c1 c2) c0 (omega (arith, later)) below) in
    rw is at upper

-- a byte put into the second word is put eight bytes higher in the triple
pub second_put : (i b c0 c1 c2 new : ℕ) → 8 ≤ i → new ≡ b * 2 ^ (8 * (i - 8)) + c1 → triple 64 c0 new c2 ≡ b * 2 ^ (8 * i) + triple 64 c0 c1 c2
second_put i b c0 c1 c2 new later is = let worth = high_worth i b later in omega (arith, is, worth)

-- a byte put into the third word is put sixteen bytes higher in the triple
pub third_put : (i b c0 c1 c2 new : ℕ) → 16 ≤ i → new ≡ b * 2 ^ (8 * (i - 16)) + c2 → triple 64 c0 c1 new ≡ b * 2 ^ (8 * i) + triple 64 c0 c1 c2
third_put i b c0 c1 c2 new later is =
    let same : i - 8 - 8 ≡ i - 16 = omega arith in
    let worth : b * 2 ^ (8 * i) ≡ b * 2 ^ (8 * (i - 16)) * 2 ^ 64 * 2 ^ 64 =
    high_worth i b (omega (arith, later)) ∙ ap (λ (n : ℕ). n * 2 ^ 64) (high_worth (i - 8) b (omega (arith, later)) ∙ ap (λ (k : ℕ). b * 2 ^ (8 * k) * 2 ^ 64) same) in
    omega (arith, is, worth)

-- ---- the words of 24 bytes

-- eight bytes or more: the number of the first eight, and the others above it
above_eight : (bs : List ℕ) → 8 ≤ length bs → number_of_bytes bs ≡ pair 64 (number_of_bytes (take 8 bs)) (number_of_bytes (drop 8 bs))
above_eight bs room =
    ap number_of_bytes (sym (take-append-drop 8 bs)) ∙ number-append (take 8 bs) (drop 8 bs)
    ∙ ap (λ (k : ℕ). number_of_bytes (drop 8 bs) * 2 ^ (8 * k) + number_of_bytes (take 8 bs)) (length-take-le 8 bs room)
    ∙ omega arith

-- the word of the first eight bytes is their number
eight_first : (bs : List ℕ) → 8 ≤ length bs → from_le_bytes w64 (take 8 bs) ≡ number_of_bytes (take 8 bs)
eight_first bs room = of_eight (take 8 bs) (length-take-le 8 bs room)

-- three words of 24 bytes
pub of_three_words : (bs d : List ℕ) (words : List (List ℕ)) → length bs ≡ 24 → words ≡ first_chunks 8 (length bs / 8) bs
    → triple 64 (from_le_bytes w64 (get_or words 0 d)) (from_le_bytes w64 (get_or words 1 d)) (from_le_bytes w64 (get_or words 2 d))
    ≡ number_of_bytes bs
of_three_words bs d words long is =
    ap (λ ws. triple 64 (from_le_bytes w64 (get_or ws 0 d)) (from_le_bytes w64 (get_or ws 1 d)) (from_le_bytes w64 (get_or ws 2 d)))
    (is ∙ ap (λ (k : ℕ). first_chunks 8 (k / 8) bs) long)
    ∙ ap₂ (λ (x y : ℕ). pair 64 x y) (eight_first bs (omega (arith, long)))
    (ap₂ (λ (x y : ℕ). pair 64 x y) (eight_first (drop 8 bs) (omega (arith, rest)))
    (eight_first (drop 8 (drop 8 bs)) (omega (arith, last)) ∙ ap number_of_bytes (take_all 8 (drop 8 (drop 8 bs)) (omega (arith, last))))
    ∙ sym (above_eight (drop 8 bs) (omega (arith, rest))))
    ∙ sym (above_eight bs (omega (arith, long)))
  where
    rest : length (drop 8 bs) ≡ 16
    rest = omega (arith, long, length-drop 8 bs)

    last : length (drop 8 (drop 8 bs)) ≡ 8
    last = omega (arith, rest, length-drop 8 (drop 8 bs))
