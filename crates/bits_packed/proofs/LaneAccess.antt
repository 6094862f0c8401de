-- One lane read and written.
use Rattle.std.proofs.Common.{◌≡◌, ◌≢◌, ℕ, ◌+◌, ◌*◌, ◌/◌, ◌%◌, ◌^◌, ◌<◌, ◌≤◌, ◌-◌, sym, ap, ap₂, ◌∙◌, lit<, arith, subst, inl, inr, ◌⊎◌}
use Rattle.std.specs.Int.{bit_at}
use Rattle.std.proofs.lemmas.Bool.{cases_eq, cases_lt}
use Rattle.std.proofs.lemmas.Nat.{div-mul-add, div_below, pow-add, pow_below}
use Rattle.std.proofs.lemmas.Nat.Bits.{bit_at_lowest}
use Rattle.std.proofs.Math.Nat.{mul_comm}
use Rattle.std.proofs.Math.Pow.{pow_mono}
use native.Mathlib.Nat.{mod-lt, mod-eq_of_lt}
use Rattle.field_base.specs.Chunks.{chunk}
use Rattle.packed_lanes.specs.Parts.{IsBlockSize, IsWithField, IsWithPart}
use Rattle.packed_lanes.proofs.BlockLemmas.{block_divides, lanes_of, place-split}
use Rattle.packed_lanes.proofs.LaneLemmas.{power_some}
use Rattle.bits_packed.specs.Lanes.{IsWithLane}

-- lane j of `count` words lies in one of them
pub part_below : (w count j : ℕ) → 0 < w → j < w * count → j / w < count
part_below w count j some less = div_below j w count some (subst (λ (n : ℕ). j < n) (mul_comm w count) less)

-- a lane is a bit of its word
pub lane_of_word : (w n lane : ℕ) → 0 < w → bit_at (chunk w (lane / w) n) (lane % w) ≡ bit_at n lane
lane_of_word w n lane some = sym (lanes_of w n (lane / w) (lane % w) lane (mod-lt lane some) (place-split w lane))

-- lanes of the same word and the same bit there are the same
same_place : (w i j : ℕ) → i / w ≡ j / w → i % w ≡ j % w → i ≡ j
same_place w i j quotient remainder =
    let first = place-split w i in
    let second = place-split w j in
    let product : w * (i / w) ≡ w * (j / w) = ap (λ (n : ℕ). w * n) quotient in
    omega arith

-- writing a bit of a word in its row writes one lane of the row, and keeps the others
pub lane_set : (w count n lane v x r : ℕ) → 0 < w → lane < w * count → v < 2
    → IsWithField w (lane % w) 1 (chunk w (lane / w) n) v x → IsWithPart w count n (lane / w) x r → IsWithLane (w * count) n lane v r
lane_set w count n lane v x r some less bit field written = (here, others)
  where
    here : bit_at r lane ≡ v
    here =
        let none : lane % w + 0 ≡ lane % w = omega arith in
        sym (lane_of_word w r lane some) ∙ ap (λ (z : ℕ). bit_at z (lane % w)) written.0
        ∙ ap (bit_at x) (sym none) ∙ field.0 0 (lit< tt) ∙ bit_at_lowest v ∙ mod-eq_of_lt bit

    others : (j : ℕ) → j < w * count → j ≢ lane → bit_at r j ≡ bit_at n j
    others j within other = cases (cases_eq (j / w) (lane / w))
      where
        in_word : (j / w ≡ lane / w) → (j % w ≢ lane % w) → bit_at x (j % w) ≡ bit_at (chunk w (lane / w) n) (j % w)
        in_word same differs = side (cases_lt (j % w) (lane % w))
          where
            side : (j % w < lane % w) ⊎ (lane % w ≤ j % w) → bit_at x (j % w) ≡ bit_at (chunk w (lane / w) n) (j % w)
            side (inl below) = field.1 (j % w) below
            side (inr above) = field.2 (j % w) (grind arith) (mod-lt j some)

        cases : (j / w ≡ lane / w) ⊎ (j / w ≢ lane / w) → bit_at r j ≡ bit_at n j
        cases (inl same) =
            sym (lane_of_word w r j some) ∙ ap (λ (z : ℕ). bit_at (chunk w z r) (j % w)) same
            ∙ ap (λ (z : ℕ). bit_at z (j % w)) written.0
            ∙ in_word same (λ remainder. other (same_place w j lane same remainder))
            ∙ ap (λ (z : ℕ). bit_at (chunk w z n) (j % w)) (sym same) ∙ lane_of_word w n j some
        cases (inr apart) =
            sym (lane_of_word w r j some)
            ∙ ap (λ (z : ℕ). bit_at z (j % w)) (written.1 (j / w) (part_below w count j some within) apart)
            ∙ lane_of_word w n j some

-- a block of at least a word is some words
higher_power : (k a : ℕ) → 2 ^ a ≤ 2 ^ k → a ≤ k
higher_power k a more = cases (cases_lt k a)
  where
    cases : (k < a) ⊎ (a ≤ k) → a ≤ k
    cases (inl h) = let less = pow_below k a h in absurd (omega arith)
    cases (inr h) = h

-- a block that is no shorter than a word is 2^e words
pub words_of_block : (w a block width : ℕ) → w ≡ 2 ^ a → IsBlockSize width block → w ≤ block → (e : ℕ) × (block ≡ 2 ^ e * w)
words_of_block w a block width power size more =
    let up : 2 ^ a ≤ 2 ^ size.0 = subst (λ (x : ℕ). 2 ^ a ≤ x) size.1 (subst (λ (x : ℕ). x ≤ block) power more) in
    let order = higher_power size.0 a up in
    let places : size.0 - a + a ≡ size.0 = omega arith in (
      size.0 - a,
      size.1 ∙ ap (λ (x : ℕ). 2 ^ x) (sym places) ∙ pow-add 2 (size.0 - a) a ∙ ap (λ (x : ℕ). 2 ^ (size.0 - a) * x) (sym power),
    )

-- such a block is a whole number of words
pub whole_words : (w a block width : ℕ) → 0 < w → w ≡ 2 ^ a → IsBlockSize width block → w ≤ block → w * (block / w) ≡ block
whole_words w a block width some power size more =
    let words = words_of_block w a block width power size more in
    let count : block / w ≡ 2 ^ words.0 = ap (λ (x : ℕ). x / w) (words.1 ∙ omega arith) ∙ div-mul-add (2 ^ words.0) w 0 some in
    ap (λ (x : ℕ). w * x) count ∙ mul_comm w (2 ^ words.0) ∙ sym words.1

-- whole_words, where the code names the bits of a word
pub block_of_words : (w a block width : ℕ) {bits : ℕ} → w ≡ 2 ^ a → IsBlockSize width block → bits ≡ w → bits ≤ block → w * (block / bits) ≡ block
block_of_words w a block width {bits} power size is more =
    ap (λ (z : ℕ). w * (block / z)) is
    ∙ whole_words w a block width (power_some a w power) power size (subst (λ (z : ℕ). z ≤ block) is more)

-- the words of such a block are a block of words
pub word_block : (w a count block : ℕ) → 0 < w → w ≡ 2 ^ a → IsBlockSize (w * count) block → w ≤ block → IsBlockSize count (block / w)
word_block w a count block some power size more =
    let words = words_of_block w a block (w * count) power size more in
    let number : block / w ≡ 2 ^ words.0 = ap (λ (x : ℕ). x / w) (words.1 ∙ omega arith) ∙ div-mul-add (2 ^ words.0) w 0 some in
    (words.0, number, part_below w count block some size.2)

-- the bits of a row are a power of two
pub row_bits : (bits w count a b : ℕ) → bits ≡ w * count → w ≡ 2 ^ a → count ≡ 2 ^ b → bits ≡ 2 ^ (a + b)
row_bits bits w count a b is word words = is ∙ ap₂ (λ (x y : ℕ). x * y) word words ∙ sym (pow-add 2 a b)

-- a row is a whole number of two blocks
pub row_divides : (bits w count a b block : ℕ) → bits ≡ w * count → w ≡ 2 ^ a → count ≡ 2 ^ b → IsBlockSize bits block
    → (q : ℕ) × (bits ≡ q * (2 * block))
row_divides bits w count a b block is word words size = block_divides bits (a + b) block (row_bits bits w count a b is word words) size

-- ---- in the terms of the code, which names the word and the place in it

-- lane_of_word, in the terms of the code: the word is read, its bit shifted to the lowest place, and masked
pub lane_get_at : (w n lane index place word bit r : ℕ) → 0 < w → index ≡ lane / w → place ≡ lane % w → word ≡ chunk w index n
    → bit ≡ word / 2 ^ place % 2 → r ≡ bit % 2 → r ≡ bit_at n lane
lane_get_at w n lane index place word bit r some at_index at_place at_word at_bit is =
    is ∙ ap (λ (z : ℕ). z % 2) at_bit ∙ mod-eq_of_lt (mod-lt (word / 2 ^ place) (lit< tt))
    ∙ ap₂ (λ (x y : ℕ). x / 2 ^ y % 2) (at_word ∙ ap (λ (p : ℕ). chunk w p n) at_index) at_place ∙ lane_of_word w n lane some

-- lane_set, in the terms of the code: a word of the row is read, changed in one bit, and written back
pub lane_set_at : (w count n lane index place word v x r : ℕ) → 0 < w → lane < w * count → v < 2
    → index ≡ lane / w → place ≡ lane % w → word ≡ chunk w index n
    → IsWithField w place 1 word v x → IsWithPart w count n index x r → IsWithLane (w * count) n lane v r
lane_set_at w count n lane index place word v x r some less bit at_index at_place at_word field written =
    lane_set w count n lane v x r some less bit
    (subst (λ (z : ℕ). IsWithField w z 1 (chunk w (lane / w) n) v x) at_place
    (subst (λ (z : ℕ). IsWithField w place 1 z v x) (at_word ∙ ap (λ (p : ℕ). chunk w p n) at_index) field))
    (subst (λ (z : ℕ). IsWithPart w count n z x r) at_index written)

-- a word has room for a bit
pub two_fit : (w : ℕ) → 0 < w → 2 ≤ 2 ^ w
two_fit w some = pow_mono {i = 1} {j = w} some
