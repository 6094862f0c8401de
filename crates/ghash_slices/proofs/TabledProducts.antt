-- Products of a scalar by digits in memory, and the sums of them that are products by whole words.
use Rattle.std.proofs.Common.{◌≡◌, ◌⊎◌, inl, inr, ℕ, ◌+◌, ◌-◌, ◌*◌, ◌/◌, ◌%◌, ◌^◌, ◌<◌, ◌≤◌, List, [], ◌∷◌, length, sym, ◌∙◌, ap, ap₂, arith, lit<}
use Rattle.std.specs.Prelude.{bit_xor, slice_index}
use Rattle.std.specs.Simd.Lanes.{zip2}
use Rattle.std.proofs.Math.Nat.{mul_assoc, pow-le-pow_right, zero-mul}
use Rattle.std.proofs.lemmas.Bool.{cases_lt}
use Rattle.std.proofs.lemmas.Nat.{mod-pow-add, pow-add, pow_pos, shl_below, shr_split, xor_comm, xor_mod, xor_shr}
use native.Mathlib.Nat.{mod-eq_of_lt, mod-lt, mul-one}
use lib.Bits.{xor_shifted}
use Rattle.field_base.proofs.CarrylessProduct.{xor_shl}
use Rattle.field_base.proofs.RemainderRing.{ghash_ring}
use Rattle.field_base.proofs.RingLemmas.{times-zero}
use Rattle.ghash_slices.specs.Blocks.{HoldsPlaces}
use Rattle.ghash_slices.specs.LowStages.{ghash_product}
use Rattle.ghash_slices.specs.SplitWords.{digit_product, two_words}
use Rattle.ghash_slices.proofs.ShiftedBytes.{only_shifted}

-- ---- the entries

-- a digit in its place is below x^128
digit_fits : (i d : ℕ) → i < 32 → d < 16 → d * 2 ^ (4 * i) < 2 ^ 128
digit_fits i d few small =
    let below : d * 2 ^ (4 * i) < 2 ^ (4 + 4 * i) = shl_below d 4 (4 * i) small in
    let order : 4 + 4 * i ≤ 128 = omega arith in
    let most : 2 ^ (4 + 4 * i) ≤ 2 ^ 128 = pow-le-pow_right (lit< tt) order in
    omega (arith, below, most)

-- a multiple of the scalar times x^(4 i) is that by the digit in its place
digit_of_row : (s i d : ℕ) → i < 32 → d < 16 → ghash_product (ghash_product s (2 ^ (4 * i))) d ≡ ghash_product s (d * 2 ^ (4 * i))
digit_of_row s i d few small =
    let power_fits : 2 ^ (4 * i) < 2 ^ 128 = let one = digit_fits i 1 few (lit< tt) in omega arith in
    ghash_ring.assoc s (2 ^ (4 * i)) d
    ∙ ap (ghash_product s)
    (ghash_ring.comm (2 ^ (4 * i)) d ∙ only_shifted d (4 * i) (omega arith) power_fits (digit_fits i d few small))

-- one row more
pub row_held : (s i : ℕ) (old new row : List ℕ) → i < 32 → length old ≡ 512 → ((p : ℕ) → p < 16 * i → slice_index old p ≡ digit_product s p)
    → ((d : ℕ) → d < 16 → slice_index row d ≡ ghash_product (ghash_product s (2 ^ (4 * i))) d)
    → HoldsPlaces (λ p. slice_index row (p - 16 * i)) (16 * i) (16 * i + 16) old new
    → (p : ℕ) → p < 16 * (i + 1) → slice_index new p ≡ digit_product s p
row_held s i old new row few long so_far multiples written p below = pick (cases_lt p (16 * i))
  where
    pick : (p < 16 * i) ⊎ (16 * i ≤ p) → slice_index new p ≡ digit_product s p
    pick (inl earlier) = written.before p earlier ∙ so_far p earlier
    pick (inr later) =
        let small : p - 16 * i < 16 = omega (arith, below, later) in
        let digit : p - 16 * i ≡ p % 16 = omega (arith, below, later) in
        let place : i ≡ p / 16 = omega (arith, below, later) in
        written.here p later (omega (arith, below)) (omega (arith, below, few, long)) ∙ multiples (p - 16 * i) small ∙ digit_of_row s i (p - 16 * i) few small
        ∙ ap₂ (λ (d n : ℕ). ghash_product s (d * 2 ^ (4 * n))) digit place

-- ---- the sums

-- the words of a sum
sum_of_words : (a b : ℕ) → zip2 bit_xor (two_words a) (two_words b) ≡ two_words (bit_xor a b)
sum_of_words a b = ap₂ (λ (x y : ℕ). x ∷ y ∷ []) (sym (xor_mod a b 64)) (sym (xor_shr a b 64))

-- the words of a sum of products
pub sum_of_products : (s x y : ℕ) → zip2 bit_xor (two_words (ghash_product s x)) (two_words (ghash_product s y)) ≡ two_words (ghash_product s (bit_xor x y))
sum_of_products s x y = sum_of_words (ghash_product s x) (ghash_product s y) ∙ ap two_words (sym (ghash_ring.over_sum s x y))

-- of no digits
pub no_digits : (s word first : ℕ) → 0 ∷ 0 ∷ [] ≡ two_words (ghash_product s (word % 2 ^ (4 * 0) * 2 ^ (4 * first)))
no_digits s word first =
    let none : word % 1 ≡ 0 = omega arith in
    let nothing : 0 ≡ word % 1 * 2 ^ (4 * first) = sym (ap (λ (z : ℕ). z * 2 ^ (4 * first)) none ∙ zero-mul (2 ^ (4 * first))) in
    ap two_words (sym (times-zero 128 1 ghash_product ghash_ring s) ∙ ap (ghash_product s) nothing)

-- a digit in its place is as far up as its word
moved : (digit k first : ℕ) → digit * 2 ^ (4 * (first + k)) ≡ digit * 2 ^ (4 * k) * 2 ^ (4 * first)
moved digit k first =
    let places : 4 * (first + k) ≡ 4 * k + 4 * first = omega arith in
    ap (λ (n : ℕ). digit * 2 ^ n) places ∙ ap (λ (z : ℕ). digit * z) (pow-add 2 (4 * k) (4 * first))
    ∙ sym (mul_assoc digit (2 ^ (4 * k)) (2 ^ (4 * first)))

-- the digits before and the next one
digits_joined : (word first k : ℕ)
    → bit_xor (word % 2 ^ (4 * k) * 2 ^ (4 * first)) (word / 2 ^ (4 * k) % 16 * 2 ^ (4 * (first + k))) ≡ word % 2 ^ (4 * (k + 1)) * 2 ^ (4 * first)
digits_joined word first k =
    let bits : 4 + 4 * k ≡ 4 * (k + 1) = omega arith in
    ap (bit_xor (word % 2 ^ (4 * k) * 2 ^ (4 * first))) (moved (word / 2 ^ (4 * k) % 16) k first)
    ∙ xor_shl (4 * first) (word % 2 ^ (4 * k)) (word / 2 ^ (4 * k) % 16 * 2 ^ (4 * k))
    ∙ ap (λ (z : ℕ). z * 2 ^ (4 * first))
    (xor_comm (word % 2 ^ (4 * k)) (word / 2 ^ (4 * k) % 16 * 2 ^ (4 * k))
    ∙ xor_shifted (word / 2 ^ (4 * k) % 16) (4 * k) (word % 2 ^ (4 * k)) (mod-lt word (pow_pos (4 * k)))
    ∙ sym (mod-pow-add word 4 (4 * k)) ∙ ap (λ (n : ℕ). word % 2 ^ n) bits)

-- an entry by its row and its digit
entry_is : (s row digit : ℕ) (entries : List ℕ) → row < 32 → digit < 16 → ((p : ℕ) → p < 512 → slice_index entries p ≡ digit_product s p)
    → slice_index entries (16 * row + digit) ≡ ghash_product s (digit * 2 ^ (4 * row))
entry_is s row digit entries few small are =
    let same_digit : (16 * row + digit) % 16 ≡ digit = omega (arith, small) in
    let same_row : (16 * row + digit) / 16 ≡ row = omega (arith, small) in
    are (16 * row + digit) (omega (arith, few, small)) ∙ ap₂ (λ (d n : ℕ). ghash_product s (d * 2 ^ (4 * n))) same_digit same_row

-- of one digit more
pub digit_added : (s word first k : ℕ) (entries sum lanes : List ℕ) → first ≤ 16 → k < 16
    → ((p : ℕ) → p < 512 → slice_index entries p ≡ digit_product s p)
    → sum ≡ two_words (ghash_product s (word % 2 ^ (4 * k) * 2 ^ (4 * first)))
    → lanes ≡ two_words (slice_index entries (16 * (first + k) + word / 2 ^ (4 * k) % 16))
    → zip2 bit_xor sum lanes ≡ two_words (ghash_product s (word % 2 ^ (4 * (k + 1)) * 2 ^ (4 * first)))
digit_added s word first k entries sum lanes far few are so_far is =
    ap₂ (zip2 bit_xor) so_far
    (is ∙ ap two_words (entry_is s (first + k) (word / 2 ^ (4 * k) % 16) entries (omega (arith, far, few)) (mod-lt (word / 2 ^ (4 * k)) (lit< tt)) are))
    ∙ sum_of_products s (word % 2 ^ (4 * k) * 2 ^ (4 * first)) (word / 2 ^ (4 * k) % 16 * 2 ^ (4 * (first + k)))
    ∙ ap (λ (x : ℕ). two_words (ghash_product s x)) (digits_joined word first k)

-- of all
pub all_digits : (s word first : ℕ) → word < 2 ^ 64 → two_words (ghash_product s (word % 2 ^ (4 * 16) * 2 ^ (4 * first)))
    ≡ two_words (ghash_product s (word * 2 ^ (4 * first)))
all_digits s word first fits = ap (λ (z : ℕ). two_words (ghash_product s (z * 2 ^ (4 * first)))) (mod-eq_of_lt fits)

-- the sum of both words' products
pub tabled_product : (s l h x result : ℕ) (lows highs : List ℕ) → lows ≡ two_words (ghash_product s (l * 2 ^ (4 * 0)))
    → highs ≡ two_words (ghash_product s (h * 2 ^ (4 * 16))) → x ≡ h * 2 ^ 64 + l → l < 2 ^ 64
    → result ≡ slice_index (zip2 bit_xor lows highs) 1 * 2 ^ 64 + slice_index (zip2 bit_xor lows highs) 0 → result ≡ ghash_product s x
tabled_product s l h x result lows highs of_low of_high is fits sum =
    sum
    ∙ ap (λ (ws : List ℕ). slice_index ws 1 * 2 ^ 64 + slice_index ws 0)
    (ap₂ (zip2 bit_xor) of_low of_high ∙ sum_of_products s (l * 2 ^ (4 * 0)) (h * 2 ^ (4 * 16)))
    ∙ shr_split (ghash_product s (bit_xor (l * 2 ^ (4 * 0)) (h * 2 ^ (4 * 16)))) 64
    ∙ ap (ghash_product s) (ap (λ (z : ℕ). bit_xor z (h * 2 ^ 64)) (mul-one l) ∙ xor_comm l (h * 2 ^ 64) ∙ xor_shifted h 64 l fits ∙ sym is)
