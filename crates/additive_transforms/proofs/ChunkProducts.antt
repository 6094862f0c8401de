-- Products of elements that stand one after another in sixteen bytes, by products of their halves and as the products of one number.
use Rattle.std.proofs.Common.{◌≡◌, ◌⊎◌, inl, inr, ℕ, zero, suc, ◌+◌, ◌-◌, ◌*◌, ◌^◌, ◌<◌, ◌≤◌, List, ◌++◌, drop, length, get_or, map, refl, take, sym, ◌∙◌, ap, ap₂, subst, arith, w8, Fits}
use Rattle.std.specs.Prelude.{bit_xor, slice_index}
use Rattle.std.specs.Simd.Lanes.{Each1, digits_l, number_l, pick_l, zip2}
use Rattle.std.specs.List.{range_with_len}
use Rattle.std.proofs.lemmas.Bool.{cases_lt}
use Rattle.std.proofs.Math.Nat.{two-pow-succ}
use Rattle.std.proofs.lemmas.List.{get_or-append-add, get_or-map, get_or_append_left, get_or_past, length-drop, length-map, length-take-le, take-append-drop}
use Rattle.std.proofs.lemmas.Simd.{Each1-get_or, get_or-zip2, length-zip2, pick_l_whole}
use native.Mathlib.Nat.{zero-add}
use lib.Bits.{xor_comm}
use Rattle.word_tables.specs.Nibbles.{entry_sum}
use Rattle.field_base.specs.Quadratic.{pair}
use Rattle.field_base.specs.Tower.{root, tower_mul}
use Rattle.field_base.proofs.QuadraticRing.{high_half-pair, low_half-pair, pair_xor}
use Rattle.field_base.proofs.RingLemmas.{times-zero}
use Rattle.field_base.proofs.TowerProducts.{level-lt, tower_mul-low_times}
use Rattle.field_base.proofs.TowerRing.{halves-lt, tower_ring}
use Rattle.additive_transforms.specs.Chunks.{AreExchanged, AreMerged, AreTimes, chunk_of}
use Rattle.additive_transforms.specs.Products.{AreMultiples}
use Rattle.additive_transforms.specs.Rows.{level_of}
use Rattle.additive_transforms.specs.declared.multiples.ByteMultiples.{ByteMultiples}
use Rattle.additive_transforms.proofs.LaneFacts.{multiples_sum}
use Rattle.additive_transforms.proofs.Scalars.{product_of_pairs}
use Rattle.word_carryless.proofs.NibbleSquares.{number-digits}

-- so many bytes
pub record AreBytes (n : ℕ) (bytes : List ℕ) : Type 0 where
  pub count : length bytes ≡ n
  pub fit : (i : ℕ) → slice_index bytes i < 256

-- a place past them holds 0
past : (n : ℕ) (bytes : List ℕ) (i : ℕ) → length bytes ≡ n → n ≤ i → slice_index bytes i ≡ 0
past n bytes i count beyond = get_or_past bytes i 0 (omega (arith, count, beyond))

-- what a vector of bytes has
pub bytes_of : (n : ℕ) (bytes : List ℕ) → length bytes ≡ n → Each1 (Fits w8) bytes → AreBytes n bytes
bytes_of n bytes count fit = record { count = count; fit = λ i. pick i (cases_lt i n) }
  where
    pick : (i : ℕ) → (i < n) ⊎ (n ≤ i) → slice_index bytes i < 256
    pick i (inl inside) = (Each1-get_or (Fits w8) bytes i 0 (omega (arith, count, inside)) fit).fits
    pick i (inr beyond) = let none = past n bytes i count beyond in omega (arith, none)

-- ---- elements by their halves

-- an element of more than a byte is a pair
pub chunk-halves : (d : ℕ) (bytes : List ℕ) (i : ℕ)
    → chunk_of (suc d) bytes i ≡ pair (2 ^ level_of d) (chunk_of d bytes (2 * i)) (chunk_of d bytes (2 * i + 1))
unfolding chunk_of
chunk-halves d bytes i = refl

-- elements fit their level
pub chunk-lt : {n : ℕ} (d : ℕ) (bytes : List ℕ) → AreBytes n bytes → (i : ℕ) → chunk_of d bytes i < 2 ^ 2 ^ level_of d
unfolding chunk_of
chunk-lt zero bytes are i = are.fit i
chunk-lt (suc d) bytes are i =
    halves-lt (level_of d) (chunk_of d bytes (2 * i)) (chunk_of d bytes (2 * i + 1)) (chunk-lt d bytes are (2 * i)) (chunk-lt d bytes are (2 * i + 1))

-- what is a sum byte by byte is one element by element
pub chunk_xor : {n : ℕ} (d : ℕ) (xs ys zs : List ℕ) → AreBytes n xs → AreBytes n ys
    → ((i : ℕ) → slice_index zs i ≡ bit_xor (slice_index xs i) (slice_index ys i))
    → (i : ℕ) → chunk_of d zs i ≡ bit_xor (chunk_of d xs i) (chunk_of d ys i)
unfolding chunk_of
chunk_xor zero xs ys zs x_are y_are sums i = sums i
chunk_xor (suc d) xs ys zs x_are y_are sums i =
    ap₂ (pair (2 ^ level_of d)) (chunk_xor d xs ys zs x_are y_are sums (2 * i)) (chunk_xor d xs ys zs x_are y_are sums (2 * i + 1))
    ∙ pair_xor (2 ^ level_of d) _ _ _ _ (chunk-lt d xs x_are (2 * i)) (chunk-lt d ys y_are (2 * i))

-- the sums of two vectors, place by place
pub bytes_summed : (n : ℕ) (xs ys zs : List ℕ) → AreBytes n xs → AreBytes n ys → zs ≡ zip2 bit_xor xs ys
    → (i : ℕ) → slice_index zs i ≡ bit_xor (slice_index xs i) (slice_index ys i)
bytes_summed n xs ys zs x_are y_are is i = ap (λ (l : List ℕ). slice_index l i) is ∙ pick (cases_lt i n)
  where
    pick : (i < n) ⊎ (n ≤ i) → slice_index (zip2 bit_xor xs ys) i ≡ bit_xor (slice_index xs i) (slice_index ys i)
    pick (inl inside) =
        let x_long = x_are.count in
        let y_long = y_are.count in
        get_or-zip2 bit_xor xs ys i 0 0 0 (omega (arith, x_long, inside)) (omega (arith, y_long, inside))
    pick (inr beyond) =
        past n (zip2 bit_xor xs ys) i (length-zip2 bit_xor xs ys (x_are.count ∙ sym y_are.count) ∙ x_are.count) beyond
        ∙ sym (ap₂ bit_xor (past n xs i x_are.count beyond) (past n ys i y_are.count beyond))

-- ---- products

-- the entries of two tables make the products of bytes
pub bytes_times : (n : ℕ) (multiples : ByteMultiples) (s : ℕ) (old new : List ℕ) → AreMultiples multiples s → AreBytes n old
    → new ≡ map (entry_sum multiples.low multiples.high) old → AreTimes 0 s old new
unfolding chunk_of
bytes_times n multiples s old new are bytes is i = pick (cases_lt i n)
  where
    pick : (i < n) ⊎ (n ≤ i) → slice_index new i ≡ tower_mul 3 s (slice_index old i)
    pick (inl inside) =
        ap (λ (r : List ℕ). get_or r i 0) is
        ∙ get_or-map (entry_sum multiples.low multiples.high) old i 0 0 (let long = bytes.count in omega (arith, long, inside))
        ∙ multiples_sum multiples s (slice_index old i) are (bytes.fit i)
    pick (inr beyond) =
        past n new i (ap length is ∙ length-map old (entry_sum multiples.low multiples.high) ∙ bytes.count) beyond
        ∙ sym (ap (tower_mul 3 s) (past n old i bytes.count beyond) ∙ times-zero 8 1 (tower_mul 3) (tower_ring 3) s)

-- three products of elements make those of pairs of them
pub pairs_times : {n : ℕ} (d s s0 s1 : ℕ) (old exchanged sums both lows highs merged new : List ℕ)
    → s0 < 2 ^ 2 ^ level_of d → s1 < 2 ^ 2 ^ level_of d → s ≡ pair (2 ^ level_of d) s0 s1
    → AreBytes n old → AreBytes n exchanged → AreBytes n both → AreBytes n merged
    → AreExchanged d old exchanged
    → ((i : ℕ) → slice_index sums i ≡ bit_xor (slice_index old i) (slice_index exchanged i))
    → AreTimes d s1 sums both → AreTimes d (bit_xor s0 s1) old lows
    → AreTimes d (bit_xor (bit_xor s0 s1) (tower_mul (level_of d) (root (level_of d)) s1)) old highs → AreMerged d lows highs merged
    → ((i : ℕ) → slice_index new i ≡ bit_xor (slice_index merged i) (slice_index both i))
    → AreTimes (suc d) s old new
pairs_times d s s0 s1 old exchanged sums both lows highs merged new s0_fits s1_fits is old_are exchanged_are both_are merged_are
    exchange sum_is of_both of_low of_high merge new_is i =
    chunk-halves d new i
    ∙ ap₂ (pair (2 ^ level_of d))
    (chunk_xor d merged both new merged_are both_are new_is (2 * i)
    ∙ ap₂ bit_xor (merge.low i ∙ of_low (2 * i))
    (of_both (2 * i) ∙ ap (tower_mul (level_of d) s1) (chunk_xor d old exchanged sums old_are exchanged_are sum_is (2 * i) ∙ ap (bit_xor a0) (exchange.low i))))
    (chunk_xor d merged both new merged_are both_are new_is (2 * i + 1)
    ∙ ap₂ bit_xor (merge.high i ∙ of_high (2 * i + 1))
    (of_both (2 * i + 1)
    ∙ ap (tower_mul (level_of d) s1)
    (chunk_xor d old exchanged sums old_are exchanged_are sum_is (2 * i + 1) ∙ ap (bit_xor a1) (exchange.high i) ∙ xor_comm a1 a0)))
    ∙ product_of_pairs (level_of d) s s0 s1 a0 a1 s0_fits s1_fits (chunk-lt d old old_are (2 * i)) (chunk-lt d old old_are (2 * i + 1)) is
    ∙ ap (tower_mul (suc (level_of d)) s) (sym (chunk-halves d old i))
  where
    a0 : ℕ
    a0 = chunk_of d old (2 * i)

    a1 : ℕ
    a1 = chunk_of d old (2 * i + 1)

-- so a scalar multiplies elements of the next level
times_next : {n : ℕ} (d s : ℕ) (old new : List ℕ) → s < 2 ^ 2 ^ level_of d → AreBytes n old → AreTimes d s old new → AreTimes (suc d) s old new
times_next d s old new fits are times i =
    let k = level_of d in
    let low = chunk-lt d old are (2 * i) in
    let high = chunk-lt d old are (2 * i + 1) in
    chunk-halves d new i
    ∙ ap₂ (pair (2 ^ k))
    (times (2 * i) ∙ ap (tower_mul k s) (sym (low_half-pair (2 ^ k) (chunk_of d old (2 * i)) (chunk_of d old (2 * i + 1)) low)))
    (times (2 * i + 1) ∙ ap (tower_mul k s) (sym (high_half-pair (2 ^ k) (chunk_of d old (2 * i)) (chunk_of d old (2 * i + 1)) low high)))
    ∙ sym (tower_mul-low_times k s (pair (2 ^ k) (chunk_of d old (2 * i)) (chunk_of d old (2 * i + 1))) fits)
    ∙ ap (tower_mul (suc k) s) (sym (chunk-halves d old i))

-- and those e levels above
times_above : {n : ℕ} (e d s : ℕ) (old new : List ℕ) → s < 2 ^ 2 ^ level_of d → AreBytes n old → AreTimes d s old new → AreTimes (e + d) s old new
times_above zero d s old new fits are times = subst (λ (n : ℕ). AreTimes n s old new) (sym (zero-add d)) times
times_above (suc e) d s old new fits are times =
    let next : suc e + d ≡ suc (e + d) = omega arith in
    subst (λ (n : ℕ). AreTimes n s old new) (sym next)
    (times_next (e + d) s old new (fits_above e) are (times_above e d s old new fits are times))
  where
    fits_above : (n : ℕ) → s < 2 ^ 2 ^ level_of (n + d)
    fits_above n = subst (λ (k : ℕ). s < 2 ^ 2 ^ k) (levels n) (level-lt n (level_of d) s fits)
      where
        levels : (m : ℕ) → m + level_of d ≡ level_of (m + d)
        levels zero = zero-add (level_of d) ∙ ap level_of (sym (zero-add d))
        levels (suc m) =
            let more : suc m + level_of d ≡ suc (m + level_of d) = omega arith in
            let next : suc (m + d) ≡ suc m + d = omega arith in
            more ∙ ap suc (levels m) ∙ ap level_of next

-- ---- numbers

-- the bytes one by one
bytes_listed : (bytes : List ℕ) → length bytes ≡ 16 → bytes ≡ pick_l 0 bytes (range_with_len 0 16)
bytes_listed bytes sixteen = sym (pick_l_whole 0 bytes 16 sixteen)

-- all sixteen bytes are one element, their number
pub chunk-number : (bytes : List ℕ) → length bytes ≡ 16 → chunk_of 4 bytes 0 ≡ number_l 256 bytes
unfolding chunk_of
chunk-number bytes sixteen =
    whole (get_or bytes 0 0) (get_or bytes 1 0) (get_or bytes 2 0) (get_or bytes 3 0) (get_or bytes 4 0) (get_or bytes 5 0) (get_or bytes 6 0)
    (get_or bytes 7 0) (get_or bytes 8 0) (get_or bytes 9 0) (get_or bytes 10 0) (get_or bytes 11 0) (get_or bytes 12 0) (get_or bytes 13 0)
    (get_or bytes 14 0) (get_or bytes 15 0)
    ∙ sym (ap (number_l 256) (bytes_listed bytes sixteen))
  where
    byte : (high low : ℕ) → pair 8 low high ≡ low + 256 * high
    byte high low = omega arith

    whole : (a b c d e f g h i j k l m n o p : ℕ)
        → pair 64 (pair 32 (pair 16 (pair 8 a b) (pair 8 c d)) (pair 16 (pair 8 e f) (pair 8 g h)))
        (pair 32 (pair 16 (pair 8 i j) (pair 8 k l)) (pair 16 (pair 8 m n) (pair 8 o p)))
        ≡ a + 256 * (b + 256 * (c + 256 * (d + 256 * (e + 256 * (f + 256 * (g + 256 * (h + 256 * (i + 256 * (j + 256 * (k + 256 * (l + 256 * (m + 256 * (n + 256 * (o + 256 * (p + 256 * 0)))))))))))))))
    whole a b c d e f g h i j k l m n o p = omega arith

-- the bytes of a number of 128 bits are one element, the number
pub digits_number : (x : ℕ) (bytes : List ℕ) → length bytes ≡ 16 → x < 2 ^ 128 → bytes ≡ digits_l 256 16 x → chunk_of 4 bytes 0 ≡ x
digits_number x bytes sixteen fits are = chunk-number bytes sixteen ∙ ap (number_l 256) are ∙ number-digits 16 x fits

-- products by a scalar of a lower level are those of wider elements
pub whole_times : {n : ℕ} (d e s : ℕ) (old new : List ℕ) → d ≤ e → s < 2 ^ 2 ^ level_of d → AreTimes d s old new → AreBytes n old
    → AreTimes e s old new
whole_times d e s old new few s_fits times old_are =
    subst (λ (n : ℕ). AreTimes n s old new) all (times_above (e - d) d s old new s_fits old_are times)
  where
    all : e - d + d ≡ e
    all = omega (arith, few)

-- ---- halves of a vector

-- an element of the first of two lists is one of both
pub chunk_left : (d i : ℕ) (xs ys : List ℕ) → 2 ^ d * i + 2 ^ d ≤ length xs → chunk_of d (xs ++ ys) i ≡ chunk_of d xs i
unfolding chunk_of
chunk_left zero i xs ys inside = get_or_append_left xs ys 0 i (omega (arith, inside))
chunk_left (suc d) i xs ys inside =
    let twice = two-pow-succ d in
    let more = ap (λ (n : ℕ). n * i) twice in
    ap₂ (pair (2 ^ level_of d)) (chunk_left d (2 * i) xs ys (omega (arith, inside, twice, more)))
    (chunk_left d (2 * i + 1) xs ys (omega (arith, inside, twice, more)))

-- and so is one of the second, past those of the first
pub chunk_right : (d m i : ℕ) (xs ys : List ℕ) → length xs ≡ 2 ^ d * m → chunk_of d (xs ++ ys) (m + i) ≡ chunk_of d ys i
unfolding chunk_of
chunk_right zero m i xs ys count =
    let same : m + i ≡ length xs + i = omega (arith, count) in
    ap (λ (n : ℕ). get_or (xs ++ ys) n 0) same ∙ get_or-append-add xs ys i 0
chunk_right (suc d) m i xs ys count =
    let twice = two-pow-succ d in
    let more = ap (λ (n : ℕ). n * m) twice in
    let fits : length xs ≡ 2 ^ d * (2 * m) = omega (arith, count, more) in
    let low : 2 * (m + i) ≡ 2 * m + 2 * i = omega arith in
    let high : 2 * (m + i) + 1 ≡ 2 * m + (2 * i + 1) = omega arith in
    ap₂ (pair (2 ^ level_of d)) (ap (chunk_of d (xs ++ ys)) low ∙ chunk_right d (2 * m) (2 * i) xs ys fits)
    (ap (chunk_of d (xs ++ ys)) high ∙ chunk_right d (2 * m) (2 * i + 1) xs ys fits)

-- a vector of thirty-two bytes is both of its halves
pub halved : (whole first second : List ℕ) → length whole ≡ 32
    → ((a b : List ℕ) → length a ≡ 16 → length b ≡ 16 → whole ≡ a ++ b → (first ≡ a) × (second ≡ b))
    → (whole ≡ first ++ second) × (length first ≡ 16) × (length second ≡ 16)
halved whole first second count halves =
    let left = length-take-le 16 whole (omega (arith, count)) in
    let rest = length-drop 16 whole in
    let right : length (drop 16 whole) ≡ 16 = omega (arith, count, rest) in
    let are = halves (take 16 whole) (drop 16 whole) left right (sym (take-append-drop 16 whole)) in (
      sym (take-append-drop 16 whole) ∙ sym (ap₂ (λ (a b : List ℕ). a ++ b) are.0 are.1),
      ap length are.0 ∙ left,
      ap length are.1 ∙ right,
    )
