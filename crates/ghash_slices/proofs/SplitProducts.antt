-- Products by a scalar and its companion, the scalar times x^64: the law, and the product of the words in two lanes.
use Rattle.std.proofs.Common.{◌≡◌, ℕ, ◌+◌, ◌*◌, ◌/◌, ◌%◌, ◌^◌, ◌<◌, List, [], ◌∷◌, length, map, refl, sym, ◌∙◌, ap, ap₂, subst, arith, lit<, w64, Fits}
use Rattle.std.specs.Prelude.{bit_and, bit_xor, slice_index}
use Rattle.std.specs.Simd.Lanes.{Each1, zip2}
use Rattle.std.proofs.lemmas.List.{get_or-map, length-map}
use Rattle.std.proofs.lemmas.Nat.{and_le_l, and_mask, shr_split, xor_block, xor_comm, xor_lt}
use Rattle.std.proofs.lemmas.Simd.{Each1-get_or, get_or-zip2}
use native.Mathlib.Nat.{mod-lt, mod-eq_of_lt}
use lib.Bits.{xor_shifted, xor_zero_r}
use Rattle.field_base.specs.Carryless.{carryless}
use Rattle.field_base.specs.Remainder.{ghash_modulus, rem}
use Rattle.field_base.proofs.CarrylessProduct.{carryless_lt, shl_carryless, sum_carryless, zero_carryless}
use Rattle.field_base.proofs.RemainderRing.{ghash_ring, mul_mod-rem}
use Rattle.word_carryless.specs.DoubleWords.{AreWordProducts, low_halves}
use Rattle.word_carryless.specs.Masked.{AreClasses, in_class}
use Rattle.word_carryless.specs.Tail.{ghash_tail}
use Rattle.word_carryless.proofs.LaneReductions.{folded, spilt, tailed, xor_high, xor_low}
use Rattle.ghash_slices.specs.LowStages.{ghash_product}
use Rattle.ghash_slices.proofs.ShiftedBytes.{only_shifted}
use Rattle.ghash_slices.specs.SplitWords.{CompanionLaw, companion, high_words_of, low_words_of, remainder_at}

-- ---- the law of the companion

-- x^64 times a word
shifted : (h : ℕ) → h < 2 ^ 64 → ghash_product (2 ^ 64) h ≡ h * 2 ^ 64
shifted h fits = ghash_ring.comm (2 ^ 64) h ∙ only_shifted h 64 (omega arith) (lit< tt) (omega arith)

-- a value is taken word by word
pub companion_law : CompanionLaw
companion_law s l h l_fits h_fits =
    ap (ghash_product s) (sym (xor_shifted h 64 l l_fits)) ∙ ghash_ring.over_sum s (h * 2 ^ 64) l
    ∙ xor_comm (ghash_product s (h * 2 ^ 64)) (ghash_product s l)
    ∙ ap (bit_xor (ghash_product s l)) (ap (ghash_product s) (sym (shifted h h_fits)) ∙ sym (ghash_ring.assoc s (2 ^ 64) h))

-- ---- one lane

-- three words
regroup : (a b c : ℕ) → (a * 2 ^ 64 + b) * 2 ^ 64 + c ≡ a * 2 ^ 128 + (b * 2 ^ 64 + c)
regroup a b c = omega arith

-- the three words of the product of a double word and a word
three_words : (t v : ℕ) → t < 2 ^ 128 → v < 2 ^ 64
    → carryless t v
    ≡ carryless (t / 2 ^ 64) v / 2 ^ 64 * 2 ^ 128
    + (bit_xor (carryless (t % 2 ^ 64) v / 2 ^ 64) (carryless (t / 2 ^ 64) v % 2 ^ 64) * 2 ^ 64 + carryless (t % 2 ^ 64) v % 2 ^ 64)
three_words t v t_fits v_fits =
    ap (λ (z : ℕ). carryless z v) (sym (shr_split t 64) ∙ sym (xor_shifted (t / 2 ^ 64) 64 (t % 2 ^ 64) (mod-lt t (lit< tt))))
    ∙ sum_carryless (t / 2 ^ 64 * 2 ^ 64) (t % 2 ^ 64) v
    ∙ ap (λ (z : ℕ). bit_xor z (carryless (t % 2 ^ 64) v)) (shl_carryless 64 (t / 2 ^ 64) v)
    ∙ joined (carryless (t % 2 ^ 64) v) (carryless (t / 2 ^ 64) v)
    (carryless_lt 64 64 (t % 2 ^ 64) v (mod-lt t (lit< tt)) v_fits)
  where
    joined : (low high : ℕ) → low < 2 ^ 128
        → bit_xor (high * 2 ^ 64) low ≡ high / 2 ^ 64 * 2 ^ 128 + (bit_xor (low / 2 ^ 64) (high % 2 ^ 64) * 2 ^ 64 + low % 2 ^ 64)
    joined low high fits =
        let above : low / 2 ^ 64 < 2 ^ 64 = omega arith in
        let middle : bit_xor (low / 2 ^ 64) high ≡ high / 2 ^ 64 * 2 ^ 64 + bit_xor (low / 2 ^ 64) (high % 2 ^ 64) =
        xor_comm (low / 2 ^ 64) high ∙ ap (λ (z : ℕ). bit_xor z (low / 2 ^ 64)) (sym (shr_split high 64))
        ∙ xor_low (high / 2 ^ 64) (high % 2 ^ 64) (low / 2 ^ 64) (mod-lt high (lit< tt)) above
        ∙ ap (λ (z : ℕ). high / 2 ^ 64 * 2 ^ 64 + z) (xor_comm (high % 2 ^ 64) (low / 2 ^ 64)) in
        xor_comm (high * 2 ^ 64) low ∙ ap (λ (z : ℕ). bit_xor z (high * 2 ^ 64)) (sym (shr_split low 64))
        ∙ xor_high (low / 2 ^ 64) (low % 2 ^ 64) high (mod-lt low (lit< tt))
        ∙ ap (λ (z : ℕ). z * 2 ^ 64 + low % 2 ^ 64) middle
        ∙ regroup (high / 2 ^ 64) (bit_xor (low / 2 ^ 64) (high % 2 ^ 64)) (low % 2 ^ 64)

-- the remainder of three words, as the code computes it
folded_three : (w0 w1 w2 : ℕ) → w0 < 2 ^ 64 → w1 < 2 ^ 64 → w2 < 2 ^ 64
    → bit_xor w1 (spilt w2) * 2 ^ 64 + bit_xor w0 (tailed w2) ≡ rem 128 ghash_modulus (w2 * 2 ^ 128 + (w1 * 2 ^ 64 + w0))
folded_three w0 w1 w2 fits_0 fits_1 fits_2 =
    sym (ap₂ (λ (x y : ℕ). bit_xor x (spilt y) * 2 ^ 64 + bit_xor w0 (tailed y)) no_tail no_spill)
    ∙ folded w0 w1 w2 0 fits_0 fits_1 fits_2 (lit< tt)
    ∙ ap (λ (z : ℕ). rem 128 ghash_modulus (z * 2 ^ 128 + (w1 * 2 ^ 64 + w0))) alone
  where
    no_tail : bit_xor w1 (tailed 0) ≡ w1
    no_tail = ap (λ (z : ℕ). bit_xor w1 (z % 2 ^ 64)) (zero_carryless ghash_tail) ∙ xor_zero_r w1

    no_spill : bit_xor w2 (spilt 0) ≡ w2
    no_spill = ap (λ (z : ℕ). bit_xor w2 (z / 2 ^ 64)) (zero_carryless ghash_tail) ∙ xor_zero_r w2

    alone : 0 * 2 ^ 64 + w2 ≡ w2
    alone = omega arith

-- that of the three words of a product is the product modulo the polynomial
lane_product : (t v w0 w1 w2 : ℕ) → t < 2 ^ 128 → v < 2 ^ 64 → w0 ≡ carryless (t % 2 ^ 64) v % 2 ^ 64
    → w1 ≡ bit_xor (carryless (t % 2 ^ 64) v / 2 ^ 64) (carryless (t / 2 ^ 64) v % 2 ^ 64) → w2 ≡ carryless (t / 2 ^ 64) v / 2 ^ 64
    → rem 128 ghash_modulus (w2 * 2 ^ 128 + (w1 * 2 ^ 64 + w0)) ≡ ghash_product t v
lane_product t v w0 w1 w2 t_fits v_fits is_0 is_1 is_2 =
    ap₂ (λ (high low : ℕ). rem 128 ghash_modulus (high * 2 ^ 128 + low)) is_2 (ap₂ (λ (x y : ℕ). x * 2 ^ 64 + y) is_1 is_0)
    ∙ ap (rem 128 ghash_modulus) (sym (three_words t v t_fits v_fits))
    ∙ sym (mul_mod-rem 128 ghash_modulus refl t v t_fits (omega arith))

-- ---- two lanes

-- the sum of both lanes, as the code takes it
pub summed : (w0 w1 w2 lows highs tails spills : List ℕ) → length w0 ≡ 2 → length w1 ≡ 2 → length w2 ≡ 2
    → Each1 (Fits w64) w0 → Each1 (Fits w64) w1 → Each1 (Fits w64) w2
    → tails ≡ map tailed w2 → spills ≡ map spilt w2 → lows ≡ zip2 bit_xor w0 tails → highs ≡ zip2 bit_xor w1 spills
    → bit_xor (slice_index highs 0) (slice_index highs 1) * 2 ^ 64 + bit_xor (slice_index lows 0) (slice_index lows 1)
    ≡ bit_xor (remainder_at w0 w1 w2 0) (remainder_at w0 w1 w2 1)
summed w0 w1 w2 lows highs tails spills long_0 long_1 long_2 fits_0 fits_1 fits_2 of_tails of_spills of_lows of_highs =
    sym (xor_block 64 (slice_index highs 0) (slice_index highs 1) (slice_index lows 0) (slice_index lows 1)
    (low_small 0 (lit< tt)) (low_small 1 (lit< tt)))
    ∙ ap₂ bit_xor (lane 0 (lit< tt)) (lane 1 (lit< tt))
  where
    word : (ws : List ℕ) → length ws ≡ 2 → Each1 (Fits w64) ws → (k : ℕ) → k < 2 → slice_index ws k < 2 ^ 64
    word ws long fits k below = (Each1-get_or (Fits w64) ws k 0 (omega (arith, long, below)) fits).fits

    low_at : (k : ℕ) → k < 2 → slice_index lows k ≡ bit_xor (slice_index w0 k) (tailed (slice_index w2 k))
    low_at k below =
        ap (λ (xs : List ℕ). slice_index xs k) (of_lows ∙ ap (zip2 bit_xor w0) of_tails)
        ∙ get_or-zip2 bit_xor w0 (map tailed w2) k 0 0 0 (omega (arith, long_0, below)) (omega (arith, length-map w2 tailed, long_2, below))
        ∙ ap (bit_xor (slice_index w0 k)) (get_or-map tailed w2 k 0 0 (omega (arith, long_2, below)))

    high_at : (k : ℕ) → k < 2 → slice_index highs k ≡ bit_xor (slice_index w1 k) (spilt (slice_index w2 k))
    high_at k below =
        ap (λ (xs : List ℕ). slice_index xs k) (of_highs ∙ ap (zip2 bit_xor w1) of_spills)
        ∙ get_or-zip2 bit_xor w1 (map spilt w2) k 0 0 0 (omega (arith, long_1, below)) (omega (arith, length-map w2 spilt, long_2, below))
        ∙ ap (bit_xor (slice_index w1 k)) (get_or-map spilt w2 k 0 0 (omega (arith, long_2, below)))

    low_small : (k : ℕ) → k < 2 → slice_index lows k < 2 ^ 64
    low_small k below =
        subst (λ (z : ℕ). z < 2 ^ 64) (sym (low_at k below))
        (xor_lt 64 _ _ (word w0 long_0 fits_0 k below) (mod-lt (carryless (slice_index w2 k) ghash_tail) (lit< tt)))

    lane : (k : ℕ) → k < 2 → slice_index highs k * 2 ^ 64 + slice_index lows k ≡ remainder_at w0 w1 w2 k
    lane k below =
        ap₂ (λ (high low : ℕ). high * 2 ^ 64 + low) (high_at k below) (low_at k below)
        ∙ folded_three (slice_index w0 k) (slice_index w1 k) (slice_index w2 k) (word w0 long_0 fits_0 k below) (word w1 long_1 fits_1 k below)
        (word w2 long_2 fits_2 k below)

-- the product, from the words in both lanes
pub split_product : (s l h x result : ℕ) (w0 above below w2 : List ℕ) → s < 2 ^ 128 → l < 2 ^ 64 → h < 2 ^ 64 → x ≡ h * 2 ^ 64 + l
    → AreWordProducts (low_words_of s) (l ∷ h ∷ []) w0 above → AreWordProducts (high_words_of s) (l ∷ h ∷ []) below w2
    → result ≡ bit_xor (remainder_at w0 (zip2 bit_xor above below) w2 0) (remainder_at w0 (zip2 bit_xor above below) w2 1)
    → result ≡ ghash_product s x
split_product s l h x result w0 above below w2 s_fits l_fits h_fits is lows highs sum =
    sum
    ∙ ap₂ bit_xor
    (lane_product s l _ _ _ s_fits l_fits (ap (λ (xs : List ℕ). slice_index xs 0) lows.0)
    (ap₂ (λ (xs ys : List ℕ). slice_index (zip2 bit_xor xs ys) 0) lows.1 highs.0) (ap (λ (xs : List ℕ). slice_index xs 0) highs.1))
    (lane_product (companion s) h _ _ _ (ghash_ring.below s (2 ^ 64)) h_fits (ap (λ (xs : List ℕ). slice_index xs 1) lows.0)
    (ap₂ (λ (xs ys : List ℕ). slice_index (zip2 bit_xor xs ys) 1) lows.1 highs.0) (ap (λ (xs : List ℕ). slice_index xs 1) highs.1))
    ∙ sym (companion_law s l h l_fits h_fits) ∙ ap (ghash_product s) (sym is)

-- what stands in both lanes are words
pub two_fit : (l h : ℕ) → l < 2 ^ 64 → h < 2 ^ 64 → Each1 (Fits w64) (l ∷ h ∷ [])
two_fit l h l_fits h_fits = (record { fits = l_fits }, (record { fits = h_fits }, tt))

pub low_words_fit : (s : ℕ) → Each1 (Fits w64) (low_words_of s)
low_words_fit s = two_fit (s % 2 ^ 64) (companion s % 2 ^ 64) (mod-lt s (lit< tt)) (mod-lt (companion s) (lit< tt))

pub high_words_fit : (s : ℕ) → s < 2 ^ 128 → Each1 (Fits w64) (high_words_of s)
high_words_fit s fits = two_fit (s / 2 ^ 64) (companion s / 2 ^ 64) (upper s fits) (upper (companion s) (ghash_ring.below s (2 ^ 64)))
  where
    upper : (x : ℕ) → x < 2 ^ 128 → x / 2 ^ 64 < 2 ^ 64
    upper x below = omega arith

-- ---- classes of half words

-- half words under the mask of a half are the same
masked_again : (i : ℕ) (words : List ℕ) → low_halves (in_class i (low_halves words)) ≡ in_class i (low_halves words)
masked_again i [] = refl
masked_again i (w ∷ words) =
    let half : bit_and w 0xffff_ffff < 2 ^ 32 = subst (λ (z : ℕ). z < 2 ^ 32) (sym (and_mask w 32)) (mod-lt w (lit< tt)) in
    let small : bit_and (bit_and w 0xffff_ffff) (0x1111_1111_1111_1111 * 2 ^ i) < 2 ^ 32 =
    omega (arith, half, and_le_l (bit_and w 0xffff_ffff) (0x1111_1111_1111_1111 * 2 ^ i)) in
    ap₂ (λ (z : ℕ) (zs : List ℕ). z ∷ zs)
    (and_mask (bit_and (bit_and w 0xffff_ffff) (0x1111_1111_1111_1111 * 2 ^ i)) 32 ∙ mod-eq_of_lt small)
    (masked_again i words)

-- so their classes are
pub same_halves : (words x0 x1 x2 x3 y0 y1 y2 y3 : List ℕ) → AreClasses (low_halves words) x0 x1 x2 x3
    → y0 ≡ low_halves x0 → y1 ≡ low_halves x1 → y2 ≡ low_halves x2 → y3 ≡ low_halves x3 → AreClasses (low_halves words) y0 y1 y2 y3
same_halves words x0 x1 x2 x3 y0 y1 y2 y3 x is_0 is_1 is_2 is_3 = record {
  of_0 = is_0 ∙ ap low_halves x.of_0 ∙ masked_again 0 words;
  of_1 = is_1 ∙ ap low_halves x.of_1 ∙ masked_again 1 words;
  of_2 = is_2 ∙ ap low_halves x.of_2 ∙ masked_again 2 words;
  of_3 = is_3 ∙ ap low_halves x.of_3 ∙ masked_again 3 words;
}
