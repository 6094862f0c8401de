-- Products of double words in lanes, and their remainders modulo the polynomial of GHASH, each lane by the theorem on one product:
-- for any number of lanes.
use Rattle.std.proofs.Common.{◌≡◌, ℕ, ◌+◌, ◌*◌, ◌/◌, ◌%◌, ◌^◌, ◌<◌, List, [], ◌∷◌, map, refl, sym, ◌∙◌, ap, ap₂, arith, lit<, w64, Fits}
use Rattle.std.specs.Prelude.{bit_xor, slice_index}
use Rattle.std.specs.Simd.Lanes.{zip2, Each1}
use Rattle.std.proofs.lemmas.Nat.{xor_block, xor_comm, xor_lt, xor_mod, xor_shr, shr_split}
use native.Mathlib.Nat.{mod-lt, mod-eq_of_lt, div-eq_of_lt}
use lib.Bits.{xor_assoc, xor_shifted, xor_zero_r}
use Rattle.field_base.specs.Carryless.{carryless}
use Rattle.field_base.specs.Remainder.{rem, mul_mod, ghash_modulus}
use Rattle.field_base.proofs.RemainderRing.{mul_mod-rem}
use Rattle.field_base.proofs.RingLemmas.{xor_left_comm}
use Rattle.field_base.proofs.CarrylessProduct.{sum_carryless, shl_carryless, carryless_lt}
use Rattle.word_carryless.specs.DoubleWords.{double_words, quadruple_words}
use Rattle.word_carryless.specs.Tail.{ghash_tail}
use Rattle.word_carryless.proofs.KaratsubaLemmas.{carryless_128}
use Rattle.word_carryless.proofs.TailFolds.{fold_128, word_high, word_low}

abbrev Xors : List ℕ → List ℕ → List ℕ
Xors = zip2 bit_xor

abbrev Ups : ℕ → List ℕ → List ℕ
Ups k = map (λ a. a * 2 ^ k % 2 ^ 64)

abbrev Downs : ℕ → List ℕ → List ℕ
Downs k = map (λ a. a / 2 ^ k)

-- ---- four words of a product

-- a shift by a word within two words
shl_word : (x : ℕ) → x * 2 ^ 64 % 2 ^ 128 ≡ x % 2 ^ 64 * 2 ^ 64
shl_word x = omega arith

shr_words : (x : ℕ) → x * 2 ^ 64 / 2 ^ 128 ≡ x / 2 ^ 64
shr_words x = omega arith

high_fits : (x : ℕ) → x < 2 ^ 128 → x / 2 ^ 64 < 2 ^ 64
high_fits x fits = omega arith

low_fits : (x : ℕ) → x % 2 ^ 64 < 2 ^ 64
low_fits x = mod-lt x (lit< tt)

-- a sum whose second part has no high word, and one whose second part has no low word
pub xor_low : (high low other : ℕ) → low < 2 ^ 64 → other < 2 ^ 64 → bit_xor (high * 2 ^ 64 + low) other ≡ high * 2 ^ 64 + bit_xor low other
xor_low high low other low_small other_small =
    let plain : other ≡ 0 * 2 ^ 64 + other = omega arith in
    ap (bit_xor (high * 2 ^ 64 + low)) plain ∙ xor_block 64 high 0 low other low_small other_small
    ∙ ap (λ (h : ℕ). h * 2 ^ 64 + bit_xor low other) (xor_zero_r high)

pub xor_high : (high low other : ℕ) → low < 2 ^ 64 → bit_xor (high * 2 ^ 64 + low) (other * 2 ^ 64) ≡ bit_xor high other * 2 ^ 64 + low
xor_high high low other low_small =
    let plain : other * 2 ^ 64 ≡ other * 2 ^ 64 + 0 = omega arith in
    ap (bit_xor (high * 2 ^ 64 + low)) plain ∙ xor_block 64 high other low 0 low_small (lit< tt)
    ∙ ap (λ (l : ℕ). bit_xor high other * 2 ^ 64 + l) (xor_zero_r low)

-- the middle words, as the code adds them
middle_high : (l1 h0 h1 b1 : ℕ) → bit_xor h0 (bit_xor (bit_xor b1 l1) h1) ≡ bit_xor (bit_xor (bit_xor l1 h0) h1) b1
middle_high l1 h0 h1 b1 = simp (xor_assoc, xor_comm, xor_left_comm)

middle_low : (l0 l1 h0 b0 : ℕ) → bit_xor l1 (bit_xor (bit_xor b0 l0) h0) ≡ bit_xor (bit_xor (bit_xor l1 h0) l0) b0
middle_low l0 l1 h0 b0 = simp (xor_assoc, xor_comm, xor_left_comm)

-- the two high words, and the two low words, of the sum of Karatsuba's rule
high_words : (low high both : ℕ) → low < 2 ^ 128 → high < 2 ^ 128 → both < 2 ^ 128
    → bit_xor high (bit_xor (bit_xor both low) high / 2 ^ 64)
    ≡ high / 2 ^ 64 * 2 ^ 64 + bit_xor (bit_xor (bit_xor (low / 2 ^ 64) (high % 2 ^ 64)) (high / 2 ^ 64)) (both / 2 ^ 64)
high_words low high both low_small high_small both_small =
    ap₂ bit_xor (sym (shr_split high 64))
    (xor_shr (bit_xor both low) high 64 ∙ ap (λ (z : ℕ). bit_xor z (high / 2 ^ 64)) (xor_shr both low 64))
    ∙ xor_low (high / 2 ^ 64) (high % 2 ^ 64) _ (low_fits high)
    (xor_lt 64 _ (high / 2 ^ 64) (xor_lt 64 (both / 2 ^ 64) (low / 2 ^ 64) (high_fits both both_small) (high_fits low low_small)) (high_fits high high_small))
    ∙ ap (λ (z : ℕ). high / 2 ^ 64 * 2 ^ 64 + z) (middle_high (low / 2 ^ 64) (high % 2 ^ 64) (high / 2 ^ 64) (both / 2 ^ 64))

low_words : (low high both : ℕ)
    → bit_xor low (bit_xor (bit_xor both low) high * 2 ^ 64 % 2 ^ 128)
    ≡ bit_xor (bit_xor (bit_xor (low / 2 ^ 64) (high % 2 ^ 64)) (low % 2 ^ 64)) (both % 2 ^ 64) * 2 ^ 64 + low % 2 ^ 64
low_words low high both =
    ap₂ bit_xor (sym (shr_split low 64))
    (shl_word (bit_xor (bit_xor both low) high)
    ∙ ap (λ (z : ℕ). z * 2 ^ 64)
    (xor_mod (bit_xor both low) high 64 ∙ ap (λ (z : ℕ). bit_xor z (high % 2 ^ 64)) (xor_mod both low 64)))
    ∙ xor_high (low / 2 ^ 64) (low % 2 ^ 64) _ (low_fits low)
    ∙ ap (λ (z : ℕ). z * 2 ^ 64 + low % 2 ^ 64) (middle_low (low % 2 ^ 64) (low / 2 ^ 64) (high % 2 ^ 64) (both % 2 ^ 64))

-- one lane, as the code computes it
four_words : (x0 x1 y0 y1 : ℕ) → x0 < 2 ^ 64 → x1 < 2 ^ 64 → y0 < 2 ^ 64 → y1 < 2 ^ 64
    → (let low = carryless x0 y0 in
    let high = carryless x1 y1 in
    let both = carryless (bit_xor x0 x1) (bit_xor y0 y1) in
    let crossed = bit_xor (low / 2 ^ 64) (high % 2 ^ 64) in
    (high / 2 ^ 64 * 2 ^ 64 + bit_xor (bit_xor crossed (high / 2 ^ 64)) (both / 2 ^ 64)) * 2 ^ 128
    + (bit_xor (bit_xor crossed (low % 2 ^ 64)) (both % 2 ^ 64) * 2 ^ 64 + low % 2 ^ 64)
    ≡ carryless (x1 * 2 ^ 64 + x0) (y1 * 2 ^ 64 + y0))
four_words x0 x1 y0 y1 x0_fits x1_fits y0_fits y1_fits =
    let low = carryless x0 y0 in
    let high = carryless x1 y1 in
    let both = carryless (bit_xor x0 x1) (bit_xor y0 y1) in
    let low_small = carryless_lt 64 64 x0 y0 x0_fits y0_fits in
    let high_small = carryless_lt 64 64 x1 y1 x1_fits y1_fits in
    let both_small = carryless_lt 64 64 (bit_xor x0 x1) (bit_xor y0 y1) (xor_lt 64 x0 x1 x0_fits x1_fits) (xor_lt 64 y0 y1 y0_fits y1_fits) in
    sym (carryless_128 (x1 * 2 ^ 64 + x0) (y1 * 2 ^ 64 + y0) x0 x1 y0 y1 low high both x0_fits y0_fits low_small refl refl refl refl refl
    ∙ ap₂ (λ (h l : ℕ). h * 2 ^ 128 + l) (high_words low high both low_small high_small both_small) (low_words low high both))

abbrev low_word : ℕ → ℕ → ℕ
low_word a b = carryless a b % 2 ^ 64

abbrev high_word : ℕ → ℕ → ℕ
high_word a b = carryless a b / 2 ^ 64

abbrev FourWords : List ℕ → List ℕ → List ℕ → List ℕ → List ℕ → List ℕ → List ℕ
FourWords l0 l1 h0 h1 b0 b1 = quadruple_words l0 (Xors (Xors (Xors l1 h0) l0) b0) (Xors (Xors (Xors l1 h0) h1) b1) h1

-- the products of double words in lanes, from the words of three products of words
pub double_products : (x0 x1 y0 y1 : List ℕ) → Each1 (Fits w64) x0 → Each1 (Fits w64) x1 → Each1 (Fits w64) y0 → Each1 (Fits w64) y1
    → FourWords (zip2 low_word x0 y0) (zip2 high_word x0 y0) (zip2 low_word x1 y1) (zip2 high_word x1 y1)
    (zip2 low_word (Xors x0 x1) (Xors y0 y1)) (zip2 high_word (Xors x0 x1) (Xors y0 y1))
    ≡ zip2 carryless (double_words x0 x1) (double_words y0 y1)
double_products [] x1 y0 y1 f0 f1 f2 f3 = refl
double_products (a ∷ x0) [] [] y1 f0 f1 f2 f3 = refl
double_products (a ∷ x0) [] (c ∷ y0) y1 f0 f1 f2 f3 = refl
double_products (a ∷ x0) (b ∷ x1) [] y1 f0 f1 f2 f3 = refl
double_products (a ∷ x0) (b ∷ x1) (c ∷ y0) [] f0 f1 f2 f3 = refl
double_products (a ∷ x0) (b ∷ x1) (c ∷ y0) (d ∷ y1) f0 f1 f2 f3 =
    ap₂ (λ (z : ℕ) (zs : List ℕ). z ∷ zs) (four_words a b c d f0.0.fits f1.0.fits f2.0.fits f3.0.fits)
    (double_products x0 x1 y0 y1 f0.1 f1.1 f2.1 f3.1)

-- ---- remainders

abbrev pub tailed : ℕ → ℕ
tailed h = carryless h ghash_tail % 2 ^ 64

abbrev pub spilt : ℕ → ℕ
spilt h = carryless h ghash_tail / 2 ^ 64

-- the products by the tail, below x^64 and past it, as the code computes them
pub tails : (hs : List ℕ) → Each1 (Fits w64) hs → Xors (Xors (Xors (Ups 7 hs) (Ups 2 hs)) (Ups 1 hs)) hs ≡ map tailed hs
tails [] f = refl
tails (h ∷ hs) f = ap₂ (λ (z : ℕ) (zs : List ℕ). z ∷ zs) (word_low h f.0.fits) (tails hs f.1)

pub spills : (hs : List ℕ) → Each1 (Fits w64) hs → Xors (Xors (Downs 57 hs) (Downs 62 hs)) (Downs 63 hs) ≡ map spilt hs
spills [] f = refl
spills (h ∷ hs) f = ap₂ (λ (z : ℕ) (zs : List ℕ). z ∷ zs) (word_high h f.0.fits) (spills hs f.1)

tail_product_fits : (h : ℕ) → h < 2 ^ 64 → carryless h ghash_tail < 2 ^ 72
tail_product_fits h fits = carryless_lt 64 8 h ghash_tail fits (lit< tt)

-- two words times the tail
two_words_tailed : (low high : ℕ) → low < 2 ^ 64
    → carryless (high * 2 ^ 64 + low) ghash_tail ≡ bit_xor (carryless high ghash_tail * 2 ^ 64) (carryless low ghash_tail)
two_words_tailed low high fits =
    ap (λ (z : ℕ). carryless z ghash_tail) (sym (xor_shifted high 64 low fits)) ∙ sum_carryless (high * 2 ^ 64) low ghash_tail
    ∙ ap (λ (z : ℕ). bit_xor z (carryless low ghash_tail)) (shl_carryless 64 high ghash_tail)

-- what of this is below x^128, and what is past it
tailed_below : (low high : ℕ) → low < 2 ^ 64
    → carryless (high * 2 ^ 64 + low) ghash_tail % 2 ^ 128 ≡ bit_xor (tailed high * 2 ^ 64) (carryless low ghash_tail)
tailed_below low high fits =
    let small = tail_product_fits low fits in
    ap (λ (z : ℕ). z % 2 ^ 128) (two_words_tailed low high fits)
    ∙ xor_mod (carryless high ghash_tail * 2 ^ 64) (carryless low ghash_tail) 128
    ∙ ap₂ bit_xor (shl_word (carryless high ghash_tail)) (mod-eq_of_lt (omega arith))

tailed_past : (low high : ℕ) → low < 2 ^ 64 → carryless (high * 2 ^ 64 + low) ghash_tail / 2 ^ 128 ≡ spilt high
tailed_past low high fits =
    let small = tail_product_fits low fits in
    ap (λ (z : ℕ). z / 2 ^ 128) (two_words_tailed low high fits)
    ∙ xor_shr (carryless high ghash_tail * 2 ^ 64) (carryless low ghash_tail) 128
    ∙ ap₂ bit_xor (shr_words (carryless high ghash_tail)) (div-eq_of_lt (omega arith))
    ∙ xor_zero_r (spilt high)

-- one lane, as the code computes it: what the highest word spills goes to the next, and that one is folded last
pub folded : (w0 w1 w2 w3 : ℕ) → w0 < 2 ^ 64 → w1 < 2 ^ 64 → w2 < 2 ^ 64 → w3 < 2 ^ 64
    → bit_xor (bit_xor w1 (tailed w3)) (spilt (bit_xor w2 (spilt w3))) * 2 ^ 64 + bit_xor w0 (tailed (bit_xor w2 (spilt w3)))
    ≡ rem 128 ghash_modulus ((w3 * 2 ^ 64 + w2) * 2 ^ 128 + (w1 * 2 ^ 64 + w0))
folded w0 w1 w2 w3 w0_fits w1_fits w2_fits w3_fits =
    sym (fold_128.remainder (w1 * 2 ^ 64 + w0) (w3 * 2 ^ 64 + w2) (omega arith) (omega arith)
    ∙ ap₂ (λ (a b : ℕ). bit_xor (bit_xor (w1 * 2 ^ 64 + w0) a) b) (tailed_below w2 w3 w2_fits) second
    ∙ xor_assoc (w1 * 2 ^ 64 + w0) (bit_xor (tailed w3 * 2 ^ 64) (carryless w2 ghash_tail)) (carryless (spilt w3) ghash_tail)
    ∙ ap (bit_xor (w1 * 2 ^ 64 + w0))
    (xor_assoc (tailed w3 * 2 ^ 64) (carryless w2 ghash_tail) (carryless (spilt w3) ghash_tail)
    ∙ ap (bit_xor (tailed w3 * 2 ^ 64)) (sym (sum_carryless w2 (spilt w3) ghash_tail)))
    ∙ joined (carryless (bit_xor w2 (spilt w3)) ghash_tail) (tailed w3))
  where
    spill_fits : spilt w3 < 2 ^ 64
    spill_fits = let small = tail_product_fits w3 w3_fits in omega arith

    second : carryless (carryless (w3 * 2 ^ 64 + w2) ghash_tail / 2 ^ 128) ghash_tail % 2 ^ 128 ≡ carryless (spilt w3) ghash_tail
    second =
        let small = tail_product_fits (spilt w3) spill_fits in
        ap (λ (z : ℕ). carryless z ghash_tail % 2 ^ 128) (tailed_past w2 w3 w2_fits) ∙ mod-eq_of_lt (omega arith)

    joined : (c t : ℕ) → bit_xor (w1 * 2 ^ 64 + w0) (bit_xor (t * 2 ^ 64) c)
        ≡ bit_xor (bit_xor w1 t) (c / 2 ^ 64) * 2 ^ 64 + bit_xor w0 (c % 2 ^ 64)
    joined c t =
        sym (xor_assoc (w1 * 2 ^ 64 + w0) (t * 2 ^ 64) c)
        ∙ ap₂ bit_xor (xor_high w1 w0 t w0_fits) (sym (shr_split c 64))
        ∙ xor_block 64 (bit_xor w1 t) (c / 2 ^ 64) w0 (c % 2 ^ 64) w0_fits (low_fits c)

-- the remainders in lanes, from the products of words by the tail
pub remainders : (w0 w1 w2 w3 : List ℕ) → Each1 (Fits w64) w0 → Each1 (Fits w64) w1 → Each1 (Fits w64) w2 → Each1 (Fits w64) w3
    → double_words (Xors w0 (map tailed (Xors w2 (map spilt w3)))) (Xors (Xors w1 (map tailed w3)) (map spilt (Xors w2 (map spilt w3))))
    ≡ map (rem 128 ghash_modulus) (quadruple_words w0 w1 w2 w3)
remainders [] w1 w2 w3 f0 f1 f2 f3 = refl
remainders (a ∷ w0) [] [] w3 f0 f1 f2 f3 = refl
remainders (a ∷ w0) [] (c ∷ w2) [] f0 f1 f2 f3 = refl
remainders (a ∷ w0) [] (c ∷ w2) (d ∷ w3) f0 f1 f2 f3 = refl
remainders (a ∷ w0) (b ∷ w1) [] w3 f0 f1 f2 f3 = refl
remainders (a ∷ w0) (b ∷ w1) (c ∷ w2) [] f0 f1 f2 f3 = refl
remainders (a ∷ w0) (b ∷ w1) (c ∷ w2) (d ∷ w3) f0 f1 f2 f3 =
    ap₂ (λ (z : ℕ) (zs : List ℕ). z ∷ zs) (folded a b c d f0.0.fits f1.0.fits f2.0.fits f3.0.fits) (remainders w0 w1 w2 w3 f0.1 f1.1 f2.1 f3.1)

-- double words fit
double_words_fit : (lows highs : List ℕ) → Each1 (Fits w64) lows → Each1 (Fits w64) highs → Each1 (λ x. x < 2 ^ 128) (double_words lows highs)
double_words_fit [] highs low_fit high_fit = tt
double_words_fit (l ∷ lows) [] low_fit high_fit = tt
double_words_fit (l ∷ lows) (h ∷ highs) low_fit high_fit =
    let low_small = low_fit.0.fits in
    let high_small = high_fit.0.fits in
    (omega arith, double_words_fit lows highs low_fit.1 high_fit.1)

-- the remainders of products of elements are their products modulo the polynomial
remainders_of_products : (xs ys : List ℕ) → Each1 (λ x. x < 2 ^ 128) xs → Each1 (λ x. x < 2 ^ 128) ys
    → map (rem 128 ghash_modulus) (zip2 carryless xs ys) ≡ zip2 (mul_mod 128 ghash_modulus) xs ys
remainders_of_products [] ys xs_fit ys_fit = refl
remainders_of_products (x ∷ xs) [] xs_fit ys_fit = refl
remainders_of_products (x ∷ xs) (y ∷ ys) xs_fit ys_fit =
    ap₂ (λ (z : ℕ) (zs : List ℕ). z ∷ zs) (sym (mul_mod-rem 128 ghash_modulus refl x y xs_fit.0 ys_fit.0))
    (remainders_of_products xs ys xs_fit.1 ys_fit.1)

-- products in lanes modulo the polynomial, from the products and their remainders
pub modular_products : (x0 x1 y0 y1 wholes rests : List ℕ)
    → Each1 (Fits w64) x0 → Each1 (Fits w64) x1 → Each1 (Fits w64) y0 → Each1 (Fits w64) y1
    → wholes ≡ zip2 carryless (double_words x0 x1) (double_words y0 y1) → rests ≡ map (rem 128 ghash_modulus) wholes
    → rests ≡ zip2 (mul_mod 128 ghash_modulus) (double_words x0 x1) (double_words y0 y1)
modular_products x0 x1 y0 y1 wholes rests f0 f1 f2 f3 is_whole is_rest =
    is_rest ∙ ap (map (rem 128 ghash_modulus)) is_whole
    ∙ remainders_of_products (double_words x0 x1) (double_words y0 y1) (double_words_fit x0 x1 f0 f1) (double_words_fit y0 y1 f2 f3)

-- ---- two lanes

-- two products modulo the polynomial, from the steps of the code
pub two_products : (a b p q r s : ℕ) (lefts rights results : List ℕ) → lefts ≡ a ∷ b ∷ [] → rights ≡ p ∷ q ∷ []
    → results ≡ zip2 (mul_mod 128 ghash_modulus) lefts rights → results ≡ r ∷ s ∷ []
    → (r ≡ mul_mod 128 ghash_modulus a p) × (s ≡ mul_mod 128 ghash_modulus b q)
two_products a b p q r s lefts rights results is_left is_right is_product is_result =
    (ap (λ (xs : List ℕ). slice_index xs 0) all, ap (λ (xs : List ℕ). slice_index xs 1) all)
  where
    all : r ∷ s ∷ [] ≡ mul_mod 128 ghash_modulus a p ∷ mul_mod 128 ghash_modulus b q ∷ []
    all = sym is_result ∙ is_product ∙ ap₂ (zip2 (mul_mod 128 ghash_modulus)) is_left is_right

-- two products, from the steps of the code: `lows` and `highs` are the halves of the products
pub two_whole_products : (a b p q r0 s0 r1 s1 : ℕ) (lefts rights lows highs : List ℕ)
    → lefts ≡ a ∷ b ∷ [] → rights ≡ p ∷ q ∷ [] → zip2 (λ low high. high * 2 ^ 128 + low) lows highs ≡ zip2 carryless lefts rights
    → lows ≡ r0 ∷ s0 ∷ [] → highs ≡ r1 ∷ s1 ∷ []
    → (carryless a p ≡ r1 * 2 ^ 128 + r0) × (carryless b q ≡ s1 * 2 ^ 128 + s0)
two_whole_products a b p q r0 s0 r1 s1 lefts rights lows highs is_left is_right is_whole is_low is_high =
    (ap (λ (xs : List ℕ). slice_index xs 0) all, ap (λ (xs : List ℕ). slice_index xs 1) all)
  where
    all : carryless a p ∷ carryless b q ∷ [] ≡ (r1 * 2 ^ 128 + r0) ∷ (s1 * 2 ^ 128 + s0) ∷ []
    all =
        sym (ap₂ (zip2 carryless) is_left is_right) ∙ sym is_whole
        ∙ ap₂ (zip2 (λ (low high : ℕ). high * 2 ^ 128 + low)) is_low is_high
