-- Carryless products in lanes, each by the theorem on one product: for any number of lanes.
use Rattle.std.proofs.Common.{◌≡◌, ℕ, zero, suc, ◌+◌, ◌*◌, ◌/◌, ◌%◌, ◌^◌, ◌<◌, List, [], ◌∷◌, length, map, replicate, refl, sym, ◌∙◌, ap, ap₂, subst, arith, lit<, w64, Fits}
use Rattle.std.specs.Prelude.{bit_and, bit_xor}
use Rattle.std.specs.Simd.Lanes.{zip2, Each1}
use Rattle.std.proofs.lemmas.List.{length-map}
use Rattle.std.proofs.lemmas.Nat.{and_mask, xor_lt, xor_mod}
use native.Mathlib.Nat.{mod-lt}
use Rattle.field_base.specs.Carryless.{carryless}
use Rattle.field_base.proofs.CarrylessProduct.{carryless_lt}
use Rattle.word_carryless.specs.DoubleWords.{AreHalfProducts, AreWordProducts, high_halves, low_halves, sums_of_halves}
use Rattle.word_carryless.specs.Masked.{AreClasses, class_mask, in_class}
use Rattle.word_carryless.proofs.Classes.{low_carryless}
use Rattle.word_carryless.proofs.KaratsubaLemmas.{carryless_32, carryless_halves, joined_halves}

abbrev half_product : ℕ → ℕ → ℕ
half_product a b = carryless (a % 2 ^ 32) (b % 2 ^ 32)

-- the words of a product of words
abbrev low_word : ℕ → ℕ → ℕ
low_word a b = carryless a b % 2 ^ 64

abbrev high_word : ℕ → ℕ → ℕ
high_word a b = carryless a b / 2 ^ 64

-- ---- the low words of products

-- the integer products modulo 2^64 of two lists of words, place by place
abbrev pub products_in_lanes : List ℕ → List ℕ → List ℕ
products_in_lanes = zip2 (λ x y. x * y % 2 ^ 64)

-- the sums of four lists of words, place by place
abbrev sum_in_lanes : List ℕ → List ℕ → List ℕ → List ℕ → List ℕ
sum_in_lanes a b c d = zip2 bit_xor (zip2 bit_xor (zip2 bit_xor a b) c) d

-- the bits of class i of each of n words
abbrev kept : ℕ → ℕ → List ℕ → List ℕ
kept n i words = zip2 bit_and words (replicate n (class_mask i))

-- the sums of the products of classes, as the code computes them
abbrev sum_of_classes : ℕ → List ℕ → List ℕ → List ℕ → List ℕ → List ℕ → List ℕ → List ℕ → List ℕ → List ℕ
sum_of_classes n x0 x1 x2 x3 y0 y1 y2 y3 =
    let p = products_in_lanes in
    sum_in_lanes (kept n 0 (sum_in_lanes (p x0 y0) (p x1 y3) (p x2 y2) (p x3 y1))) (kept n 1 (sum_in_lanes (p x0 y1) (p x1 y0) (p x2 y3) (p x3 y2)))
    (kept n 2 (sum_in_lanes (p x0 y2) (p x1 y1) (p x2 y0) (p x3 y3))) (kept n 3 (sum_in_lanes (p x0 y3) (p x1 y2) (p x2 y1) (p x3 y0)))

-- the lanes' classes are multiplied as those of a word are
low_words : (n : ℕ) (xs ys : List ℕ) → length xs ≡ n → length ys ≡ n → Each1 (Fits w64) xs → Each1 (Fits w64) ys
    → sum_of_classes n (in_class 0 xs) (in_class 1 xs) (in_class 2 xs) (in_class 3 xs) (in_class 0 ys) (in_class 1 ys) (in_class 2 ys) (in_class 3 ys)
    ≡ zip2 low_word xs ys
low_words zero [] [] x_long y_long x_fits y_fits = refl
low_words zero [] (y ∷ ys) x_long y_long x_fits y_fits = absurd (omega arith)
low_words zero (x ∷ xs) ys x_long y_long x_fits y_fits = absurd (omega arith)
low_words (suc n) [] ys x_long y_long x_fits y_fits = absurd (omega arith)
low_words (suc n) (x ∷ xs) [] x_long y_long x_fits y_fits = absurd (omega arith)
low_words (suc n) (x ∷ xs) (y ∷ ys) x_long y_long x_fits y_fits =
    ap₂ (λ (z : ℕ) (zs : List ℕ). z ∷ zs) (low_carryless x y x_fits.0.fits y_fits.0.fits)
    (low_words n xs ys (omega arith) (omega arith) x_fits.1 y_fits.1)

-- words of which a class has n words are n
as_long : (n i : ℕ) (xs x : List ℕ) → length x ≡ n → x ≡ in_class i xs → length xs ≡ n
as_long n i xs x long is = sym (length-map xs (λ a. bit_and a (class_mask i))) ∙ ap length (sym is) ∙ long

-- the products of words, from their classes
pub class_products : (n : ℕ) (left right x0 x1 x2 x3 y0 y1 y2 y3 : List ℕ) → length x0 ≡ n → length y0 ≡ n
    → Each1 (Fits w64) left → Each1 (Fits w64) right → AreClasses left x0 x1 x2 x3 → AreClasses right y0 y1 y2 y3
    → sum_of_classes n x0 x1 x2 x3 y0 y1 y2 y3 ≡ zip2 low_word left right
class_products n left right x0 x1 x2 x3 y0 y1 y2 y3 x_long y_long left_fits right_fits x y =
    rw (x.of_0, x.of_1, x.of_2, x.of_3, y.of_0, y.of_1, y.of_2, y.of_3)
    (low_words n left right (as_long n 0 left x0 x_long x.of_0) (as_long n 0 right y0 y_long y.of_0) left_fits right_fits)

-- the classes of words are those of the same words
pub same_classes : (xs ys x0 x1 x2 x3 : List ℕ) → xs ≡ ys → AreClasses xs x0 x1 x2 x3 → AreClasses ys x0 x1 x2 x3
same_classes xs ys x0 x1 x2 x3 e = subst (λ (zs : List ℕ). AreClasses zs x0 x1 x2 x3) e

-- low halves are words
pub halves_fit : (xs : List ℕ) → Each1 (Fits w64) (low_halves xs)
halves_fit [] = tt
halves_fit (x ∷ xs) = (record { fits = subst (λ (z : ℕ). z < 2 ^ 64) (sym (and_mask x 32)) (small (mod-lt x (lit< tt))) }, halves_fit xs)
  where
    small : x % 2 ^ 32 < 2 ^ 32 → x % 2 ^ 32 < 2 ^ 64
    small below = omega arith

-- products of half words, which are words
half_products : (xs ys : List ℕ)
    → zip2 low_word (low_halves xs) (low_halves ys) ≡ zip2 half_product xs ys
half_products [] ys = refl
half_products (x ∷ xs) [] = refl
half_products (x ∷ xs) (y ∷ ys) =
    ap₂ (λ (z : ℕ) (zs : List ℕ). z ∷ zs)
    (ap₂ low_word (and_mask x 32) (and_mask y 32) ∙ carryless_32 (x % 2 ^ 32) (y % 2 ^ 32) (mod-lt x (lit< tt)) (mod-lt y (lit< tt)))
    (half_products xs ys)

-- ---- products of words

-- the two words of a double word
parts : (low high whole : ℕ) → low < 2 ^ 64 → high * 2 ^ 64 + low ≡ whole → (low ≡ whole % 2 ^ 64) × (high ≡ whole / 2 ^ 64)
parts low high whole fits e = (omega arith, omega arith)

-- one lane, as the code computes it
word_product : (a b : ℕ) → a < 2 ^ 64 → b < 2 ^ 64 → (low high both : ℕ) → low ≡ half_product a b
    → high ≡ half_product (a / 2 ^ 32) (b / 2 ^ 32) → both ≡ half_product (bit_xor a (a / 2 ^ 32)) (bit_xor b (b / 2 ^ 32))
    → (bit_xor low (bit_xor (bit_xor both low) high * 2 ^ 32 % 2 ^ 64) ≡ low_word a b)
    × (bit_xor high (bit_xor (bit_xor both low) high / 2 ^ 32) ≡ high_word a b)
word_product a b a_fits b_fits low high both of_low of_high of_both =
    parts (bit_xor low (bit_xor (bit_xor both low) high * 2 ^ 32 % 2 ^ 64)) (bit_xor high (bit_xor (bit_xor both low) high / 2 ^ 32))
    (carryless a b) (xor_lt 64 low _ low_fits (mod-lt (bit_xor (bit_xor both low) high * 2 ^ 32) (lit< tt)))
    (sym (carryless_halves 32 a b (a % 2 ^ 32) (a / 2 ^ 32) (b % 2 ^ 32) (b / 2 ^ 32) low high both (mod-lt a (lit< tt)) (mod-lt b (lit< tt))
    (omega arith) (omega arith) of_low
    (of_high ∙ ap₂ carryless (small a a_fits) (small b b_fits))
    (of_both ∙ ap₂ carryless (sums a a_fits) (sums b b_fits))
    ∙ joined_halves 32 low (bit_xor (bit_xor both low) high) high low_fits))
  where
    small : (x : ℕ) → x < 2 ^ 64 → x / 2 ^ 32 % 2 ^ 32 ≡ x / 2 ^ 32
    small x fits = omega arith

    sums : (x : ℕ) → x < 2 ^ 64 → bit_xor x (x / 2 ^ 32) % 2 ^ 32 ≡ bit_xor (x % 2 ^ 32) (x / 2 ^ 32)
    sums x fits = xor_mod x (x / 2 ^ 32) 32 ∙ ap (bit_xor (x % 2 ^ 32)) (small x fits)

    low_fits : low < 2 ^ 64
    low_fits = subst (λ (z : ℕ). z < 2 ^ 64) (sym of_low) (carryless_lt 32 32 (a % 2 ^ 32) (b % 2 ^ 32) (mod-lt a (lit< tt)) (mod-lt b (lit< tt)))

abbrev Xors : List ℕ → List ℕ → List ℕ
Xors = zip2 bit_xor

abbrev Ups : List ℕ → List ℕ
Ups = map (λ a. a * 2 ^ 32 % 2 ^ 64)

-- the two words of the product, from the three products of half words, as the code joins them
abbrev LowWords : List ℕ → List ℕ → List ℕ → List ℕ
LowWords low high both = Xors low (Ups (Xors (Xors both low) high))

abbrev HighWords : List ℕ → List ℕ → List ℕ → List ℕ
HighWords low high both = Xors high (high_halves (Xors (Xors both low) high))

-- the words of the products in lanes
word_products : (xs ys : List ℕ) → Each1 (Fits w64) xs → Each1 (Fits w64) ys
    → (let low = zip2 half_product xs ys in
    let high = zip2 half_product (high_halves xs) (high_halves ys) in
    let both = zip2 half_product (sums_of_halves xs) (sums_of_halves ys) in
    AreWordProducts xs ys (LowWords low high both) (HighWords low high both))
word_products [] ys x_fits y_fits = (refl, refl)
word_products (x ∷ xs) [] x_fits y_fits = (refl, refl)
word_products (x ∷ xs) (y ∷ ys) x_fits y_fits =
    let here = word_product x y x_fits.0.fits y_fits.0.fits _ _ _ refl refl refl in
    let rest = word_products xs ys x_fits.1 y_fits.1 in
    (ap₂ (λ (z : ℕ) (zs : List ℕ). z ∷ zs) here.0 rest.0, ap₂ (λ (z : ℕ) (zs : List ℕ). z ∷ zs) here.1 rest.1)

-- from the products of the low halves, of the high halves and of their sums
pub joined_products : (xs ys : List ℕ) → Each1 (Fits w64) xs → Each1 (Fits w64) ys → (low high both : List ℕ)
    → AreHalfProducts xs ys low high both → AreWordProducts xs ys (LowWords low high both) (HighWords low high both)
joined_products xs ys x_fits y_fits low high both are =
    rw (
      are.of_low ∙ half_products xs ys,
      are.of_high ∙ half_products (high_halves xs) (high_halves ys),
      are.of_both ∙ half_products (sums_of_halves xs) (sums_of_halves ys),
    )
    (word_products xs ys x_fits y_fits)
