-- Tables of the sums of four rows, and the product of a matrix by such sums.
use Rattle.std.proofs.Common.{◌≡◌, inl, inr, ℕ, zero, suc, ◌+◌, ◌*◌, ◌-◌, ◌/◌, ◌%◌, ◌^◌, ◌<◌, ◌≤◌, Bool, List, [], ◌∷◌, length, replicate, refl, sym, ◌∙◌, ap, ap₂, arith, below_more, le_refl}
use Rattle.std.specs.Prelude.{bit_and, bit_xor, if◌then◌else◌, nat_lt, slice_index}
use Rattle.std.specs.Int.{bit_at}
use Rattle.std.specs.Simd.Lanes.{zip2}
use Rattle.std.proofs.lemmas.Bool.{cases_lt, lt-ltb, le-ltb}
use Rattle.std.proofs.lemmas.Grind.{div_ceil_times}
use Rattle.std.proofs.lemmas.Nat.Bits.{and_pow, bit_at_above, bit_at-lt, bit_at_xor, bit_at-zero}
use Rattle.std.proofs.lemmas.List.{get_or-replicate}
use Rattle.std.proofs.lemmas.Simd.{get_or-chunk, get_or-zip2, length-chunk, length-zip2}
use native.Mathlib.Nat.{mod-eq_of_lt, mod-lt, one-mul, zero-mul}
use lib.Bits.{xor_add_and, xor_zero_r}
use lib.Lanes.{chunk}
use Rattle.field_base.specs.Basis.{sum_below}
use Rattle.field_base.specs.lemmas.BitRing.{two_cases}
use Rattle.field_base.specs.LinearMaps.{linear_image}
use Rattle.field_base.specs.Tower.{tower_mul}
use Rattle.field_base.proofs.BasisSums.{bit_at-add, bit_at-mod, sum_below-add, sum_below-same}
use Rattle.field_base.proofs.LinearMapLemmas.{the_linear_map}
use Rattle.field_slices.specs.Matrices.{IsMatrixProduct}
use Rattle.bits_packed.specs.BitMatrices.{HasEntries, HasTables, IsKeptOutside, IsRangeWritten, bit_entry, partial_word, row_word, sum_at_bits, sum_of_digits, word_of, words_for}

-- ---- sums

-- one term more
pub sum_next : (f : ℕ → ℕ) (n : ℕ) → sum_below f (n + 1) ≡ bit_xor (sum_below f n) (f n)
unfolding sum_below
sum_next f n = let e : n + 1 ≡ suc n = omega arith in ap (sum_below f) e

-- a sum of zeros
pub sum_zero : (f : ℕ → ℕ) (n : ℕ) → ((j : ℕ) → f j ≡ 0) → sum_below f n ≡ 0
unfolding sum_below
sum_zero f zero none = refl
sum_zero f (suc n) none = ap₂ bit_xor (sum_zero f n none) (none n) ∙ xor_zero_r 0

-- a sum in groups of four terms
sum_in_fours : (f : ℕ → ℕ) (n : ℕ) → sum_below (λ g. sum_below (λ b. f (4 * g + b)) 4) n ≡ sum_below f (4 * n)
unfolding sum_below
sum_in_fours f zero = refl
sum_in_fours f (suc n) =
    let next : 4 * n + 4 ≡ 4 * suc n = omega arith in
    ap (λ (x : ℕ). bit_xor x (sum_below (λ b. f (4 * n + b)) 4)) (sum_in_fours f n)
    ∙ sym (sum_below-add f (4 * n) 4) ∙ ap (sum_below f) next

-- the sum of two bits
bit_sum : (a b : ℕ) → a < 2 → b < 2 → (a + b) % 2 ≡ bit_xor a b
bit_sum a b p q =
    two_cases (λ x. (y : ℕ) → y < 2 → (x + y) % 2 ≡ bit_xor x y)
    (two_cases (λ y. (0 + y) % 2 ≡ bit_xor 0 y) refl refl)
    (two_cases (λ y. (1 + y) % 2 ≡ bit_xor 1 y) refl refl)
    a p b q

-- a bit of the sum of two numbers
pub bit_of_xor : (a b j : ℕ) → bit_at (bit_xor a b) j ≡ bit_xor (bit_at a j) (bit_at b j)
bit_of_xor a b j = bit_at_xor a b j ∙ bit_sum (bit_at a j) (bit_at b j) (bit_at-lt a j) (bit_at-lt b j)

-- a bit of a sum is the sum of the bits
pub bit_of_sum : (f : ℕ → ℕ) (j n : ℕ) → bit_at (sum_below f n) j ≡ sum_below (λ k. bit_at (f k) j) n
unfolding sum_below
bit_of_sum f j zero = bit_at-zero j
bit_of_sum f j (suc n) =
    bit_of_xor (sum_below f n) (f n) j
    ∙ ap (λ (x : ℕ). bit_xor x (bit_at (f n) j)) (bit_of_sum f j n)

-- the product of GF(2) is that of the numbers 0 and 1
pub bit_times : (a b : ℕ) → a < 2 → b < 2 → tower_mul 0 a b ≡ a * b
unfolding tower_mul
bit_times a b small other_small = ap₂ (λ (x y : ℕ). x * y) (mod-eq_of_lt small) (mod-eq_of_lt other_small)

-- a bit of a number or of 0, as another bit says
pub bit_of_product : (b y j : ℕ) → b < 2 → bit_at (b * y) j ≡ b * bit_at y j
bit_of_product b y j small =
    two_cases (λ x. bit_at (x * y) j ≡ x * bit_at y j)
    (ap (λ (z : ℕ). bit_at z j) (zero-mul y) ∙ bit_at-zero j ∙ sym (zero-mul (bit_at y j)))
    (ap (λ (z : ℕ). bit_at z j) (one-mul y) ∙ sym (one-mul (bit_at y j)))
    b small

-- ---- a table doubles

-- a number and a power of two above it
add_power : (t b : ℕ) → t < 2 ^ b → t + 2 ^ b ≡ bit_xor t (2 ^ b)
add_power t b small =
    let none : bit_and t (2 ^ b) ≡ 0 = and_pow t b ∙ ap (λ (x : ℕ). x * 2 ^ b) (bit_at_above t b b small (le_refl b)) ∙ zero-mul (2 ^ b) in
    let sum = xor_add_and t (2 ^ b) in omega (arith, sum, none)

-- sums at the set bits below 4 are a linear map
four_images : (f : ℕ → ℕ) (x : ℕ) → sum_at_bits f 4 x ≡ linear_image (f 0 ∷ f 1 ∷ f 2 ∷ f 3 ∷ []) x
unfolding linear_image sum_below
four_images f x = refl

-- whose images are the summands
four_summands : (f : ℕ → ℕ) (b : ℕ) → b < 4 → slice_index (f 0 ∷ f 1 ∷ f 2 ∷ f 3 ∷ []) b ≡ f b
four_summands f zero small = refl
four_summands f (suc zero) small = refl
four_summands f (suc (suc zero)) small = refl
four_summands f (suc (suc (suc zero))) small = refl
four_summands f (suc (suc (suc (suc b)))) small = absurd (omega (arith, small))

-- entry t + 2 ^ b is entry t plus summand b
doubled : (f : ℕ → ℕ) (b t u : ℕ) → b < 4 → t < 2 ^ b → u ≡ t + 2 ^ b → bit_xor (sum_at_bits f 4 t) (f b) ≡ sum_at_bits f 4 u
doubled f b t u small below is =
    let images = f 0 ∷ f 1 ∷ f 2 ∷ f 3 ∷ [] in
    sym
    (four_images f u ∙ ap (linear_image images) (is ∙ add_power t b below) ∙ (the_linear_map images).of_sum t (2 ^ b)
    ∙ ap₂ bit_xor (sym (four_images f t)) ((the_linear_map images).of_bit b small ∙ four_summands f b small))

-- entry 0 is 0
pub first_entry : (width : ℕ) (rows : ℕ → ℕ → ℕ) (first : ℕ) (old now : List ℕ) → width ≤ 8
    → IsRangeWritten first 8 (λ p. 0) old now → HasEntries width 1 rows first now
first_entry width rows first old now narrow cleared u w below inside =
    let place : first + (8 * u + w) ≡ first + w = omega (arith, below) in
    let none : u ≡ 0 = omega (arith, below) in
    ap (slice_index now) place ∙ cleared.written w (omega (arith, narrow, inside))
    ∙ sym (ap (sum_at_bits (λ c. rows c w) 4) none
    ∙ sum_zero (λ b. bit_at 0 b * rows b w) 4 (λ b. ap (λ (x : ℕ). x * rows b w) (bit_at-zero b) ∙ zero-mul (rows b w)))

-- and with each row the entries double
module _ (width b : ℕ) (rows : ℕ → ℕ → ℕ) (first : ℕ) (row old now : List ℕ) (small : b < 4) (narrow : width ≤ 8)
    (is : (w : ℕ) → w < width → slice_index row w ≡ rows b w) (before : HasEntries width (2 ^ b) rows first old)
    (write : IsRangeWritten (first + 8 * 2 ^ b) (8 * 2 ^ b) (λ p. bit_xor (slice_index old (first + p)) (slice_index row (p % 8))) old now) where
  upper : (u t w : ℕ) → u ≡ t + 2 ^ b → t < 2 ^ b → w < width → slice_index now (first + (8 * u + w)) ≡ sum_at_bits (λ c. rows c w) 4 u
  upper u t w split below inside =
      let place : first + (8 * u + w) ≡ first + 8 * 2 ^ b + (8 * t + w) = omega (arith, split) in
      let rest : (8 * t + w) % 8 ≡ w = omega (arith, inside, narrow) in
      ap (slice_index now) place ∙ write.written (8 * t + w) (omega (arith, below, inside, narrow))
      ∙ ap₂ bit_xor (before t w below inside) (ap (slice_index row) rest ∙ is w inside)
      ∙ doubled (λ c. rows c w) b t u small below split

  pub entries_doubled : HasEntries width (2 ^ b + 2 ^ b) rows first now
  entries_doubled u w below inside =
      elim (cases_lt u (2 ^ b)) [
        | inl low ↦ write.others (first + (8 * u + w)) (inl (omega (arith, low, inside, narrow))) ∙ before u w low inside
        | inr high ↦ upper u (u - 2 ^ b) w (omega (arith, high)) (omega (arith, high, below)) inside
      ]

-- ---- tables one behind the other

pub no_tables : (width : ℕ) (rows : ℕ → ℕ → ℕ) (values : List ℕ) → HasTables width 0 rows values
no_tables width rows values g below = absurd (omega (arith, below))

pub table_more : (width n : ℕ) (rows : ℕ → ℕ → ℕ) (old now : List ℕ) → width ≤ 8 → HasTables width n rows old
    → HasEntries width 16 (λ c w. rows (4 * n + c) w) (128 * n) now → IsKeptOutside (128 * n) 128 old now → HasTables width (n + 1) rows now
table_more width n rows old now narrow before own kept =
    below_more (λ g. HasEntries width 16 (λ c w. rows (4 * g + c) w) (128 * g) now) n
    (λ g below u w inside within.
    kept (128 * g + (8 * u + w)) (inl (omega (arith, below, inside, within, narrow))) ∙ before g below u w inside within)
    own

-- ---- the sum of one entry of each table

-- each word of eight zeros is 0
pub eight_zeros : (w : ℕ) → w < 8 → slice_index (replicate 8 0) w ≡ 0
eight_zeros w inside = get_or-replicate 8 w 0 0 inside

module _ (tables sum : List ℕ) (word g digit : ℕ) (room : 128 * g + 8 * digit + 8 ≤ length tables)
    (is : digit ≡ word / 2 ^ (4 * g) % 16) (long : length sum ≡ 8) where
  -- the entry
  abbrev entry : List ℕ
  entry = chunk (128 * g + 8 * digit) 8 tables

  entry_long : length entry ≡ 8
  entry_long = length-chunk (128 * g + 8 * digit) 8 tables room

  pub digit_long : length (zip2 bit_xor sum (chunk (128 * g + 8 * digit) 8 tables)) ≡ 8
  digit_long = length-zip2 bit_xor sum entry (long ∙ sym entry_long) ∙ long

  pub digit_more : ((w : ℕ) → w < 8 → slice_index sum w ≡ sum_of_digits tables word g w)
      → (w : ℕ) → w < 8
      → slice_index (zip2 bit_xor sum (chunk (128 * g + 8 * digit) 8 tables)) w ≡ sum_of_digits tables word (g + 1) w
  digit_more so_far w inside =
      let place : 128 * g + 8 * digit + w ≡ 128 * g + (8 * digit + w) = omega arith in
      get_or-zip2 bit_xor sum entry w 0 0 0 (omega (arith, long, inside)) (omega (arith, entry_long, inside))
      ∙ ap₂ bit_xor (so_far w inside)
      (get_or-chunk (128 * g + 8 * digit) 8 tables w 0 inside ∙ ap (slice_index tables) place
      ∙ ap (λ (d : ℕ). slice_index tables (128 * g + (8 * d + w))) is)
      ∙ sym (sum_next (λ h. slice_index tables (128 * h + (8 * (word / 2 ^ (4 * h) % 16) + w))) g)

-- one digit gives the terms of four rows
digit_terms : (f : ℕ → ℕ) (word g : ℕ) → sum_at_bits (λ c. f (4 * g + c)) 4 (word / 2 ^ (4 * g) % 16)
    ≡ sum_below (λ b. bit_at word (4 * g + b) * f (4 * g + b)) 4
digit_terms f word g =
    sum_below-same (λ b. bit_at (word / 2 ^ (4 * g) % 16) b * f (4 * g + b)) (λ b. bit_at word (4 * g + b) * f (4 * g + b)) 4
    (λ b below. ap (λ (x : ℕ). x * f (4 * g + b)) (bit_at-mod (word / 2 ^ (4 * g)) 4 b below ∙ sym (bit_at-add word (4 * g) b)))

-- so that the sum of entries is that of the rows at the set bits of the word
pub sum_of_tables : (width w : ℕ) (rows : ℕ → ℕ → ℕ) (tables : List ℕ) (word : ℕ) → HasTables width 16 rows tables → w < width
    → sum_of_digits tables word 16 w ≡ sum_at_bits (λ b. rows b w) 64 word
sum_of_tables width w rows tables word has inside =
    sum_below-same (λ g. slice_index tables (128 * g + (8 * (word / 2 ^ (4 * g) % 16) + w)))
    (λ g. sum_below (λ b. bit_at word (4 * g + b) * rows (4 * g + b) w) 4) 16
    (λ g below. has g below (word / 2 ^ (4 * g) % 16) w (mod-lt (word / 2 ^ (4 * g)) (omega arith)) inside ∙ digit_terms (λ b. rows b w) word g)
    ∙ sum_in_fours (λ b. bit_at word b * rows b w) 16

-- ---- 64 rows more

module _ (inner left_words words : ℕ) (left right : List ℕ) (pass i v : ℕ) where
  -- what row k behind row 64 * pass adds
  abbrev term : ℕ → ℕ
  term k = bit_at (word_of left_words left i pass) k * row_word inner words right (64 * pass + k) v

  -- is term 64 * pass + k of the whole sum
  term_is : (k : ℕ) → k < 64 → term k ≡ bit_entry left_words left i (64 * pass + k) * row_word inner words right (64 * pass + k) v
  term_is k inside =
      let quotient : (64 * pass + k) / 64 ≡ pass = omega (arith, inside) in
      let rest : (64 * pass + k) % 64 ≡ k = omega (arith, inside) in
      sym (ap₂ (λ (p q : ℕ). bit_at (word_of left_words left i p) q * row_word inner words right (64 * pass + k) v) quotient rest)

  -- and the sum of entries those of all 64
  pub pass_more : (width w : ℕ) (rows : ℕ → ℕ → ℕ) (tables : List ℕ) → HasTables width 16 rows tables → w < width
      → ((k : ℕ) → k < 64 → rows k w ≡ row_word inner words right (64 * pass + k) v)
      → bit_xor (partial_word inner left_words words left right (64 * pass) i v) (sum_of_digits tables (word_of left_words left i pass) 16 w)
      ≡ partial_word inner left_words words left right (64 * (pass + 1)) i v
  pass_more width w rows tables has inside are =
      let word = word_of left_words left i pass in
      let whole : ℕ → ℕ = λ k. bit_entry left_words left i k * row_word inner words right k v in
      let next : 64 * pass + 64 ≡ 64 * (pass + 1) = omega arith in
      ap (bit_xor (sum_below whole (64 * pass)))
      (sum_of_tables width w rows tables word has inside
      ∙ sum_below-same (λ b. bit_at word b * rows b w) (λ k. whole (64 * pass + k)) 64
      (λ k short. ap (λ (x : ℕ). bit_at word k * x) (are k short) ∙ term_is k short))
      ∙ sym (sum_below-add whole (64 * pass) 64) ∙ ap (sum_below whole) next

-- ---- the product

-- a row that the matrix has, and one behind its last
pub row_inside : (inner words : ℕ) (values : List ℕ) (k v : ℕ) → k < inner → row_word inner words values k v ≡ word_of words values k v
row_inside inner words values k v inside = ap (λ (t : Bool). if t then word_of words values k v else 0) (lt-ltb k inner inside)

pub row_behind : (inner words : ℕ) (values : List ℕ) (k v : ℕ) → inner ≤ k → row_word inner words values k v ≡ 0
row_behind inner words values k v past = ap (λ (t : Bool). if t then word_of words values k v else 0) (le-ltb k inner past)

-- the same by the places of 64 rows from one on, of which those behind the last are one place behind it
pub row_from : (inner words row k place : ℕ) (values : List ℕ) (v : ℕ) → place ≡ (if nat_lt (row + k) inner then row + k else inner)
    → row_word inner words values place v ≡ row_word inner words values (row + k) v
row_from inner words row k place values v is =
    elim (cases_lt (row + k) inner) [
      | inl inside ↦
          ap (λ (p : ℕ). row_word inner words values p v)
          (is ∙ ap (λ (t : Bool). if t then row + k else inner) (lt-ltb (row + k) inner inside))
      | inr past ↦
          ap (λ (p : ℕ). row_word inner words values p v)
          (is ∙ ap (λ (t : Bool). if t then row + k else inner) (le-ltb (row + k) inner past))
          ∙ row_behind inner words values inner v (le_refl inner) ∙ sym (row_behind inner words values (row + k) v past)
    ]

-- a bit of a word of the product
pub partial_bits : (inner left_words words : ℕ) (left right : List ℕ) (i j : ℕ) → left_words ≡ words_for inner
    → bit_at (partial_word inner left_words words left right (64 * left_words) i (j / 64)) (j % 64)
    ≡ sum_below (λ k. bit_entry left_words left i k * bit_entry words right k j) inner
partial_bits inner left_words words left right i j is =
    bit_of_sum (λ k. bit_entry left_words left i k * row_word inner words right k (j / 64)) (j % 64) (64 * left_words)
    ∙ ap (sum_below terms) split ∙ sum_below-add terms inner (64 * left_words - inner)
    ∙ ap₂ bit_xor (sum_below-same terms (λ k. bit_entry left_words left i k * bit_entry words right k j) inner here)
    (sum_zero (λ k. terms (inner + k)) (64 * left_words - inner) behind)
    ∙ xor_zero_r (sum_below (λ k. bit_entry left_words left i k * bit_entry words right k j) inner)
  where
    terms : ℕ → ℕ
    terms k = bit_at (bit_entry left_words left i k * row_word inner words right k (j / 64)) (j % 64)

    split : 64 * left_words ≡ inner + (64 * left_words - inner)
    split = let enough = (div_ceil_times inner 64 (omega arith)).0 in omega (arith, is, enough)

    term_bit : (k : ℕ) → terms k ≡ bit_entry left_words left i k * bit_at (row_word inner words right k (j / 64)) (j % 64)
    term_bit k = bit_of_product (bit_entry left_words left i k) (row_word inner words right k (j / 64)) (j % 64)
        (bit_at-lt (word_of left_words left i (k / 64)) (k % 64))

    here : (k : ℕ) → k < inner → terms k ≡ bit_entry left_words left i k * bit_entry words right k j
    here k less =
        term_bit k ∙ ap (λ (x : ℕ). bit_entry left_words left i k * bit_at x (j % 64)) (row_inside inner words right k (j / 64) less)

    zeros : (x : ℕ) → x * 0 ≡ 0
    zeros x = omega arith

    behind : (k : ℕ) → terms (inner + k) ≡ 0
    behind k =
        ap (λ (x : ℕ). bit_at (bit_entry left_words left i (inner + k) * x) (j % 64)) (row_behind inner words right (inner + k) (j / 64) (omega arith))
        ∙ ap (λ (x : ℕ). bit_at x (j % 64)) (zeros (bit_entry left_words left i (inner + k))) ∙ bit_at-zero (j % 64)

-- bits of the words of the product
pub product_bits : (rows inner left_words words : ℕ) (left right now : List ℕ) → left_words ≡ words_for inner
    → ((i v : ℕ) → i < rows → v < words → word_of words now i v ≡ partial_word inner left_words words left right (64 * left_words) i v)
    → IsMatrixProduct (tower_mul 0) rows inner (64 * words) (bit_entry left_words left) (bit_entry words right) (bit_entry words now)
product_bits rows inner left_words words left right now is total i j inside within =
    ap (λ (x : ℕ). bit_at x (j % 64)) (total i (j / 64) inside (omega (arith, within)))
    ∙ partial_bits inner left_words words left right i j is
    ∙ sum_below-same (λ k. bit_entry left_words left i k * bit_entry words right k j)
    (λ k. tower_mul 0 (bit_entry left_words left i k) (bit_entry words right k j)) inner
    (λ k _. sym (bit_times (bit_entry left_words left i k) (bit_entry words right k j)
    (bit_at-lt (word_of left_words left i (k / 64)) (k % 64)) (bit_at-lt (word_of words right k (j / 64)) (j % 64))))
