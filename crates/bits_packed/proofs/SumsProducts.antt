-- Products of masked sums of two matrices of bytes, part of the rows after part.
use Rattle.std.proofs.Common.{◌≡◌, inl, inr, ℕ, ◌+◌, ◌*◌, ◌-◌, ◌/◌, ◌%◌, ◌<◌, ◌≤◌, Bool, List, ◌++◌, drop, get_or, length, take, sym, subst, ◌∙◌, ap, ap₂, arith}
use Rattle.std.specs.Prelude.{bit_xor, if◌then◌else◌, nat_lt, slice_index}
use Rattle.std.proofs.lemmas.Bool.{cases_lt, le-ltb, lt-ltb}
use Rattle.std.specs.Int.{bit_at}
use Rattle.std.proofs.lemmas.Grind.{div_ceil_times}
use Rattle.std.proofs.lemmas.Nat.{mul-le}
use Rattle.std.proofs.lemmas.Nat.Bits.{bit_at-zero}
use Rattle.std.proofs.lemmas.List.{get_or-take, get_or_append_left, length-append, length-drop, length-take-le, take_at}
use native.Mathlib.Nat.{mul_comm}
use Rattle.field_base.specs.Basis.{sum_below}
use Rattle.field_base.proofs.BasisSums.{sum_below-add, sum_below-none, sum_below-same}
use Rattle.bits_packed.specs.BitMatrices.{IsRangeWritten, IsStripAdded, bit_entry, partial_word, word_of, words_for}
use Rattle.bits_packed.specs.BytesAsBits.{bilinear_product, block_entry, masked_sum, sums_product}
use Rattle.bits_packed.proofs.FourRowTables.{bit_of_xor, partial_bits, sum_next}
use Rattle.bits_packed.proofs.BilinearProducts.{bilinear-sum}

-- the lesser of two numbers
abbrev pub lesser : ℕ → ℕ → ℕ
lesser x y = if nat_lt x y then x else y

-- entry (i, j) of the product as far as the first n places
abbrev pub first_terms : ℕ → ℕ → ℕ → List ℕ → List ℕ → ℕ → ℕ → ℕ → ℕ
first_terms mask inner width left right i j n =
    sum_below (λ k. masked_sum mask (slice_index left (i * inner + k)) * masked_sum mask (slice_index right (k * width + j))) n

-- ---- one part

-- the sums of a block that has other names
pub sums-named : (bits values : List ℕ) (words mask : ℕ) {width row rows column columns w r n c m : ℕ} → w ≡ width → r ≡ row → n ≡ rows → c ≡ column
    → m ≡ columns
    → ((i j : ℕ) → i < n → j < 64 * words → bit_entry words bits i j ≡ masked_sum mask (block_entry w values r c m i j))
    → (i j : ℕ) → i < rows → j < 64 * words → bit_entry words bits i j ≡ masked_sum mask (block_entry width values row column columns i j)
sums-named bits values words mask {width} {row} {rows} {column} {columns} {w} {r} {n} {c} {m} e f g h k sums i j inside within =
    sums i j (subst (λ (x : ℕ). i < x) (sym g) inside) within
    ∙ ap (λ (x : ℕ). masked_sum mask (block_entry x values r c m i j)) e
    ∙ ap (λ (x : ℕ). masked_sum mask (block_entry width values x c m i j)) f
    ∙ ap (λ (x : ℕ). masked_sum mask (block_entry width values row x m i j)) h
    ∙ ap (λ (x : ℕ). masked_sum mask (block_entry width values row column x i j)) k

module _ (mask inner width : ℕ) (left right : List ℕ) (row rows column columns from count words : ℕ) (left_sums right_sums old now : List ℕ)
    (words-is : words ≡ words_for count) (few : columns ≤ 512)
    (lefts : (i j : ℕ) → i < rows → j < 64 * words → bit_entry words left_sums i j ≡ masked_sum mask (block_entry inner left row from count i j))
    (rights : (k j : ℕ) → k < count → j < 64 * 8
    → bit_entry 8 right_sums k j ≡ masked_sum mask (block_entry width right from column columns k j))
    (strip : IsStripAdded 8 0 8 rows (λ i w. partial_word count (words_for count) 8 left_sums right_sums (64 * words_for count) i (0 + w)) old now)
  where
    -- what place k adds
    abbrev term : ℕ → ℕ → ℕ → ℕ
    term i j k = masked_sum mask (slice_index left ((row + i) * inner + (from + k)))
        * masked_sum mask (slice_index right ((from + k) * width + (column + j)))

    left-sum : (i k : ℕ) → i < rows → k < count → bit_entry words left_sums i k ≡ masked_sum mask (slice_index left ((row + i) * inner + (from + k)))
    left-sum i k inside within =
        let enough = (div_ceil_times count 64 (omega arith)).0 in
        let place : (row + i) * inner + from + k ≡ (row + i) * inner + (from + k) = omega arith in
        lefts i k inside (omega (arith, enough, words-is, within))
        ∙ ap (λ (t : Bool). masked_sum mask (if t then slice_index left ((row + i) * inner + from + k) else 0)) (lt-ltb k count within)
        ∙ ap (λ (p : ℕ). masked_sum mask (slice_index left p)) place

    right-sum : (k j : ℕ) → k < count → j < columns
        → bit_entry 8 right_sums k j ≡ masked_sum mask (slice_index right ((from + k) * width + (column + j)))
    right-sum k j within inside =
        let place : (from + k) * width + column + j ≡ (from + k) * width + (column + j) = omega arith in
        rights k j within (omega (arith, inside, few))
        ∙ ap (λ (t : Bool). masked_sum mask (if t then slice_index right ((from + k) * width + column + j) else 0)) (lt-ltb j columns inside)
        ∙ ap (λ (p : ℕ). masked_sum mask (slice_index right p)) place

    part-entry : (i j : ℕ) → i < rows → j < columns → bit_entry 8 now i j ≡ bit_xor (bit_entry 8 old i j) (sum_below (term i j) count)
    part-entry i j inside within =
        let front : 0 + j / 64 ≡ j / 64 = omega arith in
        ap (λ (v : ℕ). bit_at (word_of 8 now i v) (j % 64)) (sym front)
        ∙ ap (λ (x : ℕ). bit_at x (j % 64)) (strip.added i (j / 64) inside (omega (arith, within, few)))
        ∙ bit_of_xor (word_of 8 old i (0 + j / 64)) (partial_word count (words_for count) 8 left_sums right_sums (64 * words_for count) i (0 + j / 64)) (j % 64)
        ∙ ap₂ bit_xor (ap (λ (v : ℕ). bit_at (word_of 8 old i v) (j % 64)) front)
        (ap (λ (v : ℕ). bit_at (partial_word count (words_for count) 8 left_sums right_sums (64 * words_for count) i v) (j % 64)) front
        ∙ ap (λ (n : ℕ). bit_at (partial_word count n 8 left_sums right_sums (64 * n) i (j / 64)) (j % 64)) (sym words-is)
        ∙ partial_bits count words 8 left_sums right_sums i j words-is
        ∙ sum_below-same (λ k. bit_entry words left_sums i k * bit_entry 8 right_sums k j) (term i j) count
        (λ k below. ap₂ (λ (x y : ℕ). x * y) (left-sum i k inside below) (right-sum k j below within)))

-- ---- all parts

-- the length of a list whose front was written
pub front-long : (front list : List ℕ) (n size : ℕ) → length front ≡ n → n ≤ size → length list ≡ size → length (front ++ drop n list) ≡ size
front-long front list n size long room whole =
    length-append front (drop n list) ∙ ap₂ (λ (x y : ℕ). x + y) long (length-drop n list) ∙ omega (arith, whole, room)

-- a part has two words of a row at most
pub few-words : (words rows count : ℕ) → words ≡ words_for count → count ≤ 128 → rows ≤ 512 → words * rows ≤ 1024
few-words words rows count is few lines =
    let two : words ≤ 2 = let narrow = (div_ceil_times count 64 (omega arith)).1 in omega (arith, narrow, is, few) in
    let most = mul-le words rows 2 512 two lines in omega (arith, most)

pub words-times : (words rows count : ℕ) → words ≡ words_for count → words * rows ≡ rows * words_for count
words-times words rows count is = mul_comm words rows ∙ ap (λ (n : ℕ). rows * n) is

-- before the first part nothing is done
pub none-done : (mask inner width : ℕ) (left right : List ℕ) (row column i j : ℕ) (old now : List ℕ)
    → IsRangeWritten 0 4096 (λ p. 0) old now → i < 512 → j < 512
    → bit_entry 8 now i j ≡ first_terms mask inner width left right (row + i) (column + j) (lesser (128 * 0) inner)
none-done mask inner width left right row column i j old now write inside within =
    let front : i * 8 + j / 64 ≡ 0 + (i * 8 + j / 64) = omega arith in
    ap (λ (x : ℕ). bit_at x (j % 64)) (ap (slice_index now) front ∙ write.written (i * 8 + j / 64) (omega (arith, inside, within)))
    ∙ bit_at-zero (j % 64)
    ∙ sym (ap (first_terms mask inner width left right (row + i) (column + j)) begun ∙ sum_below-none _)
  where
    begun : lesser (128 * 0) inner ≡ 0
    begun = elim (cases_lt (128 * 0) inner) [
      | inl some ↦ ap (λ (t : Bool). if t then 128 * 0 else inner) (lt-ltb (128 * 0) inner some)
      | inr none ↦ ap (λ (t : Bool). if t then 128 * 0 else inner) (le-ltb (128 * 0) inner none) ∙ omega (arith, none)
    ]

-- parts of one size, of which the last may be shorter: where one begins, the next, and the end
pub lesser-begin : (from whole : ℕ) → from < whole → lesser from whole ≡ from
lesser-begin from whole less = ap (λ (t : Bool). if t then from else whole) (lt-ltb from whole less)

pub lesser-end : (from whole : ℕ) → whole ≤ from → lesser from whole ≡ whole
lesser-end from whole all = ap (λ (t : Bool). if t then from else whole) (le-ltb from whole all)

pub lesser-more : (from size next whole count : ℕ) → from + size ≡ next → from < whole → count ≡ lesser size (whole - from)
    → from + count ≡ lesser next whole
lesser-more from size next whole count next-is less is =
    elim (cases_lt next whole) [
      | inl more ↦
          let all = is ∙ lesser-begin size (whole - from) (omega (arith, more, next-is)) in
          let end = lesser-begin next whole more in
          omega (arith, all, end, next-is)
      | inr last ↦
          let some = is ∙ lesser-end size (whole - from) (omega (arith, last, next-is)) in
          let end = lesser-end next whole last in
          omega (arith, some, end, less)
    ]

-- terms of a part behind the first ones
terms-more : (mask inner width : ℕ) (left right : List ℕ) (i j n count : ℕ)
    → bit_xor (first_terms mask inner width left right i j n) (sum_below
    (λ k. masked_sum mask (slice_index left (i * inner + (n + k))) * masked_sum mask (slice_index right ((n + k) * width + j))) count)
    ≡ first_terms mask inner width left right i j (n + count)
terms-more mask inner width left right i j n count =
    sym (sum_below-add (λ k. masked_sum mask (slice_index left (i * inner + k)) * masked_sum mask (slice_index right (k * width + j))) n count)

-- an entry of the rows in front of others
front-entry : (xs ys : List ℕ) (rows i j : ℕ) → length xs ≡ 8 * rows → i < rows → j < 512 → bit_entry 8 (xs ++ ys) i j ≡ bit_entry 8 xs i j
front-entry xs ys rows i j long inside within =
    ap (λ (x : ℕ). bit_at x (j % 64)) (get_or_append_left xs ys 0 (i * 8 + j / 64) (omega (arith, long, inside, within)))

taken-entry : (xs : List ℕ) (rows i j : ℕ) → i < rows → j < 512 → bit_entry 8 (take (8 * rows) xs) i j ≡ bit_entry 8 xs i j
taken-entry xs rows i j inside within =
    ap (λ (x : ℕ). bit_at x (j % 64)) (get_or-take (8 * rows) xs (i * 8 + j / 64) 0 (omega (arith, inside, within)))

module _ (mask inner width : ℕ) (left right : List ℕ) (row rows column columns part count words : ℕ)
    (left_sums left_rest right_sums right_rest product target : List ℕ)
    (less : 128 * part < inner) (count-is : count ≡ lesser 128 (inner - 128 * part))
    (words-is : words ≡ words_for count) (few : columns ≤ 512) (lines : rows ≤ 512) (long : length product ≡ 4096)
    (left-long : length left_sums ≡ words * rows) (right-long : length right_sums ≡ 8 * count)
    (lefts : (i j : ℕ) → i < rows → j < 64 * words
    → bit_entry words left_sums i j ≡ masked_sum mask (block_entry inner left row (128 * part) count i j))
    (rights : (k j : ℕ) → k < count → j < 64 * 8
    → bit_entry 8 right_sums k j ≡ masked_sum mask (block_entry width right (128 * part) column columns k j))
    (strip : IsStripAdded 8 0 8 rows (λ i w. partial_word count (words_for count) 8 (take (words * rows) (left_sums ++ left_rest))
    (take (8 * count) (right_sums ++ right_rest)) (64 * words_for count) i (0 + w)) (take (8 * rows) product) target)
    (so_far : (i j : ℕ) → i < rows → j < columns
    → bit_entry 8 product i j ≡ first_terms mask inner width left right (row + i) (column + j) (lesser (128 * part) inner))
  where
    target-long : length target ≡ 8 * rows
    target-long = strip.shape ∙ length-take-le (8 * rows) product (omega (arith, long, lines))

    next : 128 * part + 128 ≡ 128 * (part + 1)
    next = omega arith

    pub part-done : (i j : ℕ) → i < rows → j < columns → bit_entry 8 (target ++ drop (8 * rows) product) i j
        ≡ first_terms mask inner width left right (row + i) (column + j) (lesser (128 * (part + 1)) inner)
    part-done i j inside within =
        front-entry target (drop (8 * rows) product) rows i j target-long inside (omega (arith, within, few))
        ∙ part-entry mask inner width left right row rows column columns (128 * part) count words left_sums right_sums (take (8 * rows) product) target
        words-is few lefts rights
        (subst (λ (xs : List ℕ). IsStripAdded 8 0 8 rows (λ i w. partial_word count (words_for count) 8 left_sums xs (64 * words_for count) i (0 + w))
        (take (8 * rows) product) target) (take_at right_sums right_rest (8 * count) right-long)
        (subst (λ (xs : List ℕ). IsStripAdded 8 0 8 rows (λ i w. partial_word count (words_for count) 8 xs
        (take (8 * count) (right_sums ++ right_rest)) (64 * words_for count) i (0 + w)) (take (8 * rows) product) target)
        (take_at left_sums left_rest (words * rows) left-long) strip))
        i j inside within
        ∙ ap (λ (x : ℕ). bit_xor x (sum_below (λ k. masked_sum mask (slice_index left ((row + i) * inner + (128 * part + k)))
        * masked_sum mask (slice_index right ((128 * part + k) * width + (column + j)))) count))
        (taken-entry product rows i j inside (omega (arith, within, few)) ∙ so_far i j inside within
        ∙ ap (first_terms mask inner width left right (row + i) (column + j)) (lesser-begin (128 * part) inner less))
        ∙ terms-more mask inner width left right (row + i) (column + j) (128 * part) count
        ∙ ap (first_terms mask inner width left right (row + i) (column + j)) (lesser-more (128 * part) 128 (128 * (part + 1)) inner count next less count-is)

-- ---- all forms

-- the weighted products of the first n forms
abbrev pub forms_sum : List (ℕ × ℕ) → ℕ → ℕ → List ℕ → List ℕ → ℕ → ℕ → ℕ → ℕ
forms_sum forms inner width left right n i j =
    sum_below (λ t. (get_or forms t (0, 0)).1 * sums_product (get_or forms t (0, 0)).0 inner width left right i j) n

-- what one form adds to the entries of a block
pub form-more : (forms : List (ℕ × ℕ)) (inner width row rows column columns n mask weight : ℕ) (left right product : List ℕ)
    → mask ≡ (get_or forms n (0, 0)).0 → weight ≡ (get_or forms n (0, 0)).1
    → ((i j : ℕ) → i < rows → j < columns → bit_entry 8 product i j ≡ sums_product mask inner width left right (row + i) (column + j))
    → (i j : ℕ) → row ≤ i → i < row + rows → column ≤ j → j < column + columns
    → bit_xor (forms_sum forms inner width left right n i j) (weight * bit_entry 8 product (i - row) (j - column))
    ≡ forms_sum forms inner width left right (n + 1) i j
form-more forms inner width row rows column columns n mask weight left right product mask-is weight-is bits i j from to begin end =
    let down : row + (i - row) ≡ i = omega (arith, from) in
    let across : column + (j - column) ≡ j = omega (arith, begin) in
    ap (bit_xor (forms_sum forms inner width left right n i j))
    (ap₂ (λ (w x : ℕ). w * x) weight-is
    (bits (i - row) (j - column) (omega (arith, from, to)) (omega (arith, begin, end))
    ∙ ap₂ (sums_product mask inner width left right) down across ∙ ap (λ (m : ℕ). sums_product m inner width left right i j) mask-is))
    ∙ sym (sum_next (λ t. (get_or forms t (0, 0)).1 * sums_product (get_or forms t (0, 0)).0 inner width left right i j) n)

-- in the end these are the products of bytes
pub all-forms : (forms : List (ℕ × ℕ)) (inner width n i j : ℕ) (left right : List ℕ) → n ≡ length forms
    → forms_sum forms inner width left right n i j
    ≡ sum_below (λ k. bilinear_product forms (slice_index left (i * inner + k)) (slice_index right (k * width + j))) inner
all-forms forms inner width n i j left right all =
    ap (λ (m : ℕ). forms_sum forms inner width left right m i j) all
    ∙ sym (bilinear-sum forms (λ k. slice_index left (i * inner + k)) (λ k. slice_index right (k * width + j)) inner)
