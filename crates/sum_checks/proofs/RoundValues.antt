-- The polynomial of a round, where each term has two factors: its values at 0 and 1 and its leading coefficient are sums over rows.
use Rattle.std.proofs.Common.{◌≡◌, ℕ, zero, suc, ◌+◌, ◌*◌, ◌/◌, ◌^◌, ◌<◌, List, [], ◌∷◌, length, map, take, drop, sym, ◌∙◌, ap, ap₂, subst, arith}
use Rattle.std.specs.Prelude.{bit_xor, slice_index}
use Rattle.std.specs.Simd.Lanes.{zip2}
use Rattle.std.proofs.lemmas.List.{get_or-take, get_or-drop, length-map, take-map}
use Rattle.std.proofs.lemmas.Nat.{mul-add-lt}
use Rattle.std.proofs.lemmas.Simd.{get_or-zip2}
use lib.Bits.{xor_assoc}
use Rattle.field_base.specs.Basis.{product_below, sum_below}
use Rattle.field_base.specs.Ring.{IsRing}
use Rattle.field_base.proofs.BasisSums.{sum_below-same}
use Rattle.field_base.proofs.RingLemmas.{mod-times, sum_times, times_left_comm, xor_cancel, xor_left_comm, zero-times}
use Rattle.field_slices.specs.Multilinear.{folded, on_line}
use Rattle.field_slices.proofs.CubeLaws.{line-zero}
use Rattle.sum_checks.specs.Terms.{ArePairs, AreWithin, Product, cube_sum, honest_at, product_value, row_entry, terms_value}
use Rattle.field_slices.proofs.CubeTables.{drop-map}
use Rattle.sum_checks.proofs.Rows.{even-at, half, lower-length, terms_value-same, upper-length}

-- the halves of a list of elements, as numbers
pub lower-numbers : {F : Type 0} (repr : F → ℕ) (xs part : List F) → part ≡ take (length xs / 2) xs
    → map repr part ≡ take (length (map repr xs) / 2) (map repr xs)
lower-numbers repr xs part is =
    ap (map repr) is ∙ sym (take-map repr (length xs / 2) xs) ∙ ap (λ (n : ℕ). take (n / 2) (map repr xs)) (sym (length-map xs repr))

pub upper-numbers : {F : Type 0} (repr : F → ℕ) (xs part : List F) → part ≡ drop (length xs / 2) xs
    → map repr part ≡ drop (length (map repr xs) / 2) (map repr xs)
upper-numbers repr xs part is =
    ap (map repr) is ∙ sym (drop-map repr (length xs / 2) xs) ∙ ap (λ (n : ℕ). drop (n / 2) (map repr xs)) (sym (length-map xs repr))

module _ (width : ℕ) (times : ℕ → ℕ → ℕ) (ring : IsRing width 1 times) where
  -- the polynomial of degree two with the values a at 0 and b at 1, and c as its leading coefficient, at x
  pub by_ends : ℕ → ℕ → ℕ → ℕ → ℕ
  by_ends x a b c = bit_xor a (bit_xor (times (bit_xor (bit_xor a b) c) x) (times c (times x x)))

  -- the product of two values on lines
  ends-pair : (x l u k v : ℕ) → times (on_line times x l u) (on_line times x k v)
      ≡ by_ends x (times l k) (times u v) (times (bit_xor l u) (bit_xor k v))
  unfolding by_ends
  ends-pair x l u k v =
      simp (
        sum_times width 1 times ring,
        ring.over_sum,
        ring.assoc,
        ring.comm,
        times_left_comm width 1 times ring,
        xor_assoc,
        xor_left_comm,
        xor_cancel,
      )

  -- .. with a coefficient
  ends-scaled : (s x a b c : ℕ) → times s (by_ends x a b c) ≡ by_ends x (times s a) (times s b) (times s c)
  unfolding by_ends
  ends-scaled s x a b c =
      simp (sum_times width 1 times ring, ring.over_sum, ring.assoc)

  -- sums
  ends-sum : (x a b c d e f : ℕ) → bit_xor (by_ends x a b c) (by_ends x d e f) ≡ by_ends x (bit_xor a d) (bit_xor b e) (bit_xor c f)
  unfolding by_ends
  ends-sum x a b c d e f =
      simp (sum_times width 1 times ring, xor_assoc, xor_left_comm)

  ends-none : (x : ℕ) → 0 ≡ by_ends x 0 0 0
  unfolding by_ends
  ends-none x = sym (ap₂ bit_xor (zero-times width 1 times ring x) (zero-times width 1 times ring (times x x)))

  -- a product of two factors
  product-two : (f : ℕ → ℕ) (n : ℕ) → n ≡ 2 → product_below times f n ≡ times (f 0) (f 1)
  unfolding product_below
  product-two f n two =
      ap (product_below times f) two
      ∙ ap (λ (p : ℕ). times p (f 1)) (ring.one (f 0))
      ∙ mod-times width 1 times ring (f 0) (f 1)

  -- the terms where each polynomial is on a line
  ends-terms : (x : ℕ) (l u : ℕ → ℕ) (terms : List Product) → ArePairs terms
      → terms_value times terms (λ j. on_line times x (l j) (u j))
      ≡ by_ends x (terms_value times terms l) (terms_value times terms u) (terms_value times terms (λ j. bit_xor (l j) (u j)))
  unfolding terms_value ArePairs
  ends-terms x l u [] pairs = ends-none x
  ends-terms x l u (term ∷ terms) pairs =
      ap₂ bit_xor (ends-term term pairs.0) (ends-terms x l u terms pairs.1)
      ∙ ends-sum x (product_value times l term) (product_value times u term) (product_value times (λ j. bit_xor (l j) (u j)) term)
      (terms_value times terms l) (terms_value times terms u) (terms_value times terms (λ j. bit_xor (l j) (u j)))
    where
      two : (row : ℕ → ℕ) (term : Product) → length term.factors ≡ 2
          → product_value times row term ≡ times term.coefficient (times (row (slice_index term.factors 0)) (row (slice_index term.factors 1)))
      two row term long = ap (times term.coefficient) (product-two (λ k. row (slice_index term.factors k)) (length term.factors) long)

      ends-term : (term : Product) → length term.factors ≡ 2
          → product_value times (λ j. on_line times x (l j) (u j)) term
          ≡ by_ends x (product_value times l term) (product_value times u term) (product_value times (λ j. bit_xor (l j) (u j)) term)
      ends-term term long =
          let first = slice_index term.factors 0 in
          let second = slice_index term.factors 1 in
          two (λ j. on_line times x (l j) (u j)) term long
          ∙ ap (times term.coefficient) (ends-pair x (l first) (u first) (l second) (u second))
          ∙ ends-scaled term.coefficient x (times (l first) (l second)) (times (u first) (u second))
          (times (bit_xor (l first) (u first)) (bit_xor (l second) (u second)))
          ∙ sym (ap₂ (λ (a b : ℕ). by_ends x a b (product_value times (λ j. bit_xor (l j) (u j)) term)) (two l term long) (two u term long)
          ∙ ap (by_ends x (times term.coefficient (times (l first) (l second))) (times term.coefficient (times (u first) (u second))))
          (two (λ j. bit_xor (l j) (u j)) term long))

  -- over rows
  ends-sums : (x : ℕ) (a b c : ℕ → ℕ) (n : ℕ) → sum_below (λ i. by_ends x (a i) (b i) (c i)) n ≡ by_ends x (sum_below a n) (sum_below b n) (sum_below c n)
  unfolding sum_below
  ends-sums x a b c zero = ends-none x
  ends-sums x a b c (suc n) =
      ap (λ (s : ℕ). bit_xor s (by_ends x (a n) (b n) (c n))) (ends-sums x a b c n)
      ∙ ends-sum x (sum_below a n) (sum_below b n) (sum_below c n) (a n) (b n) (c n)

  -- a round's polynomial, by its values at 0 and 1 and its leading coefficient
  module _ (wide : 0 < width) (terms : List Product) (count n : ℕ) (within : AreWithin count terms) (pairs : ArePairs terms) (values : List ℕ)
      (even : length values ≡ 2 ^ n * count + 2 ^ n * count) where
    -- value j of row i of the lower half and of the upper
    abbrev lower : ℕ → ℕ → ℕ
    lower i j = slice_index values (i * count + j)

    abbrev upper : ℕ → ℕ → ℕ
    upper i j = slice_index values (2 ^ n * count + (i * count + j))

    place : (i j : ℕ) → i < 2 ^ n → j < count → i * count + j < 2 ^ n * count
    place i j below inside = let less = mul-add-lt i count j (2 ^ n) below inside in omega (arith, less)

    on-lines : (x : ℕ) → honest_at times terms count n values x
        ≡ sum_below (λ i. terms_value times terms (λ j. on_line times x (lower i j) (upper i j))) (2 ^ n)
    on-lines x =
        sum_below-same (λ i. terms_value times terms (row_entry count (folded times x values) i))
        (λ i. terms_value times terms (λ j. on_line times x (lower i j) (upper i j))) (2 ^ n)
        (λ i below. terms_value-same times count terms (row_entry count (folded times x values) i) (λ j. on_line times x (lower i j) (upper i j)) within
        (λ j inside. even-at (2 ^ n * count) values even times x (i * count + j) (place i j below inside)))

    round-by_ends : (x first second leading : ℕ) (uppers sums : List ℕ)
        → ((k : ℕ) → k < 2 ^ n * count → slice_index uppers k ≡ slice_index values (2 ^ n * count + k))
        → ((k : ℕ) → k < 2 ^ n * count → slice_index sums k ≡ bit_xor (slice_index values k) (slice_index values (2 ^ n * count + k)))
        → first ≡ honest_at times terms count n values 0 → second ≡ cube_sum times terms count n uppers → leading ≡ cube_sum times terms count n sums
        → by_ends x first second leading ≡ honest_at times terms count n values x
    round-by_ends x first second leading uppers sums upper_at sums_at is_first is_second is_leading =
        ap₂ (λ (a b : ℕ). by_ends x a b leading) (is_first ∙ at-zero) (is_second ∙ at-one)
        ∙ ap (by_ends x (sum_below a (2 ^ n)) (sum_below b (2 ^ n))) (is_leading ∙ at-sums)
        ∙ sym (on-lines x
        ∙ sum_below-same (λ i. terms_value times terms (λ j. on_line times x (lower i j) (upper i j))) (λ i. by_ends x (a i) (b i) (c i)) (2 ^ n)
        (λ i below. ends-terms x (lower i) (upper i) terms pairs)
        ∙ ends-sums x a b c (2 ^ n))
      where
        a : ℕ → ℕ
        a i = terms_value times terms (lower i)

        b : ℕ → ℕ
        b i = terms_value times terms (upper i)

        c : ℕ → ℕ
        c i = terms_value times terms (λ j. bit_xor (lower i j) (upper i j))

        at-zero : honest_at times terms count n values 0 ≡ sum_below a (2 ^ n)
        at-zero =
            on-lines 0
            ∙ sum_below-same (λ i. terms_value times terms (λ j. on_line times 0 (lower i j) (upper i j))) a (2 ^ n)
            (λ i below. terms_value-same times count terms (λ j. on_line times 0 (lower i j) (upper i j)) (lower i) within
            (λ j inside. line-zero width times ring wide (lower i j) (upper i j)))

        at-one : cube_sum times terms count n uppers ≡ sum_below b (2 ^ n)
        at-one =
            sum_below-same (λ i. terms_value times terms (row_entry count uppers i)) b (2 ^ n)
            (λ i below. terms_value-same times count terms (row_entry count uppers i) (upper i) within
            (λ j inside. upper_at (i * count + j) (place i j below inside)))

        at-sums : cube_sum times terms count n sums ≡ sum_below c (2 ^ n)
        at-sums =
            sum_below-same (λ i. terms_value times terms (row_entry count sums i)) c (2 ^ n)
            (λ i below. terms_value-same times count terms (row_entry count sums i) (λ j. bit_xor (lower i j) (upper i j)) within
            (λ j inside. sums_at (i * count + j) (place i j below inside)))

    -- `round-by_ends`, with lists and sums as the code computes them
    pub pairs-value : (x first second leading value : ℕ) (lowers uppers sums : List ℕ)
        → lowers ≡ take (length values / 2) values → uppers ≡ drop (length values / 2) values → sums ≡ zip2 bit_xor lowers uppers
        → first ≡ honest_at times terms count n values 0 → second ≡ cube_sum times terms count n uppers → leading ≡ cube_sum times terms count n sums
        → value ≡ bit_xor first (bit_xor (times (bit_xor (bit_xor first second) leading) x) (times leading (times x x)))
        → value ≡ honest_at times terms count n values x
    unfolding by_ends
    pairs-value x first second leading value lowers uppers sums is_lower is_upper is_sums is_first is_second is_leading is =
        is ∙ round-by_ends x first second leading uppers sums upper_at sums_at is_first is_second is_leading
      where
        upper_at : (k : ℕ) → k < 2 ^ n * count → slice_index uppers k ≡ slice_index values (2 ^ n * count + k)
        upper_at k below =
            ap (λ (ns : List ℕ). slice_index ns k) is_upper ∙ get_or-drop (length values / 2) values k 0
            ∙ ap (λ (m : ℕ). slice_index values (m + k)) (half (2 ^ n * count) values even)

        lower_at : (k : ℕ) → k < 2 ^ n * count → slice_index lowers k ≡ slice_index values k
        lower_at k below =
            ap (λ (ns : List ℕ). slice_index ns k) is_lower
            ∙ get_or-take (length values / 2) values k 0 (subst (λ (m : ℕ). k < m) (sym (half (2 ^ n * count) values even)) below)

        sums_at : (k : ℕ) → k < 2 ^ n * count → slice_index sums k ≡ bit_xor (slice_index values k) (slice_index values (2 ^ n * count + k))
        sums_at k below =
            ap (λ (ns : List ℕ). slice_index ns k) is_sums
            ∙ get_or-zip2 bit_xor lowers uppers k 0 0 0
            (subst (λ (m : ℕ). k < m) (sym (ap length is_lower ∙ lower-length (2 ^ n * count) values even)) below)
            (subst (λ (m : ℕ). k < m) (sym (ap length is_upper ∙ upper-length (2 ^ n * count) values even)) below)
            ∙ ap₂ bit_xor (lower_at k below) (upper_at k below)
