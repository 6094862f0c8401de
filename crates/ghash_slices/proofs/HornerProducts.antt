-- Products by one scalar, a byte of the other factor at a time: the rows of a product by x^8, and Horner's rule.
use Rattle.std.proofs.Common.{◌≡◌, ℕ, suc, ◌+◌, ◌-◌, ◌*◌, ◌/◌, ◌%◌, ◌^◌, ◌<◌, ◌≤◌, ◌≢◌, ◌⊎◌, inl, inr, List, [], ◌∷◌, length, get_or, get_or-set_other, get_or-set_same, map, sym, ◌∙◌, ap, ap₂, subst, arith, lit<, refl, w8, Fits}
use Rattle.std.specs.Prelude.{bit_xor, slice_index}
use Rattle.std.specs.Simd.Lanes.{chunk, zip2, Each1}
use Rattle.std.proofs.Math.ListN.{length-set, set}
use Rattle.std.proofs.Math.Nat.{lt_of_le_of_lt, zero-div}
use Rattle.std.proofs.lemmas.Bool.{cases_lt}
use Rattle.std.proofs.lemmas.List.{get_or-map, length-map}
use Rattle.std.proofs.lemmas.Nat.{shr_le, xor_lt, shr-shr}
use Rattle.std.proofs.lemmas.Simd.{get_or-chunk, get_or-zip2, length-zip2}
use native.Mathlib.Nat.{div-eq_of_lt, mod-eq_of_lt, mod-lt}
use lib.Bits.{xor_shifted}
use Rattle.field_base.specs.Carryless.{carryless}
use Rattle.field_base.proofs.RemainderRing.{ghash_ring}
use Rattle.field_base.proofs.RingLemmas.{times-zero}
use Rattle.word_carryless.specs.Tail.{ghash_tail}
use Rattle.word_tables.specs.Nibbles.{entry_sum}
use Rattle.ghash_slices.specs.Blocks.{HoldLanes, HoldRows}
use Rattle.ghash_slices.specs.LowStages.{ghash_product}
use Rattle.ghash_slices.specs.Multiples.{byte_of_multiple, horner_step}
use Rattle.ghash_slices.proofs.ShiftedBytes.{byte, byte_of_tail, byte_sum, first_byte, only_shifted, other_byte, second_byte, two_halves}

-- ---- rows

-- the byte that place p of rows of these values has
abbrev pub row_byte : (ℕ → ℕ) → ℕ → ℕ
row_byte values p = values (p % 16) / 2 ^ (8 * (p / 16)) % 256

-- rows that have these bytes hold the values
pub rows_hold : (rows : List ℕ) (values : ℕ → ℕ) → ((e : ℕ) → e < 16 → values e < 2 ^ 128)
    → ((p : ℕ) → p < 256 → slice_index rows p ≡ row_byte values p) → HoldRows rows values
rows_hold rows values fit are = record {
  fits = fit;
  each = λ k e k_in e_in.
      let inside : 16 * k + e < 256 = omega arith in
      let number : (16 * k + e) % 16 ≡ e = omega arith in
      let row : (16 * k + e) / 16 ≡ k = omega arith in
      are (16 * k + e) inside ∙ ap₂ (λ (n m : ℕ). values n / 2 ^ (8 * m) % 256) number row;
}

-- rows hold what is equal to what they hold
pub rows_same : (rows : List ℕ) (values others : ℕ → ℕ) → ((e : ℕ) → e < 16 → values e ≡ others e) → HoldRows rows values → HoldRows rows others
rows_same rows values others same held = record {
  fits = λ e inside. subst (λ (v : ℕ). v < 2 ^ 128) (same e inside) (held.fits e inside);
  each = λ k e k_in e_in. held.each k e k_in e_in ∙ ap (byte k) (same e e_in);
}

-- ---- bytes that are looked up by their halves

-- where two tables have at the halves of every byte summands of f, the look-ups give f
pub looked_up : (f : ℕ → ℕ) (low high : List ℕ) → ((b : ℕ) → b < 256 → bit_xor (slice_index low (b % 16)) (slice_index high (b / 16)) ≡ f b)
    → (bytes : List ℕ) → Each1 (Fits w8) bytes
    → map (entry_sum low high) bytes ≡ map f bytes
looked_up f low high are [] fit = refl
looked_up f low high are (b ∷ bytes) fit = ap₂ (λ (x : ℕ) (xs : List ℕ). x ∷ xs) (are b fit.0.fits) (looked_up f low high are bytes fit.1)

-- so byte `row` of the products of a scalar, by the rows of its multiples
pub multiples_looked_up : (scalar row : ℕ) (low high : List ℕ) → row < 16 → HoldRows low (λ digit. ghash_product scalar digit)
    → HoldRows high (λ digit. ghash_product scalar (digit * 16)) → (b : ℕ) → b < 256
    → bit_xor (slice_index (chunk (16 * row) 16 low) (b % 16)) (slice_index (chunk (16 * row) 16 high) (b / 16)) ≡ byte_of_multiple scalar row b
multiples_looked_up scalar row low high few of_low of_high b fits =
    let digit : b % 16 < 16 = mod-lt b (lit< tt) in
    let other : b / 16 < 16 = omega arith in
    ap₂ bit_xor (get_or-chunk (16 * row) 16 low (b % 16) 0 digit ∙ of_low.each row (b % 16) few digit)
    (get_or-chunk (16 * row) 16 high (b / 16) 0 other ∙ of_high.each row (b / 16) few other)
    ∙ sym (byte_sum row (ghash_product scalar (b % 16)) (ghash_product scalar (b / 16 * 16)))
    ∙ ap (byte row) (sym (ghash_ring.over_sum scalar (b % 16) (b / 16 * 16)) ∙ ap (ghash_product scalar) (two_halves b))

-- ---- a step of Horner's rule, from the highest row down, in any number of lanes

-- row k of rows
abbrev pub row_of : List (List ℕ) → ℕ → List ℕ
row_of rows k = get_or rows k []

-- a step stays in the field
step_fits : (scalar : ℕ) (values : ℕ → ℕ) (bytes : List ℕ) (e : ℕ) → horner_step scalar values bytes e < 2 ^ 128
step_fits scalar values bytes e =
    xor_lt 128 (ghash_product (values e) 256) (ghash_product scalar (slice_index bytes e)) (ghash_ring.below (values e) 256)
    (ghash_ring.below scalar (slice_index bytes e))

module _ (lanes scalar : ℕ) (bytes : List ℕ) (old : List (List ℕ)) where
  -- the rows from `row` on are those of the step, and the others are as they were
  pub record RowsFrom (row : ℕ) (now : List (List ℕ)) : Type 0 where
    pub whole : length now ≡ 16
    pub done : (values : ℕ → ℕ) → HoldLanes lanes old values → (k e : ℕ) → row ≤ k → k < 16 → e < lanes
        → get_or (row_of now k) e 0 ≡ byte k (horner_step scalar values bytes e)
    pub rest : (k : ℕ) → k < row → row_of now k ≡ row_of old k

  -- at first none is
  pub rows_start : length old ≡ 16 → RowsFrom 16 old
  rows_start long = record {
    whole = long;
    done = λ values held k e from below small. absurd (omega arith);
    rest = λ k below. refl;
  }

  -- at last all are
  pub rows_end : (now : List (List ℕ)) (values : ℕ → ℕ) → HoldLanes lanes old values → RowsFrom 0 now
      → HoldLanes lanes now (horner_step scalar values bytes)
  rows_end now values held so_far = record {
    fits = λ e small. step_fits scalar values bytes e;
    each = λ k e below small. so_far.done values held k e (omega arith) below small;
  }

  -- what the product by x^8 has in a row
  abbrev pub Moved : ℕ → List ℕ → Type 0
  Moved row moved =
      (length moved ≡ lanes)
      × ((values : ℕ → ℕ) → HoldLanes lanes old values → (e : ℕ) → e < lanes → get_or moved e 0 ≡ byte row (ghash_product (values e) 256))

  -- one row more: that of the product, and the bytes of the scalar's products
  pub row_step : (row : ℕ) (now : List (List ℕ)) (moved : List ℕ) → row < 16 → length bytes ≡ lanes → Moved row moved → RowsFrom (row + 1) now
      → RowsFrom row (set now row (zip2 bit_xor moved (map (byte_of_multiple scalar row) bytes)))
  row_step row now moved few long is so_far = record {
    whole = length-set now row next ∙ so_far.whole;
    done = λ values held k e from below small. pick values held k e below small (cases_lt row k) from;
    rest = λ k below.
        let other : k ≢ row = omega arith in
        get_or-set_other now row k next [] other ∙ so_far.rest k (omega arith);
  }
    where
      added : List ℕ
      added = map (byte_of_multiple scalar row) bytes

      next : List ℕ
      next = zip2 bit_xor moved added

      added_long : length added ≡ lanes
      added_long = length-map bytes _ ∙ long

      inside : row < length now
      inside = let whole = so_far.whole in omega arith

      here : row_of (set now row next) row ≡ next
      here = get_or-set_same now row next [] inside

      lane : (values : ℕ → ℕ) → HoldLanes lanes old values → (e : ℕ) → e < lanes
          → get_or next e 0 ≡ byte row (horner_step scalar values bytes e)
      lane values held e small =
          get_or-zip2 bit_xor moved added e 0 0 0 (subst (λ (n : ℕ). e < n) (sym is.0) small) (subst (λ (n : ℕ). e < n) (sym added_long) small)
          ∙ ap₂ bit_xor (is.1 values held e small)
          (get_or-map (byte_of_multiple scalar row) bytes e 0 0 (subst (λ (n : ℕ). e < n) (sym long) small))
          ∙ sym (byte_sum row (ghash_product (values e) 256) (ghash_product scalar (slice_index bytes e)))

      pick : (values : ℕ → ℕ) → HoldLanes lanes old values → (k e : ℕ) → k < 16 → e < lanes → (row < k) ⊎ (k ≤ row) → row ≤ k
          → get_or (row_of (set now row next) k) e 0 ≡ byte k (horner_step scalar values bytes e)
      pick values held k e below small (inl above) from =
          let other : k ≢ row = omega arith in
          ap (λ (l : List ℕ). get_or l e 0) (get_or-set_other now row k next [] other) ∙ so_far.done values held k e (omega arith) below small
      pick values held k e below small (inr not_above) from =
          let same : row ≡ k = omega arith in
          subst (λ (n : ℕ). get_or (row_of (set now row next) n) e 0 ≡ byte n (horner_step scalar values bytes e)) same
          (ap (λ (l : List ℕ). get_or l e 0) here ∙ lane values held e small)

  -- a row from the third on is the one below it
  pub upper_row : (row : ℕ) (now : List (List ℕ)) → 2 ≤ row → row < 16 → length (row_of now (row - 1)) ≡ lanes → RowsFrom (row + 1) now
      → Moved row (row_of now (row - 1))
  upper_row row now above few long so_far = (
    long,
    λ values held e small.
        let k : ℕ = row - 2 in
        let first : row ≡ suc (suc k) = omega arith in
        let before_it : row - 1 ≡ suc k = omega arith in
        let left : suc k + (15 - row) ≡ 14 = omega arith in
        ap (λ (l : List ℕ). get_or l e 0) (so_far.rest (row - 1) (omega arith)) ∙ held.each (row - 1) e (omega arith) small
        ∙ ap (λ (n : ℕ). byte n (values e)) before_it ∙ sym (other_byte (values e) (held.fits e small) k (15 - row) left)
        ∙ ap (λ (n : ℕ). byte n (ghash_product (values e) 256)) (sym first),
  )

  -- what leaves the highest row
  abbrev pub top : List ℕ
  top = row_of old 15

  tail_lane : (row : ℕ) (values : ℕ → ℕ) → length top ≡ lanes → HoldLanes lanes old values → (e : ℕ) → e < lanes
      → get_or (map (byte_of_tail row) top) e 0 ≡ byte_of_tail row (values e / 2 ^ 120)
  tail_lane row values long held e small =
      let fits = held.fits e small in
      get_or-map (byte_of_tail row) top e 0 0 (subst (λ (n : ℕ). e < n) (sym long) small)
      ∙ ap (byte_of_tail row) (held.each 15 e (lit< tt) small ∙ mod-eq_of_lt (omega (arith, fits)))

  -- the second row is the first, with the high bytes of the tails
  pub second_row : (now : List (List ℕ)) → length top ≡ lanes → length (row_of now 0) ≡ lanes → RowsFrom 2 now
      → Moved 1 (zip2 bit_xor (row_of now 0) (map (byte_of_tail 1) top))
  second_row now long row_long so_far = (
    length-zip2 bit_xor (row_of now 0) (map (byte_of_tail 1) top) (row_long ∙ sym tails_long) ∙ row_long,
    λ values held e small.
        get_or-zip2 bit_xor (row_of now 0) (map (byte_of_tail 1) top) e 0 0 0 (subst (λ (n : ℕ). e < n) (sym row_long) small)
        (subst (λ (n : ℕ). e < n) (sym tails_long) small)
        ∙ ap₂ bit_xor (ap (λ (l : List ℕ). get_or l e 0) (so_far.rest 0 (lit< tt)) ∙ held.each 0 e (lit< tt) small)
        (tail_lane 1 values long held e small)
        ∙ sym (second_byte (values e) (held.fits e small)),
  )
    where
      tails_long : length (map (byte_of_tail 1) top) ≡ lanes
      tails_long = length-map top _ ∙ long

  -- and the first has their low bytes
  pub first_row : length top ≡ lanes → Moved 0 (map (byte_of_tail 0) top)
  first_row long = (
    length-map top _ ∙ long,
    λ values held e small.
        tail_lane 0 values long held e small
        ∙ (let whole : carryless (values e / 2 ^ 120) ghash_tail / 2 ^ (8 * 0) ≡ carryless (values e / 2 ^ 120) ghash_tail = omega arith in
        ap (λ (z : ℕ). z % 256) whole)
        ∙ sym (first_byte (values e) (held.fits e small)),
  )

-- ---- Horner's rule

-- the step takes the product of all bytes but the lowest to the product of all
horner : (s z : ℕ) → z < 2 ^ 128 → bit_xor (ghash_product (ghash_product s (z / 256)) 256) (ghash_product s (z % 256)) ≡ ghash_product s z
horner s z fits =
    ap (λ (x : ℕ). bit_xor x (ghash_product s (z % 256)))
    (ghash_ring.assoc s (z / 256) 256 ∙ ap (ghash_product s) (only_shifted (z / 256) 8 (omega arith) (lit< tt) (omega arith)))
    ∙ sym (ghash_ring.over_sum s (z / 256 * 256) (z % 256))
    ∙ ap (ghash_product s) (xor_shifted (z / 256) 8 (z % 256) (mod-lt z (lit< tt)) ∙ omega arith)

-- what is left of the values once the bytes from place `left` on are taken
abbrev pub products_of_high : ℕ → (ℕ → ℕ) → ℕ → ℕ → ℕ
products_of_high scalar values left e = ghash_product scalar (values e / 2 ^ (8 * left))

-- lanes hold what is equal to what they hold
lanes_same : (lanes : ℕ) (rows : List (List ℕ)) (values others : ℕ → ℕ) → ((e : ℕ) → e < lanes → values e ≡ others e)
    → HoldLanes lanes rows values → HoldLanes lanes rows others
lanes_same lanes rows values others same held = record {
  fits = λ e small. subst (λ (v : ℕ). v < 2 ^ 128) (same e small) (held.fits e small);
  each = λ k e below small. held.each k e below small ∙ ap (byte k) (same e small);
}

module _ (lanes scalar : ℕ) (values : ℕ → ℕ) (fit : (e : ℕ) → e < lanes → values e < 2 ^ 128) where
  -- one byte more is taken
  pub byte_taken : (turn : ℕ) (bytes : List ℕ) (sums : List (List ℕ)) → turn < 16
      → ((e : ℕ) → e < lanes → get_or bytes e 0 ≡ byte (15 - turn) (values e))
      → HoldLanes lanes sums (horner_step scalar (products_of_high scalar values (16 - turn)) bytes)
      → HoldLanes lanes sums (products_of_high scalar values (16 - (turn + 1)))
  byte_taken turn bytes sums few are made =
      lanes_same lanes sums (horner_step scalar (products_of_high scalar values (16 - turn)) bytes)
      (products_of_high scalar values (16 - (turn + 1))) same made
    where
      narrower : (x m : ℕ) → x < 2 ^ 128 → x / 2 ^ m < 2 ^ 128
      narrower x m x_fits = lt_of_le_of_lt (shr_le x m) x_fits

      same : (e : ℕ) → e < lanes
          → horner_step scalar (products_of_high scalar values (16 - turn)) bytes e ≡ products_of_high scalar values (16 - (turn + 1)) e
      same e small =
          let k : ℕ = 15 - turn in
          let more : 8 * (16 - turn) ≡ 8 * k + 8 = omega arith in
          let left : 15 - turn ≡ 16 - (turn + 1) = omega arith in
          let z : ℕ = values e / 2 ^ (8 * k) in
          ap₂ (λ (x y : ℕ). bit_xor (ghash_product (ghash_product scalar x) 256) (ghash_product scalar y))
          (ap (λ (n : ℕ). values e / 2 ^ n) more ∙ sym (shr-shr (values e) (8 * k) 8)) (are e small)
          ∙ horner scalar z (narrower (values e) (8 * k) (fit e small))
          ∙ ap (λ (n : ℕ). ghash_product scalar (values e / 2 ^ (8 * n))) left

  -- before the first byte the sums are 0
  pub nothing_taken : (zeros : List (List ℕ)) → ((k e : ℕ) → k < 16 → e < lanes → slice_index (row_of zeros k) e ≡ 0)
      → HoldLanes lanes zeros (products_of_high scalar values 16)
  nothing_taken zeros none = record {
    fits = λ e small. ghash_ring.below scalar (values e / 2 ^ (8 * 16));
    each = λ k e below small.
        none k e below small
        ∙ sym (ap (byte k) (ap (ghash_product scalar) (div-eq_of_lt (fit e small)) ∙ times-zero 128 1 ghash_product ghash_ring scalar)
        ∙ ap (λ (z : ℕ). z % 256) (zero-div (2 ^ (8 * k))));
  }

  -- after the last byte they are the products
  pub all_taken : (turn : ℕ) (sums : List (List ℕ)) → 16 ≤ turn → HoldLanes lanes sums (products_of_high scalar values (16 - turn))
      → HoldLanes lanes sums (λ e. ghash_product scalar (values e))
  all_taken turn sums done made =
      lanes_same lanes sums (products_of_high scalar values (16 - turn)) (λ e. ghash_product scalar (values e))
      (λ e small.
      let none : 8 * (16 - turn) ≡ 0 = omega arith in
      ap (λ (n : ℕ). ghash_product scalar (values e / 2 ^ n)) none
      ∙ (let whole : values e / 2 ^ 0 ≡ values e = omega arith in ap (ghash_product scalar) whole)) made
