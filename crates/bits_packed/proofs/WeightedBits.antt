-- Weights that are added to bytes where bits are 1, and blocks of bytes to which sums are added.
use Rattle.std.proofs.Common.{◌≡◌, ◌⊎◌, inl, inr, ℕ, zero, suc, ◌+◌, ◌*◌, ◌-◌, ◌/◌, ◌%◌, ◌^◌, ◌<◌, ◌≤◌, Bool, true, false, cond, eqb, List, [], ◌∷◌, length, refl, sym, subst, ◌∙◌, ap, ap₂, arith, le_refl}
use Rattle.std.specs.Prelude.{bit_and, bit_xor, slice_index}
use Rattle.std.specs.Int.{bit_at}
use Rattle.std.specs.Simd.Lanes.{put_chunk, top, zip2}
use Rattle.std.proofs.lemmas.Bool.{cases_lt, cases_order}
use Rattle.std.proofs.lemmas.Nat.Bits.{and_pow, bit_at-lt}
use Rattle.std.proofs.lemmas.Simd.{get_or-chunk, get_or-put_chunk_above, get_or-put_chunk_at, get_or-put_chunk_below, get_or-zip2, length-chunk, length-put_chunk, length-zip2}
use lib.Arith.{digits_lt}
use lib.Bits.{xor_assoc, xor_zero_r}
use lib.Lanes.{chunk}
use Rattle.field_base.specs.lemmas.BitRing.{two_cases}
use Rattle.field_base.proofs.BasisSums.{bit_at-add, bit_at-mod}
use Rattle.bits_packed.specs.BitMatrices.{IsRangeWritten, bit_entry}
use Rattle.bits_packed.specs.BytesAsBits.{IsBlockAdded}
use Rattle.bits_packed.proofs.WordRanges.{range_more, range_rest, range_same, row_fits}

-- ---- eight bytes

-- a weight, or 0, as a bit says
chosen : (weight bits k : ℕ) → eqb (0 * 2 ^ k) (2 ^ k) ≡ false → eqb (1 * 2 ^ k) (2 ^ k) ≡ true
    → cond (top 7 (cond (eqb (bit_and bits (2 ^ k)) (2 ^ k)) 255 0)) weight 0 ≡ weight * bit_at bits k
chosen weight bits k unset set =
    ap (λ (x : ℕ). cond (top 7 (cond (eqb x (2 ^ k)) 255 0)) weight 0) (and_pow bits k)
    ∙ two_cases (λ b. cond (top 7 (cond (eqb (b * 2 ^ k) (2 ^ k)) 255 0)) weight 0 ≡ weight * b)
    (ap (λ (t : Bool). cond (top 7 (cond t 255 0)) weight 0) unset ∙ none)
    (ap (λ (t : Bool). cond (top 7 (cond t 255 0)) weight 0) set ∙ one)
    (bit_at bits k) (bit_at-lt bits k)
  where
    none : 0 ≡ weight * 0
    none = omega arith

    one : weight ≡ weight * 1
    one = omega arith

abbrev pub eight_weights : ℕ → ℕ → List ℕ
eight_weights weight bits =
    cond (top 7 (cond (eqb (bit_and bits 1) 1) 255 0)) weight 0 ∷ cond (top 7 (cond (eqb (bit_and bits 2) 2) 255 0)) weight 0
    ∷ cond (top 7 (cond (eqb (bit_and bits 4) 4) 255 0)) weight 0 ∷ cond (top 7 (cond (eqb (bit_and bits 8) 8) 255 0)) weight 0
    ∷ cond (top 7 (cond (eqb (bit_and bits 16) 16) 255 0)) weight 0 ∷ cond (top 7 (cond (eqb (bit_and bits 32) 32) 255 0)) weight 0
    ∷ cond (top 7 (cond (eqb (bit_and bits 64) 64) 255 0)) weight 0 ∷ cond (top 7 (cond (eqb (bit_and bits 128) 128) 255 0)) weight 0 ∷ []

eight-weights : (weight bits p : ℕ) → p < 8 → slice_index (eight_weights weight bits) p ≡ weight * bit_at bits p
eight-weights weight bits zero below = chosen weight bits 0 refl refl
eight-weights weight bits (suc zero) below = chosen weight bits 1 refl refl
eight-weights weight bits (suc (suc zero)) below = chosen weight bits 2 refl refl
eight-weights weight bits (suc (suc (suc zero))) below = chosen weight bits 3 refl refl
eight-weights weight bits (suc (suc (suc (suc zero)))) below = chosen weight bits 4 refl refl
eight-weights weight bits (suc (suc (suc (suc (suc zero))))) below = chosen weight bits 5 refl refl
eight-weights weight bits (suc (suc (suc (suc (suc (suc zero)))))) below = chosen weight bits 6 refl refl
eight-weights weight bits (suc (suc (suc (suc (suc (suc (suc zero))))))) below = chosen weight bits 7 refl refl
eight-weights weight bits (suc (suc (suc (suc (suc (suc (suc (suc p)))))))) below = absurd (omega (arith, below))

pub eight-added : (first weight bits : ℕ) (old : List ℕ) → first + 8 ≤ length old
    → IsRangeWritten first 8 (λ p. bit_xor (slice_index old (first + p)) (weight * bit_at bits p)) old
    (put_chunk first old (zip2 bit_xor (chunk first 8 old) (eight_weights weight bits)))
eight-added first weight bits old room = record {
  shape = length-put_chunk first old sums;
  written = λ p below.
      get_or-put_chunk_at first old sums p 0 (omega (arith, below, long)) (omega (arith, long, room))
      ∙ get_or-zip2 bit_xor (chunk first 8 old) (eight_weights weight bits) p 0 0 0 (omega (arith, below, lanes)) below
      ∙ ap₂ bit_xor (get_or-chunk first 8 old p 0 below) (eight-weights weight bits p below);
  others = λ p outside. kept p outside;
}
  where
    sums : List ℕ
    sums = zip2 bit_xor (chunk first 8 old) (eight_weights weight bits)

    lanes : length (chunk first 8 old) ≡ 8
    lanes = length-chunk first 8 old room

    long : length sums ≡ 8
    long = length-zip2 bit_xor (chunk first 8 old) (eight_weights weight bits) lanes ∙ lanes

    kept : (p : ℕ) → (p < first) ⊎ (first + 8 ≤ p) → slice_index (put_chunk first old sums) p ≡ slice_index old p
    kept p (inl before) = get_or-put_chunk_below first old sums p 0 before
    kept p (inr behind) = get_or-put_chunk_above first old sums p 0 (omega (arith, long, behind))

-- ---- groups of eight in a row

-- bit p of byte g of the words of a row
group-bit : (product : List ℕ) (row g p bits : ℕ) → bits ≡ slice_index product (8 * row + g / 8) / 2 ^ (8 * (g % 8)) % 256 → p < 8
    → bit_at bits p ≡ bit_entry 8 product row (8 * g + p)
group-bit product row g p bits is below =
    ap (λ (x : ℕ). bit_at x p) is
    ∙ bit_at-mod (slice_index product (8 * row + g / 8) / 2 ^ (8 * (g % 8))) 8 p below
    ∙ sym (bit_at-add (slice_index product (8 * row + g / 8)) (8 * (g % 8)) p)
    ∙ ap₂ (λ (q r : ℕ). bit_at (slice_index product q) r) word place
  where
    word : 8 * row + g / 8 ≡ row * 8 + (8 * g + p) / 64
    word = omega (arith, below)

    place : 8 * (g % 8) + p ≡ (8 * g + p) % 64
    place = omega (arith, below)

pub group-step : (first g weight bits row : ℕ) (product old now next : List ℕ)
    → bits ≡ slice_index product (8 * row + g / 8) / 2 ^ (8 * (g % 8)) % 256
    → IsRangeWritten first (8 * g) (λ p. bit_xor (slice_index old (first + p)) (weight * bit_entry 8 product row p)) old now
    → IsRangeWritten (first + 8 * g) 8 (λ p. bit_xor (slice_index now (first + 8 * g + p)) (weight * bit_at bits p)) now next
    → IsRangeWritten first (8 * (g + 1)) (λ p. bit_xor (slice_index old (first + p)) (weight * bit_entry 8 product row p)) old next
group-step first g weight bits row product old now next is so_far more =
    subst (λ (n : ℕ). IsRangeWritten first n wanted old next) count
    (range_more so_far (range_same (λ p below.
    let place : first + 8 * g + p ≡ first + (8 * g + p) = omega arith in
    ap₂ (λ (x y : ℕ). bit_xor x (weight * y))
    (ap (slice_index now) place ∙ range_rest so_far (8 * g + p) (omega arith))
    (group-bit product row g p bits is below))
    more))
  where
    wanted : ℕ → ℕ
    wanted p = bit_xor (slice_index old (first + p)) (weight * bit_entry 8 product row p)

    count : 8 * g + 8 ≡ 8 * (g + 1)
    count = omega arith

-- ---- blocks

pub block-start : (width row column columns : ℕ) (sums : ℕ → ℕ → ℕ) (old : List ℕ) → IsBlockAdded width row 0 column columns sums old old
block-start width row column columns sums old =
    record { shape = refl; added = λ i j past before _ _. absurd (omega (arith, past, before)); others = λ i j _ _. refl }

-- one row more
module _ (width row n column columns first : ℕ) (sums : ℕ → ℕ → ℕ) (weights : ℕ → ℕ) (old now next : List ℕ) (across : column + columns ≤ width)
    (first-is : first ≡ (row + n) * width + column) (are : (p : ℕ) → p < columns → weights p ≡ sums (row + n) (column + p))
    (so_far : IsBlockAdded width row n column columns sums old now)
    (write : IsRangeWritten first columns (λ p. bit_xor (slice_index now (first + p)) (weights p)) now next) where
  -- an entry of another row, or of another column
  earlier : (i j : ℕ) → j < width → i < row + n → i * width + j < first
  earlier i j inside less = let before = digits_lt less inside in omega (arith, before, first-is)

  later : (i j : ℕ) → row + n < i → first + columns ≤ i * width + j
  later i j more = let fits = row_fits width i (row + n) width more (le_refl width) in omega (arith, fits, first-is, across)

  outside : (i j : ℕ) → j < width → (i < row) ⊎ (row + (n + 1) ≤ i) ⊎ (j < column) ⊎ (column + columns ≤ j)
      → (i * width + j < first) ⊎ (first + columns ≤ i * width + j)
  outside i j inside apart = elim (cases_order i (row + n)) [
    | inl same ↦ own same apart
    | inr order ↦ elim order [
      | inl less ↦ inl (earlier i j inside less)
      | inr more ↦ inr (later i j more)
    ]
  ]
    where
      here : i ≡ row + n → i * width + j + column ≡ first + j
      here same = let place = ap (λ (x : ℕ). x * width) same in omega (arith, place, first-is)

      own : i ≡ row + n → (i < row) ⊎ (row + (n + 1) ≤ i) ⊎ (j < column) ⊎ (column + columns ≤ j)
          → (i * width + j < first) ⊎ (first + columns ≤ i * width + j)
      own same (inl above) = absurd (omega (arith, same, above))
      own same (inr (inl below)) = absurd (omega (arith, same, below))
      own same (inr (inr (inl left))) = let place = here same in inl (omega (arith, place, left))
      own same (inr (inr (inr right))) = let place = here same in inr (omega (arith, place, right))

  fewer : (i j : ℕ) → (i < row) ⊎ (row + (n + 1) ≤ i) ⊎ (j < column) ⊎ (column + columns ≤ j)
      → (i < row) ⊎ (row + n ≤ i) ⊎ (j < column) ⊎ (column + columns ≤ j)
  fewer i j (inl above) = inl above
  fewer i j (inr (inl below)) = inr (inl (omega (arith, below)))
  fewer i j (inr (inr across)) = inr (inr across)

  own-entry : (i j : ℕ) → i ≡ row + n → column ≤ j → j < column + columns
      → slice_index next (i * width + j) ≡ bit_xor (slice_index old (i * width + j)) (sums i j)
  own-entry i j same from to =
      ap (slice_index next) place ∙ write.written (j - column) (omega (arith, from, to))
      ∙ ap₂ bit_xor
      (ap (slice_index now) (sym place) ∙ so_far.others i j (omega (arith, to, across)) (inr (inl (omega (arith, same)))))
      (are (j - column) (omega (arith, from, to)) ∙ ap₂ sums (sym same) column-is)
    where
      place : i * width + j ≡ first + (j - column)
      place = let at = ap (λ (x : ℕ). x * width) same in omega (arith, at, first-is, from)

      column-is : column + (j - column) ≡ j
      column-is = omega (arith, from)

  pub block-step : IsBlockAdded width row (n + 1) column columns sums old next
  block-step = record {
    shape = write.shape ∙ so_far.shape;
    added = λ i j past before from to. elim (cases_lt i (row + n)) [
      | inl less ↦ write.others (i * width + j) (inl (earlier i j (omega (arith, to, across)) less)) ∙ so_far.added i j past less from to
      | inr more ↦ own-entry i j (omega (arith, more, before)) from to
    ];
    others = λ i j inside apart. write.others (i * width + j) (outside i j inside apart) ∙ so_far.others i j inside (fewer i j apart);
  }

-- what is added to the same block afterwards
pub block-more : (width row rows column columns : ℕ) (before more sums : ℕ → ℕ → ℕ) (old mid now : List ℕ)
    → IsBlockAdded width row rows column columns before old mid → IsBlockAdded width row rows column columns more mid now
    → ((i j : ℕ) → row ≤ i → i < row + rows → column ≤ j → j < column + columns → bit_xor (before i j) (more i j) ≡ sums i j)
    → IsBlockAdded width row rows column columns sums old now
block-more width row rows column columns before more sums old mid now first second are = record {
  shape = second.shape ∙ first.shape;
  added = λ i j from to left right.
      second.added i j from to left right ∙ ap (λ (x : ℕ). bit_xor x (more i j)) (first.added i j from to left right)
      ∙ xor_assoc (slice_index old (i * width + j)) (before i j) (more i j) ∙ ap (bit_xor (slice_index old (i * width + j))) (are i j from to left right);
  others = λ i j inside apart. second.others i j inside apart ∙ first.others i j inside apart;
}

-- sums that are 0
pub block-none : (width row rows column columns : ℕ) (sums : ℕ → ℕ → ℕ) (old : List ℕ) → ((i j : ℕ) → sums i j ≡ 0)
    → IsBlockAdded width row rows column columns sums old old
block-none width row rows column columns sums old none = record {
  shape = refl;
  added = λ i j _ _ _ _. sym (ap (bit_xor (slice_index old (i * width + j))) (none i j) ∙ xor_zero_r (slice_index old (i * width + j)));
  others = λ i j _ _. refl;
}

-- other names for what is added
pub block-named : (width row rows column columns : ℕ) (sums others : ℕ → ℕ → ℕ) (old now : List ℕ)
    → IsBlockAdded width row rows column columns sums old now → ((i j : ℕ) → sums i j ≡ others i j)
    → IsBlockAdded width row rows column columns others old now
block-named width row rows column columns sums others old now added same = record {
  shape = added.shape;
  added = λ i j from to left right. added.added i j from to left right ∙ ap (bit_xor (slice_index old (i * width + j))) (same i j);
  others = added.others;
}
