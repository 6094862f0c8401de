-- Blocks of sixteen numbers as bytes: blocks that are written sixteen bytes at a time, transposition, and numbers as their bytes.
use Rattle.std.proofs.Common.{◌≡◌, ℕ, zero, suc, ◌+◌, ◌-◌, ◌*◌, ◌/◌, ◌%◌, ◌^◌, ◌<◌, ◌≤◌, ◌⊎◌, inl, inr, true, List, [], ◌∷◌, ◌++◌, length, get_or, replicate, refl, sym, ◌∙◌, ap, subst, arith}
use Rattle.std.specs.Prelude.{slice_index}
use Rattle.std.specs.Simd.Lanes.{chunk, digits_l, number_l, pick_l, put_chunk}
use Rattle.std.proofs.Math.Nat.{zero-div}
use Rattle.std.proofs.Math.Seq.{get_or-append_right}
use Rattle.std.proofs.lemmas.Bool.{cases_lt}
use Rattle.std.proofs.lemmas.List.{ext_get_or, get_or-map, get_or_append_left, get_or_past}
use Rattle.std.proofs.lemmas.Nat.{shr-shr}
use Rattle.std.proofs.lemmas.Simd.{get_or-chunk, get_or-put_chunk_above, get_or-put_chunk_at, get_or-put_chunk_below, length-chunk, length-put_chunk}
use Rattle.field_base.proofs.TableChecks.{tabulates, tabulates_at, passes}
use Rattle.ghash_slices.specs.Blocks.{HoldBytes, HoldRows}
use Rattle.word_carryless.proofs.NibbleSquares.{number-digits}

-- ---- blocks that are written in order

-- the places below `start` hold the values of f, and the sixteen from there on are written next
pub chunk_written : (f : ℕ → ℕ) (start : ℕ) (bytes lanes : List ℕ) → length lanes ≡ 16 → start + 16 ≤ length bytes
    → ((p : ℕ) → p < start → get_or bytes p 0 ≡ f p) → ((e : ℕ) → e < 16 → get_or lanes e 0 ≡ f (start + e))
    → (p : ℕ) → p < start + 16 → get_or (put_chunk start bytes lanes) p 0 ≡ f p
chunk_written f start bytes lanes long room before here p below = pick (cases_lt p start)
  where
    pick : (p < start) ⊎ (start ≤ p) → get_or (put_chunk start bytes lanes) p 0 ≡ f p
    pick (inl earlier) = get_or-put_chunk_below start bytes lanes p 0 earlier ∙ before p earlier
    pick (inr later) =
        let place : start + (p - start) ≡ p = omega arith in
        let small : p - start < 16 = omega arith in
        let inside : p - start < length lanes = omega arith in
        let fits : start + length lanes ≤ length bytes = omega arith in
        subst (λ (q : ℕ). get_or (put_chunk start bytes lanes) q 0 ≡ f q) place
        (get_or-put_chunk_at start bytes lanes (p - start) 0 inside fits ∙ here (p - start) small)

-- ---- transposition

-- the places of two vectors that are woven into the first, and into the second
abbrev pub first_half : List ℕ
first_half = 0 ∷ 16 ∷ 1 ∷ 17 ∷ 2 ∷ 18 ∷ 3 ∷ 19 ∷ 4 ∷ 20 ∷ 5 ∷ 21 ∷ 6 ∷ 22 ∷ 7 ∷ 23 ∷ []

abbrev pub second_half : List ℕ
second_half = 8 ∷ 24 ∷ 9 ∷ 25 ∷ 10 ∷ 26 ∷ 11 ∷ 27 ∷ 12 ∷ 28 ∷ 13 ∷ 29 ∷ 14 ∷ 30 ∷ 15 ∷ 31 ∷ []

abbrev first_place : ℕ → ℕ
first_place e = e / 2 + 16 * (e % 2)

abbrev second_place : ℕ → ℕ
second_place e = 8 + e / 2 + 16 * (e % 2)

-- computed
first_tabulated : tabulates first_place first_half ≡ true
unfolding tabulates passes
first_tabulated = refl

second_tabulated : tabulates second_place second_half ≡ true
unfolding tabulates passes
second_tabulated = refl

-- the lanes of rows `row` and `row + 8`, at the place that is picked
picked : (bytes places : List ℕ) (row e place : ℕ) → row < 8 → length bytes ≡ 256 → e < length places → get_or places e 0 ≡ place → place < 32
    → get_or (pick_l 0 (chunk (16 * row) 16 bytes ++ chunk (16 * (row + 8)) 16 bytes) places) e 0
    ≡ get_or bytes (16 * row + place % 16 + 128 * (place / 16)) 0
picked bytes places row e place few long inside is below =
    get_or-map (λ k. get_or (chunk (16 * row) 16 bytes ++ chunk (16 * (row + 8)) 16 bytes) k 0) places e 0 0 inside
    ∙ ap (λ (k : ℕ). get_or (chunk (16 * row) 16 bytes ++ chunk (16 * (row + 8)) 16 bytes) k 0) is
    ∙ pick (cases_lt place 16)
  where
    sixteen : length (chunk (16 * row) 16 bytes) ≡ 16
    sixteen = length-chunk (16 * row) 16 bytes (omega arith)

    pick : (place < 16) ⊎ (16 ≤ place)
        → get_or (chunk (16 * row) 16 bytes ++ chunk (16 * (row + 8)) 16 bytes) place 0
        ≡ get_or bytes (16 * row + place % 16 + 128 * (place / 16)) 0
    pick (inl low) =
        let within : place < length (chunk (16 * row) 16 bytes) = omega (arith, sixteen) in
        let at : 16 * row + place ≡ 16 * row + place % 16 + 128 * (place / 16) = omega arith in
        get_or_append_left (chunk (16 * row) 16 bytes) (chunk (16 * (row + 8)) 16 bytes) 0 place within
        ∙ get_or-chunk (16 * row) 16 bytes place 0 low ∙ ap (λ (p : ℕ). get_or bytes p 0) at
    pick (inr high) =
        let past : length (chunk (16 * row) 16 bytes) ≤ place = omega (arith, sixteen) in
        let small : place - 16 < 16 = omega arith in
        let at : 16 * (row + 8) + (place - 16) ≡ 16 * row + place % 16 + 128 * (place / 16) = omega arith in
        get_or-append_right (chunk (16 * row) 16 bytes) (chunk (16 * (row + 8)) 16 bytes) place 0 past
        ∙ ap (λ (n : ℕ). get_or (chunk (16 * (row + 8)) 16 bytes) (place - n) 0) sixteen
        ∙ get_or-chunk (16 * (row + 8)) 16 bytes (place - 16) 0 small ∙ ap (λ (p : ℕ). get_or bytes p 0) at

-- the bytes of the first half and of the second half, in turn
abbrev rotated : List ℕ → ℕ → ℕ
rotated bytes p = get_or bytes (p / 2 + 128 * (p % 2)) 0

-- rows 2 row and 2 row + 1 are woven next
pub rows_woven : (bytes mixed : List ℕ) (row : ℕ) → row < 8 → length bytes ≡ 256 → length mixed ≡ 256
    → ((p : ℕ) → p < 32 * row → get_or mixed p 0 ≡ rotated bytes p) → (p : ℕ) → p < 32 * (row + 1)
    → get_or (put_chunk (32 * row + 16)
    (put_chunk (32 * row) mixed (pick_l 0 (chunk (16 * row) 16 bytes ++ chunk (16 * (row + 8)) 16 bytes) first_half))
    (pick_l 0 (chunk (16 * row) 16 bytes ++ chunk (16 * (row + 8)) 16 bytes) second_half)) p 0
    ≡ rotated bytes p
rows_woven bytes mixed row few long also before p below =
    let more : p < 32 * row + 16 + 16 = omega arith in
    chunk_written (rotated bytes) (32 * row + 16)
    (put_chunk (32 * row) mixed (pick_l 0 (chunk (16 * row) 16 bytes ++ chunk (16 * (row + 8)) 16 bytes) first_half))
    (pick_l 0 (chunk (16 * row) 16 bytes ++ chunk (16 * (row + 8)) 16 bytes) second_half) refl
    (omega (arith, length-put_chunk (32 * row) mixed (pick_l 0 (chunk (16 * row) 16 bytes ++ chunk (16 * (row + 8)) 16 bytes) first_half)))
    (chunk_written (rotated bytes) (32 * row) mixed (pick_l 0 (chunk (16 * row) 16 bytes ++ chunk (16 * (row + 8)) 16 bytes) first_half) refl
    (omega arith) before first)
    second p more
  where
    first : (e : ℕ) → e < 16
        → get_or (pick_l 0 (chunk (16 * row) 16 bytes ++ chunk (16 * (row + 8)) 16 bytes) first_half) e 0 ≡ rotated bytes (32 * row + e)
    first e small =
        let at : 16 * row + first_place e % 16 + 128 * (first_place e / 16) ≡ (32 * row + e) / 2 + 128 * ((32 * row + e) % 2) = omega arith in
        picked bytes first_half row e (first_place e) few long small (tabulates_at first_place first_half e first_tabulated small) (omega arith)
        ∙ ap (λ (q : ℕ). get_or bytes q 0) at

    second : (e : ℕ) → e < 16
        → get_or (pick_l 0 (chunk (16 * row) 16 bytes ++ chunk (16 * (row + 8)) 16 bytes) second_half) e 0
        ≡ rotated bytes (32 * row + 16 + e)
    second e small =
        let at : 16 * row + second_place e % 16 + 128 * (second_place e / 16) ≡ (32 * row + 16 + e) / 2 + 128 * ((32 * row + 16 + e) % 2) =
        omega arith in
        picked bytes second_half row e (second_place e) few long small (tabulates_at second_place second_half e second_tabulated small)
        (omega arith)
        ∙ ap (λ (q : ℕ). get_or bytes q 0) at

-- bytes of which these are woven
abbrev pub AreWoven : List ℕ → List ℕ → Type 0
AreWoven bytes woven = (p : ℕ) → p < 256 → slice_index woven p ≡ slice_index bytes (p / 2 + 128 * (p % 2))

-- rows as values, and values as rows
abbrev pub AreTransposed : List ℕ → List ℕ → Type 0
AreTransposed bytes turned = (p : ℕ) → p < 256 → slice_index turned p ≡ slice_index bytes (p / 16 + 16 * (p % 16))

abbrev source : ℕ → ℕ
source p = p / 2 + 128 * (p % 2)

source_below : (p : ℕ) → p < 256 → source p < 256
source_below p below = omega arith

-- two rotations by a bit are one by two bits
twice : (p : ℕ) → p < 256 → source (source p) ≡ p / 4 + 64 * (p % 4)
twice p below = omega arith

-- two rotations by two bits are one by four bits
twice_more : (p : ℕ) → p < 256 → (p / 4 + 64 * (p % 4)) / 4 + 64 * ((p / 4 + 64 * (p % 4)) % 4) ≡ p / 16 + 16 * (p % 16)
twice_more p below = omega arith

-- four rotations by a bit exchange the halves of a place
pub four_rotations : (a b c d e : List ℕ) → AreWoven a b → AreWoven b c → AreWoven c d → AreWoven d e → AreTransposed a e
four_rotations a b c d e first second third last p below =
    last p below ∙ third (source p) first_below ∙ second (source (source p)) second_below
    ∙ first (source (source (source p))) (source_below (source (source p)) second_below)
    ∙ ap (slice_index a) (twice (source (source p)) second_below
    ∙ ap (λ (q : ℕ). q / 4 + 64 * (q % 4)) (twice p below) ∙ twice_more p below)
  where
    first_below : source p < 256
    first_below = source_below p below

    second_below : source (source p) < 256
    second_below = source_below (source p) first_below

-- ---- rows and values

-- what stands in row i at place j stands in row j at place i of the transposed
turned_each : (xs ys : List ℕ) (f : ℕ → ℕ → ℕ) → AreTransposed xs ys
    → ((i j : ℕ) → i < 16 → j < 16 → slice_index xs (16 * i + j) ≡ f i j)
    → (j i : ℕ) → j < 16 → i < 16 → slice_index ys (16 * j + i) ≡ f i j
turned_each xs ys f turned each j i j_in i_in =
    let inside : 16 * j + i < 256 = omega arith in
    let at : (16 * j + i) / 16 + 16 * ((16 * j + i) % 16) ≡ 16 * i + j = omega arith in
    turned (16 * j + i) inside ∙ ap (slice_index xs) at ∙ each i j i_in j_in

-- the rows of values
pub rows_of : (bytes rows : List ℕ) (values : ℕ → ℕ) → AreTransposed bytes rows → HoldBytes bytes values → HoldRows rows values
rows_of bytes rows values turned held = record {
  fits = held.fits;
  each = turned_each bytes rows (λ e k. values e / 2 ^ (8 * k) % 256) turned held.each;
}

-- the values of rows
pub values_of : (rows bytes : List ℕ) (values : ℕ → ℕ) → AreTransposed rows bytes → HoldRows rows values → HoldBytes bytes values
values_of rows bytes values turned held = record {
  fits = held.fits;
  each = turned_each rows bytes (λ k e. values e / 2 ^ (8 * k) % 256) turned held.each;
}

-- ---- a value by its bytes

-- byte i of the n lowest
pub byte_at : (n x i : ℕ) → i < n → get_or (digits_l 256 n x) i 0 ≡ x / 2 ^ (8 * i) % 256
byte_at zero x i below = absurd (omega arith)
byte_at (suc n) x zero below = let whole : x ≡ x / 2 ^ (8 * 0) = omega arith in ap (λ (y : ℕ). y % 256) whole
byte_at (suc n) x (suc i) below =
    let next : 8 + 8 * i ≡ 8 * suc i = omega arith in
    byte_at n (x / 256) i (omega arith)
    ∙ ap (λ (y : ℕ). y % 256) (shr-shr x 8 (8 * i) ∙ ap (λ (m : ℕ). x / 2 ^ m) next)

-- a number has so many bytes
pub length-digits : (n x : ℕ) → length (digits_l 256 n x) ≡ n
length-digits zero x = refl
length-digits (suc n) x = ap suc (length-digits n (x / 256))

-- the number of the bytes of a value is the value
pub number_at : (bytes : List ℕ) (values : ℕ → ℕ) (place : ℕ) → length bytes ≡ 256 → place < 16 → HoldBytes bytes values
    → number_l 256 (chunk (16 * place) 16 bytes) ≡ values place
number_at bytes values place long inside held =
    ap (number_l 256) (ext_get_or 0 (chunk (16 * place) 16 bytes) (digits_l 256 16 (values place)) (sixteen ∙ sym (length-digits 16 (values place)))
    (λ k k_in. let small : k < 16 = omega (arith, sixteen) in
    get_or-chunk (16 * place) 16 bytes k 0 small ∙ held.each place k inside small ∙ sym (byte_at 16 (values place) k small)))
    ∙ number-digits 16 (values place) (held.fits place inside)
  where
    sixteen : length (chunk (16 * place) 16 bytes) ≡ 16
    sixteen = length-chunk (16 * place) 16 bytes (omega arith)

-- ---- the bytes of a slice

-- byte p of the values from `start` on
abbrev pub byte_of_slice : List ℕ → ℕ → ℕ → ℕ
byte_of_slice values start p = slice_index values (start + p / 16) / 2 ^ (8 * (p % 16)) % 256

-- the bytes of `place` values are written
pub record BytesSoFar (values : List ℕ) (start place : ℕ) (bytes : List ℕ) : Type 0 where
  pub whole : length bytes ≡ 256
  pub done : (p : ℕ) → p < 16 * place → slice_index bytes p ≡ byte_of_slice values start p
  pub rest : (p : ℕ) → 16 * place ≤ p → slice_index bytes p ≡ 0

-- every place of zeros holds 0
pub zeros : (n p : ℕ) → get_or {A = ℕ} (replicate n 0) p 0 ≡ 0
zeros zero p = refl
zeros (suc n) zero = refl
zeros (suc n) (suc p) = zeros n p

-- at first all bytes are 0
pub bytes_start : (values : List ℕ) (start : ℕ) → BytesSoFar values start 0 (replicate 256 0)
bytes_start values start = record {
  whole = refl;
  done = λ p below. absurd (omega arith);
  rest = λ p past. zeros 256 p;
}

-- those of one value more
pub bytes_step : (values : List ℕ) (start place : ℕ) (bytes lanes : List ℕ) → place < 16
    → lanes ≡ digits_l 256 16 (slice_index values (start + place)) → BytesSoFar values start place bytes
    → BytesSoFar values start (place + 1) (put_chunk (16 * place) bytes lanes)
bytes_step values start place bytes lanes inside are so_far = record {
  whole = length-put_chunk (16 * place) bytes lanes ∙ so_far.whole;
  done = λ p below. chunk_written (byte_of_slice values start) (16 * place) bytes lanes long (omega (arith, so_far.whole)) so_far.done here p
      (omega arith);
  rest = λ p past.
      get_or-put_chunk_above (16 * place) bytes lanes p 0 (omega (arith, long)) ∙ so_far.rest p (omega arith);
}
  where
    long : length lanes ≡ 16
    long = ap length are ∙ length-digits 16 (slice_index values (start + place))

    here : (e : ℕ) → e < 16 → get_or lanes e 0 ≡ byte_of_slice values start (16 * place + e)
    here e small =
        let value : place ≡ (16 * place + e) / 16 = omega arith in
        let byte : e ≡ (16 * place + e) % 16 = omega arith in
        ap (λ (l : List ℕ). get_or l e 0) are ∙ byte_at 16 (slice_index values (start + place)) e small
        ∙ ap (λ (n : ℕ). slice_index values (start + n) / 2 ^ (8 * e) % 256) value
        ∙ ap (λ (n : ℕ). slice_index values (start + (16 * place + e) / 16) / 2 ^ (8 * n) % 256) byte

-- past the last value the bytes are 0
pub bytes_end : (values : List ℕ) (start place : ℕ) (bytes : List ℕ) → ((p : ℕ) → slice_index values p < 2 ^ 128) → place ≤ 16
    → (place < 16 → start + place ≡ length values) → BytesSoFar values start place bytes
    → HoldBytes bytes (λ e. slice_index values (start + e))
bytes_end values start place bytes fit few end so_far = record {
  fits = λ e inside. fit (start + e);
  each = λ e k e_in k_in. pick e k e_in k_in (cases_lt e place);
}
  where
    pick : (e k : ℕ) → e < 16 → k < 16 → (e < place) ⊎ (place ≤ e)
        → slice_index bytes (16 * e + k) ≡ slice_index values (start + e) / 2 ^ (8 * k) % 256
    pick e k e_in k_in (inl written) =
        let below : 16 * e + k < 16 * place = omega arith in
        let value : (16 * e + k) / 16 ≡ e = omega arith in
        let byte : (16 * e + k) % 16 ≡ k = omega arith in
        so_far.done (16 * e + k) below
        ∙ ap (λ (n : ℕ). slice_index values (start + n) / 2 ^ (8 * ((16 * e + k) % 16)) % 256) value
        ∙ ap (λ (n : ℕ). slice_index values (start + e) / 2 ^ (8 * n) % 256) byte
    pick e k e_in k_in (inr past) =
        let short = end (omega arith) in
        let none : slice_index values (start + e) ≡ 0 = get_or_past values (start + e) 0 (omega (arith, short)) in
        so_far.rest (16 * e + k) (omega arith)
        ∙ ap (λ (n : ℕ). n % 256) (sym (zero-div (2 ^ (8 * k)))) ∙ ap (λ (v : ℕ). v / 2 ^ (8 * k) % 256) (sym none)
