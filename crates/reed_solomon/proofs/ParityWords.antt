-- Parity by the shards of data, whose places are 0, 1, .., k - 1.
use Rattle.std.proofs.Common.{◌≡◌, ◌↔◌, inl, inr, ℕ, zero, suc, ◌+◌, ◌-◌, ◌*◌, ◌/◌, ◌^◌, ◌==◌, ◌<◌, ◌≤◌, ◌++◌, List, length, get_or, take, drop, refl, sym, ◌∙◌, ap, ap₂, subst, arith, lit<}
use Rattle.std.specs.Prelude.{Bool, true, IsTrue, if◌then◌else◌, bit_xor}
use Rattle.std.proofs.lemmas.Bool.{cases_lt}
use Rattle.std.proofs.lemmas.List.{get_or-append-add, get_or_append_left, get_or-drop, get_or-take}
use Rattle.std.proofs.lemmas.Nat.{mul-add-lt}
use Rattle.std.proofs.Math.Nat.{mul-le-mul_right, mul_comm}
use Rattle.field_base.specs.Basis.{product_below}
use Rattle.field_base.specs.Powers.{power}
use Rattle.field_base.specs.Codewords.{IsCodeword}
use Rattle.field_base.specs.Interpolation.{lagrange, other_factors}
use Rattle.field_base.specs.PolynomialRoots.{AreDistinctBelow}
use Rattle.field_base.proofs.Codewords.{codeword_exists, codeword_is_unique}
use Rattle.reed_solomon.specs.ByteFields.{byte_times}
use Rattle.reed_solomon.specs.declared.byte_field.ByteField.TheVariants.{Qr}
use Rattle.reed_solomon.specs.Parity.{MatchesParity, parity_factor, parity_symbol}
use Rattle.reed_solomon.specs.Samples.{symbol_at}
use Rattle.reed_solomon.specs.Shards.{AreCodewords, IsEncoded, shard_byte}
use Rattle.reed_solomon.specs.Tables.{AreRows, HasRow, row_sum}
use Rattle.reed_solomon.proofs.ByteFields.{erasure_field}
use Rattle.reed_solomon.proofs.GroupWriting.{row_factors, row_symbol}
use Rattle.reed_solomon.proofs.StripRows.{row_sum-drop}

-- ---- the places of the data

-- they differ
first_places : (k bound : ℕ) → k ≤ bound → AreDistinctBelow k bound (λ i. i)
first_places k bound within =
    record {
      below = λ i inside. omega (arith, inside, within);
      differ = λ i j i_below j_below same. same;
    }

-- products of equal factors
product_below-same : (n : ℕ) (f g : ℕ → ℕ) → ((i : ℕ) → i < n → f i ≡ g i) → product_below (byte_times Qr) f n ≡ product_below (byte_times Qr) g n
unfolding product_below
product_below-same zero f g same = refl
product_below-same (suc n) f g same =
    ap₂ (byte_times Qr) (product_below-same n f g (λ i below. same i (omega (arith, below)))) (same n (omega arith))

-- Lagrange's factors read as many points as there are
pub lagrange-same : (k own x : ℕ) (point other : ℕ → ℕ) → own < k → ((i : ℕ) → i < k → point i ≡ other i)
    → lagrange 8 (byte_times Qr) point k own x ≡ lagrange 8 (byte_times Qr) other k own x
lagrange-same k own x point other within same =
    ap₂ (λ (a b : ℕ). byte_times Qr a (power 1 (byte_times Qr) b (2 ^ 8 - 2))) (factors x x refl) (factors (point own) (other own) (same own within))
  where
    factors : (a b : ℕ) → a ≡ b → other_factors (byte_times Qr) point own a k ≡ other_factors (byte_times Qr) other own b k
    factors a b is =
        product_below-same k (λ i. if i == own then 1 else bit_xor a (point i)) (λ i. if i == own then 1 else bit_xor b (other i))
        (λ i below. ap (λ (z : ℕ). if i == own then 1 else z) (ap₂ bit_xor is (same i below)))

-- tables of a sample of the data are those of its shards of parity
pub parity_row : (k first count row slot : ℕ) (places points entries : List ℕ) → row < count → ((j : ℕ) → j < k → get_or places j 0 ≡ j)
    → ((i : ℕ) → i < count → get_or points i 0 ≡ k + first + i)
    → HasRow (λ j. lagrange 8 (byte_times Qr) (λ i. get_or places i 0) k j (get_or (take count points) row 0)) entries slot k
    → HasRow (parity_factor k (first + row)) entries slot k
parity_row k first count row slot places points entries within places_are points_are set =
    row_factors (λ j. lagrange 8 (byte_times Qr) (λ i. get_or places i 0) k j (get_or (take count points) row 0)) (parity_factor k (first + row))
    entries slot k set
    (λ j below.
    lagrange-same k j (get_or (take count points) row 0) (λ i. get_or places i 0) (λ i. i) below places_are
    ∙ ap (lagrange 8 (byte_times Qr) (λ i. i) k j) (get_or-take count points row 0 within ∙ points_are row within ∙ point))
  where
    point : k + first + row ≡ k + (first + row)
    point = omega arith

-- columns of shards of parity that are what their tables give of the data have their symbols, and the other way round
module _ (k size done count first width : ℕ) (entries shards part starts : List ℕ) (part_is : part ≡ drop first shards) (counted : length starts ≡ k)
    (begun : (j : ℕ) → j < k → get_or starts j 0 ≡ j * size)
    (set : (row : ℕ) → row < count → HasRow (parity_factor k (done + row)) entries row k) (bytes : (i : ℕ) → get_or shards i 0 < 256) where
  parity_sum : (row c : ℕ) → row < count → row_sum entries part starts row c ≡ parity_symbol k size shards (done + row) (first + c)
  parity_sum row c within =
      ap (λ (l : List ℕ). row_sum entries l starts row c) part_is ∙ row_sum-drop entries shards starts row first c
      ∙ row_symbol k size (λ i. i) entries shards starts row (first + c) (k + (done + row)) counted begun (set row within) bytes

  byte_at : (row c : ℕ) → get_or part ((k + done) * size + row * size + c) 0 ≡ shard_byte size shards (k + (done + row)) (first + c)
  byte_at row c =
      ap (λ (l : List ℕ). get_or l ((k + done) * size + row * size + c) 0) part_is
      ∙ get_or-drop first shards ((k + done) * size + row * size + c) 0 ∙ ap (λ (p : ℕ). get_or shards p 0) place
    where
      place : first + ((k + done) * size + row * size + c) ≡ (k + (done + row)) * size + (first + c)
      place = omega arith

  pub group_matches : AreRows count size ((k + done) * size) width (row_sum entries part starts) part
      → MatchesParity k size shards done (done + count) first (first + width)
  group_matches equal t column from below left inside =
      let row_is : done + (t - done) ≡ t = omega (arith, from) in
      let column_is : first + (column - first) ≡ column = omega (arith, left) in
      let within : t - done < count = omega (arith, from, below) in
      subst (λ (n : ℕ). shard_byte size shards (k + n) column ≡ parity_symbol k size shards n column) row_is
      (subst (λ (c : ℕ). shard_byte size shards (k + (done + (t - done))) c ≡ parity_symbol k size shards (done + (t - done)) c) column_is
      (sym (byte_at (t - done) (column - first)) ∙ equal (t - done) (column - first) within (omega (arith, left, inside))
      ∙ parity_sum (t - done) (column - first) within))

  pub group_equal : MatchesParity k size shards done (done + count) first (first + width)
      → AreRows count size ((k + done) * size) width (row_sum entries part starts) part
  group_equal all row c within inside =
      byte_at row c ∙ all (done + row) (first + c) (omega arith) (omega (arith, within)) (omega arith) (omega (arith, inside))
      ∙ sym (parity_sum row c within)

-- shards of parity behind those before them
pub parity_rows : (k size : ℕ) (shards : List ℕ) (from mid until first end : ℕ) → MatchesParity k size shards from mid first end
    → MatchesParity k size shards mid until first end → MatchesParity k size shards from until first end
parity_rows k size shards from mid until first end before more t column above below left inside =
    elim (cases_lt t mid) [
      | inl early ↦ before t column above early left inside
      | inr late ↦ more t column late below left inside
    ]

-- and columns
pub parity_columns : (k size : ℕ) (shards : List ℕ) (from until first mid end : ℕ) → MatchesParity k size shards from until first mid
    → MatchesParity k size shards from until mid end → MatchesParity k size shards from until first end
parity_columns k size shards from until first mid end before more t column above below left inside =
    elim (cases_lt column mid) [
      | inl early ↦ before t column above below left early
      | inr late ↦ more t column above below late inside
    ]

-- a strip more that matches, where its tables are those of as many shards
pub strip_matches : (k n m size first width : ℕ) (shards : List ℕ) (answer : Bool) → n ≡ k
    → (IsTrue answer ↔ MatchesParity n size shards 0 m first (first + width)) → answer ≡ true → MatchesParity k size shards 0 m 0 first
    → MatchesParity k size shards 0 m 0 (first + width)
strip_matches k n m size first width shards answer is told right before =
    parity_columns k size shards 0 m 0 first (first + width) before
    (subst (λ (l : ℕ). MatchesParity l size shards 0 m first (first + width)) is (told.0 right))

-- and each strip matches where all do
pub strip_equals : (k n m size first width : ℕ) (shards : List ℕ) (answer : Bool) → n ≡ k
    → (IsTrue answer ↔ MatchesParity n size shards 0 m first (first + width)) → first + width ≤ size → MatchesParity k size shards 0 m 0 size
    → answer ≡ true
strip_equals k n m size first width shards answer is told fits all =
    told.1 (subst (λ (l : ℕ). MatchesParity l size shards 0 m first (first + width)) (sym is)
    (λ t column above below left inside. all t column above below (omega arith) (omega (arith, inside, fits))))

-- the first shards of parity lie within all shards
pub parity_inside : (k m size until : ℕ) → until ≤ m → (k + until) * size ≤ (k + m) * size
parity_inside k m size until fits =
    let more : k + until ≤ k + m = omega (arith, fits) in
    mul-le-mul_right size more

-- ---- the codewords of the data

module _ (k m size : ℕ) (source : List ℕ) (fits : k + m ≤ 256) (bytes : (i : ℕ) → get_or source i 0 < 256) where
  -- the symbols that the data give are a codeword, and those of data are the data's
  data_word : (column : ℕ) → IsCodeword (byte_times Qr) k (k + m) (symbol_at k size (λ i. i) source column)
      × ((j : ℕ) → j < k → symbol_at k size (λ i. i) source column j ≡ shard_byte size source j column)
  data_word column =
      codeword_exists 8 (byte_times Qr) k (k + m) (λ i. i) (λ j. shard_byte size source j column) (lit< tt) erasure_field fits
      (first_places k (k + m) (omega arith)) (λ j below. bytes (j * size + column))

  -- shards that have those symbols are codewords
  word_of : (shards : List ℕ) (column : ℕ) → ((j : ℕ) → j < k → shard_byte size shards j column ≡ shard_byte size source j column)
      → ((t : ℕ) → t < m → shard_byte size shards (k + t) column ≡ parity_symbol k size source t column)
      → IsCodeword (byte_times Qr) k (k + m) (λ i. shard_byte size shards i column)
  word_of shards column front behind =
      let given = data_word column in
      record {
        coefficients = given.0.coefficients;
        count = given.0.count;
        values = λ i below.
            elim (cases_lt i k) [
              | inl is_data ↦ front i is_data ∙ sym (given.1 i is_data)
              | inr is_parity ↦ last i is_parity below
            ]
            ∙ given.0.values i below;
      }
    where
      last : (i : ℕ) → k ≤ i → i < k + m → shard_byte size shards i column ≡ symbol_at k size (λ i. i) source column i
      last i above below =
          let is : k + (i - k) ≡ i = omega (arith, above) in
          subst (λ (n : ℕ). shard_byte size shards n column ≡ symbol_at k size (λ i. i) source column n) is
          (behind (i - k) (omega (arith, above, below)))

  -- parity with those symbols behind the data is that of the data
  pub parity_encoded : (before after : List ℕ) → length source ≡ k * size
      → ((t column : ℕ) → t < m → column < size → get_or after (t * size + column) 0 ≡ parity_symbol k size source t column)
      → IsEncoded k (k + m) size (source ++ before) (source ++ after)
  parity_encoded before after long rows =
      record {
        keeps_data = λ i column below inside. front after i column below inside ∙ sym (front before i column below inside);
        codewords = λ column inside.
            word_of (source ++ after) column (λ j below. front after j column below inside)
            (λ t below.
            ap (λ (n : ℕ). get_or (source ++ after) n 0) (place t column)
            ∙ get_or-append-add source after (t * size + column) 0 ∙ rows t column below inside);
      }
    where
      front : (rest : List ℕ) (i column : ℕ) → i < k → column < size
          → shard_byte size (source ++ rest) i column ≡ shard_byte size source i column
      front rest i column below inside =
          get_or_append_left source rest 0 (i * size + column)
          (subst (λ (n : ℕ). i * size + column < n) (mul_comm size k ∙ sym long) (mul-add-lt i size column k below inside))

      place : (r column : ℕ) → (k + r) * size + column ≡ length source + (r * size + column)
      place r column = omega (arith, long)

  -- all shards are codewords where those of parity have the symbols that the data give, and only there
  pub matching_parity : MatchesParity k size source 0 m 0 size ↔ AreCodewords k (k + m) size source
  matching_parity = (
    (λ matching column inside. word_of source column (λ j below. refl) (λ t below. matching t column (omega arith) below (omega arith) inside)),
    λ words t column above below left inside.
        let given = data_word column in
        codeword_is_unique 8 (byte_times Qr) k (k + m) (λ i. i) (λ p. shard_byte size source p column) (symbol_at k size (λ i. i) source column)
        (lit< tt) erasure_field fits (first_places k (k + m) (omega arith)) (words column inside) given.0
        (λ j j_below. sym (given.1 j j_below)) (k + t) (omega (arith, below)),
  )

-- ---- all shards in one list

-- the shards of parity behind those of data
pub parity_room : (k m total size bytes back : ℕ) → total ≡ k + m → bytes ≡ total * size → back + k * size ≡ bytes → back ≡ m * size
parity_room k m total size bytes back total_is whole split =
    let all : bytes ≡ (k + m) * size = whole ∙ ap (λ (n : ℕ). n * size) total_is in
    omega (arith, all, split)

-- the data and their parity, of the size that the shards have
pub all_encoded : (k m total size : ℕ) (old front back after : List ℕ) → total ≡ k + m → size ≡ length old / total → old ≡ front ++ back
    → IsEncoded k (k + m) size (front ++ back) (front ++ after) → IsEncoded k (k + m) (length old / (k + m)) old (front ++ after)
all_encoded k m total size old front back after total_is size_is split done =
    subst (λ (n : ℕ). IsEncoded k (k + m) n old (front ++ after)) (size_is ∙ ap (λ (n : ℕ). length old / n) total_is)
    (subst (λ (l : List ℕ). IsEncoded k (k + m) size l (front ++ after)) (sym split) done)
