-- Columns of a strip that are encoded: the data of each are values of a polynomial, and its parity too, block by block.
use Rattle.std.proofs.Common.{◌≡◌, ◌⊎◌, inl, inr, ℕ, ◌+◌, ◌-◌, ◌*◌, ◌/◌, ◌^◌, ◌<◌, ◌≤◌, List, length, get_or, map, sym, ◌∙◌, ap, subst, arith, div-mul-le_self, mul-le-mul_right}
use Rattle.std.specs.Prelude.{slice_index}
use Rattle.std.proofs.lemmas.Bool.{cases_lt}
use Rattle.std.proofs.lemmas.List.{get_or-map, length-map}
use Rattle.std.proofs.lemmas.Nat.{div-mul-add}
use Rattle.additive_transforms.specs.Columns.{column_of}
use Rattle.additive_transforms.proofs.ColumnStages.{column-at, column-length}
use Rattle.field_base.specs.Tower.{tower_mul}
use Rattle.ghash_slices.specs.Cantor.{point, polynomial_value}
use Rattle.word_tables.specs.Cantor.{cantor_vector}
use Rattle.reed_solomon.specs.Codes.{AreCodedBefore, AreCodedColumns, AreOfData, IsCodedColumn, shard_symbol, value_at}
use Rattle.reed_solomon.specs.Columns.{AreParityBelow, AreScattered, HoldFirstValues, HoldStrip, HoldWordValues, OthersAreKept}
use Rattle.reed_solomon.specs.declared.strips.Strip.{Strip}
use Rattle.additive_transforms.proofs.BlockPoints.{point-joined}
use Rattle.reed_solomon.proofs.ColumnPlaces.{columns_more}
use lib.Arith.{digits_lt}

-- so many words are rows of a strip
pub rows_in : (n width words : ℕ) → 0 < width → words ≡ 2 ^ n * width → words / width ≡ 2 ^ n
rows_in n width words some all =
    let whole : 2 ^ n * width ≡ 2 ^ n * width + 0 = omega arith in
    ap (λ (k : ℕ). k / width) (all ∙ whole) ∙ div-mul-add (2 ^ n) width 0 some

module _ {W : Type 0} (element : W → ℕ) (zero : W) (level n width c : ℕ) (inside : c < width) where
  abbrev column : List W → List ℕ
  column words = column_of width c (map element words)

  rows : (words : List W) → length words ≡ 2 ^ n * width → length (map element words) / width ≡ 2 ^ n
  rows words count = rows_in n width (length (map element words)) (omega (arith, inside)) (length-map words element ∙ count)

  -- a column has a coefficient of each row
  pub column_long : (words : List W) → length words ≡ 2 ^ n * width → length (column words) ≡ 2 ^ n
  column_long words count = column-length width c (map element words) ∙ rows words count

  -- a place of a column is that of a row
  pub column_word : (words : List W) → length words ≡ 2 ^ n * width → (p : ℕ) → p < 2 ^ n
      → slice_index (column words) p ≡ element (get_or words (p * width + c) zero)
  column_word words long p below =
      let within = digits_lt below inside in
      let in_rows = rows words long in
      column-at width c (map element words) p (omega (arith, in_rows, below))
      ∙ get_or-map element words (p * width + c) zero 0 (omega (arith, long, within))

  -- the value that a place holds
  pub held : (z : ℕ) (coefficients values : List W) → length coefficients ≡ 2 ^ n * width → length values ≡ 2 ^ n * width
      → HoldWordValues element level z width c coefficients values → (p : ℕ) → p < 2 ^ n
      → element (get_or values (p * width + c) zero)
      ≡ polynomial_value (tower_mul level) n (slice_index (column coefficients)) (point (2 ^ level) cantor_vector z p)
  held z coefficients values count long holds p below =
      sym (column_word values long p below) ∙ holds n (column_long coefficients count) p below

  module _ (k size start : ℕ) (shards values coefficients : List W) (z : ℕ) (nothing : z ≡ 0) (count : length coefficients ≡ 2 ^ n * width)
      (long : length values ≡ 2 ^ n * width) (strip_is : HoldStrip zero k size start width shards (2 ^ n) values)
      (holds : HoldWordValues element level z width c coefficients values) where
    at_first : (p : ℕ) → p < 2 ^ n → element (get_or values (p * width + c) zero) ≡ value_at level n (column coefficients) p
    at_first p below =
        held z coefficients values count long holds p below
        ∙ ap (λ (y : ℕ). polynomial_value (tower_mul level) n (slice_index (column coefficients)) (point (2 ^ level) cantor_vector y p)) nothing

    -- the polynomial of a column of data
    pub of_data : k ≤ 2 ^ n → element zero ≡ 0 → AreOfData level n k (shard_symbol element zero size shards (start + c)) (column coefficients)
    of_data padded none =
        record {
          count = column_long coefficients count;
          values = λ i below.
              let within : i < 2 ^ n = omega (arith, below, padded) in
              sym (ap element ((strip_is i c within inside).0 below)) ∙ at_first i within;
          padding = λ p past below. sym (at_first p below) ∙ ap element ((strip_is p c below inside).1 past) ∙ none;
        }

  -- one more block of parity
  pub next_block : (m size start q first taken few z : ℕ) (coefficients block old new : List W)
      → start + width ≤ size → first ≡ q * 2 ^ n → z ≡ point (2 ^ level) cantor_vector 0 ((q + 1) * 2 ^ n)
      → (taken ≡ 2 ^ n) ⊎ (first + taken ≡ m) → taken ≤ 2 ^ few → HoldFirstValues element zero level n few z width c coefficients block
      → AreParityBelow element zero level n m size (start + c) (column coefficients) (q * 2 ^ n) old
      → AreScattered zero size start width first taken block old new
      → AreParityBelow element zero level n m size (start + c) (column coefficients) ((q + 1) * 2 ^ n) new
  next_block m size start q first taken few z coefficients block old new fits first_is shift end enough holds before now t below parity_below =
      elim (cases_lt t (q * 2 ^ n)) [
        | inl early ↦
            ap element (now.kept t (start + c) (omega (arith, inside, fits)) (inr (inl (omega (arith, early, first_is)))))
            ∙ before t early parity_below
        | inr late ↦ in_block late
      ]
    where
      more : (q + 1) * 2 ^ n ≡ q * 2 ^ n + 2 ^ n
      more = omega arith

      in_block : q * 2 ^ n ≤ t
          → shard_symbol element zero size new (start + c) t ≡ value_at level n (column coefficients) (2 ^ n + t)
      in_block late =
          let s : ℕ = t - q * 2 ^ n in
          let s_below : s < 2 ^ n = omega (arith, below, more, late) in
          let reached : s < taken = elim end [ inl all ↦ omega (arith, s_below, all) | inr rest ↦ omega (arith, parity_below, rest, first_is, late) ] in
          let place : first + s ≡ t = omega (arith, first_is, late) in
          let behind : (q + 1) * 2 ^ n + s ≡ 2 ^ n + t = omega (arith, more, late) in
          ap (λ (i : ℕ). element (get_or new (i * size + (start + c)) zero)) (sym place)
          ∙ ap element (now.written s c reached inside)
          ∙ holds s (omega (arith, reached, enough))
          ∙ ap (polynomial_value (tower_mul level) n (slice_index (column coefficients)))
          (ap (λ (y : ℕ). point (2 ^ level) cantor_vector y s) shift
          ∙ point-joined cantor_vector n (q + 1) s s_below (2 ^ level) 0
          ∙ ap (point (2 ^ level) cantor_vector 0) behind)

module _ {W : Type 0} (element : W → ℕ) (zero : W) (level n k m size start width : ℕ) (shards old new : List W) where
  abbrev is_coded : ℕ → List W → ℕ → Type 0
  is_coded of_size parity column =
      IsCodedColumn level n k m (shard_symbol element zero of_size shards column) (shard_symbol element zero of_size parity column)

  -- a column keeps its code word where it keeps its words
  kept_word : start + width ≤ size → OthersAreKept zero size start width old new → (column : ℕ) → column < start
      → is_coded size old column → is_coded size new column
  kept_word fits kept column before word =
      record {
        coefficients = word.coefficients;
        of_data = word.of_data;
        of_parity = λ t below. ap element (kept t column (omega (arith, before, fits)) (inl before)) ∙ word.of_parity t below;
      }

  more_columns : start + width ≤ size → OthersAreKept zero size start width old new
      → AreCodedBefore element zero level n k m size start shards old → ((c : ℕ) → c < width → is_coded size new (start + c))
      → AreCodedBefore element zero level n k m size (start + width) shards new
  more_columns fits kept before strip =
      columns_more start width (is_coded size new) (λ column below. kept_word fits kept column below (before column below)) strip

-- one more strip, which begins behind the columns so far
pub next_strip : {W : Type 0} (element : W → ℕ) (zero : W) (level n k m size start : ℕ) (strip : Strip) (shards old new : List W)
    → strip.size ≡ size → strip.start ≡ start → OthersAreKept zero strip.size strip.start strip.width old new
    → AreCodedBefore element zero level n k m size start shards old
    → ((c : ℕ) → c < strip.width → IsCodedColumn level n k m (shard_symbol element zero strip.size shards (strip.start + c))
    (shard_symbol element zero strip.size new (strip.start + c)))
    → (start + strip.width ≤ size) × AreCodedBefore element zero level n k m size (start + strip.width) shards new
next_strip element zero level n k m size start strip shards old new size_is start_is kept before coded =
    subst (λ (s : ℕ). (start + strip.width ≤ s) × AreCodedBefore element zero level n k m s (start + strip.width) shards new) size_is
    (subst (λ (b : ℕ). (b + strip.width ≤ strip.size) × AreCodedBefore element zero level n k m strip.size (b + strip.width) shards new) start_is (
      strip.inside,
      more_columns element zero level n k m strip.size strip.start strip.width shards old new strip.inside kept
          (subst (λ (s : ℕ). AreCodedBefore element zero level n k m s strip.start shards old) (sym size_is)
          (subst (λ (b : ℕ). AreCodedBefore element zero level n k m size b shards old) (sym start_is) before)) coded,
    ))

-- where each column is a code word, those of a strip are
pub strip_of_coded : {W : Type 0} (element : W → ℕ) (zero : W) (level n k m size : ℕ) (strip : Strip) (shards parity : List W)
    → strip.size ≡ size → AreCodedColumns element zero level n k m size shards parity
    → (c : ℕ) → c < strip.width → IsCodedColumn level n k m (shard_symbol element zero strip.size shards (strip.start + c))
    (shard_symbol element zero strip.size parity (strip.start + c))
strip_of_coded element zero level n k m size strip shards parity size_is words c below =
    subst (λ (s : ℕ). AreCodedColumns element zero level n k m s shards parity) (sym size_is) words (strip.start + c)
    (omega (arith, below, strip.inside))

-- so many blocks have all places
pub all_blocks : (m long len : ℕ) → long ≡ len → 0 < len → m ≤ ((m - 1) / long + 1) * len
all_blocks m long len is some = subst (λ (k : ℕ). m ≤ ((m - 1) / k + 1) * len) (sym is) (omega (arith, some))

-- and each begins below the last place
pub block_begins : (m long number : ℕ) → 0 < m → number < (m - 1) / long + 1 → number * long ≤ m
block_begins m long number some below =
    let whole = div-mul-le_self (m - 1) long in
    let before : number * long ≤ (m - 1) / long * long = mul-le-mul_right long (omega (arith, below)) in
    omega (arith, whole, before)
