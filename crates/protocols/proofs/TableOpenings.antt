-- Columns as the leaves of a tree, and what the opening of columns says.
use Rattle.std.proofs.Common.{◌≡◌, ◌↔◌, [], ℕ, ◌+◌, ◌*◌, ◌^◌, ◌<◌, ◌≤◌, List, length, map, take, sym, ◌∙◌, ap, subst, arith}
use Rattle.std.specs.Prelude.{slice_index}
use Rattle.std.proofs.Math.Nat.{add-mul, mul-le-mul_right}
use Rattle.std.proofs.lemmas.List.{ext_get_or, get_or-take, length-map, length-take-le, take-map}
use Rattle.std.proofs.lemmas.List.FromFn.{get_or-map-range_with_len, length-map-range_with_len}
use Rattle.std.proofs.lemmas.Nat.{pow_pos}
use native.Mathlib.Nat.{one-mul}
use Rattle.field_base.specs.Field.{IsField}
use Rattle.field_base.specs.Orders.{AreCantorVectors}
use Rattle.field_base.specs.TowerBasis.{AreEvenCantorVectors, IsIsomorphism}
use Rattle.field_bytes.specs.Bytes.{low_bytes}
use Rattle.field_bytes.specs.Streams.{joined_bytes}
use Rattle.field_bytes.proofs.Taking.{length-chunks}
use Rattle.field_slices.specs.Multilinear.{multilinear_value}
use Rattle.protocols.specs.CodeWords.{IsCodeWordOf}
use Rattle.transcripts.specs.Commitments.{row_at}
use Rattle.protocols.specs.Interleaved.{AreCodeWords}
use Rattle.transcripts.specs.MerkleTrees.{row_input}
use Rattle.transcripts.specs.Openings.{leaves_at, Opens, OpensRows}
use Rattle.protocols.specs.Tables.{AgreesAt, AreExtendedColumns, column_at}
use Rattle.protocols.proofs.TableRows.{row-bytes, row-map}
use Rattle.protocols.proofs.Words.{parts_determine}

-- a row of columns is one of them
pub row-room : (size height length i : ℕ) → length ≡ size * height → i < size → i * height + height ≤ length
row-room size height length i long below =
    let more : i + 1 ≤ size = omega (arith, below) in
    let room = mul-le-mul_right height more in
    let next : (i + 1) * height ≡ i * height + height = add-mul i 1 height ∙ ap (λ (n : ℕ). i * height + n) (one-mul height) in
    omega (arith, room, next, long)

module _ {F : Type 0} (repr : F → ℕ) (bytes : ℕ) where
  -- the bytes of a column are a row of the bytes of all
  pub column-bytes : (size height : ℕ) (columns : List F) (i : ℕ) → length columns ≡ size * height → i < size
      → row_at (height * bytes) (joined_bytes bytes repr columns) i ≡ joined_bytes bytes repr (row_at height columns i)
  column-bytes size height columns i long below =
      row-bytes (λ (x : F). low_bytes bytes (repr x)) bytes (λ x. length-chunks 8 bytes (repr x)) height columns i
      (row-room size height (length columns) i long below)

-- leaves that are rows of the same bytes are the same
leaves-same : (hash : List ℕ → List ℕ) (places : List ℕ) (row other : ℕ → List ℕ) → ((k : ℕ) → k < length places → row k ≡ other k)
    → leaves_at hash places row ≡ leaves_at hash places other
leaves-same hash places row other same =
    ext_get_or (0, []) (leaves_at hash places row) (leaves_at hash places other) (long row ∙ sym (long other))
    (λ k within.
    let below : k < length places = subst (λ (n : ℕ). k < n) (long row) within in
    get_or-map-range_with_len (leaf row) 0 (length places) k k (0, []) below (omega arith)
    ∙ ap (λ (bytes : List ℕ). (slice_index places k, hash (row_input bytes))) (same k below)
    ∙ sym (get_or-map-range_with_len (leaf other) 0 (length places) k k (0, []) below (omega arith)))
  where
    leaf : (ℕ → List ℕ) → ℕ → ℕ × List ℕ
    leaf rows k = (slice_index places k, hash (row_input (rows k)))

    long : (rows : ℕ → List ℕ) → length (leaves_at hash places rows) ≡ length places
    long rows = length-map-range_with_len (leaf rows) 0 (length places)

pub opens-same : (hash : List ℕ → List ℕ) (depth : ℕ) (root places : List ℕ) (row other : ℕ → List ℕ) (nodes : List (List ℕ))
    → ((k : ℕ) → k < length places → row k ≡ other k) → OpensRows hash depth root places row nodes → OpensRows hash depth root places other nodes
opens-same hash depth root places row other nodes same =
    subst (λ l. Opens hash depth 0 l nodes root) (leaves-same hash places row other same)

-- ---- what was extended

module _ {F : Type 0} (repr : F → ℕ) (width : ℕ) (times : ℕ → ℕ → ℕ) (vector : ℕ → ℕ) (k r : ℕ) where
  pub extended-columns : (height : ℕ) (table matrix columns : List F) → length matrix ≡ height * (2 ^ r * 2 ^ k)
      → ((i : ℕ) → i < height → take (2 ^ k) (row_at (2 ^ r * 2 ^ k) matrix i) ≡ row_at (2 ^ k) table i)
      → AreCodeWords width times vector k r height (λ i. map repr (row_at (2 ^ r * 2 ^ k) matrix i))
      → length columns ≡ 2 ^ r * 2 ^ k * height
      → ((p : ℕ) → p < 2 ^ r * 2 ^ k → map repr (row_at height columns p) ≡ column_at height (2 ^ r * 2 ^ k) (map repr matrix) p)
      → AreExtendedColumns repr width times vector k r height (map repr table) columns
  extended-columns height table matrix columns size systematic code_words count each =
      record {
        matrix = map repr matrix;
        extends = record {
          size = length-map matrix repr ∙ size;
          code_words = λ i below. subst (IsCodeWordOf width times vector k r) (sym (row-map repr (2 ^ r * 2 ^ k) matrix i)) (code_words i below);
          systematic = λ i below.
              ap (take (2 ^ k)) (row-map repr (2 ^ r * 2 ^ k) matrix i) ∙ take-map repr (2 ^ k) (row_at (2 ^ r * 2 ^ k) matrix i)
              ∙ ap (map repr) (systematic i below) ∙ sym (row-map repr (2 ^ k) table i);
        };
        count = count;
        each = each;
      }

-- ---- code words that begin alike

-- the images of the Cantor vectors of a level are elements
pub vectors-fit : (level width : ℕ) (times : ℕ → ℕ → ℕ) (basis cantor : ℕ → ℕ) → width ≡ 2 ^ level → IsIsomorphism level width times basis
    → AreEvenCantorVectors level cantor → (b : ℕ) → b < width → basis (cantor b) < 2 ^ width
vectors-fit level width times basis cantor bits change vectors b below =
    change.below (cantor b) (vectors.below b (subst (λ (n : ℕ). b < n) bits below))

module _ (width : ℕ) (times : ℕ → ℕ → ℕ) (vector : ℕ → ℕ) (wide : 0 < width) (field : IsField width times)
    (vectors : AreCantorVectors width times vector) (fit : (b : ℕ) → b < width → vector b < 2 ^ width) (k r : ℕ) (few : r + k ≤ width) where
  -- code words that begin with the same message are the same
  same-word : (one other : List ℕ) → IsCodeWordOf width times vector k r one → IsCodeWordOf width times vector k r other
      → take (2 ^ k) one ≡ take (2 ^ k) other → one ≡ other
  same-word one other a b begin =
      parts_determine width times vector wide field vectors fit k r one other (λ i. i) few a b
      record { below = λ i below. omega (arith, below, room); differ = λ i j i_below j_below e. e }
      (λ i below.
      sym (get_or-take (2 ^ k) one i 0 below) ∙ ap (λ l. slice_index l i) begin ∙ get_or-take (2 ^ k) other i 0 below)
    where
      room : 2 ^ k ≤ 2 ^ r * 2 ^ k
      room = let some : 1 ≤ 2 ^ r = pow_pos r in let least = mul-le-mul_right (2 ^ k) some in let one = one-mul (2 ^ k) in omega (arith, least, one)

  -- a word that begins with the row decides whether the row agrees
  pub agrees-by : (point row places word : List ℕ) (size : ℕ) (column : ℕ → List ℕ) → IsCodeWordOf width times vector k r word
      → take (2 ^ k) word ≡ row → length word ≡ size
      → AgreesAt width times vector k r point row places column
      ↔ ((i : ℕ) → i < length places → (slice_index places i < size)
      × (multilinear_value times (column i) point ≡ slice_index word (slice_index places i)))
  agrees-by point row places word size column code begins long = (
    λ agrees i below.
        let same = same-word agrees.word word agrees.code_word code (agrees.begins ∙ sym begins) in
        let inside = agrees.below i below in
        (subst (λ (n : ℕ). slice_index places i < n) (sym code.size ∙ long) inside, agrees.agrees i below ∙ ap (λ l. slice_index l (slice_index places i)) same),
    λ each.
        record {
          word = word;
          code_word = code;
          begins = begins;
          below = λ i below. subst (λ (n : ℕ). slice_index places i < n) (sym long ∙ code.size) (each i below).0;
          agrees = λ i below. (each i below).1;
        },
  )

-- the row of an opening is as long as a message
pub row-long : {width : ℕ} {times : ℕ → ℕ → ℕ} {vector : ℕ → ℕ} (k r : ℕ) {point row places : List ℕ} {column : ℕ → List ℕ}
    → AgreesAt width times vector k r point row places column → length row ≡ 2 ^ k
row-long k r agrees =
    ap length (sym agrees.begins) ∙ length-take-le (2 ^ k) agrees.word (let size = agrees.code_word.size in omega (arith, size, room))
  where
    room : 2 ^ k ≤ 2 ^ r * 2 ^ k
    room = let some : 1 ≤ 2 ^ r = pow_pos r in let least = mul-le-mul_right (2 ^ k) some in let one = one-mul (2 ^ k) in omega (arith, least, one)
