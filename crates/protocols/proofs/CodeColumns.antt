-- Columns of interleaved code words determine the rows, and combinations of code words are code words.
use Rattle.std.proofs.Common.{◌≡◌, ◌⊎◌, inl, inr, ℕ, zero, suc, ◌+◌, ◌*◌, ◌^◌, ◌<◌, ◌≤◌, List, ◌++◌, length, map, take, drop, refl, sym, ◌∙◌, ap, ap₂, subst, arith}
use Rattle.std.specs.Prelude.{bit_xor, slice_index}
use Rattle.std.specs.List.{range_with_len}
use Rattle.std.proofs.Math.Nat.{add-mul, mul-le-mul_right}
use Rattle.std.proofs.Math.Seq.{drop-append_seam}
use Rattle.std.proofs.lemmas.List.{drop-append-le, length-append, length-drop, take-append-le, take_all}
use Rattle.std.proofs.lemmas.Bool.{cases_lt}
use native.Mathlib.Nat.{one-mul}
use Rattle.std.proofs.lemmas.List.FromFn.{get_or-map-range_with_len, length-map-range_with_len}
use Rattle.field_base.specs.Basis.{sum_below}
use Rattle.field_base.specs.Ring.{IsRing}
use Rattle.field_base.proofs.BasisSums.{sum_below-same}
use Rattle.field_base.proofs.RingLemmas.{sum_times}
use Rattle.ghash_slices.specs.Cantor.{point, polynomial_value, subspace_value}
use Rattle.ghash_slices.specs.Stages.{factors_at, sum_of_factors}
use Rattle.ghash_slices.proofs.CantorValues.{sum_below-image}
use Rattle.ghash_slices.proofs.StageSums.{sum_below-xor}
use Rattle.additive_transforms.proofs.CantorSums.{value-none, value-same}
use Rattle.protocols.specs.CodeWords.{IsCodeWordOf}
use Rattle.transcripts.specs.Commitments.{row_at}
use Rattle.protocols.specs.Interleaved.{AreCodeWords, ColumnsDetermine, combination, CombinationsAreCodeWords, symbols_at}
use Rattle.protocols.proofs.Words.{parts_determine}

-- ---- columns

-- symbol i of a column
column-at : (height : ℕ) (row : ℕ → List ℕ) (p i : ℕ) → i < height → slice_index (symbols_at height row p) i ≡ slice_index (row i) p
column-at height row p i below = get_or-map-range_with_len (λ (j : ℕ). slice_index (row j) p) 0 height i i 0 below (omega arith)

pub columns_determine : ColumnsDetermine
columns_determine width times vector wide field vectors fit k r height row other place few rows others distinct agree i below =
    parts_determine width times vector wide field vectors fit k r (row i) (other i) place few (rows i below) (others i below) distinct
    (λ j inside.
    sym (column-at height row (place j) i below) ∙ ap (λ (l : List ℕ). slice_index l i) (agree j inside)
    ∙ column-at height other (place j) i below)

-- ---- combinations

module _ (width : ℕ) (times : ℕ → ℕ → ℕ) (wide : 0 < width) (ring : IsRing width 1 times) where
  -- the value of a sum of polynomials, of which the second is times a scalar
  value-more : (k : ℕ) (c d : ℕ → ℕ) (s x : ℕ)
      → polynomial_value times k (λ j. bit_xor (c j) (times s (d j))) x
      ≡ bit_xor (polynomial_value times k c x) (times s (polynomial_value times k d x))
  unfolding polynomial_value sum_of_factors
  value-more k c d s x =
      sum_below-same (λ j. times (bit_xor (c j) (times s (d j))) (factor j))
      (λ j. bit_xor (times (c j) (factor j)) (times s (times (d j) (factor j)))) (2 ^ k)
      (λ j below. sum_times width 1 times ring (c j) (times s (d j)) (factor j)
      ∙ ap (bit_xor (times (c j) (factor j))) (ring.assoc s (d j) (factor j)))
      ∙ sym (sum_below-xor (λ j. times (c j) (factor j)) (λ j. times s (times (d j) (factor j))) (2 ^ k))
      ∙ ap (bit_xor (sum_below (λ j. times (c j) (factor j)) (2 ^ k)))
      (sym (sum_below-image (times s) (ring.over_sum s) (λ j. times (d j) (factor j)) (2 ^ k)))
    where
      factor : ℕ → ℕ
      factor j = factors_at times (λ i. subspace_value times i x) k j

  module _ (vector : ℕ → ℕ) (k r : ℕ) (scalar : ℕ → ℕ) (row : ℕ → List ℕ) where
    -- the first rows have a polynomial together
    abbrev HasValues : ℕ → Type 0
    HasValues height =
        (c : ℕ → ℕ) × ((p : ℕ) → p < 2 ^ r * 2 ^ k
        → sum_below (λ i. times (scalar i) (slice_index (row i) p)) height ≡ polynomial_value times k c (point width vector 0 p))

    combined : (height : ℕ) → AreCodeWords width times vector k r height row → HasValues height
    unfolding sum_below
    combined zero rows = ((λ j. 0), λ p below. sym (value-none width times wide ring k (λ j. 0) (point width vector 0 p) (λ j. refl)))
    combined (suc height) rows =
        let before = combined height (λ i below. rows i (omega (arith, below))) in
        let last = rows height (omega arith) in (
          (λ j. bit_xor (before.0 j) (times (scalar height) (slice_index last.coefficients j))),
          λ p below.
              ap₂ (λ (a b : ℕ). bit_xor a (times (scalar height) b)) (before.1 p below) (last.values p below)
              ∙ sym (value-more k before.0 (slice_index last.coefficients) (scalar height) (point width vector 0 p)),
        )

    combination-word : (height : ℕ) → AreCodeWords width times vector k r height row
        → IsCodeWordOf width times vector k r (combination times scalar height (2 ^ r * 2 ^ k) row)
    combination-word height rows =
        let whole = combined height rows in
        let sum : ℕ → ℕ = λ (p : ℕ). sum_below (λ i. times (scalar i) (slice_index (row i) p)) height in
        record {
          size = length-map-range_with_len sum 0 (2 ^ r * 2 ^ k);
          coefficients = map whole.0 (range_with_len 0 (2 ^ k));
          count = length-map-range_with_len whole.0 0 (2 ^ k);
          values = λ p below.
              get_or-map-range_with_len sum 0 (2 ^ r * 2 ^ k) p p 0 below (omega arith) ∙ whole.1 p below
              ∙ value-same width times wide ring k whole.0 (slice_index (map whole.0 (range_with_len 0 (2 ^ k)))) (point width vector 0 p)
              (λ j inside. sym (get_or-map-range_with_len whole.0 0 (2 ^ k) j j 0 inside (omega arith)));
        }

pub combinations_are_code_words : CombinationsAreCodeWords
combinations_are_code_words width times vector wide ring k r height scalar row = combination-word width times wide ring vector k r scalar row height

-- ---- rows that are appended

module _ {X : Type 0} (size : ℕ) (before last : List X) where
  -- a row of those before stays
  pub row-before : (i count : ℕ) → length before ≡ count * size → i < count → row_at size (before ++ last) i ≡ row_at size before i
  row-before i count total below =
      let more : i + 1 ≤ count = omega (arith, below) in
      let room = mul-le-mul_right size more in
      let next : (i + 1) * size ≡ i * size + size = add-mul i 1 size ∙ ap (λ (n : ℕ). i * size + n) (one-mul size) in
      let rest = length-drop (i * size) before in
      ap (take size) (drop-append-le (i * size) before last (omega (arith, room, next, total)))
      ∙ take-append-le size (drop (i * size) before) last (omega (arith, room, next, total, rest))

  -- and the last row is what was appended
  pub row-last : (count : ℕ) → length before ≡ count * size → length last ≡ size → row_at size (before ++ last) count ≡ last
  row-last count total whole =
      ap (take size) (ap (λ (n : ℕ). drop n (before ++ last)) (sym total) ∙ drop-append_seam before last)
      ∙ take_all size last (omega (arith, whole))

-- a matrix of one row more is as long
pub rows-size : {X : Type 0} (size count : ℕ) (before last all : List X) → all ≡ before ++ last → length before ≡ count * size → length last ≡ size
    → length all ≡ (count + 1) * size
rows-size size count before last all is total whole =
    ap length is ∙ length-append before last ∙ ap₂ (λ (a b : ℕ). a + b) total whole
    ∙ sym (add-mul count 1 size ∙ ap (λ (n : ℕ). count * size + n) (one-mul size))

-- what holds of each row holds of those of a matrix of one row more
pub rows-more : {X : Type 0} (P : ℕ → List X → Type 0) (size count : ℕ) (before last all : List X) → all ≡ before ++ last
    → length before ≡ count * size → length last ≡ size → ((i : ℕ) → i < count → P i (row_at size before i)) → P count last
    → (i : ℕ) → i < count + 1 → P i (row_at size all i)
rows-more P size count before last all is total whole each here i below = pick (cases_lt i count)
  where
    pick : (i < count) ⊎ (count ≤ i) → P i (row_at size all i)
    pick (inl lower) =
        subst (P i) (sym (ap (λ l. row_at size l i) is ∙ row-before size before last i count total lower)) (each i lower)
    pick (inr upper) =
        let end : count ≡ i = omega (arith, below, upper) in
        subst (λ (n : ℕ). P n (row_at size all n)) end
        (subst (P count) (sym (ap (λ l. row_at size l count) is ∙ row-last size before last count total whole)) here)
