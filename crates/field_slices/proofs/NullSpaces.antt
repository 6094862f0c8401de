-- The null space of a matrix in reduced row echelon form: a vector for each column that has no leading entry.
use Rattle.std.proofs.Common.{◌≡◌, ◌≢◌, ◌⊎◌, inl, inr, ℕ, zero, suc, ◌+◌, ◌-◌, ◌^◌, ◌<◌, ◌≤◌, Bool, List, length, add-one, refl, sym, subst, ◌∙◌, ap, ap₂, arith, below_more}
use Rattle.std.specs.Prelude.{bit_xor, if◌then◌else◌, nat_eq}
use Rattle.std.proofs.lemmas.Bool.{cases_eq, cases_lt, cases_order, eq-eqb, ne_eqb}
use lib.Bits.{xor_self, xor_zero_r, xor_zero_l}
use Rattle.field_base.specs.Basis.{sum_below}
use Rattle.field_base.specs.Ring.{IsRing}
use Rattle.field_base.proofs.BasisSums.{sum_below-same}
use Rattle.field_base.proofs.PowerLemmas.{times-one}
use Rattle.field_base.proofs.RingLemmas.{times-zero, zero-times}
use Rattle.field_slices.specs.Matrices.{HaveSameRowSpace, IsEntryWritten, IsNullBasis, IsNullVector, IsReducedEchelon, IsRowWritten, NullSpaceIsKept}
use Rattle.field_slices.specs.Matrices.{beside_identity, identity_entry, null_entry}
use Rattle.field_slices.proofs.InverseMatrices.{beside-none, rising-apart}
use Rattle.field_slices.proofs.NextTerms.{sum-more}
use Rattle.field_slices.proofs.LinearSystems.{sum_of_nothing}
use Rattle.field_slices.proofs.RowSpaces.{combination_row, identity-only, only, only-after, only-other, only-same, sum_of_sums, sum_with}
use Rattle.field_slices.proofs.EchelonUniqueness.{find-pivot}

-- ---- the vector of a column

module _ (pivot : ℕ → ℕ) (A : ℕ → ℕ → ℕ) (f : ℕ) where
  -- at the column of the next leading entry it has what that row has in column f, and elsewhere what it had
  pub null-taken : (n j : ℕ) → j ≡ pivot n → null_entry pivot A f (suc n) j ≡ A n f
  unfolding null_entry
  null-taken n j same = ap (λ (b : Bool). if b then A n f else null_entry pivot A f n j) (eq-eqb j (pivot n) same)

  pub null-kept : (n j : ℕ) → j ≢ pivot n → null_entry pivot A f (suc n) j ≡ null_entry pivot A f n j
  unfolding null_entry
  null-kept n j other = ap (λ (b : Bool). if b then A n f else null_entry pivot A f n j) (ne_eqb j (pivot n) other)

  pub null-start : (j : ℕ) → null_entry pivot A f 0 j ≡ only j 1 f
  unfolding null_entry
  null-start j = identity-only f j

  -- elsewhere than at the columns of the leading entries it is 1 at f, and else 0
  pub null-apart : (n j : ℕ) → ((k : ℕ) → k < n → pivot k ≢ j) → null_entry pivot A f n j ≡ only j 1 f
  null-apart zero j none = null-start j
  null-apart (suc n) j none =
      null-kept n j (λ e. none n (omega arith) (sym e)) ∙ null-apart n j (λ k below. none k (omega (arith, below)))

  pub null-pivot : (n k : ℕ) → k < n → ((m : ℕ) → m < n → m ≢ k → pivot m ≢ pivot k) → null_entry pivot A f n (pivot k) ≡ A k f
  null-pivot zero k below apart = absurd (omega (arith, below))
  null-pivot (suc n) k below apart =
      elim (cases_eq k n) [
        | inl same ↦ null-taken n (pivot k) (ap pivot same) ∙ ap (λ (m : ℕ). A m f) (sym same)
        | inr other ↦ null-kept n (pivot k) (λ e. apart n (omega arith) (λ q. other (sym q)) (sym e))
            ∙ null-pivot n k (less other) (λ m m_below. apart m (omega (arith, m_below)))
      ]
    where
      less : (k ≡ n → ⊥) → k < n
      less other = omega (arith, below, other)

  pub null_begin : {V : Type 0} {read : List V → ℕ → ℕ → ℕ} {columns row : ℕ} {old now : List V} (other : ℕ → ℕ → ℕ)
      → IsRowWritten read columns row (beside_identity 0 other f) old now
      → IsRowWritten read columns row (null_entry pivot A f 0) old now
  unfolding null_entry
  null_begin other write = record {
    shape = write.shape;
    entries = λ j inside. write.entries j inside ∙ beside-none other f j;
    others = write.others;
  }

  pub null_step : {V : Type 0} {read : List V → ℕ → ℕ → ℕ} {columns row : ℕ} {old now next : List V} {n value : ℕ} → value ≡ A n f
      → IsRowWritten read columns row (null_entry pivot A f n) old now → IsEntryWritten read columns row (pivot n) value now next
      → IsRowWritten read columns row (null_entry pivot A f (n + 1)) old next
  null_step {read = read} {row = row} {next = next} {n = n} is so_far write = record {
    shape = write.shape ∙ so_far.shape;
    entries = λ j inside.
        elim (cases_eq j (pivot n)) [
          | inl same ↦ ap (read next row) same ∙ write.written ∙ is ∙ sym (more j ∙ null-taken n j same)
          | inr other ↦ write.others row j inside (inr other) ∙ so_far.entries j inside ∙ sym (more j ∙ null-kept n j other)
        ];
    others = λ i j other inside. write.others i j inside (inl other) ∙ so_far.others i j other inside;
  }
    where
      more : (j : ℕ) → null_entry pivot A f (n + 1) j ≡ null_entry pivot A f (suc n) j
      more j = ap (λ (m : ℕ). null_entry pivot A f m j) (add-one n)

-- ---- sums

-- x where there is no leading entry in a column, and else 0
pub where_none : {P Q : Type 0} → P ⊎ Q → ℕ → ℕ
where_none (inl _) x = 0
where_none (inr _) x = x

-- ---- what the loop over the columns keeps

module _ (times : ℕ → ℕ → ℕ) (columns r : ℕ) (p : ℕ → ℕ) (A : ℕ → ℕ → ℕ) where
  -- the sum of the vectors of the first n columns that have no leading entries, times the entries of x there
  abbrev pub vectors_sum : (ℕ → ℕ) → ℕ → ℕ → ℕ
  vectors_sum x n j = sum_below (λ f. times (where_none (find-pivot p f r) (x f)) (null_entry p A f r j)) n

  -- `read` gives the entries of a matrix that stands in a list
  module _ {V : Type 0} (read : List V → ℕ → ℕ → ℕ) where
    -- row q is the vector of a column where the other rows have 0
    pub record IsVectorRow (now : List V) (count n q : ℕ) : Type 0 where
      pub column : ℕ
      pub before : column < n
      pub free : (k : ℕ) → k < r → p k ≢ column
      pub entries : (j : ℕ) → j < columns → read now q j ≡ null_entry p A column r j
      pub alone : (m : ℕ) → m < count → read now m column ≡ identity_entry m q

    -- the columns before n are done: `passed` of them have leading entries, and the `count` others have their vectors as rows
    pub record VectorsWritten (old now : List V) (passed count n : ℕ) : Type 0 where
      pub shape : length now ≡ length old
      pub all : passed + count ≡ n
      pub few : passed ≤ r
      pub behind : (k : ℕ) → k < passed → p k < n
      pub ahead : (k : ℕ) → passed ≤ k → k < r → n ≤ p k
      pub rows_are : (q : ℕ) → q < count → IsVectorRow now count n q
      pub spans : (x : ℕ → ℕ) → (c : ℕ → ℕ) × ((j : ℕ) → j < columns
          → vectors_sum x n j ≡ sum_below (λ q. times (c q) (read now q j)) count)

pub vectors_same : {times : ℕ → ℕ → ℕ} {columns r : ℕ} {p : ℕ → ℕ} {A : ℕ → ℕ → ℕ} {V : Type 0} {read : List V → ℕ → ℕ → ℕ}
    {old now next : List V} {passed count next_passed next_count n : ℕ} → VectorsWritten times columns r p A read old now passed count n
    → next ≡ now → next_passed ≡ passed → next_count ≡ count → VectorsWritten times columns r p A read old next next_passed next_count n
vectors_same {times} {columns} {r} {p} {A} {V} {read} {old} {now} {passed = passed} {next_passed = next_passed} {next_count = next_count} {n = n}
    whole now_is passed_is count_is =
    subst (λ (values : List V). VectorsWritten times columns r p A read old values next_passed next_count n) (sym now_is)
    (subst (λ (k : ℕ). VectorsWritten times columns r p A read old now k next_count n) (sym passed_is)
    (subst (λ (k : ℕ). VectorsWritten times columns r p A read old now passed k n) (sym count_is) whole))

module _ {width : ℕ} {times : ℕ → ℕ → ℕ} (ring : IsRing width 1 times) {rows columns r : ℕ} {p : ℕ → ℕ} {A : ℕ → ℕ → ℕ}
    (reduced : IsReducedEchelon rows columns r p A) where
  pivots-apart : (m k : ℕ) → m < r → k < r → m ≢ k → p m ≢ p k
  pivots-apart m k m_below k_below other =
      elim (cases_order m k) [
        | inl same ↦ absurd (other same)
        | inr order ↦ elim order [
          | inl before ↦ differs m k before k_below
          | inr behind ↦ λ e. differs k m behind m_below (sym e)
        ]
      ]
    where
      differs : (i k : ℕ) → i < k → k < r → p i ≢ p k
      differs i k order below = λ e. let rise = reduced.pivots_rise i k order below in absurd (omega (arith, rise, e))

  -- the vector of column f has at the column of row k's leading entry what that row has in column f
  vector-pivot : (f k : ℕ) → k < r → null_entry p A f r (p k) ≡ A k f
  vector-pivot f k below = null-pivot p A f r k below (λ m m_below other. pivots-apart m k m_below below other)

  entry-other : (i k : ℕ) → k < r → i < rows → i ≢ k → A i (p k) ≡ 0
  entry-other i k below inside other = reduced.alone k i below inside other

  within : (k : ℕ) → k < r → k < rows
  within k below = let few = reduced.rank_fits in omega (arith, few, below)

  -- one term of a sum that has one alone
  term-own : (k s j : ℕ) → j ≡ k → times (only k s j) 1 ≡ times s 1
  term-own k s j same = ap (λ (z : ℕ). times z 1) (only-same k s j same)

  term-none : (k s j : ℕ) → j ≢ k → times (only k s j) 1 ≡ 0
  term-none k s j other = ap (λ (z : ℕ). times z 1) (only-other k s j other) ∙ zero-times width 1 times ring 1

  -- ---- the vector lies in the null space
  module _ (f : ℕ) (inside : f < columns) (free : (k : ℕ) → k < r → p k ≢ f) where
    vector_row : (i : ℕ) → i < r → sum_below (λ j. times (A i j) (null_entry p A f r j)) columns ≡ 0
    vector_row i below =
        sum_below-same (λ j. times (A i j) (null_entry p A f r j)) (λ j. bit_xor (times (only f (A i f) j) 1) (times (only (p i) (A i f) j) 1)) columns
        (λ j _. term j (find-pivot p j r))
        ∙ sum_of_sums (λ j. times (only f (A i f) j) 1) (λ j. times (only (p i) (A i f) j) 1) columns
        ∙ ap₂ bit_xor (only-after width times ring f (A i f) (λ j. 1) columns inside)
        (only-after width times ring (p i) (A i f) (λ j. 1) columns (reduced.pivots_fit i below))
        ∙ xor_self (times (A i f) 1)
      where
        -- a place where all is 0
        nothing : (j : ℕ) → j ≢ f → j ≢ p i → times (A i j) (null_entry p A f r j) ≡ 0
            → times (A i j) (null_entry p A f r j) ≡ bit_xor (times (only f (A i f) j) 1) (times (only (p i) (A i f) j) 1)
        nothing j not_f not_pivot e =
            e ∙ sym (ap₂ bit_xor (term-none f (A i f) j not_f) (term-none (p i) (A i f) j not_pivot) ∙ xor_zero_l 0)

        term : (j : ℕ) → ((k : ℕ) × (k < r) × (p k ≡ j)) ⊎ ((k : ℕ) → k < r → p k ≢ j)
            → times (A i j) (null_entry p A f r j) ≡ bit_xor (times (only f (A i f) j) 1) (times (only (p i) (A i f) j) 1)
        term j (inr none) =
            elim (cases_eq j f) [
              | inl same ↦ ap₂ times (ap (A i) same) (null-apart p A f r j none ∙ only-same j 1 f (sym same))
                  ∙ sym (ap₂ bit_xor (term-own f (A i f) j same) (term-none (p i) (A i f) j (λ e. none i below (sym e))) ∙ xor_zero_r (times (A i f) 1))
              | inr other ↦ nothing j other (λ e. none i below (sym e))
                  (ap (times (A i j)) (null-apart p A f r j none ∙ only-other j 1 f (λ e. other (sym e))) ∙ times-zero width 1 times ring (A i j))
            ]
        term j (inl found) =
            elim (cases_eq found.0 i) [
              | inl own ↦ ap₂ times (ap (A i) (place own) ∙ reduced.leading i below)
                  (ap (null_entry p A f r) (place own) ∙ vector-pivot f i below)
                  ∙ ring.comm 1 (A i f)
                  ∙ sym (ap₂ bit_xor (term-none f (A i f) j not_f) (term-own (p i) (A i f) j (place own)) ∙ xor_zero_l (times (A i f) 1))
              | inr other ↦ nothing j not_f (λ e. pivots-apart found.0 i found.1 below other (found.2 ∙ e))
                  (ap (λ (z : ℕ). times z (null_entry p A f r j))
                  (ap (A i) (sym found.2) ∙ entry-other i found.0 found.1 (within i below) (λ e. other (sym e)))
                  ∙ zero-times width 1 times ring (null_entry p A f r j))
            ]
          where
            not_f : j ≢ f
            not_f = λ e. free found.0 found.1 (found.2 ∙ e)

            place : found.0 ≡ i → j ≡ p i
            place own = sym found.2 ∙ ap p own

    pub vector-null : IsNullVector times rows columns A (null_entry p A f r)
    vector-null i i_inside =
        elim (cases_lt i r) [
          | inl below ↦ vector_row i below
          | inr past ↦ sum_below-same (λ j. times (A i j) (null_entry p A f r j)) (λ j. times 0 (null_entry p A f r j)) columns
              (λ j j_inside. ap (λ (z : ℕ). times z (null_entry p A f r j)) (reduced.zero_rows i j past i_inside j_inside))
              ∙ sum_of_nothing ring (null_entry p A f r) columns
        ]

  -- ---- what the vectors span

  -- at a column with a leading entry nothing is added, and at others its vector
  pivot-term : (f m : ℕ) → m < r → p m ≡ f → (found : ((k : ℕ) × (k < r) × (p k ≡ f)) ⊎ ((k : ℕ) → k < r → p k ≢ f)) (x y : ℕ)
      → times (where_none found x) y ≡ 0
  unfolding where_none
  pivot-term f m below is (inl _) x y = zero-times width 1 times ring y
  pivot-term f m below is (inr none) x y = absurd (none m below is)

  free-term : (f : ℕ) → ((k : ℕ) → k < r → p k ≢ f) → (found : ((k : ℕ) × (k < r) × (p k ≡ f)) ⊎ ((k : ℕ) → k < r → p k ≢ f))
      (x : ℕ) → where_none found x ≡ x
  unfolding where_none
  free-term f free (inl found) x = absurd (free found.0 found.1 found.2)
  free-term f free (inr _) x = refl

  module _ (x : ℕ → ℕ) (x_fits : (j : ℕ) → x j < 2 ^ width) (null : IsNullVector times rows columns A x) where
    -- the term of a column
    own_term : ℕ → ℕ → ℕ
    own_term j f = times (where_none (find-pivot p f r) (x f)) (null_entry p A f r j)

    term-pivot : (j f m : ℕ) → m < r → p m ≡ f → own_term j f ≡ 0
    unfolding own_term
    term-pivot j f m below is = pivot-term f m below is (find-pivot p f r) (x f) (null_entry p A f r j)

    term-free : (j f : ℕ) → ((k : ℕ) → k < r → p k ≢ f) → own_term j f ≡ times (x f) (null_entry p A f r j)
    unfolding own_term
    term-free j f free = ap (λ (z : ℕ). times z (null_entry p A f r j)) (free-term f free (find-pivot p f r) (x f))

    sum-own : (j : ℕ) → vectors_sum times columns r p A x columns j ≡ sum_below (own_term j) columns
    unfolding own_term
    sum-own j = refl

    sum-free : (j : ℕ) → j < columns → ((k : ℕ) → k < r → p k ≢ j) → vectors_sum times columns r p A x columns j ≡ x j
    sum-free j inside none =
        sum-own j ∙ sum_below-same (own_term j) (λ f. times (only j (x j) f) 1) columns (λ f _. term f (find-pivot p f r))
        ∙ only-after width times ring j (x j) (λ f. 1) columns inside ∙ times-one width 1 times ring (x j) (x_fits j)
      where
        term : (f : ℕ) → ((k : ℕ) × (k < r) × (p k ≡ f)) ⊎ ((k : ℕ) → k < r → p k ≢ f) → own_term j f ≡ times (only j (x j) f) 1
        term f (inl found) =
            term-pivot j f found.0 found.1 found.2 ∙ sym (term-none j (x j) f (λ e. none found.0 found.1 (found.2 ∙ e)))
        term f (inr free) =
            term-free j f free
            ∙ elim (cases_eq f j) [
              | inl same ↦ ap₂ times (ap x same) (null-apart p A f r j none ∙ only-same j 1 f same) ∙ sym (term-own j (x j) f same)
              | inr other ↦ ap (times (x f)) (null-apart p A f r j none ∙ only-other j 1 f other) ∙ times-zero width 1 times ring (x f)
                  ∙ sym (term-none j (x j) f other)
            ]

    sum-pivot : (k : ℕ) → k < r → vectors_sum times columns r p A x columns (p k) ≡ x (p k)
    sum-pivot k below =
        sum-own (p k)
        ∙ sum_below-same (own_term (p k)) (λ f. bit_xor (times (A k f) (x f)) (times (only (p k) (x (p k)) f) 1)) columns
        (λ f _. term f (find-pivot p f r))
        ∙ sum_of_sums (λ f. times (A k f) (x f)) (λ f. times (only (p k) (x (p k)) f) 1) columns
        ∙ ap₂ bit_xor (null k (within k below)) (only-after width times ring (p k) (x (p k)) (λ f. 1) columns (reduced.pivots_fit k below))
        ∙ xor_zero_l (times (x (p k)) 1) ∙ times-one width 1 times ring (x (p k)) (x_fits (p k))
      where
        term : (f : ℕ) → ((m : ℕ) × (m < r) × (p m ≡ f)) ⊎ ((m : ℕ) → m < r → p m ≢ f)
            → own_term (p k) f ≡ bit_xor (times (A k f) (x f)) (times (only (p k) (x (p k)) f) 1)
        term f (inr free) =
            term-free (p k) f free ∙ ap (times (x f)) (vector-pivot f k below) ∙ ring.comm (x f) (A k f)
            ∙ sym (
            ap (bit_xor (times (A k f) (x f))) (term-none (p k) (x (p k)) f (λ e. free k below (sym e))) ∙ xor_zero_r (times (A k f) (x f)))
        term f (inl found) =
            term-pivot (p k) f found.0 found.1 found.2
            ∙ elim (cases_eq found.0 k) [
              | inl own ↦ sym (
                  ap₂ bit_xor (ap₂ times (ap (A k) (place own) ∙ reduced.leading k below) (ap x (place own)) ∙ ring.comm 1 (x (p k)))
                  (term-own (p k) (x (p k)) f (place own)) ∙ xor_self (times (x (p k)) 1))
              | inr other ↦ sym (
                  ap₂ bit_xor
                  (ap (λ (z : ℕ). times z (x f))
                  (ap (A k) (sym found.2) ∙ entry-other k found.0 found.1 (within k below) (λ e. other (sym e)))
                  ∙ zero-times width 1 times ring (x f))
                  (term-none (p k) (x (p k)) f (λ e. pivots-apart found.0 k found.1 below other (found.2 ∙ e))) ∙ xor_zero_l 0)
            ]
          where
            place : found.0 ≡ k → f ≡ p k
            place own = sym found.2 ∙ ap p own

    pub vectors-span : (j : ℕ) → j < columns → vectors_sum times columns r p A x columns j ≡ x j
    vectors-span j inside =
        elim (find-pivot p j r) [
          | inl found ↦ ap (vectors_sum times columns r p A x columns) (sym found.2) ∙ sum-pivot found.0 found.1 ∙ ap x found.2
          | inr none ↦ sum-free j inside none
        ]

  -- ---- the steps of the loop

  -- a sum with one term more
  last-term : (g : ℕ → ℕ) (n : ℕ) → sum_below g (n + 1) ≡ bit_xor (sum_below g n) (g n)
  last-term g n = sym (sum-more g n (sum_below g n) (bit_xor (sum_below g n) (g n)) refl refl)

  vector-own : (f : ℕ) → ((k : ℕ) → k < r → p k ≢ f) → null_entry p A f r f ≡ 1
  vector-own f free = null-apart p A f r f free ∙ only-same f 1 f refl

  vector-other : (f j : ℕ) → ((k : ℕ) → k < r → p k ≢ j) → f ≢ j → null_entry p A f r j ≡ 0
  vector-other f j free other = null-apart p A f r j free ∙ only-other j 1 f other

  -- coefficients with one more
  with_last : (ℕ → ℕ) → ℕ → ℕ → ℕ → ℕ
  with_last c count y q = if nat_eq q count then y else c q

  last-own : (c : ℕ → ℕ) (count y : ℕ) → with_last c count y count ≡ y
  unfolding with_last
  last-own c count y = ap (λ (b : Bool). if b then y else c count) (eq-eqb count count refl)

  last-other : (c : ℕ → ℕ) (count y q : ℕ) → q ≢ count → with_last c count y q ≡ c q
  unfolding with_last
  last-other c count y q other = ap (λ (b : Bool). if b then y else c q) (ne_eqb q count other)

  pub rank-columns : r ≤ columns
  rank-columns =
      elim (cases_lt 0 r) [
        | inl some ↦ most some
        | inr none ↦ omega (arith, none)
      ]
    where
      most : 0 < r → r ≤ columns
      most some =
          let apart = rising-apart r p reduced.pivots_rise 0 (r - 1) (omega (arith, some)) in
          let same : 0 + (r - 1) ≡ r - 1 = omega arith in
          let last = ap p same in
          let fits = reduced.pivots_fit (r - 1) (omega (arith, some)) in
          omega (arith, apart, last, fits, some)

  module _ {V : Type 0} {read : List V → ℕ → ℕ → ℕ} {old : List V} where
    pub vectors_start : VectorsWritten times columns r p A read old old 0 0 0
    unfolding sum_below
    vectors_start = record {
      shape = refl;
      all = omega arith;
      few = omega arith;
      behind = λ k below. absurd (omega (arith, below));
      ahead = λ k after below. omega arith;
      rows_are = λ q below. absurd (omega (arith, below));
      spans = λ x. (x, λ j inside. refl);
    }

    module _ {now : List V} {passed count n : ℕ} (so_far : VectorsWritten times columns r p A read old now passed count n) where
      pub vectors_pass : passed < r → p passed ≡ n → VectorsWritten times columns r p A read old now (passed + 1) count (n + 1)
      vectors_pass below is = record {
        shape = so_far.shape;
        all = let all = so_far.all in omega (arith, all);
        few = omega (arith, below);
        behind =
            below_more (λ k. p k < n + 1) passed (λ k before. let is_behind = so_far.behind k before in omega (arith, is_behind))
            (omega (arith, is));
        ahead = λ k after k_below. let rise = reduced.pivots_rise passed k (omega (arith, after)) k_below in omega (arith, rise, is);
        rows_are = λ q q_below.
            let row = so_far.rows_are q q_below in
            let before = row.before in
            record { column = row.column; before = omega (arith, before); free = row.free; entries = row.entries; alone = row.alone };
        spans = λ x.
            let sum = so_far.spans x in (
              sum.0,
              λ j inside.
                  last-term (λ f. times (where_none (find-pivot p f r) (x f)) (null_entry p A f r j)) n
                  ∙ ap (bit_xor (vectors_sum times columns r p A x n j))
                  (pivot-term n passed below is (find-pivot p n r) (x n) (null_entry p A n r j))
                  ∙ xor_zero_r (vectors_sum times columns r p A x n j) ∙ sum.1 j inside,
            );
      }

      -- a column that the next leading entry is not in has none
      pub free-here : (passed < r → p passed ≢ n) → (k : ℕ) → k < r → p k ≢ n
      free-here next k below =
          elim (cases_order k passed) [
            | inl same ↦ λ e. next (omega (arith, same, below)) (ap p (sym same) ∙ e)
            | inr order ↦ elim order [
              | inl before ↦ λ e. let is_behind = so_far.behind k before in absurd (omega (arith, is_behind, e))
              | inr after ↦ λ e. later after e
            ]
          ]
        where
          later : passed < k → p k ≡ n → ⊥
          later after e =
              let first = so_far.ahead passed (omega arith) (omega (arith, after, below)) in
              let rise = reduced.pivots_rise passed k after below in
              omega (arith, first, rise, e)

      module _ (inside_n : n < columns) (free : (k : ℕ) → k < r → p k ≢ n) where
        -- there is a row for it
        pub vector-fits : count < columns - r
        vector-fits =
            elim (cases_lt passed r) [
              | inl more ↦ some more
              | inr past ↦ let all = so_far.all in omega (arith, all, past, inside_n)
            ]
          where
            some : passed < r → count < columns - r
            some more =
                let first = so_far.ahead passed (omega arith) more in
                let differs = free passed more in
                let apart = rising-apart r p reduced.pivots_rise passed (r - 1 - passed) (omega (arith, more)) in
                let same : passed + (r - 1 - passed) ≡ r - 1 = omega (arith, more) in
                let last = ap p same in
                let fits = reduced.pivots_fit (r - 1) (omega (arith, more)) in
                let all = so_far.all in
                omega (arith, first, differs, apart, last, fits, all, more)

        -- a row more, where the others stay
        pub vectors_add : {next : List V} → length next ≡ length now
            → ((j : ℕ) → j < columns → read next count j ≡ null_entry p A n r j)
            → ((i j : ℕ) → i ≢ count → j < columns → read next i j ≡ read now i j)
            → VectorsWritten times columns r p A read old next passed (count + 1) (n + 1)
        vectors_add {next} long entries_are others_are = record {
          shape = long ∙ so_far.shape;
          all = let all = so_far.all in omega (arith, all);
          few = so_far.few;
          behind = λ k before. let is_behind = so_far.behind k before in omega (arith, is_behind);
          ahead = λ k after below. let first = so_far.ahead k after below in let differs = free k below in omega (arith, first, differs);
          rows_are = below_more (λ q. IsVectorRow times columns r p A read next (count + 1) (n + 1) q) count earlier own;
          spans = λ x.
              let sum = so_far.spans x in (
                with_last sum.0 count (x n),
                λ j inside.
                    last-term (λ f. times (where_none (find-pivot p f r) (x f)) (null_entry p A f r j)) n
                    ∙ ap₂ bit_xor
                    (sum.1 j inside
                    ∙ sum_below-same (λ q. times (sum.0 q) (read now q j))
                    (λ q. times (with_last sum.0 count (x n) q) (read next q j)) count
                    (λ q below.
                    ap₂ times (sym (last-other sum.0 count (x n) q (λ e. absurd (omega (arith, e, below)))))
                    (sym (others_are q j (λ e. absurd (omega (arith, e, below))) inside))))
                    (ap₂ times (free-term n free (find-pivot p n r) (x n) ∙ sym (last-own sum.0 count (x n))) (sym (entries_are j inside)))
                    ∙ sym (last-term (λ q. times (with_last sum.0 count (x n) q) (read next q j)) count),
              );
        }
          where
            own : IsVectorRow times columns r p A read next (count + 1) (n + 1) count
            own = record {
              column = n;
              before = omega arith;
              free = free;
              entries = entries_are;
              alone = below_more (λ m. read next m n ≡ identity_entry m count) count
                  (λ m below.
                  let row = so_far.rows_are m below in
                  let before = row.before in
                  others_are m n (λ e. absurd (omega (arith, e, below))) inside_n ∙ row.entries n inside_n
                  ∙ vector-other row.column n free (λ e. absurd (omega (arith, e, before)))
                  ∙ sym (identity-only m count ∙ only-other count 1 m (λ e. absurd (omega (arith, e, below)))))
                  (entries_are n inside_n ∙ vector-own n free ∙ sym (identity-only count count ∙ only-same count 1 count refl));
            }

            earlier : (q : ℕ) → q < count → IsVectorRow times columns r p A read next (count + 1) (n + 1) q
            earlier q below =
                let row = so_far.rows_are q below in
                let before = row.before in
                let f = row.column in
                let f_inside : f < columns = omega (arith, before, inside_n) in
                record {
                  column = f;
                  before = omega (arith, before);
                  free = row.free;
                  entries = λ j inside. others_are q j (λ e. absurd (omega (arith, e, below))) inside ∙ row.entries j inside;
                  alone = below_more (λ m. read next m f ≡ identity_entry m q) count
                      (λ m m_below. others_are m f (λ e. absurd (omega (arith, e, m_below))) f_inside ∙ row.alone m m_below)
                      (entries_are f f_inside ∙ vector-other n f row.free (λ e. absurd (omega (arith, e, before)))
                      ∙ sym (identity-only count q ∙ only-other q 1 count (λ e. absurd (omega (arith, e, below)))));
                }

      -- then each row that there is room for is written
      pub vectors_count : n ≡ columns → count ≡ columns - r
      vectors_count ends =
          elim (cases_lt passed r) [
            | inl more ↦ clash more
            | inr past ↦ let all = so_far.all in let few = so_far.few in omega (arith, all, few, past, ends)
          ]
        where
          clash : passed < r → count ≡ columns - r
          clash more =
              let first = so_far.ahead passed (omega arith) more in
              let fits = reduced.pivots_fit passed more in
              absurd (omega (arith, first, fits, ends))

      pub vectors_end : n ≡ columns → IsNullBasis width times rows columns (columns - r) A (read now)
      vectors_end ends =
          let whole = subst (λ (m : ℕ). VectorsWritten times columns r p A read old now passed count m) ends so_far in
          subst (λ (m : ℕ). IsNullBasis width times rows columns m A (read now)) (vectors_count ends) (basis whole)
        where
          basis : VectorsWritten times columns r p A read old now passed count columns
              → IsNullBasis width times rows columns count A (read now)
          basis whole = record {
            null = λ q below i i_inside.
                let row = whole.rows_are q below in
                sum_below-same (λ j. times (A i j) (read now q j)) (λ j. times (A i j) (null_entry p A row.column r j)) columns
                (λ j inside. ap (times (A i j)) (row.entries j inside)) ∙ vector-null row.column row.before row.free i i_inside;
            spans = λ x x_fits null.
                let sum = whole.spans x in (sum.0, λ j inside. sym (vectors-span x x_fits null j inside) ∙ sum.1 j inside);
            alone = λ q below. let row = whole.rows_are q below in (row.column, row.before, row.alone);
          }

-- ---- matrices with the same row space

module _ {width : ℕ} {times : ℕ → ℕ → ℕ} (ring : IsRing width 1 times) (rows columns : ℕ) where
  -- what a matrix takes to 0 each combination of its rows does
  null-combination : (A : ℕ → ℕ → ℕ) (x : ℕ → ℕ) → IsNullVector times rows columns A x → (c : ℕ → ℕ) (n : ℕ) → n ≤ rows
      → sum_below (λ j. times (sum_below (λ k. times (c k) (A k j)) n) (x j)) columns ≡ 0
  unfolding sum_below
  null-combination A x null c zero few = sum_of_nothing ring x columns
  null-combination A x null c (suc n) few =
      sum_with width times ring (λ j. sum_below (λ k. times (c k) (A k j)) n) (A n) x (c n) columns
      ∙ ap₂ bit_xor (null-combination A x null c n (omega (arith, few)))
      (ap (times (c n)) (null n (omega (arith, few))) ∙ times-zero width 1 times ring (c n))
      ∙ xor_zero_l 0

  null_passes : (A B : ℕ → ℕ → ℕ) → ((i j : ℕ) → B i j < 2 ^ width) → HaveSameRowSpace times rows columns A B → (x : ℕ → ℕ)
      → IsNullVector times rows columns A x → IsNullVector times rows columns B x
  null_passes A B B_fits same x null i inside =
      let row = (same (B i)).1 (combination_row width times ring rows columns B B_fits i (B i) inside (λ j _. refl)) in
      sum_below-same (λ j. times (B i j) (x j)) (λ j. times (sum_below (λ k. times (row.0 k) (A k j)) rows) (x j)) columns
      (λ j j_inside. ap (λ (z : ℕ). times z (x j)) (row.1 j j_inside))
      ∙ null-combination A x null row.0 rows (omega arith)

pub null_is_kept : NullSpaceIsKept
null_is_kept width times rows columns A B ring A_fits B_fits same x = (
  null_passes ring rows columns A B B_fits same x,
  null_passes ring rows columns B A A_fits (λ v. ((same v).1, (same v).0)) x,
)
