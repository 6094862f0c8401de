-- Sums of terms over rows, term by term and block by block.
use Rattle.std.proofs.Common.{◌≡◌, ℕ, zero, suc, ◌+◌, ◌*◌, ◌<◌, List, [], ◌∷◌, length, map, take, drop, refl, sym, ◌∙◌, ap, ap₂, arith}
use Rattle.std.specs.Prelude.{bit_xor, slice_index}
use Rattle.std.proofs.lemmas.Nat.{mul-add-lt}
use lib.Bits.{xor_assoc}
use Rattle.field_base.specs.Basis.{sum_below}
use Rattle.field_base.specs.Ring.{IsRing}
use Rattle.field_base.proofs.BasisSums.{sum_below-add, sum_below-same, sum_below_times}
use Rattle.field_base.proofs.RingLemmas.{xor_left_comm}
use Rattle.sum_checks.specs.Terms.{AreWithin, Product, product_value, row_entry, row_product, rows_sum, terms_value}
use Rattle.sum_checks.proofs.Rows.{terms_value-same}
use Rattle.sum_checks.proofs.TermSteps.{row-value}

-- a sum of sums
pub sum_below_xor : (f h : ℕ → ℕ) (n : ℕ) → bit_xor (sum_below f n) (sum_below h n) ≡ sum_below (λ i. bit_xor (f i) (h i)) n
unfolding sum_below
sum_below_xor f h zero = refl
sum_below_xor f h (suc n) =
    xor_assoc (sum_below f n) (f n) (bit_xor (sum_below h n) (h n))
    ∙ ap (bit_xor (sum_below f n)) (xor_left_comm (f n) (sum_below h n) (h n))
    ∙ sym (xor_assoc (sum_below f n) (sum_below h n) (bit_xor (f n) (h n)))
    ∙ ap (λ (s : ℕ). bit_xor s (bit_xor (f n) (h n))) (sum_below_xor f h n)

-- a sum of zeros
sum_below-zeros : (n : ℕ) → 0 ≡ sum_below (λ i. 0) n
unfolding sum_below
sum_below-zeros zero = refl
sum_below-zeros (suc n) = ap (λ (s : ℕ). bit_xor s 0) (sum_below-zeros n)

-- a coefficient times the sum of products is the sum of the values of the term
pub term-sum : (width : ℕ) (times : ℕ → ℕ → ℕ) → IsRing width 1 times → (count n : ℕ) (rows : List ℕ) (term : Product) (factors : List ℕ) (sum : ℕ)
    → factors ≡ term.factors → sum ≡ sum_below (row_product times count rows factors) n
    → times term.coefficient sum ≡ sum_below (λ i. product_value times (row_entry count rows i) term) n
term-sum width times ring count n rows term factors sum same is =
    ap (times term.coefficient) (is ∙ ap (λ (ns : List ℕ). sum_below (row_product times count rows ns) n) same)
    ∙ ring.comm term.coefficient (sum_below (row_product times count rows term.factors) n)
    ∙ sym (sum_below_times width 1 times ring (row_product times count rows term.factors) term.coefficient n)
    ∙ sum_below-same (λ i. times (row_product times count rows term.factors i) term.coefficient)
    (λ i. product_value times (row_entry count rows i) term) n
    (λ i below. ring.comm (row_product times count rows term.factors i) term.coefficient)

module _ {A : Type 0} (term_product : A → Product) (times : ℕ → ℕ → ℕ) (count n : ℕ) (rows : List ℕ) where
  -- of no terms, and of a first one and others
  pub rows_sum-none : (terms : List A) → length terms ≡ 0 → 0 ≡ rows_sum times (map term_product terms) count n rows
  unfolding terms_value
  rows_sum-none [] none = sum_below-zeros n
  rows_sum-none (term ∷ terms) none = absurd (omega (arith, none))

  pub rows_sum-more : (terms rest : List A) (term : A) (m first others : ℕ) → terms ≡ term ∷ rest → m ≡ n
      → first ≡ sum_below (λ i. product_value times (row_entry count rows i) (term_product term)) n
      → others ≡ rows_sum times (map term_product rest) count m rows
      → bit_xor first others ≡ rows_sum times (map term_product terms) count n rows
  unfolding terms_value
  rows_sum-more terms rest term m first others is long is_first is_others =
      ap₂ bit_xor is_first (is_others ∙ ap (λ (k : ℕ). rows_sum times (map term_product rest) count k rows) long)
      ∙ sum_below_xor (λ i. product_value times (row_entry count rows i) (term_product term))
      (λ i. terms_value times (map term_product rest) (row_entry count rows i)) n
      ∙ ap (λ (ts : List A). rows_sum times (map term_product ts) count n rows) (sym is)

-- the rows of a block are those of the table from its first row on
module _ {A : Type 0} (repr : A → ℕ) (times : ℕ → ℕ → ℕ) (terms : List Product) (count : ℕ) (within : AreWithin count terms) where
  pub block-more : (values block : List A) (start size m sum part next : ℕ) → block ≡ take (size * count) (drop (start * count) values)
      → m ≡ size
      → sum ≡ rows_sum times terms count start (map repr values) → part ≡ rows_sum times terms count m (map repr block)
      → next ≡ bit_xor sum part → next ≡ rows_sum times terms count (start + size) (map repr values)
  block-more values block start size m sum part next is long so_far more added =
      let at = λ (i : ℕ). terms_value times terms (row_entry count (map repr values) i) in
      added
      ∙ ap₂ bit_xor so_far
      (more ∙ ap (λ (k : ℕ). rows_sum times terms count k (map repr block)) long
      ∙ sum_below-same (λ i. terms_value times terms (row_entry count (map repr block) i)) (λ i. at (start + i)) size
      (λ i below.
      terms_value-same times count terms (row_entry count (map repr block) i) (row_entry count (map repr values) (start + i)) within
      (λ j inside. entry i j below inside)))
      ∙ sym (sum_below-add at start size)
    where
      moved : (i j : ℕ) → start * count + (i * count + j) ≡ (start + i) * count + j
      moved i j = omega arith

      entry : (i j : ℕ) → i < size → j < count → row_entry count (map repr block) i j ≡ row_entry count (map repr values) (start + i) j
      entry i j below inside =
          let less = mul-add-lt i count j size below inside in
          row-value repr values block (start * count) (size * count) (size * count) (i * count + j) is refl (omega (arith, less))
          ∙ ap (slice_index (map repr values)) (moved i j)
