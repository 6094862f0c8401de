-- Rows of values: what folding leaves, sums over the cube, and the polynomial of a round.
use Rattle.std.proofs.Common.{◌≡◌, ℕ, zero, suc, ◌+◌, ◌-◌, ◌*◌, ◌/◌, ◌^◌, ◌<◌, ◌≤◌, inl, inr, List, [], ◌∷◌, length, take, drop, refl, sym, ◌∙◌, ap, ap₂, subst, arith}
use Rattle.std.specs.Prelude.{bit_xor, slice_index}
use Rattle.std.proofs.Math.Nat.{two-pow-succ}
use Rattle.std.proofs.lemmas.Bool.{cases_lt}
use Rattle.std.proofs.lemmas.List.{get_or-take, get_or-drop, get_or_past, length-take-le, length-drop}
use Rattle.std.proofs.lemmas.Nat.{mul-add-lt, pow_below, pow_pos, xor_lt}
use Rattle.std.proofs.lemmas.Simd.{get_or-zip2, length-zip2}
use lib.Bits.{xor_zero_r, xor_zero_l}
use Rattle.field_base.specs.Basis.{product_below, sum_below}
use Rattle.field_base.specs.Ring.{IsRing}
use Rattle.field_base.proofs.BasisSums.{product_below-same, sum_below-add, sum_below-same}
use Rattle.field_base.proofs.PowerLemmas.{one-times}
use Rattle.field_base.proofs.RingLemmas.{times-zero}
use Rattle.field_base.proofs.Polynomials.{IsPolynomial, polynomial-same, polynomial-scale, polynomial-sum, polynomial-zero}
use Rattle.field_slices.specs.Multilinear.{eq_corner, folded, folded_all, on_line}
use Rattle.field_slices.proofs.CornerSums.{corners-line, weighted-line}
use Rattle.field_slices.proofs.CubeLaws.{line-one, line-zero}
use Rattle.field_base.proofs.PolynomialProducts.{polynomial-product, polynomial-widen}
use Rattle.sum_checks.specs.Terms.{AreWithin, HaveFactors, FactorsAreWithin, Product, cube_sum, honest_at, product_value, table_value, terms_value}

-- ---- folding a list of an even length

module _ (h : ℕ) (values : List ℕ) (count : length values ≡ h + h) where
  pub half : length values / 2 ≡ h
  half = omega (arith, count)

  pub lower-length : length (take (length values / 2) values) ≡ h
  lower-length = length-take-le (length values / 2) values (omega arith) ∙ half

  pub upper-length : length (drop (length values / 2) values) ≡ h
  upper-length = length-drop (length values / 2) values ∙ omega (arith, count)

  module _ (times : ℕ → ℕ → ℕ) (r : ℕ) where
    pub even-length : length (folded times r values) ≡ h
    even-length =
        length-zip2 (on_line times r) (take (length values / 2) values) (drop (length values / 2) values) (lower-length ∙ sym upper-length)
        ∙ lower-length

    pub even-at : (i : ℕ) → i < h
        → slice_index (folded times r values) i ≡ on_line times r (slice_index values i) (slice_index values (h + i))
    even-at i below =
        get_or-zip2 (on_line times r) (take (length values / 2) values) (drop (length values / 2) values) i 0 0 0
        (subst (λ (n : ℕ). i < n) (sym lower-length) below) (subst (λ (n : ℕ). i < n) (sym upper-length) below)
        ∙ ap₂ (on_line times r)
        (get_or-take (length values / 2) values i 0 (subst (λ (n : ℕ). i < n) (sym half) below))
        (get_or-drop (length values / 2) values i 0 ∙ ap (λ (n : ℕ). slice_index values (n + i)) half)

-- rows of the cube of one coordinate more
pub rows-twice : (count n : ℕ) (values : List ℕ) → length values ≡ 2 ^ suc n * count → length values ≡ 2 ^ n * count + 2 ^ n * count
rows-twice count n values size = size ∙ ap (λ (k : ℕ). k * count) (two-pow-succ n) ∙ omega arith

-- ---- the terms at a row

module _ (times : ℕ → ℕ → ℕ) (count : ℕ) where
  product_value-same : (term : Product) (row other : ℕ → ℕ) → FactorsAreWithin count term → ((j : ℕ) → j < count → row j ≡ other j)
      → product_value times row term ≡ product_value times other term
  product_value-same term row other within same =
      ap (times term.coefficient)
      (product_below-same times (λ k. row (slice_index term.factors k)) (λ k. other (slice_index term.factors k)) (length term.factors)
      (λ k below. same (slice_index term.factors k) (within k below)))

  pub terms_value-same : (terms : List Product) (row other : ℕ → ℕ) → AreWithin count terms → ((j : ℕ) → j < count → row j ≡ other j)
      → terms_value times terms row ≡ terms_value times terms other
  unfolding terms_value AreWithin
  terms_value-same [] row other within same = refl
  terms_value-same (term ∷ terms) row other within same =
      ap₂ bit_xor (product_value-same term row other within.0 same) (terms_value-same terms row other within.1 same)

module _ (width : ℕ) (times : ℕ → ℕ → ℕ) (ring : IsRing width 1 times) (wide : 0 < width) where
  -- ---- values that fit

  pub folded-fit : (h r : ℕ) (values : List ℕ) → length values ≡ h + h → ((i : ℕ) → slice_index values i < 2 ^ width)
      → (i : ℕ) → slice_index (folded times r values) i < 2 ^ width
  folded-fit h r values even fits i =
      elim (cases_lt i h) [
        | inl below ↦ subst (λ (v : ℕ). v < 2 ^ width) (sym (even-at h values even times r i below))
            (xor_lt width (slice_index values i) (times r (bit_xor (slice_index values i) (slice_index values (h + i)))) (fits i)
            (ring.below r (bit_xor (slice_index values i) (slice_index values (h + i)))))
        | inr past ↦ subst (λ (v : ℕ). v < 2 ^ width)
            (sym (get_or_past (folded times r values) i 0 (subst (λ (n : ℕ). n ≤ i) (sym (even-length h values even times r)) past)))
            (pow_pos width)
      ]

  module _ (terms : List Product) (count : ℕ) (within : AreWithin count terms) where
    -- ---- the sum over a cube is the sum of those over both halves

    module _ (n : ℕ) (values : List ℕ) (size : length values ≡ 2 ^ suc n * count) (fits : (i : ℕ) → slice_index values i < 2 ^ width) where
      even : length values ≡ 2 ^ n * count + 2 ^ n * count
      even = rows-twice count n values size

      -- the terms at corner i
      abbrev at : List ℕ → ℕ → ℕ
      at rows i = terms_value times terms (λ j. slice_index rows (i * count + j))

      lower-same : (i : ℕ) → i < 2 ^ n → at values i ≡ at (folded times 0 values) i
      lower-same i below =
          terms_value-same times count terms (λ j. slice_index values (i * count + j)) (λ j. slice_index (folded times 0 values) (i * count + j)) within
          (λ j inside.
          sym (even-at (2 ^ n * count) values even times 0 (i * count + j) (place i j below inside)
          ∙ line-zero width times ring wide (slice_index values (i * count + j)) (slice_index values (2 ^ n * count + (i * count + j)))))
        where
          place : (i j : ℕ) → i < 2 ^ n → j < count → i * count + j < 2 ^ n * count
          place i j below inside = let less = mul-add-lt i count j (2 ^ n) below inside in omega (arith, less)

      upper-same : (i : ℕ) → i < 2 ^ n → at values (2 ^ n + i) ≡ at (folded times 1 values) i
      upper-same i below =
          terms_value-same times count terms (λ j. slice_index values ((2 ^ n + i) * count + j)) (λ j. slice_index (folded times 1 values) (i * count + j)) within
          (λ j inside.
          ap (slice_index values) (moved i j)
          ∙ sym (even-at (2 ^ n * count) values even times 1 (i * count + j) (place i j below inside)
          ∙ line-one width times ring wide (slice_index values (i * count + j)) (slice_index values (2 ^ n * count + (i * count + j)))
          (fits (i * count + j)) (fits (2 ^ n * count + (i * count + j)))))
        where
          place : (i j : ℕ) → i < 2 ^ n → j < count → i * count + j < 2 ^ n * count
          place i j below inside = let less = mul-add-lt i count j (2 ^ n) below inside in omega (arith, less)

          moved : (i j : ℕ) → (2 ^ n + i) * count + j ≡ 2 ^ n * count + (i * count + j)
          moved i j = omega arith

      pub cube_sum-halves : cube_sum times terms count (suc n) values
          ≡ bit_xor (honest_at times terms count n values 0) (honest_at times terms count n values 1)
      cube_sum-halves =
          ap (sum_below (at values)) (two-pow-succ n) ∙ sum_below-add (at values) (2 ^ n) (2 ^ n)
          ∙ ap₂ bit_xor (sum_below-same (at values) (at (folded times 0 values)) (2 ^ n) lower-same)
          (sum_below-same (λ i. at values (2 ^ n + i)) (at (folded times 1 values)) (2 ^ n) upper-same)

    -- ---- the polynomial of a round

    -- constants
    constant-polynomial : (c : ℕ) → c < 2 ^ width → IsPolynomial times 1 (λ x. c)
    unfolding IsPolynomial
    constant-polynomial c c_fits = (
      c,
      (λ x. 0),
      (λ x. refl),
      λ x. sym (ap₂ bit_xor (one-times width 1 times ring c c_fits) (times-zero width 1 times ring x) ∙ xor_zero_r c),
    )

    -- a line has two coefficients
    line-polynomial : (v w : ℕ) → v < 2 ^ width → w < 2 ^ width → IsPolynomial times 2 (λ x. on_line times x v w)
    unfolding IsPolynomial
    line-polynomial v w v_fits w_fits = (
      v,
      (λ x. bit_xor v w),
      constant-polynomial (bit_xor v w) (xor_lt width v w v_fits w_fits),
      λ x. ap (λ (c : ℕ). bit_xor c (times x (bit_xor v w))) (sym (one-times width 1 times ring v v_fits)),
    )

    -- the product of as many lines as are stated
    product-polynomial : (row : ℕ → ℕ → ℕ) (factors : List ℕ) → ((j : ℕ) → j < count → IsPolynomial times 2 (row j))
        → (m : ℕ) → ((k : ℕ) → k < m → slice_index factors k < count)
        → IsPolynomial times (suc m) (λ x. product_below times (λ k. row (slice_index factors k) x) m)
    unfolding product_below
    product-polynomial row factors lines zero inside = constant-polynomial 1 (pow_below 0 width wide)
    product-polynomial row factors lines (suc m) inside =
        let size : m + 2 ≡ suc (suc m) = omega arith in
        subst (λ (k : ℕ). IsPolynomial times k (λ x. times (product_below times (λ k. row (slice_index factors k) x) m) (row (slice_index factors m) x))) size
        (polynomial-product width times wide ring m 2 (λ x. product_below times (λ k. row (slice_index factors k) x) m) (row (slice_index factors m))
        (product-polynomial row factors lines m (λ k below. inside k (omega (arith, below)))) (lines (slice_index factors m) (inside m (omega arith))))

    -- the terms where each polynomial is on a line
    terms-polynomial : (d : ℕ) (row : ℕ → ℕ → ℕ) → ((j : ℕ) → j < count → IsPolynomial times 2 (row j))
        → (some : List Product) → AreWithin count some → HaveFactors d some
        → IsPolynomial times (suc d) (λ x. terms_value times some (λ j. row j x))
    unfolding terms_value AreWithin HaveFactors
    terms-polynomial d row lines [] inside few = polynomial-zero width times ring (suc d)
    terms-polynomial d row lines (term ∷ some) inside few =
        let size : d - length term.factors + suc (length term.factors) ≡ suc d = omega (arith, few.0) in
        polynomial-sum width times ring (suc d) (λ x. product_value times (λ j. row j x) term) (λ x. terms_value times some (λ j. row j x))
        (subst (λ (k : ℕ). IsPolynomial times k (λ x. product_value times (λ j. row j x) term)) size
        (polynomial-widen width times wide ring (d - length term.factors) (suc (length term.factors)) (λ x. product_value times (λ j. row j x) term)
        (polynomial-scale width times ring (suc (length term.factors)) term.coefficient
        (λ x. product_below times (λ k. row (slice_index term.factors k) x) (length term.factors))
        (product-polynomial row term.factors lines (length term.factors) inside.0))))
        (terms-polynomial d row lines some inside.1 few.1)

    -- a sum of polynomials
    sum-polynomial : (k : ℕ) (f : ℕ → ℕ → ℕ) (m : ℕ) → ((i : ℕ) → i < m → IsPolynomial times k (f i))
        → IsPolynomial times k (λ x. sum_below (λ i. f i x) m)
    unfolding sum_below
    sum-polynomial k f zero each = polynomial-zero width times ring k
    sum-polynomial k f (suc m) each =
        polynomial-sum width times ring k (λ x. sum_below (λ i. f i x) m) (f m) (sum-polynomial k f m (λ i below. each i (omega (arith, below))))
        (each m (omega arith))

    pub honest-polynomial : (d n : ℕ) (values : List ℕ) → length values ≡ 2 ^ suc n * count → ((i : ℕ) → slice_index values i < 2 ^ width)
        → HaveFactors d terms → IsPolynomial times (suc d) (honest_at times terms count n values)
    honest-polynomial d n values size fits few =
        sum-polynomial (suc d) (λ i x. terms_value times terms (λ j. slice_index (folded times x values) (i * count + j))) (2 ^ n)
        (λ i below.
        terms-polynomial d (λ j x. slice_index (folded times x values) (i * count + j))
        (λ j inside.
        polynomial-same width times ring 2
        (λ x. on_line times x (slice_index values (i * count + j)) (slice_index values (2 ^ n * count + (i * count + j))))
        (λ x. slice_index (folded times x values) (i * count + j))
        (λ x. sym (even-at (2 ^ n * count) values (rows-twice count n values size) times x (i * count + j) (place i j below inside)))
        (line-polynomial (slice_index values (i * count + j)) (slice_index values (2 ^ n * count + (i * count + j))) (fits (i * count + j))
        (fits (2 ^ n * count + (i * count + j)))))
        terms within few)
      where
        place : (i j : ℕ) → i < 2 ^ n → j < count → i * count + j < 2 ^ n * count
        place i j below inside = let less = mul-add-lt i count j (2 ^ n) below inside in omega (arith, less)

    -- ---- the sum over the cube of no coordinates, and values at a point

    pub cube_sum-none : (values : List ℕ) → cube_sum times terms count 0 values ≡ terms_value times terms (slice_index values)
    unfolding sum_below
    cube_sum-none values =
        xor_zero_l (terms_value times terms (λ j. slice_index values (0 * count + j)))
        ∙ terms_value-same times count terms (λ j. slice_index values (0 * count + j)) (slice_index values) within
        (λ j inside. ap (slice_index values) (first j))
      where
        first : (j : ℕ) → 0 * count + j ≡ j
        first j = omega arith

  -- the value of polynomial j at a point is that of the folded rows at the other coordinates
  value-folded : (count r j : ℕ) (rs values : List ℕ) → length values ≡ 2 ^ suc (length rs) * count → j < count
      → table_value times count (folded times r values) rs j ≡ table_value times count values (r ∷ rs) j
  value-folded count r j rs values size inside =
      sum_below-same (λ i. times (slice_index (folded times r values) (i * count + j)) (eq_corner times rs i))
      (λ i. times (on_line times r (slice_index values (i * count + j)) (slice_index values ((2 ^ length rs + i) * count + j))) (eq_corner times rs i))
      (2 ^ length rs)
      (λ i below.
      ap (λ (v : ℕ). times v (eq_corner times rs i))
      (even-at (2 ^ length rs * count) values (rows-twice count (length rs) values size) times r (i * count + j) (place i below)
      ∙ ap (λ (k : ℕ). on_line times r (slice_index values (i * count + j)) (slice_index values k)) (sym (moved i))))
      ∙ weighted-line width times ring r (λ i. slice_index values (i * count + j)) (λ i. slice_index values ((2 ^ length rs + i) * count + j))
      (eq_corner times rs) (2 ^ length rs)
      ∙ sym (corners-line width times ring (λ i. slice_index values (i * count + j)) r rs)
    where
      place : (i : ℕ) → i < 2 ^ length rs → i * count + j < 2 ^ length rs * count
      place i below = let less = mul-add-lt i count j (2 ^ length rs) below inside in omega (arith, less)

      moved : (i : ℕ) → (2 ^ length rs + i) * count + j ≡ 2 ^ length rs * count + (i * count + j)
      moved i = omega arith

  -- what folding by each coordinate leaves are the values at the point
  pub folded-values : (count : ℕ) (point values : List ℕ) → length values ≡ 2 ^ length point * count
      → ((i : ℕ) → slice_index values i < 2 ^ width) → (j : ℕ) → j < count
      → slice_index (folded_all times point values) j ≡ table_value times count values point j
  unfolding folded_all sum_below eq_corner
  folded-values count [] values size fits j inside =
      let first : j ≡ 0 * count + j = omega arith in
      ap (slice_index values) first
      ∙ sym (xor_zero_l (times (slice_index values (0 * count + j)) 1)
      ∙ (ring.comm (slice_index values (0 * count + j)) 1 ∙ one-times width 1 times ring (slice_index values (0 * count + j)) (fits (0 * count + j))))
  folded-values count (r ∷ rs) values size fits j inside =
      folded-values count rs (folded times r values)
      (even-length (2 ^ length rs * count) values (rows-twice count (length rs) values size) times r)
      (folded-fit (2 ^ length rs * count) r values (rows-twice count (length rs) values size) fits) j inside
      ∙ value-folded count r j rs values size inside
