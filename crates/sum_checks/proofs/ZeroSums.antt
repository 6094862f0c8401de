-- The sum of a zero-check of three tables, what it leaves at the challenges, and what both say of the tables.
use Rattle.std.proofs.Common.{◌≡◌, ℕ, zero, suc, ◌+◌, ◌*◌, ◌/◌, ◌%◌, ◌^◌, ◌<◌, ◌≤◌, inl, inr, List, [], ◌∷◌, length, map, refl, sym, ◌∙◌, ap, ap₂, subst, arith, lit<}
use Rattle.std.specs.Prelude.{bit_xor, slice_index}
use Rattle.std.specs.List.{range_with_len}
use Rattle.std.proofs.Math.Nat.{mod-eq_of_lt, pow-le-pow_right}
use Rattle.std.proofs.lemmas.Bool.{cases_lt}
use Rattle.std.proofs.lemmas.Bool.Decides.{eqb_tells}
use Rattle.std.proofs.lemmas.List.{get_or_past}
use Rattle.std.proofs.lemmas.List.FromFn.{get_or-map-range_with_len, length-map-range_with_len}
use Rattle.std.proofs.lemmas.Nat.{pow_below, pow_pos, xor_comm, xor_lt}
use lib.Bits.{xor_self, xor_zero_r}
use Rattle.field_base.specs.Basis.{sum_below}
use Rattle.field_base.specs.Field.{IsField}
use Rattle.field_base.specs.Ring.{IsRing}
use Rattle.field_base.proofs.BasisSums.{sum_below-same, sum_below-zeros}
use Rattle.field_base.proofs.RingLemmas.{sum_times, xor_nothing, zero-times}
use Rattle.field_slices.specs.Multilinear.{AreCornerValues, eq_coordinate, eq_corner, multilinear_value, on_line}
use Rattle.field_slices.proofs.CornerSums.{corners-line, eq_corner-lower, eq_corner-upper, line-weights, weighted-lt, weighted-scaled}
use Rattle.sum_checks.specs.SumcheckClaims.{IsClaimShape}
use Rattle.sum_checks.specs.Terms.{AreWithin, HaveFactors, cube_sum, table_value, terms_value}
use Rattle.sum_checks.specs.ZeroCheck.{FalseZerosNeedLuck, ZerosReduce, eq_point, zero_check_entry, zero_check_rows, zero_check_terms, zero_check_value, zero_check_values, zero_differences}
use Rattle.sum_checks.specs.ZeroCheckRuns.{zero_check_row}
use Rattle.sum_checks.proofs.Soundness.{false_claims_need_luck, honest_reduces}
use Rattle.sum_checks.proofs.ZeroChecks.{terms-at, zero_check_evaluates, zero_needs_root}

-- values of a function of the first places, and 0 at the others
function-fits : (f : ℕ → ℕ) (n width i : ℕ) → ((k : ℕ) → f k < 2 ^ width) → slice_index (map f (range_with_len 0 n)) i < 2 ^ width
function-fits f n width i fits =
    elim (cases_lt i n) [
      | inl below ↦ subst (λ (v : ℕ). v < 2 ^ width) (sym (get_or-map-range_with_len f 0 n i i 0 below (omega arith))) (fits i)
      | inr past ↦ subst (λ (v : ℕ). v < 2 ^ width)
          (sym (get_or_past (map f (range_with_len 0 n)) i 0 (subst (λ (m : ℕ). m ≤ i) (sym (length-map-range_with_len f 0 n)) past))) (pow_pos width)
    ]

module _ (width : ℕ) (times : ℕ → ℕ → ℕ) (ring : IsRing width 1 times) where
  scaled-sum : (s : ℕ) (value weight : ℕ → ℕ) (n : ℕ)
      → sum_below (λ i. times (times s (value i)) (weight i)) n ≡ times s (sum_below (λ i. times (value i) (weight i)) n)
  scaled-sum s value weight n =
      sum_below-same (λ i. times (times s (value i)) (weight i)) (λ i. times (value i) (times s (weight i))) n
      (λ i below. ap (λ (e : ℕ). times e (weight i)) (ring.comm s (value i)) ∙ ring.assoc (value i) s (weight i))
      ∙ weighted-scaled width times ring value weight s n

  -- eq of two points is the value at one of the table of eq of the other
  pub eq-sum : 0 < width → (xs ys : List ℕ) → length xs ≡ length ys
      → sum_below (λ i. times (eq_corner times xs i) (eq_corner times ys i)) (2 ^ length ys) ≡ eq_point times xs ys
  unfolding sum_below eq_corner eq_point
  eq-sum wide [] [] same = xor_comm 0 (times 1 1) ∙ xor_zero_r (times 1 1) ∙ ring.one 1 ∙ mod-eq_of_lt (pow_below 0 width wide)
  eq-sum wide [] (y ∷ ys) same = absurd (omega (arith, same))
  eq-sum wide (x ∷ xs) [] same = absurd (omega (arith, same))
  eq-sum wide (x ∷ xs) (y ∷ ys) same =
      let fewer : length xs ≡ length ys = omega (arith, same) in
      let inner = sum_below (λ i. times (eq_corner times xs i) (eq_corner times ys i)) (2 ^ length ys) in
      corners-line width times ring (eq_corner times (x ∷ xs)) y ys
      ∙ ap₂ (on_line times y) (lower fewer) (upper fewer)
      ∙ sym (line-weights width times ring y (times (bit_xor 1 x) inner) (times x inner) (ring.below (bit_xor 1 x) inner))
      ∙ ap₂ bit_xor (sym (ring.assoc (bit_xor 1 y) (bit_xor 1 x) inner)) (sym (ring.assoc y x inner))
      ∙ xor_comm (times (times (bit_xor 1 y) (bit_xor 1 x)) inner) (times (times y x) inner)
      ∙ sym (sum_times width 1 times ring (times y x) (times (bit_xor 1 y) (bit_xor 1 x)) inner)
      ∙ ap (λ (e : ℕ). times e inner) (ap₂ bit_xor (ring.comm y x) (ring.comm (bit_xor 1 y) (bit_xor 1 x)))
      ∙ ap (times (eq_coordinate times x y)) (eq-sum wide xs ys fewer)
    where
      lower : length xs ≡ length ys
          → sum_below (λ i. times (eq_corner times (x ∷ xs) i) (eq_corner times ys i)) (2 ^ length ys)
          ≡ times (bit_xor 1 x) (sum_below (λ i. times (eq_corner times xs i) (eq_corner times ys i)) (2 ^ length ys))
      lower fewer =
          sum_below-same (λ i. times (eq_corner times (x ∷ xs) i) (eq_corner times ys i))
          (λ i. times (times (bit_xor 1 x) (eq_corner times xs i)) (eq_corner times ys i)) (2 ^ length ys)
          (λ i below. ap (λ (e : ℕ). times e (eq_corner times ys i))
          (eq_corner-lower width times ring x xs i (subst (λ (n : ℕ). i < 2 ^ n) (sym fewer) below)))
          ∙ scaled-sum (bit_xor 1 x) (eq_corner times xs) (eq_corner times ys) (2 ^ length ys)

      upper : length xs ≡ length ys
          → sum_below (λ i. times (eq_corner times (x ∷ xs) (2 ^ length ys + i)) (eq_corner times ys i)) (2 ^ length ys)
          ≡ times x (sum_below (λ i. times (eq_corner times xs i) (eq_corner times ys i)) (2 ^ length ys))
      upper fewer =
          sum_below-same (λ i. times (eq_corner times (x ∷ xs) (2 ^ length ys + i)) (eq_corner times ys i))
          (λ i. times (times x (eq_corner times xs i)) (eq_corner times ys i)) (2 ^ length ys)
          (λ i below. ap (λ (e : ℕ). times e (eq_corner times ys i))
          (ap (λ (n : ℕ). eq_corner times (x ∷ xs) (2 ^ n + i)) (sym fewer)
          ∙ eq_corner-upper width times ring x xs i (subst (λ (n : ℕ). i < 2 ^ n) (sym fewer) below)))
          ∙ scaled-sum x (eq_corner times xs) (eq_corner times ys) (2 ^ length ys)

  eq-fits : 0 < width → (xs : List ℕ) (i : ℕ) → eq_corner times xs i < 2 ^ width
  unfolding eq_corner
  eq-fits wide [] i = pow_below 0 width wide
  eq-fits wide (x ∷ xs) i = ring.below _ (eq_corner times xs i)

  module _ (point a b c : List ℕ) where
    -- the four tables, at a corner
    pub row-at : (i j : ℕ) → i < 2 ^ length point → j < 4
        → slice_index (zero_check_rows times point a b c) (i * 4 + j) ≡ zero_check_entry times point a b c i j
    row-at i j below inside =
        let row : (i * 4 + j) / 4 ≡ i = omega (arith, inside) in
        let column : (i * 4 + j) % 4 ≡ j = omega (arith, inside) in
        get_or-map-range_with_len (λ k. zero_check_entry times point a b c (k / 4) (k % 4)) 0 (2 ^ length point * 4) (i * 4 + j) (i * 4 + j) 0
        (omega (arith, below, inside)) (omega arith)
        ∙ ap₂ (zero_check_entry times point a b c) row column

    difference-at : (i : ℕ) → i < 2 ^ length point
        → slice_index (zero_differences times (length point) a b c) i ≡ bit_xor (times (slice_index a i) (slice_index b i)) (slice_index c i)
    difference-at i below =
        get_or-map-range_with_len (λ k. bit_xor (times (slice_index a k) (slice_index b k)) (slice_index c k)) 0 (2 ^ length point) i i 0 below
        (omega arith)

    -- the sum over the cube is the value at the point of a b + c
    sum-is : IsField width times → ((i : ℕ) → slice_index (zero_check_rows times point a b c) i < 2 ^ width)
        → cube_sum times zero_check_terms 4 (length point) (zero_check_rows times point a b c)
        ≡ multilinear_value times (zero_differences times (length point) a b c) point
    unfolding zero_check_entry
    sum-is field fits =
        let rows = zero_check_rows times point a b c in
        zero_check_evaluates width times rows point field fits (λ i below. row-at i 0 below (lit< tt))
        ∙ sum_below-same (λ i. times (slice_index (zero_check_values times (length point) rows) i) (eq_corner times point i))
        (λ i. times (slice_index (zero_differences times (length point) a b c) i) (eq_corner times point i)) (2 ^ length point)
        (λ i below. ap (λ (v : ℕ). times v (eq_corner times point i))
        (get_or-map-range_with_len
        (λ k. bit_xor (times (slice_index rows (k * 4 + 1)) (slice_index rows (k * 4 + 2))) (slice_index rows (k * 4 + 3))) 0 (2 ^ length point) i i 0 below
        (omega arith)
        ∙ ap₂ bit_xor (ap₂ times (row-at i 1 below (lit< tt)) (row-at i 2 below (lit< tt))) (row-at i 3 below (lit< tt))
        ∙ sym (difference-at i below)))

    module _ (challenges : List ℕ) (same : length challenges ≡ length point) where
      -- a table's value at the challenges
      table-is : (j : ℕ) (values : ℕ → ℕ) → j < 4 → ((i : ℕ) → zero_check_entry times point a b c i j ≡ values i)
          → table_value times 4 (zero_check_rows times point a b c) challenges j
          ≡ sum_below (λ i. times (values i) (eq_corner times challenges i)) (2 ^ length challenges)
      table-is j values inside is =
          sum_below-same (λ i. times (slice_index (zero_check_rows times point a b c) (i * 4 + j)) (eq_corner times challenges i))
          (λ i. times (values i) (eq_corner times challenges i)) (2 ^ length challenges)
          (λ i below. ap (λ (v : ℕ). times v (eq_corner times challenges i))
          (row-at i j (subst (λ (n : ℕ). i < 2 ^ n) same below) inside ∙ is i))

      -- .. those of e, a, b and c
      pub entry-value : 0 < width → (j : ℕ) → j < 4
          → table_value times 4 (zero_check_rows times point a b c) challenges j ≡ slice_index (zero_check_row times point challenges a b c) j
      unfolding zero_check_entry
      entry-value wide zero inside = table-is 0 (eq_corner times point) (lit< tt) (λ i. refl) ∙ eq-sum wide point challenges (sym same)
      entry-value wide (suc zero) inside = table-is 1 (slice_index a) (lit< tt) (λ i. refl)
      entry-value wide (suc (suc zero)) inside = table-is 2 (slice_index b) (lit< tt) (λ i. refl)
      entry-value wide (suc (suc (suc zero))) inside = table-is 3 (slice_index c) (lit< tt) (λ i. refl)
      entry-value wide (suc (suc (suc (suc j)))) inside = absurd (omega (arith, inside))

      -- what the terms have there
      pub value-is : 0 < width
          → terms_value times zero_check_terms (table_value times 4 (zero_check_rows times point a b c) challenges)
          ≡ zero_check_value times point challenges a b c
      value-is wide =
          let row = table_value times 4 (zero_check_rows times point a b c) challenges in
          terms-at width times ring row
          (weighted-lt width times ring (λ i. slice_index (zero_check_rows times point a b c) (i * 4 + 0)) (eq_corner times challenges)
          (2 ^ length challenges))
          ∙ ap₂ times
          (ap₂ bit_xor (ap₂ times (entry-value wide 1 (lit< tt)) (entry-value wide 2 (lit< tt))) (entry-value wide 3 (lit< tt)))
          (entry-value wide 0 (lit< tt))
          ∙ ring.comm
          (bit_xor (times (multilinear_value times a challenges) (multilinear_value times b challenges)) (multilinear_value times c challenges))
          (eq_point times point challenges)

-- ---- what the sum says of the tables

-- the terms have three factors at most
few : HaveFactors 3 zero_check_terms
unfolding HaveFactors
few = (omega arith, (omega arith, tt))

-- .. of the four tables
pub within-four : AreWithin 4 zero_check_terms
unfolding AreWithin
within-four = (first, (second, tt))
  where
    first : (k : ℕ) → k < 3 → slice_index (0 ∷ 1 ∷ 2 ∷ []) k < 4
    first zero inside = lit< tt
    first (suc zero) inside = lit< tt
    first (suc (suc zero)) inside = lit< tt
    first (suc (suc (suc k))) inside = absurd (omega (arith, inside))

    second : (k : ℕ) → k < 2 → slice_index (0 ∷ 3 ∷ []) k < 4
    second zero inside = lit< tt
    second (suc zero) inside = lit< tt
    second (suc (suc k)) inside = absurd (omega (arith, inside))

module _ (width : ℕ) (times : ℕ → ℕ → ℕ) (field : IsField width times) (enough : 2 ≤ width) (point a b c : List ℕ)
    (a_are : AreCornerValues width (length point) a) (b_are : AreCornerValues width (length point) b)
    (c_are : AreCornerValues width (length point) c) where
  wide : 0 < width
  wide = omega (arith, enough)

  entry-fits : (i j : ℕ) → zero_check_entry times point a b c i j < 2 ^ width
  unfolding zero_check_entry
  entry-fits i zero = eq-fits width times field.ring wide point i
  entry-fits i (suc zero) = a_are.each_fits i
  entry-fits i (suc (suc zero)) = b_are.each_fits i
  entry-fits i (suc (suc (suc j))) = c_are.each_fits i

  rows-fit : (i : ℕ) → slice_index (zero_check_rows times point a b c) i < 2 ^ width
  rows-fit i =
      function-fits (λ k. zero_check_entry times point a b c (k / 4) (k % 4)) (2 ^ length point * 4) width i
      (λ k. entry-fits (k / 4) (k % 4))

  differences-are : AreCornerValues width (length point) (zero_differences times (length point) a b c)
  differences-are = record {
    count = length-map-range_with_len (λ i. bit_xor (times (slice_index a i) (slice_index b i)) (slice_index c i)) 0 (2 ^ length point);
    each_fits = λ i.
        function-fits (λ k. bit_xor (times (slice_index a k) (slice_index b k)) (slice_index c k)) (2 ^ length point) width i
        (λ k. xor_lt width (times (slice_index a k) (slice_index b k)) (slice_index c k) (field.ring.below (slice_index a k) (slice_index b k)) (c_are.each_fits k));
  }

  shape : (n : ℕ) → n ≡ length point → IsClaimShape width times zero_check_terms 4 3 n (zero_check_rows times point a b c)
  shape n same = record {
    summed = record {
      field = field;
      wide = wide;
      nodes = let power : 2 ^ 2 ≤ 2 ^ width = pow-le-pow_right (lit< tt) enough in power;
      some = lit< tt;
      few = few;
      within = within-four;
    };
    size = length-map-range_with_len (λ k. zero_check_entry times point a b c (k / 4) (k % 4)) 0 (2 ^ length point * 4)
        ∙ ap (λ (m : ℕ). 2 ^ m * 4) (sym same);
    fits = rows-fit;
  }

  pub sum-at : (n : ℕ) → n ≡ length point
      → cube_sum times zero_check_terms 4 n (zero_check_rows times point a b c)
      ≡ multilinear_value times (zero_differences times (length point) a b c) point
  sum-at n same =
      ap (λ (m : ℕ). cube_sum times zero_check_terms 4 m (zero_check_rows times point a b c)) same
      ∙ sum-is width times field.ring point a b c field rows-fit

pub zeros_reduce : ZerosReduce
zeros_reduce width times a b c point challenges messages field enough a_are b_are c_are same meets honest =
    honest_reduces width times zero_check_terms 4 3 0 (zero_check_rows times point a b c) challenges messages
    (shape width times field enough point a b c a_are b_are c_are (length challenges) same)
    (sym (sum-at width times field enough point a b c a_are b_are c_are (length challenges) same
    ∙ sum_below-zeros (λ i. times (slice_index (zero_differences times (length point) a b c) i) (eq_corner times point i)) (2 ^ length point)
    (λ i below. ap (λ (v : ℕ). times v (eq_corner times point i))
    (difference-at width times field.ring point a b c i below ∙ ap (λ (v : ℕ). bit_xor v (slice_index c i)) (meets i below) ∙ xor_self (slice_index c i))
    ∙ zero-times width 1 times field.ring (eq_corner times point i))))
    honest
    ∙ value-is width times field.ring point a b c challenges same (wide width times field enough point a b c a_are b_are c_are)

pub false_zeros_need_luck : FalseZerosNeedLuck
false_zeros_need_luck width times a b c point challenges messages i field enough a_are b_are c_are same are long inside differ reaches =
    let positive = wide width times field enough point a b c a_are b_are c_are in
    elim (eqb_tells (multilinear_value times (zero_differences times (length point) a b c) point) 0) [
      | inl none ↦ inl (zero_needs_root width times (zero_differences times (length point) a b c) point i field positive
          (differences-are width times field enough point a b c a_are b_are c_are) inside
          (λ nothing. differ (xor_nothing (times (slice_index a i) (slice_index b i)) (slice_index c i)
          (sym (difference-at width times field.ring point a b c i inside) ∙ nothing))) none.1)
      | inr other ↦ inr (false_claims_need_luck width times zero_check_terms 4 3 0 (zero_check_rows times point a b c) challenges messages
          (shape width times field enough point a b c a_are b_are c_are (length challenges) same) (pow_pos width) are long
          (λ is. other.1 (sym (is ∙ sum-at width times field enough point a b c a_are b_are c_are (length challenges) same)))
          (reaches ∙ sym (value-is width times field.ring point a b c challenges same positive)))
    ]
