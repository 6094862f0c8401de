-- Parts of values of packed tables: what they sum to, what mixes them, and where a mixed sum of others is the same.
use Rattle.std.proofs.Common.{◌≡◌, ◌≢◌, inl, inr, ℕ, suc, ◌+◌, ◌-◌, ◌*◌, ◌/◌, ◌%◌, ◌^◌, ◌<◌, ◌≤◌, List, [], ◌∷◌, length, map, take, drop, get_or, sym, ◌∙◌, ap, ap₂, subst, arith}
use Rattle.std.specs.Prelude.{bit_xor, slice_index}
use Rattle.std.specs.List.{range_with_len}
use Rattle.std.specs.Simd.Lanes.{zip2}
use Rattle.std.proofs.Math.Nat.{mul-le-mul_left, mul-le-mul_right}
use Rattle.std.proofs.lemmas.Bool.{cases_lt}
use Rattle.std.proofs.lemmas.Grind.{same_number_lists}
use Rattle.std.proofs.lemmas.List.{get_or_past, length-append, length-drop, length-map, take_all}
use Rattle.std.proofs.lemmas.List.FromFn.{get_or-map-range_with_len, length-map-range_with_len}
use Rattle.std.proofs.lemmas.Nat.{pow-add, pow_pos, shr_high, xor_lt}
use Rattle.std.proofs.lemmas.Simd.{get_or-zip2}
use native.Mathlib.Nat.{add-mul-mod_self_right, mod-eq_of_lt}
use lib.Bits.{xor_self}
use Rattle.field_base.specs.Basis.{sum_below}
use Rattle.field_base.specs.Chunks.{chunk}
use Rattle.field_base.specs.Ring.{IsRing}
use Rattle.field_base.proofs.BasisSums.{sum_below-same}
use Rattle.field_base.proofs.ChunkLists.{chunk-lt}
use Rattle.field_base.proofs.RingLemmas.{xor_nothing}
use Rattle.field_slices.specs.Multilinear.{AreCornerValues, eq_corner, multilinear_value}
use Rattle.field_slices.proofs.CornerSums.{weighted-lt}
use Rattle.field_slices.proofs.CubeLaws.{value-alone}
use Rattle.sum_checks.specs.ZeroCheck.{ZeroNeedsRoot}
use Rattle.small_tables.specs.SmallTables.{FalsePartsNeedRoot, IsSpaceOver, MixedSumsAreParts, SmallValuesAreWeighted, mixed, mixed_sum, mixed_weights}
use Rattle.small_tables.specs.SmallTables.{part_rows, point_scalars, small_values, value_parts}
use Rattle.protocols.specs.Tables.{ColumnValuesEvaluate, column_values}
use Rattle.small_tables.proofs.SmallFields.{chunk-none, coefficients-of, image, image_value, image_value-next, next_scalars, packed-images}
use Rattle.small_tables.proofs.SmallFields.{row-images, small-fits, some-chunk, sum-images}
use Rattle.protocols.proofs.TableLaws.{column-table, values-at, values-length}

-- ---- lists

-- value i of a list that a function makes
made-at : (f : ℕ → ℕ) (n i : ℕ) → i < n → slice_index (map f (range_with_len 0 n)) i ≡ f i
made-at f n i below = get_or-map-range_with_len f 0 n i i 0 below (omega arith)

-- its values fit
pub made-fits : (f : ℕ → ℕ) (n bound i : ℕ) → 0 < bound → ((j : ℕ) → f j < bound) → slice_index (map f (range_with_len 0 n)) i < bound
made-fits f n bound i some fits =
    elim (cases_lt i n) [
      | inl below ↦ subst (λ (v : ℕ). v < bound) (sym (made-at f n i below)) (fits i)
      | inr past ↦ subst (λ (v : ℕ). v < bound)
          (sym (get_or_past (map f (range_with_len 0 n)) i 0 (subst (λ (m : ℕ). m ≤ i) (sym (length-map-range_with_len f 0 n)) past))) some
    ]

-- all but the first value, as a slice has them
pub rest-whole : {T : Type 0} (xs : List T) → take (length xs - 1) (drop 1 xs) ≡ drop 1 xs
rest-whole xs = let long = length-drop 1 xs in take_all (length xs - 1) (drop 1 xs) (omega (arith, long))

-- ---- values of the packed table

module _ (w k : ℕ) (table : List ℕ) where
  pub small-length : length (small_values w k table) ≡ length table * 2 ^ k
  small-length = length-map-range_with_len (λ i. chunk w (i % 2 ^ k) (slice_index table (i / 2 ^ k))) 0 (length table * 2 ^ k)

  pub small-at : (v u : ℕ) → v < length table → u < 2 ^ k
      → slice_index (small_values w k table) (v * 2 ^ k + u) ≡ chunk w u (slice_index table v)
  small-at v u inside below =
      made-at (λ i. chunk w (i % 2 ^ k) (slice_index table (i / 2 ^ k))) (length table * 2 ^ k) (v * 2 ^ k + u) within
      ∙ ap₂ (λ (a b : ℕ). chunk w a (slice_index table b)) low (shr_high v k u below)
    where
      within : v * 2 ^ k + u < length table * 2 ^ k
      within =
          let next : v + 1 ≤ length table = omega (arith, inside) in
          let grown = mul-le-mul_right (2 ^ k) next in
          omega (arith, grown, below)

      low : (v * 2 ^ k + u) % 2 ^ k ≡ u
      low =
          ap (λ (x : ℕ). x % 2 ^ k) (let turned : v * 2 ^ k + u ≡ u + v * 2 ^ k = omega arith in turned)
          ∙ add-mul-mod_self_right u v (2 ^ k) ∙ mod-eq_of_lt below

  pub values-fit : (i : ℕ) → slice_index (small_values w k table) i < 2 ^ w
  values-fit i =
      made-fits (λ j. chunk w (j % 2 ^ k) (slice_index table (j / 2 ^ k))) (length table * 2 ^ k) (2 ^ w) i (pow_pos w)
      (λ j. chunk-lt w (j % 2 ^ k) (slice_index table (j / 2 ^ k)))

-- a large field has some bits
pub space-wide : (width : ℕ) (times : ℕ → ℕ → ℕ) (w k : ℕ) → IsSpaceOver width times w k → 0 < width
space-wide width times w k space =
    let one : 1 ≤ 2 ^ k = pow_pos k in
    let more = mul-le-mul_left w one in
    omega (arith, more, space.bits, space.some)

pub small_values_are_weighted : ColumnValuesEvaluate → SmallValuesAreWeighted
small_values_are_weighted evaluate width times w k table first last ring space size long =
    evaluate width times first last (small_values w k table) ring (space-wide width times w k space)
    (record {
      count = small-length w k table
          ∙ ap₂ (λ (a b : ℕ). a * 2 ^ b) size (sym long) ∙ sym (pow-add 2 (length first) (length last))
          ∙ ap (λ (n : ℕ). 2 ^ n) (sym (length-append first last));
      each_fits = λ i. small-fits width times w k ring space (slice_index (small_values w k table) i) (values-fit w k table i);
    })
    ∙ ap (λ (n : ℕ). multilinear_value times (column_values times first (2 ^ n) (small_values w k table)) last) long

module _ (width : ℕ) (times : ℕ → ℕ → ℕ) (w k : ℕ) (ring : IsRing width 1 times) (space : IsSpaceOver width times w k) where
  -- a part: the sum over the corners of the coefficients times eq(first, corner)
  pub part-at : (table first : List ℕ) → length table ≡ 2 ^ length first → (u : ℕ) → u < 2 ^ k
      → slice_index (value_parts times w k table first) u
      ≡ sum_below (λ v. times (chunk w u (slice_index table v)) (eq_corner times first v)) (2 ^ length first)
  part-at table first size u below =
      values-at times first (2 ^ k) (small_values w k table) u below ∙ column-table times first (2 ^ k) (small_values w k table) u
      ∙ sum_below-same (λ v. times (slice_index (small_values w k table) (v * 2 ^ k + u)) (eq_corner times first v))
      (λ v. times (chunk w u (slice_index table v)) (eq_corner times first v)) (2 ^ length first)
      (λ v inside. ap (λ (x : ℕ). times x (eq_corner times first v)) (small-at w k table v u (subst (λ (n : ℕ). v < n) (sym size) inside) below))

  -- the map of as many scalars as there are coefficients
  pub mixed-image : (scalars : List ℕ) (y : ℕ) → length scalars ≡ 2 ^ k
      → mixed times w scalars y ≡ image width times w k ring space (slice_index scalars) y
  mixed-image scalars y long = ap (sum_below (λ m. times (slice_index scalars m) (chunk w m y))) long

  -- the mixed sum of as many parts
  pub mixed_sum-images : (scalars parts : List ℕ) → length scalars ≡ 2 ^ k → length parts ≡ 2 ^ k
      → mixed_sum times w scalars parts
      ≡ sum_below (λ u. times (2 ^ (w * u)) (image width times w k ring space (slice_index scalars) (slice_index parts u))) (2 ^ k)
  mixed_sum-images scalars parts long count =
      ap (sum_below (λ u. times (2 ^ (w * u)) (mixed times w scalars (slice_index parts u)))) count
      ∙ sum_below-same (λ u. times (2 ^ (w * u)) (mixed times w scalars (slice_index parts u)))
      (λ u. times (2 ^ (w * u)) (image width times w k ring space (slice_index scalars) (slice_index parts u))) (2 ^ k)
      (λ u below. ap (times (2 ^ (w * u))) (mixed-image scalars (slice_index parts u) long))

  pub weight-at : (scalars first : List ℕ) (v : ℕ) → length scalars ≡ 2 ^ k → v < 2 ^ length first
      → slice_index (mixed_weights times w scalars first) v ≡ image width times w k ring space (slice_index scalars) (eq_corner times first v)
  weight-at scalars first v long below =
      made-at (λ j. mixed times w scalars (eq_corner times first j)) (2 ^ length first) v below ∙ mixed-image scalars (eq_corner times first v) long

  pub mixed-parts : (table first scalars : List ℕ) → AreCornerValues width (length first) table → length scalars ≡ 2 ^ k
      → mixed_sum times w scalars (value_parts times w k table first)
      ≡ sum_below (λ v. times (slice_index (mixed_weights times w scalars first) v) (slice_index table v)) (2 ^ length first)
  mixed-parts table first scalars corners long =
      mixed_sum-images scalars (value_parts times w k table first) long (values-length times first (2 ^ k) (small_values w k table))
      ∙ sum_below-same (λ u. times (2 ^ (w * u)) (map_of (slice_index (value_parts times w k table first) u)))
      (λ u. times (2 ^ (w * u)) (map_of (sum_below (λ v. times (chunk w u (slice_index table v)) (eq_corner times first v)) (2 ^ length first)))) (2 ^ k)
      (λ u below. ap (λ (y : ℕ). times (2 ^ (w * u)) (map_of y)) (part-at table first corners.count u below))
      ∙ packed-images width times w k ring space (slice_index scalars) (slice_index table) (eq_corner times first) (2 ^ length first) corners.each_fits
      ∙ sum_below-same (λ v. times (map_of (eq_corner times first v)) (slice_index table v))
      (λ v. times (slice_index (mixed_weights times w scalars first) v) (slice_index table v)) (2 ^ length first)
      (λ v below. ap (λ (x : ℕ). times x (slice_index table v)) (sym (weight-at scalars first v long below)))
    where
      map_of : ℕ → ℕ
      map_of y = image width times w k ring space (slice_index scalars) y

  -- ---- the value of the table of weights

  pub weights-value : (scalars first at : List ℕ) → length scalars ≡ 2 ^ k → length first ≡ length at
      → multilinear_value times (mixed_weights times w scalars first) at ≡ image_value width times w k ring space (slice_index scalars) first at
  weights-value scalars first at long same =
      sum_below-same (λ v. times (slice_index (mixed_weights times w scalars first) v) (eq_corner times at v))
      (λ v. times (image width times w k ring space (slice_index scalars) (eq_corner times first v)) (eq_corner times at v)) (2 ^ length at)
      (λ v below.
      ap (λ (x : ℕ). times x (eq_corner times at v)) (weight-at scalars first v long (subst (λ (n : ℕ). v < 2 ^ n) (sym same) below)))

  -- it is that of the next scalars at the other coordinates
  pub weights-next : (scalars nexts : List ℕ) (x r : ℕ) (first at : List ℕ) → length scalars ≡ 2 ^ k → length nexts ≡ 2 ^ k
      → length first ≡ length at
      → ((m : ℕ) → m < 2 ^ k → slice_index nexts m ≡ next_scalars width times w k ring space x r (slice_index scalars) m)
      → multilinear_value times (mixed_weights times w nexts first) at ≡ multilinear_value times (mixed_weights times w scalars (x ∷ first)) (r ∷ at)
  weights-next scalars nexts x r first at long next_long same are =
      weights-value nexts first at next_long same
      ∙ sum_below-same (λ v. times (image width times w k ring space (slice_index nexts) (eq_corner times first v)) (eq_corner times at v))
      (λ v. times (image width times w k ring space (next_scalars width times w k ring space x r (slice_index scalars)) (eq_corner times first v))
      (eq_corner times at v)) (2 ^ length at)
      (λ v below.
      ap (λ (y : ℕ). times y (eq_corner times at v))
      (sum_below-same (λ m. times (slice_index nexts m) (chunk w m (eq_corner times first v)))
      (λ m. times (next_scalars width times w k ring space x r (slice_index scalars) m) (chunk w m (eq_corner times first v))) (2 ^ k)
      (λ m inside. ap (λ (c : ℕ). times c (chunk w m (eq_corner times first v))) (are m inside))))
      ∙ sym (image_value-next width times w k ring space (space-wide width times w k space) (slice_index scalars) x r first at same)
      ∙ sym (weights-value scalars (x ∷ first) (r ∷ at) long (ap suc same))

  -- with no coordinates it is the image of 1
  pub weights-alone : (scalars first at : List ℕ) → length first ≡ 0 → length at ≡ length first
      → multilinear_value times (mixed_weights times w scalars first) at ≡ mixed times w scalars 1
  unfolding eq_corner
  weights-alone scalars [] [] none same =
      value-alone width times ring (mixed_weights times w scalars [])
      (made-fits (λ v. mixed times w scalars (eq_corner times [] v)) 1 (2 ^ width) 0 (pow_pos width)
      (λ v. weighted-lt width times ring (slice_index scalars) (λ m. chunk w m (eq_corner times [] v)) (length scalars)))
      ∙ made-at (λ v. mixed times w scalars (eq_corner times [] v)) 1 0 (omega arith)
  weights-alone scalars [] (r ∷ at) none same = absurd (omega (arith, same))
  weights-alone scalars (x ∷ first) at none same = absurd (omega (arith, none))

  -- with one coordinate more, of points of elements
  pub weights-step : {F : Type 0} (repr : F → ℕ) (scalars nexts : List ℕ) (first at : List F) (x r : F) → 0 < length first
      → length at ≡ length first → x ≡ get_or first 0 x → r ≡ get_or at 0 r → length scalars ≡ 2 ^ k
      → nexts ≡ map (λ m. bit_xor (mixed times w scalars (times (repr x) (2 ^ (w * m)))) (times (bit_xor 1 (repr r)) (slice_index scalars m)))
      (range_with_len 0 (length scalars))
      → multilinear_value times (mixed_weights times w nexts (map repr (drop 1 first))) (map repr (drop 1 at))
      ≡ multilinear_value times (mixed_weights times w scalars (map repr first)) (map repr at)
  weights-step repr scalars nexts [] at x r some same x_is r_is long are = absurd (omega (arith, some))
  weights-step repr scalars nexts (y ∷ ys) [] x r some same x_is r_is long are = absurd (omega (arith, same))
  weights-step repr scalars nexts (y ∷ ys) (z ∷ zs) x r some same x_is r_is long are =
      weights-next scalars nexts (repr x) (repr r) (map repr ys) (map repr zs) long
      (ap length are ∙ length-map-range_with_len next 0 (length scalars) ∙ long)
      (length-map ys repr ∙ (let fewer : length ys ≡ length zs = omega (arith, same) in fewer) ∙ sym (length-map zs repr))
      (λ m below.
      ap (λ (l : List ℕ). slice_index l m) are ∙ made-at next (length scalars) m (subst (λ (n : ℕ). m < n) (sym long) below)
      ∙ ap (λ (i : ℕ). bit_xor i (times (bit_xor 1 (repr r)) (slice_index scalars m)))
      (mixed-image scalars (times (repr x) (2 ^ (w * m))) long))
      ∙ ap₂ (λ (a b : _). multilinear_value times (mixed_weights times w scalars (repr a ∷ map repr ys)) (repr b ∷ map repr zs)) x_is r_is
    where
      next : ℕ → ℕ
      next m = bit_xor (mixed times w scalars (times (repr x) (2 ^ (w * m)))) (times (bit_xor 1 (repr r)) (slice_index scalars m))

  -- ---- parts and weights as they are computed, of elements

  module _ {F : Type 0} (repr : F → ℕ) (first corners : List F)
      (corners_are : map repr corners ≡ map (eq_corner times (map repr first)) (range_with_len 0 (2 ^ length first))) where
    corners-long : length corners ≡ 2 ^ length first
    corners-long =
        sym (length-map corners repr) ∙ ap length corners_are
        ∙ length-map-range_with_len (eq_corner times (map repr first)) 0 (2 ^ length first)

    corner-at : (v : ℕ) → v < 2 ^ length first → slice_index (map repr corners) v ≡ eq_corner times (map repr first) v
    corner-at v below = ap (λ (l : List ℕ). slice_index l v) corners_are ∙ made-at (eq_corner times (map repr first)) (2 ^ length first) v below

    pub parts-made : (table parts : List F) → length table ≡ 2 ^ length first
        → map repr parts ≡ map (λ u. sum_below (λ v. times (slice_index (map repr corners) v) (chunk w u (slice_index (map repr table) v)))
        (length table)) (range_with_len 0 (2 ^ k))
        → map repr parts ≡ value_parts times w k (map repr table) (map repr first)
    parts-made table parts size are =
        same_number_lists (map repr parts) (value_parts times w k values numbers) (count ∙ sym (values-length times numbers (2 ^ k) (small_values w k values)))
        (λ u below.
        let inside : u < 2 ^ k = subst (λ (n : ℕ). u < n) count below in
        ap (λ (l : List ℕ). slice_index l u) are ∙ made-at part (2 ^ k) u inside
        ∙ ap (sum_below (λ v. times (slice_index (map repr corners) v) (chunk w u (slice_index values v)))) (size ∙ ap (λ (n : ℕ). 2 ^ n) long)
        ∙ sum_below-same (λ v. times (slice_index (map repr corners) v) (chunk w u (slice_index values v)))
        (λ v. times (chunk w u (slice_index values v)) (eq_corner times numbers v)) (2 ^ length numbers)
        (λ v within.
        ap (λ (e : ℕ). times e (chunk w u (slice_index values v))) (corner-at v (subst (λ (n : ℕ). v < 2 ^ n) (sym long) within))
        ∙ ring.comm (eq_corner times numbers v) (chunk w u (slice_index values v)))
        ∙ sym (part-at values numbers (length-map table repr ∙ size ∙ ap (λ (n : ℕ). 2 ^ n) long) u inside))
      where
        numbers : List ℕ
        numbers = map repr first

        values : List ℕ
        values = map repr table

        long : length first ≡ length numbers
        long = sym (length-map first repr)

        part : ℕ → ℕ
        part u = sum_below (λ v. times (slice_index (map repr corners) v) (chunk w u (slice_index values v))) (length table)

        count : length (map repr parts) ≡ 2 ^ k
        count = ap length are ∙ length-map-range_with_len part 0 (2 ^ k)

    pub weights-made : (scalars : List ℕ) (images : List F)
        → map repr images ≡ map (λ v. mixed times w scalars (slice_index (map repr corners) v)) (range_with_len 0 (length corners))
        → map repr images ≡ mixed_weights times w scalars (map repr first)
    weights-made scalars images are =
        same_number_lists (map repr images) (mixed_weights times w scalars numbers)
        (count ∙ sym (length-map-range_with_len (λ v. mixed times w scalars (eq_corner times numbers v)) 0 (2 ^ length numbers)))
        (λ v below.
        let inside : v < 2 ^ length numbers = subst (λ (n : ℕ). v < n) count below in
        let within : v < 2 ^ length first = subst (λ (n : ℕ). v < 2 ^ n) (sym long) inside in
        ap (λ (l : List ℕ). slice_index l v) are
        ∙ made-at (λ i. mixed times w scalars (slice_index (map repr corners) i)) (length corners) v (subst (λ (n : ℕ). v < n) (sym corners-long) within)
        ∙ ap (mixed times w scalars) (corner-at v within)
        ∙ sym (made-at (λ i. mixed times w scalars (eq_corner times numbers i)) (2 ^ length numbers) v inside))
      where
        numbers : List ℕ
        numbers = map repr first

        long : length first ≡ length numbers
        long = sym (length-map first repr)

        count : length (map repr images) ≡ 2 ^ length numbers
        count =
            ap length are ∙ length-map-range_with_len (λ v. mixed times w scalars (slice_index (map repr corners) v)) 0 (length corners)
            ∙ corners-long ∙ ap (λ (n : ℕ). 2 ^ n) long

pub mixed_sums_are_parts : MixedSumsAreParts
mixed_sums_are_parts width times w k table first scalars ring space corners long =
    mixed-parts width times w k ring space table first scalars corners long

-- ---- other parts

pub false_parts_need_root : ZeroNeedsRoot → FalsePartsNeedRoot
false_parts_need_root root width times w k sent parts point u field space sent_are parts_are long inside differ same =
    root width times rows point found.0 field (space-wide width times w k space)
    (record {
      count = length-map-range_with_len row 0 (2 ^ k) ∙ ap (λ (n : ℕ). 2 ^ n) (sym long);
      each_fits = λ i.
          made-fits row (2 ^ k) (2 ^ width) i (pow_pos width)
          (λ m. weighted-lt width times field.ring (λ v. 2 ^ (w * v)) (λ v. chunk w m (slice_index differences v)) (2 ^ k));
    })
    (subst (λ (n : ℕ). found.0 < 2 ^ n) (sym long) found.1)
    (λ none.
    found.2
    (sym
    (coefficients-of width times w k field.ring space (λ v. chunk w found.0 (bit_xor (slice_index sent v) (slice_index parts v)))
    (λ v. chunk-lt w found.0 (bit_xor (slice_index sent v) (slice_index parts v))) u inside)
    ∙ ap (chunk w u) (sym (row-at found.0 found.1) ∙ none) ∙ chunk-none w u))
    (ap (sum_below (λ m. times (slice_index rows m) (eq_corner times point m))) (ap (λ (n : ℕ). 2 ^ n) long)
    ∙ sum_below-same (λ m. times (slice_index rows m) (eq_corner times point m))
    (λ m. times (sum_below (λ v. times (2 ^ (w * v)) (chunk w m (bit_xor (slice_index sent v) (slice_index parts v)))) (2 ^ k))
    (slice_index scalars m)) (2 ^ k)
    (λ m below.
    ap₂ times (row-at m below)
    (sym (made-at (eq_corner times point) (2 ^ length point) m (subst (λ (n : ℕ). m < 2 ^ n) (sym long) below))))
    ∙ sym (row-images width times w k field.ring space (slice_index scalars) (λ v. bit_xor (slice_index sent v) (slice_index parts v)))
    ∙ sum-images width times w k field.ring space (slice_index scalars) (slice_index sent) (slice_index parts)
    ∙ ap₂ bit_xor (sym (mixed_sum-images width times w k field.ring space scalars sent scalars_long sent_are.count) ∙ same)
    (sym (mixed_sum-images width times w k field.ring space scalars parts scalars_long parts_are.count))
    ∙ xor_self (mixed_sum times w scalars parts))
  where
    scalars : List ℕ
    scalars = point_scalars times point

    scalars_long : length scalars ≡ 2 ^ k
    scalars_long = length-map-range_with_len (eq_corner times point) 0 (2 ^ length point) ∙ ap (λ (n : ℕ). 2 ^ n) long

    differences : List ℕ
    differences = zip2 bit_xor sent parts

    row : ℕ → ℕ
    row m = sum_below (λ v. times (2 ^ (w * v)) (chunk w m (slice_index differences v))) (2 ^ k)

    rows : List ℕ
    rows = part_rows times w k differences

    row-at : (m : ℕ) → m < 2 ^ k
        → slice_index rows m ≡ sum_below (λ v. times (2 ^ (w * v)) (chunk w m (bit_xor (slice_index sent v) (slice_index parts v)))) (2 ^ k)
    row-at m below =
        made-at row (2 ^ k) m below
        ∙ sum_below-same (λ v. times (2 ^ (w * v)) (chunk w m (slice_index differences v)))
        (λ v. times (2 ^ (w * v)) (chunk w m (bit_xor (slice_index sent v) (slice_index parts v)))) (2 ^ k)
        (λ v within.
        ap (λ (y : ℕ). times (2 ^ (w * v)) (chunk w m y))
        (get_or-zip2 bit_xor sent parts v 0 0 0 (subst (λ (n : ℕ). v < n) (sym sent_are.count) within)
        (subst (λ (n : ℕ). v < n) (sym parts_are.count) within)))

    difference : ℕ
    difference = bit_xor (slice_index sent u) (slice_index parts u)

    found : (m : ℕ) × (m < 2 ^ k) × (chunk w m difference ≢ 0)
    found =
        some-chunk w (2 ^ k) difference
        (subst (λ (b : ℕ). difference < 2 ^ b) space.bits
        (xor_lt width (slice_index sent u) (slice_index parts u) (sent_are.each_fits u) (parts_are.each_fits u)))
        (λ none. differ (xor_nothing (slice_index sent u) (slice_index parts u) none))
