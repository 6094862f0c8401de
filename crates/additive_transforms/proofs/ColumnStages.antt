-- The columns of rows of values, and the stages of all of them at once: a block of rows is a block of values as many times as long.
use Rattle.std.proofs.Common.{◌≡◌, ℕ, suc, Bool, true, false, ◌+◌, ◌-◌, ◌*◌, ◌/◌, ◌^◌, ◌<◌, ◌≤◌, List, length, sym, ◌∙◌, ap, subst, arith, lit<}
use Rattle.std.specs.List.{range_with_len}
use Rattle.std.specs.Prelude.{bit_xor, cond, slice_index}
use Rattle.std.proofs.Math.Nat.{mul-le-mul, mul-le-mul_right, pow-le-pow_right, two-pow-succ}
use Rattle.std.proofs.lemmas.List.FromFn.{get_or-map-range_with_len, length-map-range_with_len}
use Rattle.std.proofs.lemmas.Nat.{div-mul-add, pow_pos}
use Rattle.field_base.specs.LinearMaps.{linear_image}
use Rattle.field_base.specs.Orders.{AreCantorVectors}
use Rattle.field_base.specs.Ring.{IsRing}
use Rattle.ghash_slices.specs.Cantor.{AreCantorTwiddles}
use Rattle.ghash_slices.specs.LowStages.{values_from}
use Rattle.ghash_slices.specs.Stages.{factor, stages}
use Rattle.field_base.proofs.WordValues.{values_fit}
use Rattle.additive_transforms.specs.Columns.{column_of, FitsColumns, HasRows, InEachColumn}
use Rattle.additive_transforms.specs.Stages.{AreLeft, IsButterfly, TakesBlock, TakesBlocks, TakesStage}
use Rattle.additive_transforms.specs.Transform.{TakesTransform}
use Rattle.additive_transforms.proofs.BlockStages.{taken_local}
use Rattle.additive_transforms.proofs.OneOrigin.{all_leave, undone_leave}
use Rattle.additive_transforms.proofs.WholeStages.{AreUndone, left_step, undone_start, undone_step, whole_blocks}
use lib.Arith.{digits_lt}

-- ---- one column

module _ (columns c : ℕ) (values : List ℕ) where
  -- a column has a value of each row
  pub column-length : length (column_of columns c values) ≡ length values / columns
  unfolding column_of
  column-length = length-map-range_with_len (λ r. slice_index values (r * columns + c)) 0 (length values / columns)

  -- which is that one
  pub column-at : (r : ℕ) → r < length values / columns → slice_index (column_of columns c values) r ≡ slice_index values (r * columns + c)
  unfolding column_of
  column-at r below =
      get_or-map-range_with_len (λ i. slice_index values (i * columns + c)) 0 (length values / columns) r r 0 below (omega arith)

  -- of no more bits
  pub column-fits : (width : ℕ) → ((p : ℕ) → slice_index values p < 2 ^ width) → (p : ℕ) → slice_index (column_of columns c values) p < 2 ^ width
  unfolding column_of
  column-fits width fits =
      values_fit width (λ r. slice_index values (r * columns + c)) (λ r. fits (r * columns + c)) (range_with_len 0 (length values / columns))

-- ---- rows

module _ (m columns values : ℕ) (has : HasRows m columns values) where
  -- so many rows there are
  pub row_count : values / columns ≡ 2 ^ m
  row_count =
      let all : 2 ^ m * columns ≡ 2 ^ m * columns + 0 = omega arith in
      ap (λ (n : ℕ). n / columns) (has.2 ∙ all) ∙ div-mul-add (2 ^ m) columns 0 has.1

  -- so many has a column
  pub column_count : (c : ℕ) (l : List ℕ) → length l ≡ values → length (column_of columns c l) ≡ 2 ^ m
  column_count c l long = column-length columns c l ∙ ap (λ (n : ℕ). n / columns) long ∙ row_count

  module _ (j half : ℕ) (below : j < m) (half_is : half ≡ 2 ^ j * columns) where
    -- the values are whole blocks of twice 2 ^ j rows
    whole_rows : values ≡ 2 ^ (m - suc j) * (2 * half)
    whole_rows =
        let blocks = ap (λ (n : ℕ). n * columns) (whole_blocks m j below) in
        let size : 2 ^ suc j * columns ≡ 2 * half = let halves = two-pow-succ j in ap (λ (n : ℕ). n * columns) halves ∙ omega (arith, half_is) in
        let parts : 2 ^ (m - suc j) * 2 ^ suc j * columns ≡ 2 ^ (m - suc j) * (2 ^ suc j * columns) = omega arith in
        has.2 ∙ blocks ∙ parts ∙ ap (λ (n : ℕ). 2 ^ (m - suc j) * n) size

    -- where 2 ^ j rows have some values
    pub half_above : 0 < half
    half_above =
        let some : 1 * 1 ≤ 2 ^ j * columns = mul-le-mul (pow_pos j) has.1 in
        omega (arith, some, half_is)

    -- and no more than there are
    pub block_below : (n : ℕ) → values < n → 2 * half < n
    block_below n few =
        let some : 1 * (2 * half) ≤ 2 ^ (m - suc j) * (2 * half) = mul-le-mul_right (2 * half) (pow_pos (m - suc j)) in
        let all = whole_rows in
        omega (arith, some, all, few)

    -- so there are as many as there are of a column
    pub row_blocks : values / (2 * half) ≡ 2 ^ (m - suc j)
    row_blocks =
        let all : 2 ^ (m - suc j) * (2 * half) ≡ 2 ^ (m - suc j) * (2 * half) + 0 = omega arith in
        let some = half_above in
        ap (λ (n : ℕ). n / (2 * half)) (whole_rows ∙ all) ∙ div-mul-add (2 ^ (m - suc j)) (2 * half) 0 (omega (arith, some))

    -- and no more than half the elements of a field that has room for the stages
    pub few_rows : (width : ℕ) → m ≤ width → values / (2 * half) ≤ 2 ^ (width - 1)
    few_rows width few =
        let most : 2 ^ (m - suc j) ≤ 2 ^ (width - 1) = pow-le-pow_right (lit< tt) (omega (arith, below, few)) in
        let blocks = row_blocks in
        omega (arith, blocks, most)

-- the stages of a transform of a column are those that the field has room for
pub stages_of-rows : (width columns values : ℕ) → FitsColumns width columns values → (stages : ℕ)
    → ((m : ℕ) → values / columns ≡ 2 ^ m → m ≡ stages) → HasRows stages columns values × (stages ≤ width)
stages_of-rows width columns values fits stages only =
    subst (λ (m : ℕ). HasRows m columns values × (m ≤ width)) (only fits.0 (row_count fits.0 columns values fits.1)) (fits.1, fits.2)

-- ---- one stage

module _ (times : ℕ → ℕ → ℕ) (t n columns c : ℕ) (below : c < columns) where
  -- the butterfly of a block of rows is that of each column
  column-butterfly : (a b : ℕ → ℕ) → IsButterfly times t (n * columns) a b
      → IsButterfly times t n (λ r. a (r * columns + c)) (λ r. b (r * columns + c))
  column-butterfly a b is =
      record {
        lower =
            λ r small.
            is.lower (r * columns + c) (digits_lt small below)
            ∙ ap (λ (k : ℕ). bit_xor (a (r * columns + c)) (times t (a k))) (upper r);
        upper =
            λ r small.
            ap b (sym (upper r)) ∙ is.upper (r * columns + c) (digits_lt small below)
            ∙ ap (λ (k : ℕ). bit_xor (a k) (b (r * columns + c))) (upper r);
      }
    where
      upper : (r : ℕ) → n * columns + (r * columns + c) ≡ (n + r) * columns + c
      upper r = omega arith

  -- or the inverse one
  column-block : (inverse : Bool) (a b : ℕ → ℕ) → TakesBlock inverse times t (n * columns) a b
      → TakesBlock inverse times t n (λ r. a (r * columns + c)) (λ r. b (r * columns + c))
  column-block false a b is = column-butterfly a b is
  column-block true a b is = column-butterfly b a is

-- the blocks of so many values in rows are those of each column
pub column-stage : (inverse : Bool) (times : ℕ → ℕ → ℕ) (s shift : ℕ) (basis : List ℕ) (m j half columns count : ℕ) (old new : List ℕ)
    → HasRows m columns count → length old ≡ count → length new ≡ count → j < m → half ≡ 2 ^ j * columns → s ≡ shift
    → TakesBlocks inverse times s basis half (count / (2 * half)) old new
    → InEachColumn columns (TakesStage inverse times shift basis j (2 ^ (m - (j + 1)))) old new
column-stage inverse times s shift basis m j half columns count old new has same same' below half_is scalar taken c in_row q inside =
    (taken_local inverse times t (2 ^ j)).same q (row_of old) (row_of new) _ _ (read old same) (read new same')
    (column-block times (t q) (2 ^ j) columns c in_row inverse (values_from old (q * (2 * half))) (values_from new (q * (2 * half)))
    (subst (λ (h : ℕ). TakesBlock inverse times (t q) h (values_from old (q * (2 * half))) (values_from new (q * (2 * half)))) half_is
    (subst (λ (x : ℕ). TakesBlock inverse times (bit_xor x (linear_image basis q)) half (values_from old (q * (2 * half)))
    (values_from new (q * (2 * half)))) scalar (taken q (omega (arith, blocks, small))))))
  where
    t : ℕ → ℕ
    t b = bit_xor shift (linear_image basis b)

    row_of : List ℕ → ℕ → ℕ
    row_of l r = values_from l (q * (2 * half)) (r * columns + c)

    small : q < 2 ^ (m - suc j)
    small = let next : m - (j + 1) ≡ m - suc j = omega arith in subst (λ (e : ℕ). q < 2 ^ e) next inside

    blocks : count / (2 * half) ≡ 2 ^ (m - suc j)
    blocks = row_blocks m columns count has j half below half_is

    read : (l : List ℕ) → length l ≡ count → (r : ℕ) → r < 2 * 2 ^ j
        → values_from (column_of columns c l) (q * 2 ^ suc j) r ≡ row_of l r
    read l long r short =
        let size = two-pow-succ j in
        let here = digits_lt {q = q} {m = (2 ^ (m - suc j))} {r = r} {c = (2 ^ suc j)} small (omega (arith, size, short)) in
        let all = whole_blocks m j below in
        let rows = row_count m columns (length l) (subst (HasRows m columns) (sym long) has) in
        let place : (q * (2 ^ j + 2 ^ j) + r) * columns + c ≡ q * (2 * (2 ^ j * columns)) + (r * columns + c) = omega arith in
        column-at columns c l (q * 2 ^ suc j + r) (omega (arith, here, all, rows))
        ∙ ap (λ (s : ℕ). slice_index l ((q * s + r) * columns + c)) size ∙ ap (slice_index l) place
        ∙ ap (λ (h : ℕ). slice_index l (q * (2 * h) + (r * columns + c))) (sym half_is)

-- ---- stage after stage

-- of m stages so many took the values `old` to `now`, and the others are left; or, where `inverse` is true, so many are undone
abbrev pub StagesSoFar : Bool → (ℕ → ℕ → ℕ) → List ℕ → List ℕ → ℕ → ℕ → List ℕ → List ℕ → Type 0
StagesSoFar false times shifts basis m done old now = AreLeft times shifts basis m (m - done) old now
StagesSoFar true times shifts basis m done old now = AreUndone times shifts basis m done old now

-- before the first
pub so_far-start : (inverse : Bool) (times : ℕ → ℕ → ℕ) (shifts basis : List ℕ) (m : ℕ) (old : List ℕ)
    → StagesSoFar inverse times shifts basis m 0 old old
so_far-start false times shifts basis m old =
    let all : m - 0 ≡ m = omega arith in
    λ p inside. ap (λ (k : ℕ). stages times (factor shifts basis) k (slice_index old) p) all
so_far-start true times shifts basis m old = undone_start times shifts basis m old

module _ (width : ℕ) (times : ℕ → ℕ → ℕ) (ring : IsRing width 1 times) (shifts basis : List ℕ) (m : ℕ) where
  -- one more
  pub so_far-step : (inverse : Bool) (stage done : ℕ) → done < m → stage ≡ cond inverse done (m - 1 - done) → (old now next : List ℕ)
      → ((p : ℕ) → slice_index now p < 2 ^ width) → ((p : ℕ) → slice_index next p < 2 ^ width)
      → TakesStage inverse times (slice_index shifts stage) basis stage (2 ^ (m - (stage + 1))) now next
      → StagesSoFar inverse times shifts basis m done old now → StagesSoFar inverse times shifts basis m (done + 1) old next
  so_far-step false stage done below is old now next fits fits' taken so_far =
      let before : m - done ≡ suc stage = omega (arith, below, is) in
      let after : stage ≡ m - (done + 1) = omega (arith, below, is) in
      let blocks : 2 ^ (m - (stage + 1)) ≡ 2 ^ (m - suc stage) = let next : m - (stage + 1) ≡ m - suc stage = omega arith in ap (λ (e : ℕ). 2 ^ e) next in
      subst (λ (k : ℕ). AreLeft times shifts basis m k old next) after
      (left_step width times ring shifts basis m stage _ old now next (omega (arith, below, is)) blocks fits taken
      (subst (λ (k : ℕ). AreLeft times shifts basis m k old now) before so_far))
  so_far-step true stage done below is old now next fits fits' taken so_far =
      let after : suc stage ≡ done + 1 = omega (arith, is) in
      let blocks : 2 ^ (m - (stage + 1)) ≡ 2 ^ (m - suc stage) = let next : m - (stage + 1) ≡ m - suc stage = omega arith in ap (λ (e : ℕ). 2 ^ e) next in
      subst (λ (k : ℕ). AreUndone times shifts basis m k old next) after
      (undone_step width times ring shifts basis m stage _ old now next (omega (arith, below, is)) blocks fits' taken
      (subst (λ (k : ℕ). AreUndone times shifts basis m k old now) (sym is) so_far))

-- after the last one the transform has taken the values
module _ (width : ℕ) (times : ℕ → ℕ → ℕ) (vector : ℕ → ℕ) (wide : 0 < width) (ring : IsRing width 1 times) (vectors : AreCantorVectors width times vector) (shifts basis : List ℕ) (z n : ℕ) (twiddles : AreCantorTwiddles width times vector z n shifts basis) (long : suc (length basis) ≡ n) (m : ℕ) (few : m ≤ n) where
  pub so_far-end : (inverse : Bool) (done : ℕ) → done ≡ m → (old now : List ℕ) → length old ≡ 2 ^ m → length now ≡ 2 ^ m
      → ((p : ℕ) → slice_index old p < 2 ^ width) → ((p : ℕ) → slice_index now p < 2 ^ width)
      → StagesSoFar inverse times shifts basis m done old now → TakesTransform inverse width times vector z old now
  so_far-end false done all old now whole whole' fits fits' so_far =
      let none : m - done ≡ 0 = omega (arith, all) in
      all_leave width times vector wide ring vectors shifts basis z n twiddles long m few old now whole fits'
      (subst (λ (k : ℕ). AreLeft times shifts basis m k old now) none so_far)
  so_far-end true done all old now whole whole' fits fits' so_far =
      undone_leave width times vector wide ring vectors shifts basis z n twiddles long m few old now whole' fits
      (subst (λ (k : ℕ). AreUndone times shifts basis m k old now) all so_far)
