-- Tables one above the other: values at points with a first coordinate for each bit of a table's number, and columns of all tables.
use Rattle.std.proofs.Common.{◌≡◌, ◌⊎◌, inl, inr, ℕ, zero, suc, ◌+◌, ◌-◌, ◌*◌, ◌/◌, ◌%◌, ◌^◌, ◌<◌, ◌≤◌, List, [], ◌∷◌, ◌++◌, length, map, replicate, take, drop, refl, sym, ◌∙◌, ap, ap₂, subst, arith}
use Rattle.std.specs.Prelude.{bit_xor, slice_index}
use Rattle.std.proofs.Math.Nat.{add-mul, div-lt_iff_lt-mul, mod-eq_of_lt, mul-le-mul_right, mul_comm}
use Rattle.std.proofs.lemmas.Bool.{cases_lt}
use Rattle.std.proofs.lemmas.Grind.{same_number_lists}
use Rattle.std.proofs.lemmas.List.{drop-drop, drop-take, get_or-drop, get_or-take, get_or_past, length-append, take-take}
use Rattle.std.proofs.lemmas.List.FromFn.{get_or-map-range_with_len, length-map-range_with_len}
use Rattle.std.proofs.lemmas.Nat.{div-mul-add, mod-mul-add, mul-add-lt, pow-add, pow_pos, xor_comm}
use lib.Bits.{xor_zero_r}
use native.Mathlib.Nat.{one-mul, mul_assoc}
use Rattle.field_base.specs.Basis.{sum_below}
use Rattle.field_base.specs.Ring.{IsRing}
use Rattle.field_base.proofs.BasisSums.{sum_below-add, sum_below-same, sum_below-zeros}
use Rattle.field_base.proofs.RingLemmas.{sum_times, zero-times}
use Rattle.field_slices.specs.Multilinear.{eq_corner, multilinear_value, on_line}
use Rattle.field_slices.proofs.CornerSums.{corners-line, weighted-line, weighted-lt}
use Rattle.ghash_slices.proofs.StageSums.{sum_below-xor}
use Rattle.transcripts.specs.Commitments.{row_at}
use Rattle.protocols.specs.JointTables.{stacked}

-- ---- values by the first coordinates and the others

module _ (times : ℕ → ℕ → ℕ) where
  -- the value at a point of the polynomial that has these values at the corners
  abbrev pub value_of : (ℕ → ℕ) → List ℕ → ℕ
  value_of f point = sum_below (λ i. times (f i) (eq_corner times point i)) (2 ^ length point)

  pub value-same : (f g : ℕ → ℕ) (point : List ℕ) → ((i : ℕ) → i < 2 ^ length point → f i ≡ g i) → value_of f point ≡ value_of g point
  value-same f g point same =
      sum_below-same (λ i. times (f i) (eq_corner times point i)) (λ i. times (g i) (eq_corner times point i)) (2 ^ length point)
      (λ i below. ap (λ (v : ℕ). times v (eq_corner times point i)) (same i below))

module _ (width : ℕ) (times : ℕ → ℕ → ℕ) (ring : IsRing width 1 times) where
  pub value-zero : (f : ℕ → ℕ) (point : List ℕ) → ((i : ℕ) → i < 2 ^ length point → f i ≡ 0) → value_of times f point ≡ 0
  value-zero f point none =
      sum_below-zeros (λ i. times (f i) (eq_corner times point i)) (2 ^ length point)
      (λ i below.
      ap (λ (v : ℕ). times v (eq_corner times point i)) (none i below) ∙ zero-times width 1 times ring (eq_corner times point i))

  -- the value of sums
  pub value-sum : (f g : ℕ → ℕ) (point : List ℕ)
      → value_of times (λ i. bit_xor (f i) (g i)) point ≡ bit_xor (value_of times f point) (value_of times g point)
  value-sum f g point =
      sum_below-same (λ i. times (bit_xor (f i) (g i)) (eq_corner times point i))
      (λ i. bit_xor (times (f i) (eq_corner times point i)) (times (g i) (eq_corner times point i))) (2 ^ length point)
      (λ i below. sum_times width 1 times ring (f i) (g i) (eq_corner times point i))
      ∙ sym (sum_below-xor (λ i. times (f i) (eq_corner times point i)) (λ i. times (g i) (eq_corner times point i)) (2 ^ length point))

  -- the value at no coordinates
  pub value-none : (f : ℕ → ℕ) → f 0 < 2 ^ width → value_of times f [] ≡ f 0
  unfolding sum_below eq_corner
  value-none f fits =
      xor_comm 0 (times (f 0) 1) ∙ xor_zero_r (times (f 0) 1) ∙ ring.comm (f 0) 1 ∙ ring.one (f 0) ∙ mod-eq_of_lt fits

  -- the value at coordinates and others is that at the first of the values at the others
  pub value-parts : (f : ℕ → ℕ) (first others : List ℕ)
      → value_of times f (first ++ others) ≡ value_of times (λ i. value_of times (λ j. f (i * 2 ^ length others + j)) others) first
  value-parts f [] others =
      value-same times f (λ j. f (0 * 2 ^ length others + j)) others
      (λ j below. ap f (let none : j ≡ 0 * 2 ^ length others + j = omega arith in none))
      ∙ sym (value-none (λ i. value_of times (λ j. f (i * 2 ^ length others + j)) others)
      (weighted-lt width times ring (λ j. f (0 * 2 ^ length others + j)) (eq_corner times others) (2 ^ length others)))
  value-parts f (r ∷ first) others =
      corners-line width times ring f r (first ++ others)
      ∙ ap₂ (on_line times r) (value-parts f first others)
      (value-parts (λ i. f (2 ^ length (first ++ others) + i)) first others
      ∙ value-same times (λ i. value_of times (λ j. f (2 ^ length (first ++ others) + (i * 2 ^ length others + j))) others)
      (λ i. part (2 ^ length first + i)) first
      (λ i below.
      value-same times (λ j. f (2 ^ length (first ++ others) + (i * 2 ^ length others + j)))
      (λ j. f ((2 ^ length first + i) * 2 ^ length others + j)) others (λ j inside. ap f (place i j))))
      ∙ sym (corners-line width times ring part r first)
    where
      part : ℕ → ℕ
      part i = value_of times (λ j. f (i * 2 ^ length others + j)) others

      half : 2 ^ length (first ++ others) ≡ 2 ^ length first * 2 ^ length others
      half = ap (λ (m : ℕ). 2 ^ m) (length-append first others) ∙ pow-add 2 (length first) (length others)

      place : (i j : ℕ) → 2 ^ length (first ++ others) + (i * 2 ^ length others + j) ≡ (2 ^ length first + i) * 2 ^ length others + j
      place i j = let split = add-mul (2 ^ length first) i (2 ^ length others) in let is = half in omega (arith, split, is)

  -- values of values may be taken in either order
  pub value-swap : (f : ℕ → ℕ → ℕ) → ((i p : ℕ) → f i p < 2 ^ width) → (first others : List ℕ)
      → value_of times (λ i. value_of times (f i) others) first ≡ value_of times (λ p. value_of times (λ i. f i p) first) others
  value-swap f fits [] others =
      value-none (λ i. value_of times (f i) others) (weighted-lt width times ring (f 0) (eq_corner times others) (2 ^ length others))
      ∙ value-same times (f 0) (λ p. value_of times (λ i. f i p) []) others (λ p below. sym (value-none (λ i. f i p) (fits 0 p)))
  value-swap f fits (r ∷ first) others =
      corners-line width times ring (λ i. value_of times (f i) others) r first
      ∙ ap₂ (on_line times r) (value-swap f fits first others)
      (value-swap (λ i. f (2 ^ length first + i)) (λ i p. fits (2 ^ length first + i) p) first others)
      ∙ sym (weighted-line width times ring r (λ p. value_of times (λ i. f i p) first) (λ p. value_of times (λ i. f (2 ^ length first + i) p) first)
      (eq_corner times others) (2 ^ length others))
      ∙ value-same times
      (λ p. on_line times r (value_of times (λ i. f i p) first) (value_of times (λ i. f (2 ^ length first + i) p) first))
      (λ p. value_of times (λ i. f i p) (r ∷ first)) others (λ p below. sym (corners-line width times ring (λ i. f i p) r first))

  -- a sum of the first values times their weights, where the others are 0
  pub value-first : (f g : ℕ → ℕ) (count : ℕ) (point : List ℕ) → count ≤ 2 ^ length point → ((i : ℕ) → i < count → g i ≡ f i)
      → ((i : ℕ) → count ≤ i → g i ≡ 0)
      → sum_below (λ i. times (eq_corner times point i) (f i)) count ≡ value_of times g point
  value-first f g count point room same none =
      sum_below-same (λ i. times (eq_corner times point i) (f i)) term count
      (λ i below. ring.comm (eq_corner times point i) (f i) ∙ ap (λ (v : ℕ). times v (eq_corner times point i)) (sym (same i below)))
      ∙ sym (xor_zero_r (sum_below term count))
      ∙ ap (bit_xor (sum_below term count))
      (sym (sum_below-zeros (λ i. term (count + i)) (2 ^ length point - count)
      (λ i below.
      ap (λ (v : ℕ). times v (eq_corner times point (count + i))) (none (count + i) (omega arith))
      ∙ zero-times width 1 times ring (eq_corner times point (count + i)))))
      ∙ sym (sum_below-add term count (2 ^ length point - count))
      ∙ ap (sum_below term) (let whole : count + (2 ^ length point - count) ≡ 2 ^ length point = omega (arith, room) in whole)
    where
      term : ℕ → ℕ
      term i = times (g i) (eq_corner times point i)

-- zeros behind a list change no value
pub padded-same : {F : Type 0} (repr : F → ℕ) (xs : List F) (nothing : F) → repr nothing ≡ 0 → (n i : ℕ)
    → slice_index (map repr (xs ++ replicate n nothing)) i ≡ slice_index (map repr xs) i
padded-same repr [] nothing is zero i = refl
padded-same repr [] nothing is (suc n) zero = is
padded-same repr [] nothing is (suc n) (suc i) = padded-same repr [] nothing is n i
padded-same repr (x ∷ xs) nothing is n zero = refl
padded-same repr (x ∷ xs) nothing is n (suc i) = padded-same repr xs nothing is n i

-- ---- rows of rows

-- value q of a row
pub row-value : (size : ℕ) (rows : List ℕ) (i q : ℕ) → q < size → slice_index (row_at size rows i) q ≡ slice_index rows (i * size + q)
row-value size rows i q below = get_or-take size (drop (i * size) rows) q 0 below ∙ get_or-drop (i * size) rows q 0

-- a row of a row of so many rows is one of all rows
pub row-row : (size height : ℕ) (rows : List ℕ) (i j : ℕ) → j < height → row_at size (row_at (height * size) rows i) j ≡ row_at size rows (i * height + j)
row-row size height rows i j below =
    ap (λ (n : ℕ). take size (drop (j * size) (take n (drop (i * (height * size)) rows)))) whole
    ∙ ap (take size) (drop-take (j * size) (height * size - j * size) (drop (i * (height * size)) rows))
    ∙ take-take size (height * size - j * size) (drop (j * size) (drop (i * (height * size)) rows)) (omega (arith, room))
    ∙ ap (take size) (drop-drop (j * size) (i * (height * size)) rows ∙ ap (λ (n : ℕ). drop n rows) place)
  where
    room : j * size + size ≤ height * size
    room =
        let more : j + 1 ≤ height = omega (arith, below) in
        let all = mul-le-mul_right size more in
        let next = add-mul j 1 size in
        let one = one-mul size in
        omega (arith, all, next, one)

    whole : height * size ≡ j * size + (height * size - j * size)
    whole = let enough = room in omega (arith, enough)

    place : i * (height * size) + j * size ≡ (i * height + j) * size
    place = let parts = add-mul (i * height) j size in let same = mul_assoc i height size in omega (arith, parts, same)

-- place p of row j of row i
pub place-parts : (i height j size p : ℕ) → (i * height + j) * size + p ≡ i * (height * size) + (j * size + p)
place-parts i height j size p =
    let parts = add-mul (i * height) j size in
    let same = mul_assoc i height size in
    omega (arith, parts, same)

-- ---- columns of all tables

module _ (count height : ℕ) (column : ℕ → ℕ → List ℕ) (p : ℕ) where
  pub stacked-length : length (stacked count height column p) ≡ count * height
  stacked-length = length-map-range_with_len (λ j. slice_index (column (j / height) p) (j % height)) 0 (count * height)

  pub stacked-place : (x : ℕ) → x < count * height → slice_index (stacked count height column p) x ≡ slice_index (column (x / height) p) (x % height)
  stacked-place x below =
      get_or-map-range_with_len (λ j. slice_index (column (j / height) p) (j % height)) 0 (count * height) x x 0 below (omega arith)

  pub stacked-past : (x : ℕ) → count * height ≤ x → slice_index (stacked count height column p) x ≡ 0
  stacked-past x past = get_or_past (stacked count height column p) x 0 (let long = stacked-length in omega (arith, long, past))

  -- symbol j of table i
  pub stacked-at : (i j : ℕ) → i < count → j < height → slice_index (stacked count height column p) (i * height + j) ≡ slice_index (column i p) j
  stacked-at i j below inside =
      stacked-place (i * height + j) (subst (λ (m : ℕ). i * height + j < m) (mul_comm height count) (mul-add-lt i height j count below inside))
      ∙ ap₂ (λ (a b : ℕ). slice_index (column a p) b) (div-mul-add i height j inside) (mod-mul-add i height j inside)

  -- and none of the tables that there are not
  pub stacked-none : (i j : ℕ) → count ≤ i → slice_index (stacked count height column p) (i * height + j) ≡ 0
  stacked-none i j past =
      stacked-past (i * height + j) (let more = mul-le-mul_right height past in omega (arith, more))

-- what holds of each symbol of a column of all tables that is one of a table, and of 0
stacked-each : (P : ℕ → Type 0) (count height : ℕ) (column : ℕ → ℕ → List ℕ) (p : ℕ) → P 0
    → ((i j : ℕ) → i < count → P (slice_index (column i p) j)) → (x : ℕ) → P (slice_index (stacked count height column p) x)
stacked-each P count height column p none each x = pick (cases_lt x (count * height)) (cases_lt 0 height)
  where
    pick : (x < count * height) ⊎ (count * height ≤ x) → (0 < height) ⊎ (height ≤ 0) → P (slice_index (stacked count height column p) x)
    pick (inl below) (inl some) =
        subst P (sym (stacked-place count height column p x below))
        (each (x / height) (x % height) ((div-lt_iff_lt-mul {k = height} {x = x} {y = count} some).1 below))
    pick (inl below) (inr flat) =
        let empty : height ≡ 0 = omega (arith, flat) in
        absurd (let no : x < count * 0 = subst (λ (h : ℕ). x < count * h) empty below in omega (arith, no))
    pick (inr past) some = subst P (sym (stacked-past count height column p x past)) none

pub stacked-fits : (width count height : ℕ) (column : ℕ → ℕ → List ℕ) (p : ℕ)
    → ((i j : ℕ) → i < count → slice_index (column i p) j < 2 ^ width) → (x : ℕ) → slice_index (stacked count height column p) x < 2 ^ width
stacked-fits width count height column p fits x = stacked-each (λ (v : ℕ). v < 2 ^ width) count height column p (pow_pos width) fits x

-- columns of all tables are the same where those of each table are
pub stacked-same : (count height : ℕ) (column other : ℕ → ℕ → List ℕ) (p q : ℕ) → ((i : ℕ) → i < count → column i p ≡ other i q)
    → stacked count height column p ≡ stacked count height other q
stacked-same count height column other p q same =
    same_number_lists (stacked count height column p) (stacked count height other q)
    (stacked-length count height column p ∙ sym (stacked-length count height other q))
    (λ x within.
    let below : x < count * height = subst (λ (m : ℕ). x < m) (stacked-length count height column p) within in
    stacked-place count height column p x below ∙ ap (λ (l : List ℕ). slice_index l (x % height)) (pick x below (cases_lt 0 height))
    ∙ sym (stacked-place count height other q x below))
  where
    pick : (x : ℕ) → x < count * height → (0 < height) ⊎ (height ≤ 0) → column (x / height) p ≡ other (x / height) q
    pick x below (inl some) = same (x / height) ((div-lt_iff_lt-mul {k = height} {x = x} {y = count} some).1 below)
    pick x below (inr flat) =
        let empty : height ≡ 0 = omega (arith, flat) in
        absurd (let no : x < count * 0 = subst (λ (h : ℕ). x < count * h) empty below in omega (arith, no))

-- the columns of one table alone are its own
pub stacked-one : (height : ℕ) (column : ℕ → ℕ → List ℕ) (p : ℕ) → length (column 0 p) ≡ height → stacked 1 height column p ≡ column 0 p
stacked-one height column p long =
    same_number_lists (stacked 1 height column p) (column 0 p) (all ∙ sym long)
    (λ x within.
    ap (slice_index (stacked 1 height column p)) (let place : x ≡ 0 * height + x = omega arith in place)
    ∙ stacked-at 1 height column p 0 x (omega arith) (subst (λ (n : ℕ). x < n) all within))
  where
    all : length (stacked 1 height column p) ≡ height
    all = stacked-length 1 height column p ∙ one-mul height

-- the value of a column of all tables is that at the challenges of the values of the tables' columns, and of zeros
pub stacked-value : (width : ℕ) (times : ℕ → ℕ → ℕ) → IsRing width 1 times → (count : ℕ) (column : ℕ → ℕ → List ℕ) (p : ℕ)
    (challenges point : List ℕ) (value : ℕ → ℕ) → ((i : ℕ) → i < count → value i ≡ multilinear_value times (column i p) point)
    → ((i : ℕ) → count ≤ i → value i ≡ 0)
    → multilinear_value times (stacked count (2 ^ length point) column p) (challenges ++ point) ≡ value_of times value challenges
stacked-value width times ring count column p challenges point value here past =
    value-parts width times ring (slice_index (stacked count (2 ^ length point) column p)) challenges point
    ∙ value-same times
    (λ i. value_of times (λ j. slice_index (stacked count (2 ^ length point) column p) (i * 2 ^ length point + j)) point) value challenges
    (λ i below. pick i (cases_lt i count))
  where
    pick : (i : ℕ) → (i < count) ⊎ (count ≤ i)
        → value_of times (λ j. slice_index (stacked count (2 ^ length point) column p) (i * 2 ^ length point + j)) point ≡ value i
    pick i (inl below) =
        value-same times (λ j. slice_index (stacked count (2 ^ length point) column p) (i * 2 ^ length point + j)) (slice_index (column i p))
        point (λ j inside. stacked-at count (2 ^ length point) column p i j below inside)
        ∙ sym (here i below)
    pick i (inr over) =
        value-zero width times ring (λ j. slice_index (stacked count (2 ^ length point) column p) (i * 2 ^ length point + j)) point
        (λ j inside. stacked-none count (2 ^ length point) column p i j over)
        ∙ sym (past i over)

-- ---- what holds of each of so many

-- a choice for each of so many is a function
pub choose : {X : Type 0} (d : X) (A : ℕ → X → Type 0) (n : ℕ) → ((i : ℕ) → i < n → (x : X) × A i x)
    → (f : ℕ → X) × ((i : ℕ) → i < n → A i (f i))
choose d A zero each = ((λ i. d), λ i below. absurd (omega (arith, below)))
choose {X} d A (suc n) each =
    joined (each 0 (omega arith)) (choose d (λ i. A (suc i)) n (λ i below. each (suc i) (omega (arith, below))))
  where
    joined : ((x : X) × A 0 x) → ((f : ℕ → X) × ((i : ℕ) → i < n → A (suc i) (f i))) → (f : ℕ → X) × ((i : ℕ) → i < suc n → A i (f i))
    joined first rest = (f, holds)
      where
        f : ℕ → X
        f zero = first.0
        f (suc i) = rest.0 i

        holds : (i : ℕ) → i < suc n → A i (f i)
        holds zero below = first.1
        holds (suc i) below = rest.1 i (omega (arith, below))

-- each has the one, or one of them has the other
pub each-or : (A B : ℕ → Type 0) (n : ℕ) → ((i : ℕ) → i < n → A i ⊎ B i) → ((i : ℕ) → i < n → A i) ⊎ ((i : ℕ) × (i < n) × B i)
each-or A B zero each = inl (λ i below. absurd (omega (arith, below)))
each-or A B (suc n) each = joined (each-or A B n (λ i below. each i (omega (arith, below)))) (each n (omega arith))
  where
    joined : ((i : ℕ) → i < n → A i) ⊎ ((i : ℕ) × (i < n) × B i) → A n ⊎ B n → ((i : ℕ) → i < suc n → A i) ⊎ ((i : ℕ) × (i < suc n) × B i)
    joined (inr found) last = inr (found.0, omega (arith, found.1), found.2)
    joined (inl before) (inr last) = inr (n, omega arith, last)
    joined (inl before) (inl last) =
        inl (λ i below. elim (cases_lt i n) [
          | inl lower ↦ before i lower
          | inr upper ↦ let end : n ≡ i = omega (arith, below, upper) in subst A end last
        ])
