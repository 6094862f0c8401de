-- For how many challenges and places a prover that cheats is accepted.
use Rattle.std.proofs.Common.{◌≡◌, ◌⊎◌, inl, inr, ℕ, zero, suc, ◌+◌, ◌-◌, ◌*◌, ◌%◌, ◌^◌, ◌<◌, ◌≤◌, Bool, true, false, cond, List, [], ◌∷◌, ◌++◌}
use Rattle.std.proofs.Common.{append_assoc, length, take, drop, refl, sym, ◌∙◌, ap, ap₂, subst, le_trans, arith, eq-eqb, eqb-true}
use Rattle.std.specs.Prelude.{◌≢◌, ◌&&◌, ◌||◌, bit_xor, max, nat_eq, not, slice_index}
use Rattle.std.proofs.Math.Nat.{le-max_left, le-max_right, mul-le-mul_left, mul-le-mul_right, pow-le-pow_left, pow-suc}
use Rattle.std.proofs.lemmas.Bool.{cases_lt}
use Rattle.std.proofs.lemmas.Bool.Decides.{eqb_tells}
use Rattle.std.proofs.lemmas.List.{length-drop, length-take-le, take-append-drop, take_at}
use Rattle.std.proofs.lemmas.List.FromFn.{get_or-map-range_with_len, length-map-range_with_len}
use Rattle.std.proofs.lemmas.Nat.{mul-pow, pow-add, xor_comm, xor_lt}
use native.Mathlib.Nat.{mod-eq_of_lt}
use lib.Bits.{xor_self, xor_zero_r}
use Rattle.field_base.specs.Basis.{sum_below}
use Rattle.field_base.specs.Field.{IsField}
use Rattle.field_base.specs.Orders.{AreCantorVectors}
use Rattle.field_base.proofs.RingLemmas.{xor_nothing}
use Rattle.field_slices.specs.Multilinear.{eq_corner, multilinear_value, on_line}
use Rattle.field_slices.proofs.CornerSums.{corners-line, weighted-lt}
use Rattle.transcripts.specs.Commitments.{row_at}
use Rattle.field_slices.specs.Blocks.{blocks_unmarked}
use Rattle.field_slices.specs.Codes.{HasDistance, HasGap, HaveSymbols, IsNear}
use Rattle.field_slices.specs.Folds.{rows_folded}
use Rattle.field_slices.specs.Marks.{marked_below, total}
use Rattle.field_slices.specs.Openings.{AreNumbersBelow, misses, sum_lists}
use Rattle.field_slices.proofs.Blocks.{few_blocks_miss}
use Rattle.field_slices.proofs.Counts.{enumerated, few-large, few_points_fold_near, lists-add, lists-constant, lists-most, lists-split}
use Rattle.field_slices.proofs.Counts.{lists-times, near-test, near_test, test-near, total-same_number}
use Rattle.field_slices.proofs.Deciding.{near-decided}
use Rattle.field_slices.proofs.Openings.{little-missed, near-row}
use Rattle.sum_checks.specs.SumcheckClaims.{reduced_claim}
use Rattle.sum_checks.specs.Terms.{table_value, terms_value}
use Rattle.sum_checks.specs.ZeroCheck.{IsNonzeroLine, LinesHaveOneRoot}
use Rattle.protocols.specs.CodeDistances.{point_generator}
use Rattle.protocols.specs.CommitmentScheme.{block_places, matrix_rows, place_bits, place_count, row_levels, word_levels}
use Rattle.protocols.specs.OpenedTables.{AreColumnsOf, CommitsTo, column_symbol}
use Rattle.protocols.specs.SoundnessErrors.{sent_messages}
use Rattle.protocols.proofs.JointTables.{part-commits}
use Rattle.protocols.proofs.OpenedTables.{code-distance, code-word-of, commits, row-value, row-values, table}
use Rattle.protocols.proofs.SoundnessErrors.{MissesFew, at-most-one, few_runs_save, seldom-or-near}
use Rattle.protocols.proofs.StackedTables.{row-value as part-value, stacked-fits, value-parts, value-same, value-sum, value_of}
use Rattle.protocols.specs.ProductSums.{interleaved, product_terms}
use Rattle.protocols.proofs.ProductSums.{tables-shape, values-product}
use Rattle.prove_sums.specs.SoundnessErrors.{Cheats, FewCheatsSucceed, Prover, accepted_runs, both_columns, joint_column}

-- the places of numbers below the length of a block
pub placed : (bits q : ℕ) (numbers : List ℕ) → AreNumbersBelow q (2 ^ bits) numbers
    → (length (block_places bits numbers) ≡ length numbers)
    × ((i : ℕ) → i < length numbers → slice_index (block_places bits numbers) i ≡ i * 2 ^ bits + slice_index numbers i)
placed bits q numbers are = (
  length-map-range_with_len (λ i. i * 2 ^ bits + slice_index numbers i % 2 ^ bits) 0 (length numbers),
  λ i inside.
      get_or-map-range_with_len (λ i. i * 2 ^ bits + slice_index numbers i % 2 ^ bits) 0 (length numbers) i i 0 inside
      (omega arith)
      ∙ ap (λ (v : ℕ). i * 2 ^ bits + v) (mod-eq_of_lt (are.below i (subst (λ (v : ℕ). i < v) are.count inside))),
)

-- ---- sums over lists

-- a sum over lists of sums over numbers is that over numbers of the sums over lists
lists-total : (q bound n : ℕ) (f : ℕ → List ℕ → ℕ) → sum_lists q bound (λ xs. total (λ x. f x xs) n) ≡ total (λ x. sum_lists q bound (f x)) n
unfolding total
lists-total q bound zero f = lists-constant q bound 0 ∙ nothing (bound ^ q)
  where
    nothing : (v : ℕ) → v * 0 ≡ 0
    nothing v = omega arith
lists-total q bound (suc n) f =
    lists-add q bound (λ xs. total (λ x. f x xs) n) (f n) ∙ ap (λ (v : ℕ). v + sum_lists q bound (f n)) (lists-total q bound n f)

-- lists of q numbers and one more, which may be drawn before the others
drawn-first : (q bound : ℕ) (f : List ℕ → List ℕ → ℕ)
    → sum_lists q bound (λ xs. sum_lists 1 bound (f xs)) ≡ sum_lists (suc q) bound (λ draws. f (drop 1 draws) (take 1 draws))
unfolding sum_lists
drawn-first q bound f = lists-total q bound bound (λ x xs. f xs (x ∷ []))

-- numbers and one before them
one-less : (a b : ℕ) → suc a ≡ suc b → a ≡ b
one-less a b is = omega (arith, is)

tail-below : (q bound : ℕ) (draws : List ℕ) → AreNumbersBelow (suc q) bound draws → AreNumbersBelow q bound (drop 1 draws)
tail-below q bound [] are = absurd (let none = are.count in omega (arith, none))
tail-below q bound (x ∷ xs) are = record { count = one-less (length xs) q are.count; below = λ i inside. are.below (suc i) (omega (arith, inside)) }

head-below : (q bound : ℕ) (draws : List ℕ) → AreNumbersBelow (suc q) bound draws → AreNumbersBelow 1 bound (take 1 draws)
head-below q bound [] are = absurd (let none = are.count in omega (arith, none))
head-below q bound (x ∷ xs) are = record { count = refl; below = at }
  where
    at : (i : ℕ) → i < 1 → slice_index (x ∷ []) i < bound
    at zero inside = are.below 0 (omega arith)
    at (suc i) inside = absurd (omega (arith, inside))

-- a test of which one of two tests holds wherever it does
either-most : (a b : Bool) → cond (a || b) 1 0 ≤ cond a 1 0 + cond b 1 0
either-most true b = omega arith
either-most false b = omega arith

one-true : (a b : Bool) → (a ≡ true) ⊎ (b ≡ true) → (a || b) ≡ true
one-true true b holds = refl
one-true false true holds = refl
one-true false false (inl none) = none
one-true false false (inr none) = none

-- ---- points that fold to near words

-- At most h lucky / F of all points fold a matrix that is not near to a near word, by their first h coordinates.
module _ (width : ℕ) (times : ℕ → ℕ → ℕ) (wide : 0 < width) (field : IsField width times) (size n d : ℕ)
    (generator : ℕ → ℕ → ℕ)
    (distance : HasDistance times size n generator d) (e lucky h k : ℕ) (word : ℕ → ℕ → ℕ) (few : 2 * e < d)
    (gap : HasGap width times size n generator e lucky) (fits : HaveSymbols width n (2 ^ h) word) where
  -- the test of a point's first coordinates
  abbrev pub folds_near : List ℕ → Bool
  folds_near point = near_test width times wide field size n generator e 1 (rows_folded times h (take h point) word)

  pub few-fold : (IsNear times size n generator e (2 ^ h) word → ⊥)
      → 2 ^ width * sum_lists (h + k) (2 ^ width) (λ point. cond (folds_near point) 1 0)
      ≤ h * lucky * (2 ^ width) ^ (h + k)
  few-fold far =
      joined (2 ^ width) (sum_lists (h + k) (2 ^ width) (λ point. cond (folds_near point) 1 0))
      (sum_lists h (2 ^ width) (λ first. (2 ^ width) ^ k * cond (near first) 1 0))
      (sum_lists h (2 ^ width) (λ first. cond (near first) 1 0))
      ((2 ^ width) ^ k) ((2 ^ width) ^ h) ((2 ^ width) ^ (h + k)) (h * lucky)
      (subst (λ (v : ℕ). v ≤ sum_lists h (2 ^ width) (λ first. (2 ^ width) ^ k * cond (near first) 1 0))
      (sym (lists-split h k (2 ^ width) (λ point. cond (folds_near point) 1 0)))
      (lists-most h (2 ^ width) (λ first. sum_lists k (2 ^ width) (λ others. cond (folds_near (first ++ others)) 1 0))
      (λ first. (2 ^ width) ^ k * cond (near first) 1 0) each))
      (lists-times h (2 ^ width) ((2 ^ width) ^ k) (λ first. cond (near first) 1 0))
      (few_points_fold_near width times size n d generator wide field distance e lucky h word few gap fits far near
      (λ point long is. test-near width times wide field size n generator e 1 (rows_folded times h point word) is))
      (pow-add (2 ^ width) h k)
    where
      near : List ℕ → Bool
      near point = near_test width times wide field size n generator e 1 (rows_folded times h point word)

      first-of : (first others : List ℕ) → length first ≡ h → take h (first ++ others) ≡ first
      first-of first others long = take_at first others h long

      each : (first : List ℕ) → length first ≡ h
          → sum_lists k (2 ^ width) (λ others. cond (folds_near (first ++ others)) 1 0)
          ≤ (2 ^ width) ^ k * cond (near first) 1 0
      each first long =
          let most =
          lists-most k (2 ^ width) (λ others. cond (folds_near (first ++ others)) 1 0) (λ others. cond (near first) 1 0)
          (λ others some. same others) in
          let all = lists-constant k (2 ^ width) (cond (near first) 1 0) in
          omega (arith, most, all)
        where
          same : (others : List ℕ) → cond (folds_near (first ++ others)) 1 0 ≤ cond (near first) 1 0
          same others =
              subst (λ l. cond (near l) 1 0 ≤ cond (near first) 1 0) (sym (first-of first others long)) (omega arith)

      joined : (f all scaled some tail head whole luck : ℕ) → all ≤ scaled → scaled ≡ tail * some → f * some
          ≤ luck * head
          → whole ≡ head * tail → f * all ≤ luck * whole
      joined f all scaled some tail head whole luck less is few_is parts =
          let one = mul-le-mul_left f less in
          let other = mul-le-mul_right tail few_is in
          let goal : luck * whole ≡ luck * head * tail = ap (λ (v : ℕ). luck * v) parts ∙ omega arith in
          let turned : f * scaled ≡ f * some * tail = ap (λ (v : ℕ). f * v) is ∙ omega arith in
          omega (arith, one, other, goal, turned)

-- ---- the challenge that combines values

-- By two differences of values that are not both 0, at most one challenge combines them to 0.
module _ (lines : LinesHaveOneRoot) (width : ℕ) (times : ℕ → ℕ → ℕ) (wide : 0 < width) (field : IsField width times) (v w : ℕ) (v_fits : v < 2 ^ width)
    (w_fits : w < 2 ^ width) where
  -- the differences are not both 0, and a challenge combines them to 0
  abbrev pub combines : ℕ → Bool
  combines x = not (nat_eq v 0 && nat_eq w 0) && nat_eq (on_line times x v w) 0

  nonzero : (a b : Bool) → nat_eq v 0 ≡ a → nat_eq w 0 ≡ b → not (a && b) ≡ true → IsNonzeroLine v w
  nonzero true true one other none = absurd (let no : false ≡ true = none in absurd (cc))
  nonzero false b one other some = inl (λ zero_is. let no : false ≡ true = sym one ∙ eq-eqb v 0 zero_is in absurd (cc))
  nonzero true false one other some = inr (λ zero_is. let no : false ≡ true = sym other ∙ eq-eqb w 0 zero_is in absurd (cc))

  both-true : (a b : Bool) → (a && b) ≡ true → (a ≡ true) × (b ≡ true)
  both-true true b is = (refl, is)
  both-true false b is = absurd (let no : false ≡ true = is in absurd (cc))

  pub few-combine : marked_below combines (2 ^ width) ≤ 1
  few-combine = pick (cases_lt 1 (marked_below combines (2 ^ width)))
    where
      numbered : (x : ℕ → ℕ)
          × ((i : ℕ) → i < marked_below combines (2 ^ width) → (x i < 2 ^ width) × (combines (x i) ≡ true))
          × ((i j : ℕ) → i < marked_below combines (2 ^ width) → j < marked_below combines (2 ^ width) → x i ≡ x j → i ≡ j)
      numbered = enumerated combines (2 ^ width)

      root : (x : ℕ) → combines x ≡ true → on_line times x v w ≡ 0
      root x is = eqb-true (on_line times x v w) 0 (both-true (not (nat_eq v 0 && nat_eq w 0)) (nat_eq (on_line times x v w) 0) is).1

      line : (x : ℕ) → combines x ≡ true → IsNonzeroLine v w
      line x is =
          nonzero (nat_eq v 0) (nat_eq w 0) refl refl (both-true (not (nat_eq v 0 && nat_eq w 0)) (nat_eq (on_line times x v w) 0) is).0

      pick : (1 < marked_below combines (2 ^ width)) ⊎ (marked_below combines (2 ^ width) ≤ 1) → marked_below combines (2 ^ width) ≤ 1
      pick (inr few) = few
      pick (inl many) =
          let some : 0 < marked_below combines (2 ^ width) = omega (arith, many) in
          let first = numbered.1 0 some in
          let second = numbered.1 1 many in
          let same : 0 ≡ 1 =
          numbered.2 0 1 some many
          (lines width times v w (numbered.0 0) (numbered.0 1) field wide v_fits w_fits first.0 second.0
          (line (numbered.0 0) first.1) (root (numbered.0 0) first.1) (root (numbered.0 1) second.1)) in
          absurd (omega (arith, same))

-- the value at no coordinates
value-none : (width : ℕ) (times : ℕ → ℕ → ℕ) → IsField width times → (f : ℕ → ℕ) → f 0 < 2 ^ width → value_of times f [] ≡ f 0
unfolding sum_below eq_corner
value-none width times field f fits =
    xor_comm 0 (times (f 0) 1) ∙ xor_zero_r (times (f 0) 1) ∙ field.ring.comm (f 0) 1 ∙ field.ring.one (f 0) ∙ mod-eq_of_lt fits

-- the value of two values at one challenge is on their line
line-value : (width : ℕ) (times : ℕ → ℕ → ℕ) → 0 < width → IsField width times → (f : ℕ → ℕ) → f 0 < 2 ^ width → f 1 < 2 ^ width → (x : ℕ)
    → value_of times f (x ∷ []) ≡ on_line times x (f 0) (f 1)
line-value width times wide field f one other x =
    corners-line width times field.ring f x []
    ∙ ap₂ (on_line times x) (value-none width times field f one) (value-none width times field (λ i. f (2 ^ 0 + i)) other)

-- ---- both tables

-- `weight` times the lists of numbers are at most `large`, and those that miss more than e places at most `small`
module _ (lines : LinesHaveOneRoot) (width : ℕ) (times : ℕ → ℕ → ℕ) (vector : ℕ → ℕ) (wide : 2 ≤ width) (field : IsField width times)
    (vectors : AreCantorVectors width times vector) (fit : (b : ℕ) → b < width → vector b < 2 ^ width) (m n e lucky : ℕ)
    (deep : word_levels m n ≤ width) (radius : 2 * e + 2 ^ row_levels m n ≤ 2 ^ 2 * 2 ^ row_levels m n)
    (gap : HasGap width times (2 ^ row_levels m n) (2 ^ 2 * 2 ^ row_levels m n)
    (point_generator width times vector (row_levels m n)) e lucky)
    (left right : ℕ → List ℕ) (sum : ℕ) (prover : Prover) (accepted : List ℕ → List ℕ → List ℕ → Bool)
    (cheats : Cheats width times vector m n e left right sum prover accepted) (weight large small : ℕ)
    (whole : weight * (2 ^ place_bits m n) ^ place_count m n ≤ large)
    (seldom : (marked : ℕ → Bool) → e < marked_below marked (2 ^ 2 * 2 ^ row_levels m n)
    → weight * sum_lists (place_count m n) (2 ^ place_bits m n)
    (λ numbers. cond (blocks_unmarked (2 ^ place_bits m n) marked 0 numbers) 1 0) ≤ small)
  where
    abbrev h : ℕ
    h = matrix_rows m n

    abbrev k : ℕ
    k = row_levels m n

    -- the challenge that combines the tables is drawn first, which changes no count
    abbrev point_of : List ℕ → List ℕ
    point_of draws = drop 1 draws

    abbrev combining_of : List ℕ → List ℕ
    combining_of draws = take 1 draws

    -- what folds the columns of both tables
    abbrev folding : List ℕ → List ℕ
    folding draws = combining_of draws ++ take h (point_of draws)

    abbrev runs_at : List ℕ → ℕ
    runs_at draws =
        weight * sum_lists (place_count m n) (2 ^ place_bits m n) (λ numbers. cond (accepted (point_of draws) (combining_of draws) numbers) 1 0)

    abbrev most : ℕ
    most = max (suc (2 * n)) (suc h * lucky)

    parts : h + k ≡ n
    parts = omega arith

    all-parts : suc h + k ≡ suc n
    all-parts = let all = parts in omega (arith, all)

    some_width : 0 < width
    some_width = omega (arith, wide)

    some : 2 ^ k ≤ 2 ^ 2 * 2 ^ k
    some = omega arith

    little : 2 * e < 2 ^ 2 * 2 ^ k + 1 - 2 ^ k
    little = omega (arith, radius)

    distance : HasDistance times (2 ^ k) (2 ^ 2 * 2 ^ k) (point_generator width times vector k)
        (2 ^ 2 * 2 ^ k + 1 - 2 ^ k)
    distance = code-distance width times vector some_width field vectors fit k 2 deep some

    -- the columns of both, one above the other
    abbrev column : ℕ → List ℕ
    column = joint_column (2 ^ h) left right

    both-fit : (p i j : ℕ) → p < 2 ^ 2 * 2 ^ k → i < 2 → slice_index (both_columns left right i p) j < 2 ^ width
    both-fit p zero j inside below = cheats.left_fits p j inside
    both-fit p (suc i) j inside below = cheats.right_fits p j inside

    column-fits : AreColumnsOf width (2 ^ 2 * 2 ^ k) column
    column-fits p i inside = stacked-fits width 2 (2 ^ h) (both_columns left right) p (λ t j below. both-fit p t j inside below) i

    symbols-fit : HaveSymbols width (2 ^ 2 * 2 ^ k) (2 ^ suc h) (column_symbol column)
    symbols-fit i p below inside = column-fits p i inside

    abbrev Near : Type 0
    Near = IsNear times (2 ^ k) (2 ^ 2 * 2 ^ k) (point_generator width times vector k) e (2 ^ suc h) (column_symbol column)

    -- ---- draws

    folding-long : (draws : List ℕ) → length draws ≡ suc n → length (folding draws) ≡ suc h
    folding-long [] long = absurd (omega (arith, long))
    folding-long (x ∷ xs) long = ap suc (length-take-le h xs (let all = parts in omega (arith, long, all)))

    folding-first : (draws : List ℕ) → length draws ≡ suc n → take (suc h) draws ≡ folding draws
    folding-first [] long = absurd (omega (arith, long))
    folding-first (x ∷ xs) long = refl

    point-long : (draws : List ℕ) → length draws ≡ suc n → length (point_of draws) ≡ n
    point-long [] long = absurd (omega (arith, long))
    point-long (x ∷ xs) long = one-less (length xs) n long

    others-long : (point : List ℕ) → length point ≡ n → length (drop h point) ≡ k
    others-long point long = let behind = length-drop h point in let all = parts in omega (arith, behind, long, all)

    all-at : (draws : List ℕ) → runs_at draws ≤ large
    all-at draws =
        let most =
        lists-most (place_count m n) (2 ^ place_bits m n) (λ numbers. cond (accepted (point_of draws) (combining_of draws) numbers) 1 0)
        (λ numbers. 1) (λ numbers long. at-most-one (accepted (point_of draws) (combining_of draws) numbers)) in
        let count = lists-constant (place_count m n) (2 ^ place_bits m n) 1 in
        le_trans
        (mul-le-mul_left weight
        (within
        (sum_lists (place_count m n) (2 ^ place_bits m n) (λ numbers. cond (accepted (point_of draws) (combining_of draws) numbers) 1 0))
        (sum_lists (place_count m n) (2 ^ place_bits m n) (λ numbers. 1))
        ((2 ^ place_bits m n) ^ place_count m n) most count)) whole
      where
        within : (a b c : ℕ) → a ≤ b → b ≡ c * 1 → a ≤ c
        within a b c less is = omega (arith, less, is)

    small-at : (draws : List ℕ) (bad : Bool) → runs_at draws ≤ small → runs_at draws ≤ large * cond bad 1 0 + small
    small-at draws bad less = roomy (runs_at draws) (large * cond bad 1 0) less
      where
        roomy : (a b : ℕ) → a ≤ small → a ≤ b + small
        roomy a b is = omega (arith, is)

    large-at : (draws : List ℕ) (bad : Bool) → bad ≡ true → runs_at draws ≤ large * cond bad 1 0 + small
    large-at draws bad is =
        subst (λ (b : Bool). runs_at draws ≤ large * cond b 1 0 + small) (sym is) (roomy (runs_at draws) (all-at draws))
      where
        roomy : (a : ℕ) → a ≤ large → a ≤ large * 1 + small
        roomy a less = omega (arith, less)

    -- draws where the row misses few of the columns
    abbrev Few : List ℕ → Type 0
    Few draws = MissesFew width times vector k 2 e (place_count m n) (2 ^ place_bits m n) column (folding draws)
        (prover.row (point_of draws) (combining_of draws)) (accepted (point_of draws) (combining_of draws))

    found : (draws : List ℕ) → AreNumbersBelow (suc n) (2 ^ width) draws → (runs_at draws ≤ small) ⊎ Few draws
    found draws are =
        seldom-or-near width times vector some_width field vectors fit k 2 deep some e (place_count m n)
        (2 ^ place_bits m n) weight small
        (block_places (place_bits m n)) (λ numbers below. placed (place_bits m n)
        (place_count m n) numbers below) seldom column (folding draws) (prover.row (point_of draws) (combining_of draws)) column-fits
        (accepted (point_of draws) (combining_of draws))
        (λ numbers below is.
        (cheats.tests (point_of draws) (combining_of draws) numbers (tail-below n (2 ^ width) draws are) (head-below n (2 ^ width) draws are)
        below is).agrees)

    -- with the number of rows as 2 ^ (h + 1)
    few-at : (draws : List ℕ) → length draws ≡ suc n → (v : Few draws)
        → marked_below (misses times (suc h) (column_symbol column) (folding draws) (slice_index v.word)) (2 ^ 2 * 2 ^ k) ≤ e
    few-at draws long v =
        subst (λ (j : ℕ). marked_below (misses times j (column_symbol column) (folding draws) (slice_index v.word))
        (2 ^ 2 * 2 ^ k) ≤ e)
        (folding-long draws long) v.few

    -- ---- columns that are far from those of every table

    abbrev test : List ℕ → Bool
    test =
        folds_near width times some_width field (2 ^ k) (2 ^ 2 * 2 ^ k) (2 ^ 2 * 2 ^ k + 1 - 2 ^ k)
        (point_generator width times vector k) distance e
        lucky (suc h) k (column_symbol column) little gap symbols-fit

    test-holds : (draws : List ℕ) → length draws ≡ suc n → Few draws → test draws ≡ true
    test-holds draws long v =
        near-test width times some_width field (2 ^ k) (2 ^ 2 * 2 ^ k) (point_generator width times vector k) e 1
        (rows_folded times (suc h) (take (suc h) draws) (column_symbol column))
        (subst (λ (l : List ℕ). IsNear times (2 ^ k) (2 ^ 2 * 2 ^ k) (point_generator width times vector k) e 1
        (rows_folded times (suc h) l (column_symbol column))) (sym (folding-first draws long))
        (near-row width times some_width field (2 ^ k) (2 ^ 2 * 2 ^ k) (2 ^ 2 * 2 ^ k + 1 - 2 ^ k)
        (point_generator width times vector k) distance e (suc h)
        (column_symbol column) (folding draws) (slice_index v.word)
        (code-word-of width times vector k 2 v.word v.code_word) (few-at draws long v)))

    far-runs : (Near → ⊥)
        → 2 ^ width * sum_lists (suc n) (2 ^ width) runs_at
        ≤ most * (2 ^ width) ^ suc n * large + 2 ^ width * ((2 ^ width) ^ suc n * small)
    far-runs far =
        few-large (suc n) (2 ^ width) large small (most * (2 ^ width) ^ suc n) runs_at test
        (λ draws are. at draws are (found draws are))
        (le_trans
        (subst (λ (v : ℕ). 2 ^ width * sum_lists v (2 ^ width) (λ draws. cond (test draws) 1 0)
        ≤ suc h * lucky * (2 ^ width) ^ v) all-parts
        (few-fold width times some_width field (2 ^ k) (2 ^ 2 * 2 ^ k) (2 ^ 2 * 2 ^ k + 1 - 2 ^ k)
        (point_generator width times vector k) distance e
        lucky (suc h) k (column_symbol column) little gap symbols-fit far))
        (mul-le-mul_right ((2 ^ width) ^ suc n) (le-max_right (suc (2 * n)) (suc h * lucky))))
      where
        at : (draws : List ℕ) → AreNumbersBelow (suc n) (2 ^ width) draws → (runs_at draws ≤ small) ⊎ Few draws
            → runs_at draws ≤ large * cond (test draws) 1 0 + small
        at draws are (inl less) = small-at draws (test draws) less
        at draws are (inr v) = large-at draws (test draws) (test-holds draws are.count v)

    -- ---- columns that are near those of two tables

    module _ (near : Near) where
      abbrev tables : List ℕ
      tables = table width times vector some_width field k 2 e column (suc h) some near

      tables-commit : CommitsTo width times vector k 2 e (2 ^ suc h) column tables
      tables-commit = commits width times vector some_width field k 2 e column (suc h) some near

      twice : 2 ^ suc h ≡ 2 * 2 ^ h
      twice = pow-suc 2 h ∙ turned (2 ^ h)
        where
          turned : (v : ℕ) → v * 2 ≡ 2 * v
          turned v = omega arith

      abbrev one_of : ℕ → List ℕ
      one_of i = row_at (2 ^ n) tables i

      size-n : 2 ^ h * 2 ^ k ≡ 2 ^ n
      size-n = sym (pow-add 2 h k) ∙ ap (λ (v : ℕ). 2 ^ v) parts

      each-commits : (i : ℕ) → i < 2 → CommitsTo width times vector k 2 e (2 ^ h) (both_columns left right i) (one_of i)
      each-commits i below =
          subst (λ (v : ℕ). CommitsTo width times vector k 2 e (2 ^ h) (both_columns left right i) (row_at v tables i)) size-n
          (part-commits width times vector k 2 e (2 ^ h) 2 2 (both_columns left right) tables
          (subst (λ (v : ℕ). CommitsTo width times vector k 2 e v column tables) twice tables-commit) i below (omega arith))

      abbrev one : List ℕ
      one = one_of 0

      abbrev other : List ℕ
      other = one_of 1

      one-commits : CommitsTo width times vector k 2 e (2 ^ h) left one
      one-commits = each-commits 0 (omega arith)

      other-commits : CommitsTo width times vector k 2 e (2 ^ h) right other
      other-commits = each-commits 1 (omega arith)

      one-size : length one ≡ 2 ^ n
      one-size = one-commits.size ∙ size-n

      same-size : length other ≡ length one
      same-size = other-commits.size ∙ sym one-commits.size

      -- a table's value at a point
      abbrev true_value : ℕ → List ℕ → ℕ
      true_value i point = multilinear_value times (one_of i) point

      true-fits : (i : ℕ) (point : List ℕ) → true_value i point < 2 ^ width
      true-fits i point = weighted-lt width times field.ring (slice_index (one_of i)) (eq_corner times point) (2 ^ length point)

      -- a row that misses few has at the last challenges what the values of both have at the one that combines
      row-at : (draws : List ℕ) → length draws ≡ suc n → Few draws
          → multilinear_value times (prover.row (point_of draws) (combining_of draws)) (drop h (point_of draws))
          ≡ value_of times (λ i. true_value i (point_of draws)) (combining_of draws)
      row-at draws long v =
          row-value width times vector some_width field k 2 e column (folding draws) (drop h (point_of draws))
          (prover.row (point_of draws) (combining_of draws)) tables (others-long (point_of draws) (point-long draws long))
          (subst (λ (j : ℕ). CommitsTo width times vector k 2 e (2 ^ j) column tables)
          (sym (folding-long draws long)) tables-commit)
          (row-values width times vector some_width field k 2 e column (suc h) some near (folding draws)
          (folding-long draws long) v.word (prover.row (point_of draws) (combining_of draws))
          v.code_word.size v.begins folds)
          ∙ ap (multilinear_value times tables) joined
          ∙ value-parts width times field.ring (slice_index tables) (combining_of draws) (point_of draws)
          ∙ value-same times (λ i. value_of times (λ j. slice_index tables (i * 2 ^ length (point_of draws) + j)) (point_of draws))
          (λ i. true_value i (point_of draws)) (combining_of draws) each
        where
          room : marked_below (misses times (suc h) (column_symbol column) (folding draws) (slice_index v.word))
              (2 ^ 2 * 2 ^ k) + e
              < 2 ^ 2 * 2 ^ k + 1 - 2 ^ k
          room = let few = few-at draws long v in let wide_enough = little in omega (arith, few, wide_enough)

          folds : (p : ℕ) → p < 2 ^ 2 * 2 ^ k
              → slice_index v.word p ≡ rows_folded times (length (folding draws)) (folding draws) near.matrix 0 p
          folds p inside =
              little-missed width times some_width field (2 ^ k) (2 ^ 2 * 2 ^ k) (2 ^ 2 * 2 ^ k + 1 - 2 ^ k)
              (point_generator width times vector k) distance
              e (suc h) (column_symbol column) (folding draws) (slice_index v.word)
              (code-word-of width times vector k 2 v.word v.code_word) near room p
              inside
              ∙ ap (λ (j : ℕ). rows_folded times j (folding draws) near.matrix 0 p) (sym (folding-long draws long))

          joined : folding draws ++ drop h (point_of draws) ≡ combining_of draws ++ point_of draws
          joined =
              append_assoc (combining_of draws) (take h (point_of draws)) (drop h (point_of draws))
              ∙ ap (λ (l : List ℕ). combining_of draws ++ l) (take-append-drop h (point_of draws))

          each : (i : ℕ) → i < 2 ^ length (combining_of draws)
              → value_of times (λ j. slice_index tables (i * 2 ^ length (point_of draws) + j)) (point_of draws) ≡ true_value i (point_of draws)
          each i below =
              value-same times (λ j. slice_index tables (i * 2 ^ length (point_of draws) + j)) (slice_index (one_of i)) (point_of draws)
              (λ j inside.
              ap (λ (v : ℕ). slice_index tables (i * v + j)) (ap (λ (l : ℕ). 2 ^ l) (point-long draws long))
              ∙ sym (part-value (2 ^ n) tables i j (subst (λ (l : ℕ). j < 2 ^ l) (point-long draws long) inside)))

      -- ---- the tests

      -- whether the messages lead to the product of both tables' values
      leads : List ℕ → Bool
      leads point =
          nat_eq (reduced_claim width times sum (sent_messages prover.message point) point)
          (terms_value times product_terms (table_value times 2 (interleaved one other) point))

      -- by how much a value is wrong
      abbrev difference : ℕ → List ℕ → ℕ
      difference i point = bit_xor (slice_index (prover.values point) i) (true_value i point)

      difference-fits : (i : ℕ) (point : List ℕ) → difference i point < 2 ^ width
      difference-fits i point = xor_lt width (slice_index (prover.values point) i) (true_value i point) (cheats.values_fit point i) (true-fits i point)

      -- whether wrong values are combined as if they were right
      abbrev hides : List ℕ → ℕ → Bool
      hides point x =
          combines lines width times some_width field (difference 0 point) (difference 1 point) (difference-fits 0 point) (difference-fits 1 point) x

      abbrev bad : List ℕ → Bool
      bad draws = leads (point_of draws) || hides (point_of draws) (slice_index draws 0)

      combined : (draws : List ℕ) → AreNumbersBelow (suc n) (2 ^ width) draws → Few draws
          → on_line times (slice_index draws 0) (difference 0 (point_of draws)) (difference 1 (point_of draws)) ≡ 0
      combined [] are v = absurd (let none = are.count in omega (arith, none))
      combined (x ∷ xs) are v =
          sym (line-value width times some_width field (λ i. difference i xs) (difference-fits 0 xs) (difference-fits 1 xs) x)
          ∙ value-sum width times field.ring (slice_index (prover.values xs)) (λ i. true_value i xs) (x ∷ [])
          ∙ ap (λ (v : ℕ). bit_xor v (value_of times (λ i. true_value i xs) (x ∷ [])))
          ((cheats.tests xs (x ∷ []) v.numbers (tail-below n (2 ^ width) (x ∷ xs) are) (head-below n (2 ^ width) (x ∷ xs) are) v.are
          v.holds).evaluates
          ∙ row-at (x ∷ xs) are.count v)
          ∙ xor_self (value_of times (λ i. true_value i xs) (x ∷ []))

      bad-at : (draws : List ℕ) → AreNumbersBelow (suc n) (2 ^ width) draws → Few draws → bad draws ≡ true
      unfolding leads
      bad-at draws are v =
          one-true (leads point) (hides point (slice_index draws 0)) (pick (eqb_tells (difference 0 point) 0) (eqb_tells (difference 1 point) 0))
        where
          point : List ℕ
          point = point_of draws

          zero-line : nat_eq (on_line times (slice_index draws 0) (difference 0 point) (difference 1 point)) 0 ≡ true
          zero-line = eq-eqb (on_line times (slice_index draws 0) (difference 0 point) (difference 1 point)) 0 (combined draws are v)

          right-values : difference 0 point ≡ 0 → difference 1 point ≡ 0 → leads point ≡ true
          right-values first second =
              eq-eqb (reduced_claim width times sum (sent_messages prover.message point) point)
              (terms_value times product_terms (table_value times 2 (interleaved one other) point))
              ((cheats.tests point (combining_of draws) v.numbers (tail-below n (2 ^ width) draws are) (head-below n (2 ^ width) draws are) v.are
              v.holds).reduced
              ∙ ap₂ times (xor_nothing (slice_index (prover.values point) 0) (true_value 0 point) first)
              (xor_nothing (slice_index (prover.values point) 1) (true_value 1 point) second)
              ∙ sym (values-product width times field.ring one other point
              (one-size ∙ ap (λ (v : ℕ). 2 ^ v) (sym (point-long draws are.count))) same-size))

          wrong-values : (nat_eq (difference 0 point) 0 && nat_eq (difference 1 point) 0) ≡ false → hides point (slice_index draws 0) ≡ true
          wrong-values differ = ap₂ (λ (a b : Bool). not a && b) differ zero-line

          pick : ((nat_eq (difference 0 point) 0 ≡ true) × (difference 0 point ≡ 0))
              ⊎ ((nat_eq (difference 0 point) 0 ≡ false) × (difference 0 point ≢ 0))
              → ((nat_eq (difference 1 point) 0 ≡ true) × (difference 1 point ≡ 0))
              ⊎ ((nat_eq (difference 1 point) 0 ≡ false) × (difference 1 point ≢ 0))
              → (leads point ≡ true) ⊎ (hides point (slice_index draws 0) ≡ true)
          pick (inl first) (inl second) = inl (right-values first.1 second.1)
          pick (inl first) (inr second) = inr (wrong-values (ap₂ (λ (a b : Bool). a && b) first.0 second.0))
          pick (inr first) second = inr (wrong-values (ap (λ (a : Bool). a && nat_eq (difference 1 point) 0) first.0))

      -- ---- how many

      leads-few : 2 ^ width * sum_lists (suc n) (2 ^ width) (λ draws. cond (leads (point_of draws)) 1 0) ≤ 2 * n * (2 ^ width) ^ suc n
      unfolding leads sum_lists
      leads-few =
          scaled (2 ^ width) (sum_lists n (2 ^ width) (λ point. cond (leads point) 1 0)) ((2 ^ width) ^ n)
          (few_runs_save width times product_terms 2 2 n sum (interleaved one other) prover.message
          (tables-shape width times wide field n one other one-size same-size one-commits.fits other-commits.fits) cheats.sum_fits cheats.sends
          (cheats.wrong one other one-commits other-commits) leads
          (λ point long is.
          eqb-true (reduced_claim width times sum (sent_messages prover.message point) point)
          (terms_value times product_terms (table_value times 2 (interleaved one other) point)) is))
          (total-same_number (sum_lists n (2 ^ width) (λ point. cond (leads point) 1 0)) (2 ^ width)) (pow-suc (2 ^ width) n)
        where
          scaled : (f a p : ℕ) {all next : ℕ} → f * a ≤ n * 2 * p → all ≡ f * a → next ≡ p * f → f * all ≤ 2 * n * next
          scaled f a p {all} {next} less is more =
              let grown = mul-le-mul_left f less in
              subst (λ (v : ℕ). f * v ≤ 2 * n * next) (sym is)
              (subst (λ (v : ℕ). f * (f * a) ≤ 2 * n * v) (sym more) (omega (arith, grown)))

      hides-few : sum_lists (suc n) (2 ^ width) (λ draws. cond (hides (point_of draws) (slice_index draws 0)) 1 0) ≤ (2 ^ width) ^ n
      unfolding sum_lists
      hides-few =
          subst (λ (v : ℕ). v ≤ (2 ^ width) ^ n)
          (lists-total n (2 ^ width) (2 ^ width) (λ x point. cond (hides point x) 1 0))
          (let less =
          lists-most n (2 ^ width) (λ point. total (λ x. cond (hides point x) 1 0) (2 ^ width)) (λ point. 1)
          (λ point long.
          few-combine lines width times some_width field (difference 0 point) (difference 1 point) (difference-fits 0 point) (difference-fits 1 point)) in
          let count = lists-constant n (2 ^ width) 1 in omega (arith, less, count))

      bad-few : 2 ^ width * sum_lists (suc n) (2 ^ width) (λ draws. cond (bad draws) 1 0) ≤ most * (2 ^ width) ^ suc n
      bad-few =
          raised (2 ^ width) (sum_lists (suc n) (2 ^ width) (λ draws. cond (bad draws) 1 0))
          (sum_lists (suc n) (2 ^ width) (λ draws. cond (leads (point_of draws)) 1 0))
          (sum_lists (suc n) (2 ^ width) (λ draws. cond (hides (point_of draws) (slice_index draws 0)) 1 0)) ((2 ^ width) ^ n)
          (lists-most (suc n) (2 ^ width) (λ draws. cond (bad draws) 1 0)
          (λ draws. cond (leads (point_of draws)) 1 0 + cond (hides (point_of draws) (slice_index draws 0)) 1 0)
          (λ draws long. either-most (leads (point_of draws)) (hides (point_of draws) (slice_index draws 0))))
          (lists-add (suc n) (2 ^ width) (λ draws. cond (leads (point_of draws)) 1 0)
          (λ draws. cond (hides (point_of draws) (slice_index draws 0)) 1 0))
          leads-few hides-few (pow-suc (2 ^ width) n) (le-max_left (suc (2 * n)) (suc h * lucky))
        where
          raised : (f all a b p : ℕ) {both next : ℕ} {top : ℕ} → all ≤ both → both ≡ a + b → f * a ≤ 2 * n * next → b ≤ p → next ≡ p * f
              → suc (2 * n) ≤ top → f * all ≤ top * next
          raised f all a b p {both} {next} {top} less parts_are first second power more =
              let grown = mul-le-mul_left f less in
              let split : f * both ≡ f * a + f * b = ap (λ (v : ℕ). f * v) parts_are ∙ omega arith in
              let scaled = mul-le-mul_left f second in
              let turned : f * p ≡ next = omega (arith, power) in
              let last = mul-le-mul_right next more in
              omega (arith, grown, split, first, scaled, turned, last)

      near-runs : 2 ^ width * sum_lists (suc n) (2 ^ width) runs_at
          ≤ most * (2 ^ width) ^ suc n * large + 2 ^ width * ((2 ^ width) ^ suc n * small)
      near-runs =
          few-large (suc n) (2 ^ width) large small (most * (2 ^ width) ^ suc n) runs_at bad
          (λ draws are. at draws are (found draws are)) bad-few
        where
          at : (draws : List ℕ) → AreNumbersBelow (suc n) (2 ^ width) draws → (runs_at draws ≤ small) ⊎ Few draws
              → runs_at draws ≤ large * cond (bad draws) 1 0 + small
          at draws are (inl less) = small-at draws (bad draws) less
          at draws are (inr v) = large-at draws (bad draws) (bad-at draws are v)

    pub few-accepted : 2 ^ width * (weight * accepted_runs width m n accepted)
        ≤ most * (2 ^ width) ^ suc n * large + 2 ^ width * ((2 ^ width) ^ suc n * small)
    few-accepted =
        subst (λ (v : ℕ). 2 ^ width * (weight * v) ≤ most * (2 ^ width) ^ suc n * large + 2 ^ width * ((2 ^ width) ^ suc n * small))
        (sym (drawn-first n (2 ^ width)
        (λ point combining. sum_lists (place_count m n) (2 ^ place_bits m n) (λ numbers. cond (accepted point combining numbers) 1 0))))
        (subst (λ (v : ℕ). 2 ^ width * v ≤ most * (2 ^ width) ^ suc n * large + 2 ^ width * ((2 ^ width) ^ suc n * small))
        (lists-times (suc n) (2 ^ width) weight
        (λ draws. sum_lists (place_count m n) (2 ^ place_bits m n)
        (λ numbers. cond (accepted (point_of draws) (combining_of draws) numbers) 1 0)))
        (pick
        (near-decided width times some_width field (2 ^ k) (2 ^ 2 * 2 ^ k) (point_generator width times vector k) e
        (2 ^ suc h) (column_symbol column))))
      where
        pick : Near ⊎ (Near → ⊥)
            → 2 ^ width * sum_lists (suc n) (2 ^ width) runs_at
            ≤ most * (2 ^ width) ^ suc n * large + 2 ^ width * ((2 ^ width) ^ suc n * small)
        pick (inr far) = far-runs far
        pick (inl near) = near-runs near

-- ---- over every field

pub few_cheats_succeed : LinesHaveOneRoot → FewCheatsSucceed
few_cheats_succeed lines width times vector wide field vectors fit m n e lucky deep radius gap left right sum prover accepted cheats =
    few-accepted lines width times vector wide field vectors fit m n e lucky deep radius gap left right sum prover accepted cheats
    (place_count m n ^ place_count m n) ((2 ^ 2 * 2 ^ row_levels m n) ^ place_count m n)
    ((2 ^ 2 * 2 ^ row_levels m n - (e + 1)) ^ place_count m n) whole seldom
  where
    -- all places are those of the blocks
    places : place_count m n * 2 ^ place_bits m n ≡ 2 ^ 2 * 2 ^ row_levels m n
    places =
        sym (pow-add 2 (word_levels m n - place_bits m n) (place_bits m n))
        ∙ ap (λ (v : ℕ). 2 ^ v) (sum-of (word_levels m n)) ∙ pow-add 2 2 (row_levels m n)
      where
        sum-of : (d : ℕ) → d - (d - m) + (d - m) ≡ d
        sum-of d = omega arith

    whole : place_count m n ^ place_count m n * (2 ^ place_bits m n) ^ place_count m n
        ≤ (2 ^ 2 * 2 ^ row_levels m n) ^ place_count m n
    whole =
        let is : place_count m n ^ place_count m n * (2 ^ place_bits m n) ^ place_count m n
        ≡ (2 ^ 2 * 2 ^ row_levels m n) ^ place_count m n =
        sym (mul-pow (place_count m n) (2 ^ place_bits m n) (place_count m n)) ∙ ap (λ (v : ℕ). v ^ place_count m n) places in
        omega (arith, is)

    seldom : (marked : ℕ → Bool) → e < marked_below marked (2 ^ 2 * 2 ^ row_levels m n)
        → place_count m n ^ place_count m n
        * sum_lists (place_count m n) (2 ^ place_bits m n)
        (λ numbers. cond (blocks_unmarked (2 ^ place_bits m n) marked 0 numbers) 1 0)
        ≤ (2 ^ 2 * 2 ^ row_levels m n - (e + 1)) ^ place_count m n
    seldom marked many =
        le_trans (few_blocks_miss (word_levels m n - place_bits m n) (2 ^ place_bits m n) marked)
        (pow-le-pow_left
        (subst (λ (v : ℕ). v - marked_below marked v ≤ 2 ^ 2 * 2 ^ row_levels m n - (e + 1)) (sym places)
        (omega (arith, many))) (place_count m n))
