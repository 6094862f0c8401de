-- The soundness error in numbers, over the field of GHASH, and its bits.
use Rattle.std.proofs.Common.{◌≡◌, ◌⊎◌, inl, inr, ℕ, zero, suc, ◌+◌, ◌-◌, ◌*◌, ◌/◌, ◌^◌, ◌<◌, ◌≤◌, Bool, cond, List}
use Rattle.std.proofs.Common.{false, refl, sym, ◌∙◌, ap, subst, le_trans, arith, eq-eqb, lit<, lit≤, ne_eqb}
use Rattle.std.specs.Prelude.{max, nat_eq}
use Rattle.std.proofs.Math.Nat.{le-max_left, le-max_right, max-le, mul-le-mul, mul-le-mul_left, mul-le-mul_right}
use Rattle.std.proofs.Math.Nat.{pow-le-pow_left, pow-le-pow_right, pow-suc, pow-zero}
use Rattle.std.proofs.lemmas.Bool.{cases_lt}
use Rattle.std.proofs.lemmas.Nat.{mul-pow, pow-add}
use Rattle.field_base.specs.Field.{IsField}
use Rattle.field_base.specs.Orders.{AreCantorVectors}
use Rattle.field_slices.specs.Blocks.{blocks_unmarked}
use Rattle.field_slices.specs.Codes.{HasGap}
use Rattle.field_slices.specs.Marks.{marked_below}
use Rattle.field_slices.specs.Openings.{sum_lists}
use Rattle.field_slices.proofs.Blocks.{few_blocks_miss}
use Rattle.field_slices.proofs.Lines.{lines_are_near}
use Rattle.sum_checks.specs.ZeroCheck.{LinesHaveOneRoot}
use Rattle.protocols.specs.CodeDistances.{point_generator}
use Rattle.protocols.proofs.CodeDistances.{quarter_rate_gap}
use Rattle.protocols.proofs.OpenedTables.{code-distance}
use Rattle.protocols.specs.CommitmentScheme.{matrix_rows, place_bits, place_count, row_levels, word_levels}
use Rattle.prove_sums.specs.Bits.{AreMostBits, error_parts, lucky_challenges, lucky_places, whole_parts, wrong_columns}
use Rattle.prove_sums.specs.SoundnessErrors.{AreSoundBits, Cheats, ErrorsAreSmall, Prover, accepted_runs, all_runs}
use Rattle.prove_sums.specs.Verdicts.{word_times, word_vector}
use Rattle.prove_sums.proofs.SoundnessErrors.{few-accepted}

-- ---- powers

some-power : (p c : ℕ) → 0 < suc p ^ c
some-power p zero = let one = pow-zero (suc p) in omega (arith, one)
some-power p (suc c) = let before = some-power p c in let next = pow-suc (suc p) c in omega (arith, before, next)

power-less : (p c : ℕ) → p ^ suc c < suc p ^ suc c
power-less p c =
    joined (p ^ c) (suc p ^ c) (p ^ suc c) (suc p ^ suc c) (pow-le-pow_left (more p) c) (some-power p c) (pow-suc p c)
    (pow-suc (suc p) c)
  where
    more : (v : ℕ) → v ≤ suc v
    more v = omega arith

    joined : (a b left right : ℕ) → a ≤ b → 0 < b → left ≡ a * p → right ≡ b * suc p → left < right
    joined a b left right less some is other =
        let grown = mul-le-mul_right p less in
        omega (arith, grown, some, is, other)

-- a number that is 0, since it would be a power too large
none-left : (q s : ℕ) → 0 < q → q ^ q * s ≤ (q - 1) ^ q → s ≡ 0
none-left q zero some is = refl
none-left zero (suc s) some is = absurd (omega (arith, some))
none-left (suc p) (suc s) some is =
    let less = power-less p p in
    let same : (suc p - 1) ^ suc p ≡ p ^ suc p = ap (λ (v : ℕ). v ^ suc p) (one-less p) in
    absurd (omega (arith, is, less, same))
  where
    one-less : (v : ℕ) → suc v - 1 ≡ v
    one-less v = omega arith

-- ---- lists of numbers that miss all columns that are wrong

-- 2 ^ m blocks of t j places, 256 j in all: (163 / 256) ^ 2 ^ m of all lists at most
seldom-many : (m t j b : ℕ) (marked : ℕ → Bool) → 2 ^ m * t ≡ 256 → 2 ^ b ≡ t * j → 93 * j < marked_below marked (2 ^ m * 2 ^ b)
    → 256 ^ 2 ^ m * sum_lists (2 ^ m) (2 ^ b) (λ numbers. cond (blocks_unmarked (2 ^ b) marked 0 numbers) 1 0)
    ≤ 163 ^ 2 ^ m * (2 ^ b) ^ 2 ^ m
seldom-many m t j b marked whole is many =
    joined (sum_lists (2 ^ m) (2 ^ b) (λ numbers. cond (blocks_unmarked (2 ^ b) marked 0 numbers) 1 0)) ((2 ^ m) ^ 2 ^ m) (t ^ 2 ^ m)
    ((163 * j) ^ 2 ^ m) (256 ^ 2 ^ m) (163 ^ 2 ^ m * (2 ^ b) ^ 2 ^ m)
    (le_trans (few_blocks_miss m (2 ^ b) marked) (pow-le-pow_left free (2 ^ m)))
    (sym (mul-pow (2 ^ m) t (2 ^ m)) ∙ ap (λ (v : ℕ). v ^ 2 ^ m) whole)
    (sym (mul-pow t (163 * j) (2 ^ m)) ∙ ap (λ (v : ℕ). v ^ 2 ^ m) turned ∙ mul-pow 163 (2 ^ b) (2 ^ m))
  where
    grouped : (a b c : ℕ) → a * (b * c) ≡ a * b * c
    grouped a b c = omega arith

    all : 2 ^ m * 2 ^ b ≡ 256 * j
    all = ap (λ (v : ℕ). 2 ^ m * v) is ∙ grouped (2 ^ m) t j ∙ ap (λ (v : ℕ). v * j) whole

    free : 2 ^ m * 2 ^ b - marked_below marked (2 ^ m * 2 ^ b) ≤ 163 * j
    free = let places = all in omega (arith, places, many)

    turned : t * (163 * j) ≡ 163 * 2 ^ b
    turned = omega (arith, is)

    joined : (lists blocks scale free parts most : ℕ) → blocks * lists ≤ free → blocks * scale ≡ parts → scale * free ≡ most
        → parts * lists ≤ most
    joined lists blocks scale free parts most less one two =
        subst (λ (v : ℕ). v * lists ≤ most) one
        (subst (λ (v : ℕ). blocks * scale * lists ≤ v) two
        (let scaled = mul-le-mul_left scale less in omega (arith, scaled)))

-- as many blocks as places: none
seldom-none : (v : ℕ) (marked : ℕ → Bool) → 0 < marked_below marked (2 ^ v * 1)
    → sum_lists (2 ^ v) 1 (λ numbers. cond (blocks_unmarked 1 marked 0 numbers) 1 0) ≡ 0
seldom-none v marked some =
    none-left (2 ^ v) (sum_lists (2 ^ v) 1 (λ numbers. cond (blocks_unmarked 1 marked 0 numbers) 1 0))
    (subst (λ (k : ℕ). 0 < k) once (positive some))
    (le_trans (few_blocks_miss v 1 marked) (pow-le-pow_left (omega (arith, some, once)) (2 ^ v)))
  where
    once : 2 ^ v * 1 ≡ 2 ^ v
    once = omega arith

    positive : 0 < marked_below marked (2 ^ v * 1) → 0 < 2 ^ v * 1
    positive marks = let one = some-power 1 v in omega (arith, one)

-- ---- the error

module _ (lines : LinesHaveOneRoot) (field : IsField 128 word_times) (vectors : AreCantorVectors 128 word_times word_vector)
    (fit : (b : ℕ) → b < 128 → word_vector b < 2 ^ 128) (m n : ℕ) (some : 7 ≤ m) (most : m ≤ 8) (few : n ≤ 39) where
  abbrev Seldom : Type 0
  Seldom =
      (marked : ℕ → Bool) → wrong_columns m n < marked_below marked (2 ^ 2 * 2 ^ row_levels m n)
      → 256 ^ 2 ^ m * sum_lists (place_count m n) (2 ^ place_bits m n)
      (λ numbers. cond (blocks_unmarked (2 ^ place_bits m n) marked 0 numbers) 1 0)
      ≤ lucky_places m n * (2 ^ place_bits m n) ^ place_count m n

  deep : word_levels m n ≤ 128
  deep = omega (arith, few)

  gathered : (f w accepted bound lucky p b places : ℕ) → f * (w * accepted)
      ≤ bound * p * (w * b) + f * (p * (places * b)) → bound ≤ lucky
      → f * w * accepted ≤ (lucky * w + f * places) * (p * b)
  gathered f w accepted bound lucky p b places is more =
      let grown = mul-le-mul_right (p * (w * b)) more in omega (arith, is, grown)

  by-parts : (lucky : ℕ) → 2 * wrong_columns m n + 2 ^ row_levels m n ≤ 2 ^ 2 * 2 ^ row_levels m n
      → HasGap 128 word_times (2 ^ row_levels m n) (2 ^ 2 * 2 ^ row_levels m n)
      (point_generator 128 word_times word_vector (row_levels m n)) (wrong_columns m n) lucky
      → suc (matrix_rows m n) * lucky ≤ lucky_challenges m n → Seldom
      → (left right : ℕ → List ℕ) (sum : ℕ) (prover : Prover) (accepted : List ℕ → List ℕ → List ℕ → Bool)
      → Cheats 128 word_times word_vector m n (wrong_columns m n) left right sum prover accepted
      → whole_parts m * accepted_runs 128 m n accepted ≤ error_parts m n * all_runs 128 m n
  by-parts lucky radius gap less seldom left right sum prover accepted cheats =
      gathered (2 ^ 128) (256 ^ 2 ^ m) (accepted_runs 128 m n accepted) (max (suc (2 * n)) (suc (matrix_rows m n) * lucky))
      (lucky_challenges m n) ((2 ^ 128) ^ suc n)
      ((2 ^ place_bits m n) ^ place_count m n) (lucky_places m n)
      (few-accepted lines 128 word_times word_vector (lit≤ tt) field vectors fit m n
      (wrong_columns m n) lucky deep radius gap left right sum prover accepted cheats
      (256 ^ 2 ^ m) (256 ^ 2 ^ m * (2 ^ place_bits m n) ^ place_count m n)
      (lucky_places m n * (2 ^ place_bits m n) ^ place_count m n) (omega arith) seldom)
      (max-le
      (le-max_left (suc (2 * n)) (cond (nat_eq (place_bits m n) 0) 0 (suc (matrix_rows m n) * (34 * 2 ^ word_levels m n)))) less)

  deep-power : 2 ^ word_levels m n ≡ 4 * 2 ^ row_levels m n
  deep-power = pow-add 2 2 (row_levels m n)

  -- ---- all columns are opened

  module _ (no_bits : place_bits m n ≡ 0) where
    right-columns : wrong_columns m n ≡ 0
    right-columns = ap (λ (c : Bool). cond c 0 (93 * (2 ^ row_levels m n / 64))) (eq-eqb (place_bits m n) 0 no_bits)

    -- none of the lists misses a column
    opened-seldom : Seldom
    opened-seldom marked many =
        subst (λ (v : ℕ). 256 ^ 2 ^ m * v ≤ lucky_places m n * (2 ^ place_bits m n) ^ place_count m n) (sym none) (omega arith)
      where
        blocks : 2 ^ 2 * 2 ^ row_levels m n ≡ 2 ^ (word_levels m n - place_bits m n) * 1
        blocks =
            sym (pow-add 2 2 (row_levels m n)) ∙ ap (λ (v : ℕ). 2 ^ v) (less-none (word_levels m n) (place_bits m n) no_bits)
            ∙ times-one (2 ^ (word_levels m n - place_bits m n))
          where
            less-none : (d b : ℕ) → b ≡ 0 → d ≡ d - b
            less-none d b is = omega (arith, is)

            times-one : (v : ℕ) → v ≡ v * 1
            times-one v = omega arith

        none : sum_lists (place_count m n) (2 ^ place_bits m n)
            (λ numbers. cond (blocks_unmarked (2 ^ place_bits m n) marked 0 numbers) 1 0) ≡ 0
        none =
            subst (λ (b : ℕ). sum_lists (place_count m n) (2 ^ b)
            (λ numbers. cond (blocks_unmarked (2 ^ b) marked 0 numbers) 1 0) ≡ 0) (sym no_bits)
            (seldom-none (word_levels m n - place_bits m n) marked
            (subst (λ (v : ℕ). 0 < marked_below marked v) blocks (le_trans (omega arith) many)))

    opened-radius : 2 * wrong_columns m n + 2 ^ row_levels m n ≤ 2 ^ 2 * 2 ^ row_levels m n
    opened-radius = subst (λ (e : ℕ). 2 * e + 2 ^ row_levels m n ≤ 2 ^ 2 * 2 ^ row_levels m n) (sym right-columns) (omega arith)

    opened-gap : HasGap 128 word_times (2 ^ row_levels m n) (2 ^ 2 * 2 ^ row_levels m n)
        (point_generator 128 word_times word_vector (row_levels m n))
        (wrong_columns m n) 1
    opened-gap =
        subst (λ (e : ℕ). HasGap 128 word_times (2 ^ row_levels m n) (2 ^ 2 * 2 ^ row_levels m n)
        (point_generator 128 word_times word_vector (row_levels m n)) e 1)
        (sym right-columns)
        (lines_are_near 128 word_times (2 ^ row_levels m n) (2 ^ 2 * 2 ^ row_levels m n)
        (2 ^ 2 * 2 ^ row_levels m n + 1 - 2 ^ row_levels m n)
        (point_generator 128 word_times word_vector (row_levels m n)) (lit< tt) field
        (code-distance 128 word_times word_vector (lit< tt) field vectors fit (row_levels m n) 2 deep (omega arith)) 0
        (omega arith))

    opened-lucky : suc (matrix_rows m n) * 1 ≤ lucky_challenges m n
    opened-lucky =
        le_trans (omega arith)
        (le-max_left (suc (2 * n)) (cond (nat_eq (place_bits m n) 0) 0 (suc (matrix_rows m n) * (34 * 2 ^ word_levels m n))))

  -- ---- one place of each block is opened

  module _ (bits : 0 < place_bits m n) where
    some-bits : nat_eq (place_bits m n) 0 ≡ false
    some-bits = ne_eqb (place_bits m n) 0 (λ (none : place_bits m n ≡ 0). omega (arith, bits, none))

    wrong-some : wrong_columns m n ≡ 93 * (2 ^ row_levels m n / 64)
    wrong-some = ap (λ (c : Bool). cond c 0 (93 * (2 ^ row_levels m n / 64))) some-bits

    long : 6 ≤ row_levels m n
    long = omega (arith, bits, some)

    abbrev j : ℕ
    j = 2 ^ row_levels m n / 64

    joined-levels : (l : ℕ) → 6 ≤ l → l ≡ 6 + (l - 6)
    joined-levels l enough = omega (arith, enough)

    split : 2 ^ row_levels m n ≡ 2 ^ 6 * 2 ^ (row_levels m n - 6)
    split = ap (λ (v : ℕ). 2 ^ v) (joined-levels (row_levels m n) long) ∙ pow-add 2 6 (row_levels m n - 6)

    whole : 2 ^ row_levels m n ≡ 64 * j
    whole = let is = split in omega (arith, is)

    radius : 2 * wrong_columns m n + 2 ^ row_levels m n ≤ 2 ^ 2 * 2 ^ row_levels m n
    radius = subst (λ (e : ℕ). 2 * e + 2 ^ row_levels m n ≤ 2 ^ 2 * 2 ^ row_levels m n) (sym wrong-some) (omega arith)

    gap : HasGap 128 word_times (2 ^ row_levels m n) (2 ^ 2 * 2 ^ row_levels m n)
        (point_generator 128 word_times word_vector (row_levels m n)) (wrong_columns m n)
        (34 * (4 * 2 ^ row_levels m n) - 1)
    gap =
        subst (λ (e : ℕ). HasGap 128 word_times (2 ^ row_levels m n) (2 ^ 2 * 2 ^ row_levels m n)
        (point_generator 128 word_times word_vector (row_levels m n)) e (34 * (4 * 2 ^ row_levels m n) - 1)) (sym wrong-some)
        (quarter_rate_gap 128 word_times word_vector (lit< tt) field vectors fit (row_levels m n) j whole
        (subst (λ (v : ℕ). v ≤ 2 ^ 128) deep-power (pow-le-pow_right (lit< tt) deep)))

    lucky-most : suc (matrix_rows m n) * (34 * (4 * 2 ^ row_levels m n) - 1) ≤ lucky_challenges m n
    lucky-most =
        le_trans
        (subst (λ (c : Bool). suc (matrix_rows m n) * (34 * (4 * 2 ^ row_levels m n) - 1)
        ≤ cond c 0 (suc (matrix_rows m n) * (34 * 2 ^ word_levels m n))) (sym some-bits)
        (mul-le-mul_left (suc (matrix_rows m n)) (subst (λ (v : ℕ). 34 * (4 * 2 ^ row_levels m n) - 1 ≤ 34 * v)
        (sym deep-power) (omega arith))))
        (le-max_right (suc (2 * n)) (cond (nat_eq (place_bits m n) 0) 0 (suc (matrix_rows m n) * (34 * 2 ^ word_levels m n))))

    enough : m ≤ word_levels m n
    enough = omega (arith, bits)

    blocks : word_levels m n - place_bits m n ≡ m
    blocks = within (word_levels m n) m enough
      where
        within : (d q : ℕ) → q ≤ d → d - (d - q) ≡ q
        within d q less = omega (arith, less)

    places : 2 ^ 2 * 2 ^ row_levels m n ≡ 2 ^ m * 2 ^ place_bits m n
    places =
        sym deep-power ∙ ap (λ (v : ℕ). 2 ^ v) (within (word_levels m n) m enough) ∙ pow-add 2 m (place_bits m n)
      where
        within : (d q : ℕ) → q ≤ d → d ≡ q + (d - q)
        within d q less = omega (arith, less)

    size : 2 ^ m * 2 ^ (8 - m) ≡ 256
    size = sym (pow-add 2 m (8 - m)) ∙ ap (λ (v : ℕ). 2 ^ v) (within m most)
      where
        within : (q : ℕ) → q ≤ 8 → q + (8 - q) ≡ 8
        within q less = omega (arith, less)

    turned : 2 ^ place_bits m n ≡ 2 ^ (8 - m) * j
    turned =
        ap (λ (v : ℕ). 2 ^ v) (within (row_levels m n) m long some most) ∙ pow-add 2 (8 - m) (row_levels m n - 6)
        ∙ ap (λ (v : ℕ). 2 ^ (8 - m) * v) (let is = split in omega (arith, is))
      where
        within : (l q : ℕ) → 6 ≤ l → 7 ≤ q → q ≤ 8 → 2 + l - q ≡ 8 - q + (l - 6)
        within l q one two three = omega (arith, one, two, three)

    seldom : Seldom
    seldom marked many =
        subst (λ (c : Bool). 256 ^ 2 ^ m
        * sum_lists (place_count m n) (2 ^ place_bits m n)
        (λ numbers. cond (blocks_unmarked (2 ^ place_bits m n) marked 0 numbers) 1 0)
        ≤ cond c 0 (163 ^ 2 ^ m) * (2 ^ place_bits m n) ^ place_count m n)
        (sym some-bits)
        (subst (λ (v : ℕ). 256 ^ 2 ^ m
        * sum_lists (2 ^ v) (2 ^ place_bits m n)
        (λ numbers. cond (blocks_unmarked (2 ^ place_bits m n) marked 0 numbers) 1 0)
        ≤ 163 ^ 2 ^ m * (2 ^ place_bits m n) ^ 2 ^ v) (sym blocks)
        (seldom-many m (2 ^ (8 - m)) j (place_bits m n) marked size turned
        (subst (λ (v : ℕ). 93 * j < marked_below marked v) places
        (subst (λ (v : ℕ). v < marked_below marked (2 ^ 2 * 2 ^ row_levels m n)) wrong-some many))))

pub errors_are_small : LinesHaveOneRoot → IsField 128 word_times → AreCantorVectors 128 word_times word_vector
    → ((b : ℕ) → b < 128 → word_vector b < 2 ^ 128) → ErrorsAreSmall
errors_are_small lines field vectors fit m n some most few = pick (cases_lt 0 (place_bits m n))
  where
    nothing : (b : ℕ) → b ≤ 0 → b ≡ 0
    nothing b less = omega (arith, less)

    pick : (0 < place_bits m n) ⊎ (place_bits m n ≤ 0)
        → (left right : ℕ → List ℕ) (sum : ℕ) (prover : Prover) (accepted : List ℕ → List ℕ → List ℕ → Bool)
        → Cheats 128 word_times word_vector m n (wrong_columns m n) left right sum prover accepted
        → whole_parts m * accepted_runs 128 m n accepted ≤ error_parts m n * all_runs 128 m n
    pick (inl bits) =
        by-parts lines field vectors fit m n some most few (34 * (4 * 2 ^ row_levels m n) - 1)
        (radius lines field vectors fit m n some most few bits) (gap lines field vectors fit m n some most few bits)
        (lucky-most lines field vectors fit m n some most few bits) (seldom lines field vectors fit m n some most few bits)
    pick (inr none) =
        let no_bits = nothing (place_bits m n) none in
        by-parts lines field vectors fit m n some most few 1 (opened-radius lines field vectors fit m n some most few no_bits)
        (opened-gap lines field vectors fit m n some most few no_bits) (opened-lucky lines field vectors fit m n some most few no_bits)
        (opened-seldom lines field vectors fit m n some most few no_bits)

-- ---- its bits

pub sound-bits : ErrorsAreSmall → (m n bits : ℕ) → 7 ≤ m → m ≤ 8 → n ≤ 39 → AreMostBits m n bits → AreSoundBits m n bits
sound-bits small m n bits some most few are left right sum prover accepted cheats =
    joined (2 ^ bits) (accepted_runs 128 m n accepted) (all_runs 128 m n) (error_parts m n) (whole_parts m) whole are.bound
    (small m n some most few left right sum prover accepted cheats)
  where
    whole : 0 < whole_parts m
    whole = let parts = some-power 255 (2 ^ m) in positive (256 ^ 2 ^ m) parts
      where
        positive : (v : ℕ) → 0 < v → 0 < 2 ^ 128 * v
        positive v is = omega (arith, is)

    joined : (b accepted all error whole : ℕ) → 0 < whole → b * error ≤ whole → whole * accepted ≤ error * all
        → b * accepted ≤ all
    joined b accepted all error whole some bound is = elim (cases_lt all (b * accepted)) [
      | inr less ↦ less
      | inl more ↦
          let scaled = mul-le-mul_left b is in
          let top = mul-le-mul_right all bound in
          let grown = mul-le-mul_left whole more in
          absurd (omega (arith, scaled, top, grown, some))
    ]

-- from 2 ^ 6 words on, where (163 / 256) ^ 128 is most of the error
pub many-bits : (n : ℕ) → 6 ≤ n → n ≤ 39 → AreMostBits 7 n 83
many-bits n enough few = record {
  bound = le_trans (mul-le-mul_left (2 ^ 83) top) (lit≤ tt);
  most = le_trans least (mul-le-mul_left (2 ^ 84) bottom);
}
  where
    some-bits : nat_eq (place_bits 7 n) 0 ≡ false
    some-bits = ne_eqb (place_bits 7 n) 0 (λ (none : place_bits 7 n ≡ 0). omega (arith, enough, none))

    lucky : lucky_challenges 7 n ≤ 2 ^ 40
    lucky =
        max-le (omega (arith, few))
        (subst (λ (c : Bool). cond c 0 (suc (matrix_rows 7 n) * (34 * 2 ^ word_levels 7 n)) ≤ 2 ^ 40) (sym some-bits)
        (le_trans
        (mul-le-mul (rows-few n few)
        (mul-le-mul_left 34 (pow-le-pow_right (lit< tt) (depth-few n few)))) (lit≤ tt)))
      where
        rows-few : (n : ℕ) → n ≤ 39 → suc (matrix_rows 7 n) ≤ 17
        rows-few n few = omega (arith, few)

        depth-few : (n : ℕ) → n ≤ 39 → word_levels 7 n ≤ 25
        depth-few n few = omega (arith, few)

    places : lucky_places 7 n ≡ 163 ^ 128
    places = ap (λ (c : Bool). cond c 0 (163 ^ 128)) some-bits

    top : error_parts 7 n ≤ 2 ^ 40 * 256 ^ 128 + 2 ^ 128 * 163 ^ 128
    top =
        subst (λ (p : ℕ). lucky_challenges 7 n * 256 ^ 128 + 2 ^ 128 * p ≤ 2 ^ 40 * 256 ^ 128 + 2 ^ 128 * 163 ^ 128)
        (sym places)
        (roomy (lucky_challenges 7 n * 256 ^ 128) (2 ^ 40 * 256 ^ 128) (2 ^ 128 * 163 ^ 128)
        (mul-le-mul_right (256 ^ 128) lucky))
      where
        roomy : (a b c : ℕ) → a ≤ b → a + c ≤ b + c
        roomy a b c less = omega (arith, less)

    bottom : 2 ^ 128 * 163 ^ 128 ≤ error_parts 7 n
    bottom =
        subst (λ (p : ℕ). 2 ^ 128 * 163 ^ 128 ≤ lucky_challenges 7 n * 256 ^ 128 + 2 ^ 128 * p) (sym places)
        (roomy (lucky_challenges 7 n * 256 ^ 128) (2 ^ 128 * 163 ^ 128))
      where
        roomy : (a b : ℕ) → b ≤ a + b
        roomy a b = omega arith

    least : whole_parts 7 < 2 ^ 84 * (2 ^ 128 * 163 ^ 128)
    least = lit< tt
