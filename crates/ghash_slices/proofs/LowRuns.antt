-- The four stages of a run, the factors of its places in the transform, and the runs one after another.
use Rattle.std.proofs.Common.{◌≡◌, ◌≢◌, ◌⊎◌, inl, inr, ℕ, zero, suc, ◌+◌, ◌-◌, ◌*◌, ◌/◌, ◌%◌, ◌^◌, ◌<◌, ◌≤◌, List, [], ◌∷◌, length, drop, refl, sym, ◌∙◌, ap, ap₂, subst, arith, lit<}
use Rattle.std.specs.Prelude.{bit_xor, slice_index}
use Rattle.std.specs.Int.{bit_at}
use Rattle.std.proofs.lemmas.Bool.{cases_lt}
use Rattle.std.proofs.lemmas.Nat.{pow-add}
use native.Mathlib.Nat.{mod-eq_of_lt, mul_assoc, pow-suc, zero-mul}
use lib.Bits.{xor_assoc, xor_comm, xor_shifted, xor_zero_r}
use Rattle.field_base.specs.LinearMaps.{linear_image}
use Rattle.field_base.proofs.BasisColumns.{sum_of_columns}
use Rattle.field_base.proofs.LinearMapLemmas.{linear_image-columns, the_linear_map}
use Rattle.field_base.proofs.RemainderRing.{ghash_ring}
use Rattle.field_base.proofs.RingLemmas.{xor_cancel}
use Rattle.ghash_slices.specs.Cantor.{AreCantorTwiddles}
use Rattle.ghash_slices.specs.Stages.{factor, stage, stages, sum_of_factors}
use Rattle.ghash_slices.proofs.CantorValues.{sums_are_values}
use Rattle.ghash_slices.proofs.GhashVectors.{ghash_vectors}
use Rattle.ghash_slices.proofs.Places.{by_block}
use Rattle.ghash_slices.proofs.StageSums.{stages_sum, sum_of_factors-same, sum_of_factors-values}
use Rattle.ghash_slices.specs.LowStages.{ghash_cantor_vector, ghash_product, HoldSums, HoldValues, values_from}
use Rattle.ghash_slices.specs.Runs.{AreLowSums, run_factor}
use Rattle.ghash_slices.proofs.RunPlaces.{run_places}

-- ---- four stages

-- a stage reads the sixteen values of the run alone
stage_same : (f : ℕ → ℕ → ℕ) (j q : ℕ) (a b : ℕ → ℕ) → j < 4 → q < 16 → ((k : ℕ) → k < 16 → a k ≡ b k)
    → stage ghash_product f j a q ≡ stage ghash_product f j b q
unfolding stage
stage_same f j q a b few within same =
    let places = run_places j q few within in
    ap₂ (λ (x y : ℕ). bit_xor x (ghash_product (f j q) y)) (same _ places.lower_fits) (same _ places.upper_fits)

module _ (twiddles low : List ℕ) where
  -- the factor of stage j at p depends on p / 2 ^ j alone
  by_quotient : (j p q : ℕ) → p / 2 ^ j ≡ q / 2 ^ j → run_factor twiddles low j p ≡ run_factor twiddles low j q
  unfolding run_factor
  by_quotient j = by_block (λ (block bit : ℕ). bit_xor (bit_xor (slice_index twiddles j) (slice_index low block)) bit) j

  -- stages 3, 2, 1 and 0 of a run leave the sums of its values times factors
  pub four_stages : (start : ℕ) (v0 v1 v2 v3 v4 : List ℕ) → ((p : ℕ) → slice_index v4 p < 2 ^ 128)
      → ((q : ℕ) → q < 16 → slice_index v1 (start + q) ≡ stage ghash_product (run_factor twiddles low) 3 (values_from v0 start) q)
      → ((q : ℕ) → q < 16 → slice_index v2 (start + q) ≡ stage ghash_product (run_factor twiddles low) 2 (values_from v1 start) q)
      → ((q : ℕ) → q < 16 → slice_index v3 (start + q) ≡ stage ghash_product (run_factor twiddles low) 1 (values_from v2 start) q)
      → ((q : ℕ) → q < 16 → slice_index v4 (start + q) ≡ stage ghash_product (run_factor twiddles low) 0 (values_from v3 start) q)
      → (q : ℕ) → q < 16
      → slice_index v4 (start + q) ≡ sum_of_factors ghash_product (λ j. run_factor twiddles low j q) 4 (values_from v0 start)
  unfolding stages
  four_stages start v0 v1 v2 v3 v4 fits third second first last q within =
      sym (mod-eq_of_lt (fits (start + q)))
      ∙ ap (λ (v : ℕ). v % 2 ^ 128)
      (last q within
      ∙ stage_same (run_factor twiddles low) 0 q (values_from v3 start) _ (lit< tt) within
      (λ k k_within. first k k_within
      ∙ stage_same (run_factor twiddles low) 1 k (values_from v2 start) _ (lit< tt) k_within
      (λ m m_within. second m m_within
      ∙ stage_same (run_factor twiddles low) 2 m (values_from v1 start) _ (lit< tt) m_within third)))
      ∙ stages_sum 128 ghash_product (lit< tt) ghash_ring (run_factor twiddles low) by_quotient 4 (values_from v0 start) q
      ∙ sum_of_factors-values ghash_product (λ j. run_factor twiddles low j q) 4
      (λ k. values_from v0 start (q / 2 ^ 4 * 2 ^ 4 + k)) (values_from v0 start)
      (λ k below. let here : q / 2 ^ 4 * 2 ^ 4 + k ≡ k = omega arith in ap (values_from v0 start) here)

-- ---- factors

-- the images from place m on are those of a number times 2 ^ m
columns-shifted : (m : ℕ) (images : List ℕ) (x : ℕ) → sum_of_columns images (x * 2 ^ m) ≡ sum_of_columns (drop m images) x
unfolding sum_of_columns
columns-shifted zero images x = let all : x * 2 ^ 0 ≡ x = omega arith in ap (sum_of_columns images) all
columns-shifted (suc m) [] x = refl
columns-shifted (suc m) (image ∷ images) x =
    let even : x * 2 ^ suc m % 2 ≡ 0 = omega (arith, doubled m) in
    let half : x * 2 ^ suc m / 2 ≡ x * 2 ^ m = omega (arith, doubled m) in
    ap₂ bit_xor (ap (λ (d : ℕ). d * image) even ∙ zero-mul image) (ap (sum_of_columns images) half ∙ columns-shifted m images x)
    ∙ xor_comm 0 (sum_of_columns (drop m images) x) ∙ xor_zero_r (sum_of_columns (drop m images) x)
  where
    doubled : (n : ℕ) → x * 2 ^ suc n ≡ x * 2 ^ n * 2
    doubled n = ap (λ (m' : ℕ). x * m') (pow-suc 2 n) ∙ sym (mul_assoc x (2 ^ n) 2)

-- the twiddles of a run: the shifts, and the elements of the basis for the bits of the run's number
abbrev pub AreRunTwiddles : List ℕ → List ℕ → ℕ → List ℕ → Type 0
AreRunTwiddles shifts basis number twiddles =
    (j : ℕ) → j < 4 → slice_index twiddles j ≡ bit_xor (slice_index shifts j) (linear_image (drop (3 - j) basis) number)

module _ (shifts basis : List ℕ) where
  -- the image of run * 2 ^ m + b is that of the run by the elements from m on, plus that of b
  image_in_transform : (m run b : ℕ) → b < 2 ^ m → linear_image basis (run * 2 ^ m + b)
      ≡ bit_xor (linear_image (drop m basis) run) (linear_image basis b)
  image_in_transform m run b small =
      ap (linear_image basis) (sym (xor_shifted run m b small))
      ∙ (the_linear_map basis).of_sum (run * 2 ^ m) b
      ∙ ap (λ (x : ℕ). bit_xor x (linear_image basis b))
      (linear_image-columns basis (run * 2 ^ m) ∙ columns-shifted m basis run ∙ sym (linear_image-columns (drop m basis) run))

  -- place i of a run with the number `number` has the factor that the whole transform has at place 16 * number + i
  pub run_factor-is : (twiddles low : List ℕ) (number j i : ℕ) → AreRunTwiddles shifts basis number twiddles → AreLowSums basis low
      → j < 4 → i < 16 → run_factor twiddles low j i ≡ factor shifts basis j (16 * number + i)
  unfolding run_factor factor
  run_factor-is twiddles low number j i run_twiddles low_sums few within =
      let places = run_places j i few within in
      let block = places.block_fits in
      ap₂ (λ (t s : ℕ). bit_xor (bit_xor t s) (bit_at i j)) (run_twiddles j few) (low_sums (i / 2 ^ suc j) places.block_below_8)
      ∙ ap₂ bit_xor
      (xor_assoc (slice_index shifts j) (linear_image (drop (3 - j) basis) number) (linear_image basis (i / 2 ^ suc j))
      ∙ ap (bit_xor (slice_index shifts j))
      (sym (image_in_transform (3 - j) number (i / 2 ^ suc j) block) ∙ ap (linear_image basis) (sym (places.in_transform number))))
      (sym (places.bit_in_transform number))

  -- the next run's twiddles differ by the bits in which its number differs
  pub next_twiddles : (number next : ℕ) (twiddles twiddles' : List ℕ) → AreRunTwiddles shifts basis number twiddles
      → ((j : ℕ) → j < 4 → slice_index twiddles' j
      ≡ bit_xor (slice_index twiddles j) (linear_image (drop (3 - j) basis) (bit_xor number next)))
      → AreRunTwiddles shifts basis next twiddles'
  next_twiddles number next twiddles twiddles' are added j few =
      added j few
      ∙ ap₂ bit_xor (are j few) ((the_linear_map (drop (3 - j) basis)).of_sum number next)
      ∙ xor_assoc (slice_index shifts j) (linear_image (drop (3 - j) basis) number) _
      ∙ ap (bit_xor (slice_index shifts j))
      (xor_cancel (linear_image (drop (3 - j) basis) number) (linear_image (drop (3 - j) basis) next))

  -- ---- the runs

  -- the runs before `run` hold their sums, what is behind them is as it was, and the twiddles are those of the last run that was done,
  -- or of the first where none was
  pub record Forwarded (first_run run number : ℕ) (twiddles old now : List ℕ) : Type 0 where
    pub same_length : length now ≡ length old
    pub number_is : number ≡ first_run + (run - 1)
    pub twiddles_are : AreRunTwiddles shifts basis number twiddles
    pub done : (r i : ℕ) → r < run → i < 16 → slice_index now (16 * r + i)
        ≡ sum_of_factors ghash_product (λ j. factor shifts basis j (16 * (first_run + r) + i)) 4 (values_from old (16 * r))
    pub rest : (p : ℕ) → 16 * run ≤ p → slice_index now p ≡ slice_index old p

  -- the twiddles are those of run `run`
  pub record ReadyFor (first_run run number : ℕ) (twiddles : List ℕ) : Type 0 where
    pub number_is : number ≡ first_run + run
    pub twiddles_are : AreRunTwiddles shifts basis number twiddles

  -- for the first run they are so from the start
  pub ready_at_first : (first_run run number : ℕ) (twiddles old now : List ℕ) → run ≤ 0 → Forwarded first_run run number twiddles old now
      → ReadyFor first_run run number twiddles
  ready_at_first first_run run number twiddles old now none so_far =
      record {
        number_is = let is = so_far.number_is in omega (arith, is, none);
        twiddles_are = so_far.twiddles_are;
      }

  -- for a later one they are stepped from the run before
  pub ready_after : (first_run run number : ℕ) (twiddles twiddles' old now : List ℕ) → 0 < run
      → Forwarded first_run run number twiddles old now
      → ((j : ℕ) → j < 4 → slice_index twiddles' j
      ≡ bit_xor (slice_index twiddles j) (linear_image (drop (3 - j) basis) (bit_xor number (number + 1))))
      → ReadyFor first_run run (number + 1) twiddles'
  ready_after first_run run number twiddles twiddles' old now some so_far added =
      record {
        number_is = let is = so_far.number_is in omega (arith, is, some);
        twiddles_are = next_twiddles number (number + 1) twiddles twiddles' so_far.twiddles_are added;
      }

  -- one name of the number and of the twiddles is as good as another
  pub ready_same : (first_run run number number' : ℕ) (twiddles twiddles' : List ℕ) → number ≡ number' → twiddles ≡ twiddles'
      → ReadyFor first_run run number' twiddles' → ReadyFor first_run run number twiddles
  ready_same first_run run number number' twiddles twiddles' same also ready =
      record {
        number_is = same ∙ ready.number_is;
        twiddles_are = λ j few.
            ap (λ (l : List ℕ). slice_index l j) also ∙ ready.twiddles_are j few
            ∙ ap (λ (n : ℕ). bit_xor (slice_index shifts j) (linear_image (drop (3 - j) basis) n)) (sym same);
      }

  -- one more run done
  pub forward_step : (first_run run before_it number : ℕ) (others twiddles low old now new : List ℕ) → AreLowSums basis low
      → Forwarded first_run run before_it others old now → ReadyFor first_run run number twiddles
      → length new ≡ length now
      → ((q : ℕ) → q < 16 → slice_index new (16 * run + q)
      ≡ sum_of_factors ghash_product (λ j. run_factor twiddles low j q) 4 (values_from now (16 * run)))
      → ((p : ℕ) → p < 16 * run → slice_index new p ≡ slice_index now p)
      → ((p : ℕ) → 16 * run + 16 ≤ p → slice_index new p ≡ slice_index now p)
      → Forwarded first_run (run + 1) number twiddles old new
  forward_step first_run run before_it number others twiddles low old now new low_sums so_far ready as_long sums before behind =
      record {
        same_length = as_long ∙ so_far.same_length;
        number_is = let is = ready.number_is in omega (arith, is);
        twiddles_are = ready.twiddles_are;
        done = λ r i below within. pick r i within below (cases_lt r run);
        rest = λ p past. behind p (omega arith) ∙ so_far.rest p (omega arith);
      }
    where
      pick : (r i : ℕ) → i < 16 → r < run + 1 → (r < run) ⊎ (run ≤ r) → slice_index new (16 * r + i)
          ≡ sum_of_factors ghash_product (λ j. factor shifts basis j (16 * (first_run + r) + i)) 4 (values_from old (16 * r))
      pick r i within below (inl earlier) = before (16 * r + i) (omega arith) ∙ so_far.done r i earlier within
      pick r i within below (inr last) =
          let same : run ≡ r = omega arith in
          subst (λ (n : ℕ). slice_index new (16 * n + i)
          ≡ sum_of_factors ghash_product (λ j. factor shifts basis j (16 * (first_run + n) + i)) 4 (values_from old (16 * n))) same this_run
        where
          this_run : slice_index new (16 * run + i)
              ≡ sum_of_factors ghash_product (λ j. factor shifts basis j (16 * (first_run + run) + i)) 4 (values_from old (16 * run))
          this_run =
              sums i within
              ∙ sum_of_factors-values ghash_product (λ j. run_factor twiddles low j i) 4 (values_from now (16 * run)) (values_from old (16 * run))
              (λ k few. so_far.rest (16 * run + k) (omega arith))
              ∙ sum_of_factors-same ghash_product (λ j. run_factor twiddles low j i)
              (λ j. factor shifts basis j (16 * (first_run + run) + i)) 4 (values_from old (16 * run))
              (λ j few. run_factor-is twiddles low number j i ready.twiddles_are low_sums few within
              ∙ ap (λ (n : ℕ). factor shifts basis j (16 * n + i)) ready.number_is)

  -- after the last run every place holds its sum
  pub forward_ends : (first_run run number : ℕ) (twiddles old now : List ℕ) → length old / 16 ≤ run → length old % 16 ≡ 0
      → Forwarded first_run run number twiddles old now → HoldSums shifts basis first_run old now
  forward_ends first_run run number twiddles old now all whole so_far r i within inside =
      so_far.done r i (omega arith) within

-- ---- values

-- the sums are values of polynomials where the twiddles are those of Cantor points and the basis reaches the last place
pub values_at_points : (shifts basis : List ℕ) (first_run : ℕ) (old new : List ℕ) → 3 ≤ length basis → length old % 16 ≡ 0
    → (old ≢ [] → first_run + length old / 16 ≤ 2 ^ (length basis - 3)) → HoldSums shifts basis first_run old new → (z : ℕ)
    → AreCantorTwiddles 128 ghash_product ghash_cantor_vector z 4 shifts basis → HoldValues z first_run old new
values_at_points shifts basis first_run old new room whole numbered sums z twiddles run i within inside =
    sums run i within inside
    ∙ sums_are_values 128 ghash_product ghash_cantor_vector (lit< tt) ghash_ring ghash_vectors z 4 shifts basis twiddles
    (values_from old (16 * run)) (16 * (first_run + run) + i) reached
  where
    some : old ≢ []
    some none = let empty : length old ≡ 0 = ap length none in absurd (omega arith)

    wide : 2 ^ suc (length basis) ≡ 2 ^ (length basis - 3) * 2 ^ 4
    wide =
        let bits : suc (length basis) ≡ length basis - 3 + 4 = omega arith in
        ap (λ (n : ℕ). 2 ^ n) bits ∙ pow-add 2 (length basis - 3) 4

    reached : 16 * (first_run + run) + i < 2 ^ suc (length basis)
    reached = let bound = numbered some in omega (arith, wide, bound)
