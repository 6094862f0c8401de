-- The low stages, one after another over all the runs.
use Rattle.std.proofs.Common.{◌≡◌, ℕ, zero, suc, ◌+◌, ◌-◌, ◌*◌, ◌/◌, ◌%◌, ◌^◌, ◌<◌, ◌≤◌, List, length, drop, map, ◌∙◌, ap, ap₂, subst, arith, rules, lit<}
use Rattle.std.specs.Prelude.{bit_xor, slice_index}
use Rattle.std.specs.Int.{bit_at}
use Rattle.std.specs.List.{range_with_len}
use Rattle.std.proofs.lemmas.List.FromFn.{get_or-map-range_with_len}
use Rattle.field_base.specs.LinearMaps.{linear_image}
use Rattle.field_base.proofs.RemainderRing.{ghash_ring}
use Rattle.ghash_slices.specs.LowStages.{ghash_product, HoldSums, values_from}
use Rattle.ghash_slices.specs.Runs.{AreLowSums, run_factor}
use Rattle.ghash_slices.specs.Stages.{factor, stage}
use Rattle.ghash_slices.proofs.LowRuns.{AreRunTwiddles, four_stages, run_factor-is}
use Rattle.ghash_slices.proofs.RunPlaces.{run_places}
use Rattle.ghash_slices.proofs.StageSums.{sum_of_factors-same}
use Rattle.additive_transforms.specs.Stages.{IsStageFrom}
use Rattle.additive_transforms.proofs.BlockStages.{butterfly-same}
use Rattle.additive_transforms.proofs.WholeStages.{stage-at}

-- ---- lists of the first values of a function

-- n of them
first_values : ℕ → (ℕ → ℕ) → List ℕ
first_values n f = map f (range_with_len 0 n)

read_first : (n : ℕ) (f : ℕ → ℕ) (j : ℕ) → j < n → slice_index (first_values n f) j ≡ f j
unfolding first_values
read_first n f j below = get_or-map-range_with_len f 0 n j j 0 below (omega arith)

-- ---- the blocks of a run

-- the block of place q of run r, among the blocks of stage j
record RunBlock (j r q count : ℕ) : Type 0 where
  inside : r * 2 ^ (3 - j) + q / 2 ^ suc j < count / 2 ^ (j + 1)
  place : (k : ℕ) → 16 * r + (q / 2 ^ suc j * 2 ^ suc j + k) ≡ (r * 2 ^ (3 - j) + q / 2 ^ suc j) * 2 ^ suc j + k

run_block : (j r q count : ℕ) → j < 4 → q < 16 → 16 * r + 16 ≤ count → RunBlock j r q count
run_block zero r q count few small whole = search (arith, rules)
run_block (suc zero) r q count few small whole = search (arith, rules)
run_block (suc (suc zero)) r q count few small whole = search (arith, rules)
run_block (suc (suc (suc zero))) r q count few small whole = search (arith, rules)
run_block (suc (suc (suc (suc j)))) r q count few small whole = absurd (omega (arith, few))

module _ (shifts basis : List ℕ) (first_run r : ℕ) where
  -- the twiddles of the run, and the sums of three elements of the basis
  twiddles : List ℕ
  twiddles = first_values 4 (λ j. bit_xor (slice_index shifts j) (linear_image (drop (3 - j) basis) (first_run + r)))

  low : List ℕ
  low = first_values 8 (linear_image basis)

  run_twiddles : AreRunTwiddles shifts basis (first_run + r) twiddles
  unfolding twiddles
  run_twiddles = read_first 4 (λ j. bit_xor (slice_index shifts j) (linear_image (drop (3 - j) basis) (first_run + r)))

  low_sums : AreLowSums basis low
  unfolding low
  low_sums = read_first 8 (linear_image basis)

  -- the factor of a place of the run is the twiddle of its block, and bit j of the place
  block_factor : (j q : ℕ) → j < 4 → q < 16 → run_factor twiddles low j q
      ≡ bit_xor (bit_xor (slice_index shifts j) (linear_image basis (first_run * 2 ^ (3 - j) + (r * 2 ^ (3 - j) + q / 2 ^ suc j)))) (bit_at q j)
  unfolding factor
  block_factor j q few small =
      let places = run_places j q few small in
      let number : (first_run + r) * 2 ^ (3 - j) + q / 2 ^ suc j ≡ first_run * 2 ^ (3 - j) + (r * 2 ^ (3 - j) + q / 2 ^ suc j) = omega arith in
      run_factor-is shifts basis twiddles low (first_run + r) j q run_twiddles low_sums few small
      ∙ ap₂ (λ (b d : ℕ). bit_xor (bit_xor (slice_index shifts j) (linear_image basis b)) d) (places.in_transform (first_run + r) ∙ number)
      (places.bit_in_transform (first_run + r))

  -- so a stage of all the blocks is the stage of the run
  run_stage : (j count : ℕ) (v w : List ℕ) → j < 4 → 16 * r + 16 ≤ count → ((p : ℕ) → slice_index v p < 2 ^ 128)
      → IsStageFrom ghash_product (slice_index shifts j) basis j (first_run * 2 ^ (3 - j)) (count / 2 ^ (j + 1)) v w
      → (q : ℕ) → q < 16 → slice_index w (16 * r + q) ≡ stage ghash_product (run_factor twiddles low) j (values_from v (16 * r)) q
  run_stage j count v w few whole fits is q small =
      let block = run_block j r q count few small whole in
      stage-at 128 ghash_product ghash_ring (run_factor twiddles low) j q _ (values_from v (16 * r)) (values_from w (16 * r))
      (λ k. fits (16 * r + k))
      (block_factor j q few small)
      (butterfly-same ghash_product _ (2 ^ j) _ _ _ _ (λ k below. ap (slice_index v) (block.place k))
      (λ k below. ap (slice_index w) (block.place k))
      (is (r * 2 ^ (3 - j) + q / 2 ^ suc j) block.inside))

-- a stage, with its count of values replaced by an equal one
pub stage-count : (shifts basis : List ℕ) (j first count count' : ℕ) (v w : List ℕ) → count ≡ count'
    → IsStageFrom ghash_product (slice_index shifts j) basis j first (count / 2 ^ (j + 1)) v w
    → IsStageFrom ghash_product (slice_index shifts j) basis j first (count' / 2 ^ (j + 1)) v w
stage-count shifts basis j first count count' v w same =
    subst (λ (n : ℕ). IsStageFrom ghash_product (slice_index shifts j) basis j first (n / 2 ^ (j + 1)) v w) same

-- the four stages leave the sums
pub low_stages_hold : (shifts basis : List ℕ) (first_run count : ℕ) (v0 v1 v2 v3 v4 : List ℕ) → length v0 ≡ count → count % 16 ≡ 0
    → ((p : ℕ) → slice_index v0 p < 2 ^ 128) → ((p : ℕ) → slice_index v1 p < 2 ^ 128) → ((p : ℕ) → slice_index v2 p < 2 ^ 128)
    → ((p : ℕ) → slice_index v3 p < 2 ^ 128) → ((p : ℕ) → slice_index v4 p < 2 ^ 128)
    → IsStageFrom ghash_product (slice_index shifts 3) basis 3 (first_run * 2 ^ (3 - 3)) (count / 2 ^ (3 + 1)) v0 v1
    → IsStageFrom ghash_product (slice_index shifts 2) basis 2 (first_run * 2 ^ (3 - 2)) (count / 2 ^ (2 + 1)) v1 v2
    → IsStageFrom ghash_product (slice_index shifts 1) basis 1 (first_run * 2 ^ (3 - 1)) (count / 2 ^ (1 + 1)) v2 v3
    → IsStageFrom ghash_product (slice_index shifts 0) basis 0 (first_run * 2 ^ (3 - 0)) (count / 2 ^ (0 + 1)) v3 v4
    → HoldSums shifts basis first_run v0 v4
low_stages_hold shifts basis first_run count v0 v1 v2 v3 v4 long whole fits0 fits1 fits2 fits3 fits4 third second first last run i small inside =
    let room : 16 * run + 16 ≤ count = omega (arith, long, whole, inside) in
    four_stages (twiddles shifts basis first_run run) (low shifts basis first_run run) (16 * run) v0 v1 v2 v3 v4 fits4
    (run_stage shifts basis first_run run 3 count v0 v1 (lit< tt) room fits0 third)
    (run_stage shifts basis first_run run 2 count v1 v2 (lit< tt) room fits1 second)
    (run_stage shifts basis first_run run 1 count v2 v3 (lit< tt) room fits2 first)
    (run_stage shifts basis first_run run 0 count v3 v4 (lit< tt) room fits3 last) i small
    ∙ sum_of_factors-same ghash_product (λ j. run_factor (twiddles shifts basis first_run run) (low shifts basis first_run run) j i)
    (λ j. factor shifts basis j (16 * (first_run + run) + i)) 4 (values_from v0 (16 * run))
    (λ j few. run_factor-is shifts basis (twiddles shifts basis first_run run) (low shifts basis first_run run) (first_run + run) j i
    (run_twiddles shifts basis first_run run) (low_sums shifts basis first_run run) few small)
