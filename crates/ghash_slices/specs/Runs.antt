-- One run of sixteen places, as the code computes it.
use Rattle.std.specs.Prelude.{◌≡◌, ℕ, suc, ◌+◌, ◌-◌, ◌/◌, ◌^◌, ◌<◌, List, drop, slice_index, slice_set, bit_xor}
use Rattle.std.specs.Int.{bit_at}
use Rattle.field_base.specs.LinearMaps.{linear_image}
use Rattle.ghash_slices.specs.LowStages.{ghash_product, values_from}
use Rattle.ghash_slices.specs.Stages.{stage, sum_of_factors}

-- the sums of the first three elements of the basis: entry b is that at the set bits of b
abbrev pub AreLowSums : List ℕ → List ℕ → Type 0
AreLowSums basis low = (b : ℕ) → b < 8 → slice_index low b ≡ linear_image basis b

-- the factor of stage j at place q of a run: the run's twiddle, the sum for the place in the run, and bit j of q
unfoldable pub run_factor : List ℕ → List ℕ → ℕ → ℕ → ℕ
run_factor twiddles low j q = bit_xor (bit_xor (slice_index twiddles j) (slice_index low (q / 2 ^ suc j))) (bit_at q j)

-- to twiddle j were added the elements of the basis at the set bits of `bits`, bit t of which stands for element t + 3 - j
abbrev pub AreWithImages : List ℕ → List ℕ → ℕ → List ℕ → Type 0
AreWithImages twiddles basis bits result =
    (j : ℕ) → j < 4 → slice_index result j ≡ bit_xor (slice_index twiddles j) (linear_image (drop (3 - j) basis) bits)

-- place q of the run from `start` on holds the sum over k below 16 of value k of the run as it was, times the product of the factors of
-- the place at the set bits of k
abbrev pub HoldsRunSums : (ℕ → ℕ → ℕ) → ℕ → List ℕ → List ℕ → Type 0
HoldsRunSums factors start old new =
    (q : ℕ) → q < 16
    → slice_index new (start + q) ≡ sum_of_factors ghash_product (λ j. factors j q) 4 (values_from old start)

-- place q of that run holds what stage `bit` leaves there of the run as it was
abbrev pub HoldsRunStage : (ℕ → ℕ → ℕ) → ℕ → ℕ → List ℕ → List ℕ → Type 0
HoldsRunStage factors bit start old new =
    (q : ℕ) → q < 16 → slice_index new (start + q) ≡ stage ghash_product factors bit (values_from old start) q

-- a product is added to the lower value of a pair, and then the lower value to the upper one
abbrev pub with_pair : List ℕ → ℕ → ℕ → ℕ → List ℕ
with_pair values lower upper product =
    let sum = bit_xor (slice_index values lower) product in
    slice_set (slice_set values lower sum) upper (bit_xor (slice_index values upper) sum)
