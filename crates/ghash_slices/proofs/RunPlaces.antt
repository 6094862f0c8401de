-- Places of a run of sixteen, in pairs that differ in one bit.
use Rattle.std.proofs.Common.{◌≡◌, ◌≢◌, ℕ, zero, suc, ◌+◌, ◌-◌, ◌*◌, ◌/◌, ◌%◌, ◌^◌, ◌<◌, ◌≤◌, ◌∙◌, ap, arith, rules}
use Rattle.std.specs.Int.{bit_at}
use Rattle.ghash_slices.specs.Stages.{lower_place, upper_place}

-- the number of the pair of place q, for the bit j
abbrev pub pair_of : ℕ → ℕ → ℕ
pair_of j q = q / 2 ^ suc j * 2 ^ j + q % 2 ^ j

-- the lower place of pair n
abbrev pub lower_of : ℕ → ℕ → ℕ
lower_of j n = 2 * n - n % 2 ^ j

-- ---- pair n

pub record PairPlaces (j n : ℕ) : Type 0 where
  pub upper_fits : lower_of j n + 2 ^ j < 16
  pub lower_lower : lower_place j (lower_of j n) ≡ lower_of j n
  pub upper_lower : lower_place j (lower_of j n + 2 ^ j) ≡ lower_of j n
  pub lower_block : lower_of j n / 2 ^ suc j ≡ n / 2 ^ j
  pub upper_block : (lower_of j n + 2 ^ j) / 2 ^ suc j ≡ n / 2 ^ j
  pub block_fits : n / 2 ^ j < 8
  pub lower_bit : bit_at (lower_of j n) j ≡ 0
  pub upper_bit : bit_at (lower_of j n + 2 ^ j) j ≡ 1
  pub lower_pair : pair_of j (lower_of j n) ≡ n
  pub upper_pair : pair_of j (lower_of j n + 2 ^ j) ≡ n
  pub others : (q : ℕ) → q ≢ lower_of j n → q ≢ lower_of j n + 2 ^ j → pair_of j q ≢ n

-- pair n of stage j: its lower and upper place, the block they lie in, and that other places belong to other pairs
pub pair_places : (j n : ℕ) → j < 4 → n < 8 → PairPlaces j n
unfolding lower_place
pair_places zero n few small = search (arith, rules)
pair_places (suc zero) n few small = search (arith, rules)
pair_places (suc (suc zero)) n few small = search (arith, rules)
pair_places (suc (suc (suc zero))) n few small = search (arith, rules)
pair_places (suc (suc (suc (suc j)))) n few small = absurd (omega (arith, few))

-- the upper place of a pair of the run that begins at `start` is inside of the values
pub upper_inside : {pair lower half count now : ℕ} (j start : ℕ) → j < 4 → pair < 8 → start + 16 ≤ count
    → lower ≡ 2 * pair - pair % half → half ≡ 2 ^ j → now ≡ count → start + lower + half < now
upper_inside {pair} {lower} {half} j start few small whole is half_is same =
    let room = (pair_places j pair few small).upper_fits in
    let at = is ∙ ap (λ (h : ℕ). 2 * pair - pair % h) half_is in
    omega (arith, room, whole, at, half_is, same)

-- ---- places of a run

pub record RunPlaces (j q : ℕ) : Type 0 where
  pub pair_fits : pair_of j q < 8
  pub lower_fits : lower_place j q < 16
  pub upper_fits : upper_place j q < 16
  pub block_fits : q / 2 ^ suc j < 2 ^ (3 - j)
  pub block_below_8 : q / 2 ^ suc j < 8
  pub in_transform : (run : ℕ) → (16 * run + q) / 2 ^ suc j ≡ run * 2 ^ (3 - j) + q / 2 ^ suc j
  pub bit_in_transform : (run : ℕ) → bit_at (16 * run + q) j ≡ bit_at q j

-- a place of a run, its pair and its block, and where they lie in the transform
pub run_places : (j q : ℕ) → j < 4 → q < 16 → RunPlaces j q
unfolding lower_place upper_place
run_places zero q few small = search (arith, rules)
run_places (suc zero) q few small = search (arith, rules)
run_places (suc (suc zero)) q few small = search (arith, rules)
run_places (suc (suc (suc zero))) q few small = search (arith, rules)
run_places (suc (suc (suc (suc j)))) q few small = absurd (omega (arith, few))
