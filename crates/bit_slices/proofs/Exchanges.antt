-- Lanes that are exchanged, by blocks of bits of each word and by words.
use Rattle.std.proofs.Common.{◌≡◌, ℕ, suc, ◌+◌, ◌-◌, ◌*◌, ◌/◌, ◌%◌, ◌<◌, ◌≤◌, ◌^◌, ◌≢◌, List, sym, ◌∙◌, ap, ap₂, subst, arith}
use Rattle.std.specs.Prelude.{slice_index}
use Rattle.std.specs.Int.{bit_at}
use Rattle.std.proofs.lemmas.Nat.{div-add-mod', div-mul-add, mod-mul-add, mul-le, pow-add, pow_pos}
use Rattle.std.proofs.Math.Nat.{add-mul, mul_assoc}
use Rattle.std.proofs.Math.Pow.{pow_mono}
use native.Mathlib.Nat.{mod-lt, pow-suc}
use Rattle.packed_lanes.specs.Parts.{HasFirstBlocks, HasSecondBlocks, IsBlockSize}
use Rattle.bit_slices.specs.Lanes.{bit_lane}
use Rattle.bit_slices.specs.Layout.{AreLanesExchanged, AreWordsExchanged}

-- a level below 7 that is not 6 is below 6
below_six : (level : ℕ) → level < 7 → level ≢ 6 → level < 6
below_six level less other = grind arith

-- the size of its blocks, which a word has several of
pub block_size : (level block : ℕ) → level < 7 → level ≢ 6 → block ≡ 1 * 2 ^ level % 2 ^ 32 → IsBlockSize 64 block
block_size level block less other is =
    let few = below_six level less other in
    let small : 2 ^ level ≤ 2 ^ 5 = pow_mono {i = level} {j = 5} (omega (arith, few)) in
    let same : block ≡ 2 ^ level = omega (arith, is, small) in
    (level, same, omega (arith, same, small))

-- ---- blocks of s bits, of which g pairs of t bits are a word

module _ (s t g : ℕ) (double : t ≡ s + s) (whole : g * t ≡ 64) (some : 0 < s) (groups : 0 < g) where
  -- the place of a pair in a word
  pair_fits : (h x : ℕ) → x < t → h % g * t + x < 64
  pair_fits h x less =
      let inside : h % g < g = mod-lt h groups in
      let most = mul-le (h % g + 1) t g t (omega (arith, inside)) (omega arith) in
      let next = add-mul (h % g) 1 t in
      omega (arith, most, next, less, whole)

  in_word : (h x : ℕ) → h * t + x ≡ h / g * 64 + (h % g * t + x)
  in_word h x =
      let parts = div-add-mod' h g in
      let spread = add-mul (h / g * g) (h % g) t in
      let assoc : h / g * g * t ≡ h / g * 64 = mul_assoc (h / g) g t ∙ ap (λ (n : ℕ). h / g * n) whole in
      let all : (h / g * g + h % g) * t ≡ h * t = ap (λ (n : ℕ). n * t) parts in
      omega (arith, spread, assoc, all)

  word_of : (h x : ℕ) → x < t → (h * t + x) / 64 ≡ h / g
  word_of h x less = ap (λ (n : ℕ). n / 64) (in_word h x) ∙ div-mul-add (h / g) 64 (h % g * t + x) (pair_fits h x less)

  bit_of : (h x : ℕ) → x < t → (h * t + x) % 64 ≡ h % g * t + x
  bit_of h x less = ap (λ (n : ℕ). n % 64) (in_word h x) ∙ mod-mul-add (h / g) 64 (h % g * t + x) (pair_fits h x less)

  -- the parity of a block
  even : (m r : ℕ) → r < s → (m * t + r) / s % 2 ≡ 0
  even m r less =
      let twice : m * t ≡ m * 2 * s = ap (λ (n : ℕ). m * n) (double ∙ omega arith) ∙ sym (mul_assoc m 2 s) in
      let is : (m * t + r) / s ≡ m * 2 = ap (λ (n : ℕ). (n + r) / s) twice ∙ div-mul-add (m * 2) s r less in
      omega (arith, is)

  odd : (m r : ℕ) → r < s → (m * t + (s + r)) / s % 2 ≡ 1
  odd m r less =
      let twice : m * t ≡ m * 2 * s = ap (λ (n : ℕ). m * n) (double ∙ omega arith) ∙ sym (mul_assoc m 2 s) in
      let next = add-mul (m * 2) 1 s in
      let place : m * t + (s + r) ≡ (m * 2 + 1) * s + r = omega (arith, twice, next) in
      let is : (m * t + (s + r)) / s ≡ m * 2 + 1 = ap (λ (n : ℕ). n / s) place ∙ div-mul-add (m * 2 + 1) s r less in
      omega (arith, is)

  -- a lane by its word and its place there
  lane_at : (x : List ℕ) (h p : ℕ) → p < t → bit_lane x (h * t + p) ≡ bit_at (slice_index x (h / g)) (h % g * t + p)
  lane_at x h p less = ap₂ (λ (n b : ℕ). bit_at (slice_index x n) b) (word_of h p less) (bit_of h p less)

  module _ (x y c d : List ℕ) (first : (n : ℕ) → HasFirstBlocks 64 s (slice_index x n) (slice_index y n) (slice_index c n))
      (second : (n : ℕ) → HasSecondBlocks 64 s (slice_index x n) (slice_index y n) (slice_index d n)) where
    low_even : (h r : ℕ) → r < s → bit_lane c (h * t + r) ≡ bit_lane x (h * t + r)
    low_even h r less =
        let fits : r < t = omega (arith, double, less) in
        lane_at c h r fits ∙ (first (h / g) (h % g * t + r) (pair_fits h r fits)).0 (even (h % g) r less) ∙ sym (lane_at x h r fits)

    low_odd : (h r : ℕ) → r < s → bit_lane c (h * t + (s + r)) ≡ bit_lane y (h * t + r)
    low_odd h r less =
        let fits : s + r < t = omega (arith, double, less) in
        lane_at c h (s + r) fits
        ∙ (first (h / g) (h % g * t + (s + r)) (pair_fits h (s + r) fits)).1 (odd (h % g) r less)
        ∙ ap (bit_at (slice_index y (h / g))) (omega arith) ∙ sym (lane_at y h r (omega (arith, fits)))

    high_even : (h r : ℕ) → r < s → bit_lane d (h * t + r) ≡ bit_lane x (h * t + (s + r))
    high_even h r less =
        let fits : s + r < t = omega (arith, double, less) in
        let below : r < t = omega (arith, fits) in
        lane_at d h r below ∙ (second (h / g) (h % g * t + r) (pair_fits h r below)).0 (even (h % g) r less)
        ∙ ap (bit_at (slice_index x (h / g))) (omega arith) ∙ sym (lane_at x h (s + r) fits)

    high_odd : (h r : ℕ) → r < s → bit_lane d (h * t + (s + r)) ≡ bit_lane y (h * t + (s + r))
    high_odd h r less =
        let fits : s + r < t = omega (arith, double, less) in
        lane_at d h (s + r) fits ∙ (second (h / g) (h % g * t + (s + r)) (pair_fits h (s + r) fits)).1 (odd (h % g) r less)
        ∙ sym (lane_at y h (s + r) fits)

-- the groups of blocks in a word
groups_of : (level : ℕ) → level < 6 → 2 ^ (5 - level) * 2 ^ suc level ≡ 64
groups_of level less =
    let places : 5 - level + suc level ≡ 6 = omega (arith, less) in
    sym (pow-add 2 (5 - level) (suc level)) ∙ ap (λ (n : ℕ). 2 ^ n) places

-- exchanged blocks of bits are exchanged lanes
pub blocks_exchanged : (level block : ℕ) (x y c d : List ℕ) → level < 7 → level ≢ 6 → block ≡ 1 * 2 ^ level % 2 ^ 32
    → ((n : ℕ) → HasFirstBlocks 64 block (slice_index x n) (slice_index y n) (slice_index c n))
    → ((n : ℕ) → HasSecondBlocks 64 block (slice_index x n) (slice_index y n) (slice_index d n))
    → AreLanesExchanged level (bit_lane x) (bit_lane y) (bit_lane c) (bit_lane d)
blocks_exchanged level block x y c d less other is first second =
    let few = below_six level less other in
    let small : 2 ^ level ≤ 2 ^ 5 = pow_mono {i = level} {j = 5} (omega (arith, few)) in
    let same : block ≡ 2 ^ level = omega (arith, is, small) in
    let s = 2 ^ level in
    let double : 2 ^ suc level ≡ 2 ^ level + 2 ^ level = pow-suc 2 level ∙ omega arith in
    let groups = groups_of level few in
    let firsts = subst (λ (b : ℕ). (n : ℕ) → HasFirstBlocks 64 b (slice_index x n) (slice_index y n) (slice_index c n)) same first in
    let seconds = subst (λ (b : ℕ). (n : ℕ) → HasSecondBlocks 64 b (slice_index x n) (slice_index y n) (slice_index d n)) same second in
    record {
      low_even = low_even s (2 ^ suc level) (2 ^ (5 - level)) double groups (pow_pos level) (pow_pos (5 - level)) x y c d firsts seconds;
      low_odd = low_odd s (2 ^ suc level) (2 ^ (5 - level)) double groups (pow_pos level) (pow_pos (5 - level)) x y c d firsts seconds;
      high_even = high_even s (2 ^ suc level) (2 ^ (5 - level)) double groups (pow_pos level) (pow_pos (5 - level)) x y c d firsts seconds;
      high_odd = high_odd s (2 ^ suc level) (2 ^ (5 - level)) double groups (pow_pos level) (pow_pos (5 - level)) x y c d firsts seconds;
    }

-- ---- words

-- a lane of an even word, and one of an odd word
lane_even : (x : List ℕ) (h r : ℕ) → r < 64 → bit_lane x (h * 128 + r) ≡ bit_at (slice_index x (h * 2)) r
lane_even x h r less = ap₂ (λ (n b : ℕ). bit_at (slice_index x n) b) (omega (arith, less)) (omega (arith, less))

lane_odd : (x : List ℕ) (h r : ℕ) → r < 64 → bit_lane x (h * 128 + (64 + r)) ≡ bit_at (slice_index x (h * 2 + 1)) r
lane_odd x h r less = ap₂ (λ (n b : ℕ). bit_at (slice_index x n) b) (omega (arith, less)) (omega (arith, less))

-- exchanged words are exchanged lanes
pub words_exchanged : (level : ℕ) (x y c d : List ℕ) → level ≡ 6 → AreWordsExchanged (slice_index x) (slice_index y) (slice_index c) (slice_index d)
    → AreLanesExchanged level (bit_lane x) (bit_lane y) (bit_lane c) (bit_lane d)
words_exchanged level x y c d is moved =
    subst (λ (j : ℕ). AreLanesExchanged j (bit_lane x) (bit_lane y) (bit_lane c) (bit_lane d)) (sym is) record {
      low_even = λ h r less. lane_even c h r less ∙ ap (λ (w : ℕ). bit_at w r) (moved.low_even h) ∙ sym (lane_even x h r less);
      low_odd = λ h r less. lane_odd c h r less ∙ ap (λ (w : ℕ). bit_at w r) (moved.low_odd h) ∙ sym (lane_even y h r less);
      high_even = λ h r less. lane_even d h r less ∙ ap (λ (w : ℕ). bit_at w r) (moved.high_even h) ∙ sym (lane_odd x h r less);
      high_odd = λ h r less. lane_odd d h r less ∙ ap (λ (w : ℕ). bit_at w r) (moved.high_odd h) ∙ sym (lane_odd y h r less);
    }
