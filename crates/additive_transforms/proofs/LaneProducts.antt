-- Products in lanes, each by a scalar of its own.
use Rattle.std.proofs.Common.{◌≡◌, ℕ, zero, suc, ◌+◌, ◌*◌, ◌/◌, ◌%◌, ◌^◌, ◌<◌, ◌≤◌, true, List, length, get_or, refl, sym, ◌∙◌, ap, ap₂, subst, arith, lit<}
use Rattle.std.specs.Prelude.{bit_and, bit_xor, slice_index}
use Rattle.std.specs.Int.{bit_at}
use Rattle.std.specs.Simd.Lanes.{chunk, zip2}
use Rattle.std.proofs.lemmas.Nat.Bits.{bit_at-lt}
use Rattle.std.proofs.lemmas.Simd.{get_or-chunk, get_or-zip2, length-chunk}
use native.Mathlib.Nat.{one-mul, zero-mul}
use lib.Bits.{and_mask, and_zero_r, xor_assoc, xor_comm, xor_zero_r}
use Rattle.field_base.specs.Basis.{sum_below}
use Rattle.field_base.specs.lemmas.BitRing.{two_cases}
use Rattle.field_base.specs.Quadratic.{pair}
use Rattle.field_base.specs.Tower.{tower_mul}
use Rattle.field_base.proofs.QuadraticRing.{high_half-pair, low_half-pair}
use Rattle.field_base.proofs.RingLemmas.{sum_times, xor_cancel, zero-times}
use Rattle.field_base.proofs.TableChecks.{passes, tabulates, tabulates_at}
use Rattle.field_base.proofs.TowerProducts.{level-lt, tower_mul-low_times}
use Rattle.field_base.proofs.TowerRing.{tower_ring}
use Rattle.ghash_slices.specs.Stages.{add_multiple}
use Rattle.word_tables.specs.Cantor.{cantor_vector}
use Rattle.additive_transforms.specs.Lanes.{lane_twiddle, lower_lane, upper_lane}
use Rattle.additive_transforms.specs.Rows.{byte_of_lane, level_of}
use Rattle.additive_transforms.specs.Units.{AreUnwoven}
use Rattle.additive_transforms.specs.declared.lane_planes.TheConstants.{MASKS, VECTORS}
use Rattle.additive_transforms.proofs.LaneFacts.{sum_of_pairs}

-- ---- the tables

-- the bytes of the masks (computed)
masks_pass : tabulates (λ p. 255 * bit_at (p % 32) (p / 32)) MASKS ≡ true
unfolding tabulates passes
masks_pass = refl

-- and the vectors
vectors_pass : tabulates (λ b. cantor_vector (suc b)) VECTORS ≡ true
unfolding tabulates passes
vectors_pass = refl

-- vector b + 1
pub vector_at : (b : ℕ) → b < 5 → slice_index VECTORS b ≡ cantor_vector (suc b)
vector_at b below = tabulates_at (λ b. cantor_vector (suc b)) VECTORS b vectors_pass below

-- which is a byte
pub vector_fits : (b : ℕ) → b < 5 → slice_index VECTORS b < 2 ^ 2 ^ 3
vector_fits zero below = lit< tt
vector_fits (suc zero) below = lit< tt
vector_fits (suc (suc zero)) below = lit< tt
vector_fits (suc (suc (suc zero))) below = lit< tt
vector_fits (suc (suc (suc (suc zero)))) below = lit< tt
vector_fits (suc (suc (suc (suc (suc b))))) below = absurd (omega (arith, below))

-- the mask of a lane
mask_at : (bit l : ℕ) → bit < 5 → l < 32 → slice_index MASKS (32 * bit + l) ≡ 255 * bit_at l bit
mask_at bit l below lane =
    let row : (32 * bit + l) / 32 ≡ bit = omega (arith, lane) in
    let column : (32 * bit + l) % 32 ≡ l = omega (arith, lane) in
    tabulates_at (λ p. 255 * bit_at (p % 32) (p / 32)) MASKS (32 * bit + l) masks_pass (omega (arith, below, lane))
    ∙ ap₂ (λ (c r : ℕ). 255 * bit_at c r) column row

-- a masked byte
masked_byte : (x bit : ℕ) → bit < 2 → bit_and x (255 * bit) % 2 ^ 8 ≡ bit * (x % 2 ^ 8)
masked_byte x bit two =
    two_cases (λ d. bit_and x (255 * d) % 2 ^ 8 ≡ d * (x % 2 ^ 8)) (ap (λ (y : ℕ). y % 2 ^ 8) (and_zero_r x) ∙ sym (zero-mul (x % 2 ^ 8)))
    (ap (λ (y : ℕ). y % 2 ^ 8) (and_mask x 8) ∙ twice ∙ sym (one-mul (x % 2 ^ 8))) bit two
  where
    twice : x % 2 ^ 8 % 2 ^ 8 ≡ x % 2 ^ 8
    twice = omega arith

-- the bytes of a vector in the lanes whose numbers have the bit
pub masked_lane : (xs mask : List ℕ) (bit l : ℕ) → length xs ≡ 32 → mask ≡ chunk (32 * bit) 32 MASKS → bit < 5 → l < 32
    → byte_of_lane (zip2 bit_and xs mask) l ≡ bit_at l bit * byte_of_lane xs l
masked_lane xs mask bit l long is below lane =
    let here : l < length xs = omega (arith, long, lane) in
    let room : 32 * bit + 32 ≤ length MASKS = omega (arith, below) in
    let count = ap length is ∙ length-chunk (32 * bit) 32 MASKS room in
    let there : l < length mask = omega (arith, count, lane) in
    ap (λ (y : ℕ). y % 2 ^ 8)
    (get_or-zip2 bit_and xs mask l 0 0 0 here there
    ∙ ap (bit_and (slice_index xs l))
    (ap (λ (m : List ℕ). get_or m l 0) is ∙ get_or-chunk (32 * bit) 32 MASKS l 0 lane ∙ mask_at bit l below lane))
    ∙ masked_byte (slice_index xs l) (bit_at l bit) (bit_at-lt l bit)

-- ---- products by a byte

-- a byte is an element of each level of bytes and more
byte_fits : (d v : ℕ) → v < 2 ^ 2 ^ 3 → v < 2 ^ 2 ^ level_of d
byte_fits zero v fits = fits
byte_fits (suc d) v fits =
    let next : 1 + level_of d ≡ suc (level_of d) = omega arith in
    subst (λ (k : ℕ). v < 2 ^ 2 ^ k) next (level-lt 1 (level_of d) v (byte_fits d v fits))

-- where both halves of an element are added to products by a byte, or not, so is the element
pub pair_added : (d v bit a0 a1 x0 x1 : ℕ) → v < 2 ^ 2 ^ 3 → bit < 2 → a0 < 2 ^ 2 ^ level_of d → x0 < 2 ^ 2 ^ level_of d
    → x1 < 2 ^ 2 ^ level_of d
    → pair (2 ^ level_of d) (bit_xor a0 (bit * tower_mul (level_of d) v x0)) (bit_xor a1 (bit * tower_mul (level_of d) v x1))
    ≡ bit_xor (pair (2 ^ level_of d) a0 a1) (bit * tower_mul (suc (level_of d)) v (pair (2 ^ level_of d) x0 x1))
pair_added d v bit a0 a1 x0 x1 byte two a0_fits x0_fits x1_fits =
    two_cases
    (λ e. pair (2 ^ k) (bit_xor a0 (e * tower_mul k v x0)) (bit_xor a1 (e * tower_mul k v x1))
    ≡ bit_xor (pair (2 ^ k) a0 a1) (e * tower_mul (suc k) v (pair (2 ^ k) x0 x1)))
    (ap₂ (pair (2 ^ k)) (none a0 (tower_mul k v x0)) (none a1 (tower_mul k v x1))
    ∙ sym (none (pair (2 ^ k) a0 a1) (tower_mul (suc k) v (pair (2 ^ k) x0 x1))))
    (ap₂ (pair (2 ^ k)) (one a0 (tower_mul k v x0)) (one a1 (tower_mul k v x1))
    ∙ sum_of_pairs k a0 a1 (tower_mul k v x0) (tower_mul k v x1) a0_fits ((tower_ring k).below v x0)
    ∙ ap (bit_xor (pair (2 ^ k) a0 a1)) product
    ∙ sym (one (pair (2 ^ k) a0 a1) (tower_mul (suc k) v (pair (2 ^ k) x0 x1))))
    bit two
  where
    k : ℕ
    k = level_of d

    none : (a y : ℕ) → bit_xor a (0 * y) ≡ a
    none a y = ap (bit_xor a) (zero-mul y) ∙ xor_zero_r a

    one : (a y : ℕ) → bit_xor a (1 * y) ≡ bit_xor a y
    one a y = ap (bit_xor a) (one-mul y)

    product : pair (2 ^ k) (tower_mul k v x0) (tower_mul k v x1) ≡ tower_mul (suc k) v (pair (2 ^ k) x0 x1)
    product =
        ap₂ (λ (x y : ℕ). pair (2 ^ k) (tower_mul k v x) (tower_mul k v y)) (sym (low_half-pair (2 ^ k) x0 x1 x0_fits))
        (sym (high_half-pair (2 ^ k) x0 x1 x0_fits x1_fits))
        ∙ sym (tower_mul-low_times k v (pair (2 ^ k) x0 x1) (byte_fits d v byte))

-- ---- products by the vectors of a lane

-- by none
pub no_vectors : (k l a x : ℕ) → a ≡ bit_xor a (tower_mul k (lane_twiddle 0 l) x)
unfolding lane_twiddle sum_below
no_vectors k l a x = sym (ap (bit_xor a) (zero-times (2 ^ k) 1 (tower_mul k) (tower_ring k) x) ∙ xor_zero_r a)

more_vectors : (b l : ℕ) → lane_twiddle (suc b) l ≡ bit_xor (lane_twiddle b l) (bit_at l b * cantor_vector (suc b))
unfolding lane_twiddle sum_below
more_vectors b l = refl

-- and by one more
pub next_vector : (k b l v a now x : ℕ) → v ≡ cantor_vector (suc b) → now ≡ bit_xor a (tower_mul k (lane_twiddle b l) x)
    → bit_xor now (bit_at l b * tower_mul k v x) ≡ bit_xor a (tower_mul k (lane_twiddle (b + 1) l) x)
next_vector k b l v a now x is before =
    let next : b + 1 ≡ suc b = omega arith in
    ap (λ (y : ℕ). bit_xor y (bit_at l b * tower_mul k v x)) before
    ∙ xor_assoc a (tower_mul k (lane_twiddle b l) x) (bit_at l b * tower_mul k v x)
    ∙ ap (bit_xor a)
    (ap (bit_xor (tower_mul k (lane_twiddle b l) x))
    (chosen (bit_at l b) (bit_at-lt l b) ∙ ap (λ (w : ℕ). tower_mul k (bit_at l b * w) x) is)
    ∙ sym (sum_times (2 ^ k) 1 (tower_mul k) (tower_ring k) (lane_twiddle b l) (bit_at l b * cantor_vector (suc b)) x)
    ∙ ap (λ (t : ℕ). tower_mul k t x) (sym (more_vectors b l)) ∙ ap (λ (n : ℕ). tower_mul k (lane_twiddle n l) x) (sym next))
  where
    chosen : (d : ℕ) → d < 2 → d * tower_mul k v x ≡ tower_mul k (d * v) x
    chosen d two =
        two_cases (λ e. e * tower_mul k v x ≡ tower_mul k (e * v) x)
        (zero-mul (tower_mul k v x)
        ∙ sym (ap (λ (w : ℕ). tower_mul k w x) (zero-mul v) ∙ zero-times (2 ^ k) 1 (tower_mul k) (tower_ring k) x))
        (one-mul (tower_mul k v x) ∙ ap (λ (w : ℕ). tower_mul k w x) (sym (one-mul v))) d two

-- the product by the shift and the vectors
pub all_vectors : (k s t a x product sum result : ℕ) → product ≡ tower_mul k s x → sum ≡ bit_xor product a
    → result ≡ bit_xor sum (tower_mul k t x) → result ≡ bit_xor a (tower_mul k (bit_xor s t) x)
all_vectors k s t a x product sum result times added is =
    is ∙ ap (λ (y : ℕ). bit_xor y (tower_mul k t x)) (added ∙ ap (λ (y : ℕ). bit_xor y a) times ∙ xor_comm (tower_mul k s x) a)
    ∙ xor_assoc a (tower_mul k s x) (tower_mul k t x)
    ∙ ap (bit_xor a) (sym (sum_times (2 ^ k) 1 (tower_mul k) (tower_ring k) s t x))

-- ---- the butterflies of a stage

-- what is woven are the results in each lane
unwoven-same : (n : ℕ) (first second evens odds evens' odds' : ℕ → ℕ) → ((l : ℕ) → l < n → evens' l ≡ evens l)
    → ((l : ℕ) → l < n → odds' l ≡ odds l) → n % 2 ≡ 0 → AreUnwoven n first second evens odds → AreUnwoven n first second evens' odds'
unwoven-same n first second evens odds evens' odds' even odd whole are =
    record {
      first_evens = λ l before. even l (omega (arith, before)) ∙ are.first_evens l before;
      first_odds = λ l before. odd l (omega (arith, before)) ∙ are.first_odds l before;
      second_evens = λ l below past. even l below ∙ are.second_evens l below past;
      second_odds = λ l below past. odd l below ∙ are.second_odds l below past;
    }

module _ (n : ℕ) (times : ℕ → ℕ → ℕ) (t low high lower upper first second : ℕ → ℕ) where
  -- after the butterflies
  pub woven_after : n % 2 ≡ 0 → ((l : ℕ) → l < n → lower l ≡ add_multiple times (t l) (low l) (high l))
      → ((l : ℕ) → l < n → upper l ≡ bit_xor (high l) (lower l)) → AreUnwoven n first second lower upper
      → AreUnwoven n first second (lower_lane times t low high) (upper_lane times t low high)
  woven_after even lowers uppers are =
      unwoven-same n first second lower upper (lower_lane times t low high) (upper_lane times t low high) (λ l below. sym (lowers l below))
      (λ l below. ap (bit_xor (high l)) (sym (lowers l below)) ∙ sym (uppers l below)) even are

  -- before them
  pub unwoven_before : n % 2 ≡ 0 → AreUnwoven n first second lower upper → ((l : ℕ) → l < n → high l ≡ bit_xor (upper l) (lower l))
      → ((l : ℕ) → l < n → low l ≡ add_multiple times (t l) (lower l) (high l))
      → AreUnwoven n first second (lower_lane times t low high) (upper_lane times t low high)
  unwoven_before even are uppers lowers =
      unwoven-same n first second lower upper (lower_lane times t low high) (upper_lane times t low high) back
      (λ l below. ap (bit_xor (high l)) (back l below) ∙ ap (λ (h : ℕ). bit_xor h (lower l)) (uppers l below)
      ∙ xor_twice (upper l) (lower l))
      even are
    where
      xor_twice : (a b : ℕ) → bit_xor (bit_xor a b) b ≡ a
      xor_twice a b = xor_comm (bit_xor a b) b ∙ ap (bit_xor b) (xor_comm a b) ∙ xor_cancel b a

      back : (l : ℕ) → l < n → lower_lane times t low high l ≡ lower l
      back l below = ap (λ (x : ℕ). bit_xor x (times (t l) (high l))) (lowers l below) ∙ xor_twice (lower l) (times (t l) (high l))
