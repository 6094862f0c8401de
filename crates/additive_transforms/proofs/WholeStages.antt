-- All the stages of a transform, and what they leave.
use Rattle.std.proofs.Common.{◌≡◌, ℕ, zero, suc, ◌+◌, ◌-◌, ◌*◌, ◌/◌, ◌%◌, ◌^◌, ◌<◌, ◌≤◌, List, length, take, refl, sym, ◌∙◌, ap, ap₂, subst, arith, lit<, lit≤}
use Rattle.std.specs.Prelude.{bit_xor, slice_index}
use Rattle.std.specs.Int.{bit_at}
use Rattle.std.proofs.Math.Nat.{div-add-mod, div-eq_of_lt, div-lt_iff_lt-mul, mul-le-mul_right, pow-le-pow_right, two-pow-succ}
use Rattle.std.proofs.lemmas.List.{get_or-take}
use Rattle.std.proofs.lemmas.Nat.{pow-add, pow_pos}
use Rattle.std.proofs.lemmas.Nat.Bits.{bit_at-lt}
use native.Mathlib.Nat.{mod-eq_of_lt, mod-lt}
use lib.Bits.{xor_assoc, xor_comm, xor_zero_r}
use lib.Seq.{length-take-le}
use Rattle.field_base.specs.lemmas.BitRing.{two_cases}
use Rattle.field_base.specs.LinearMaps.{linear_image}
use Rattle.field_base.specs.Orders.{AreCantorVectors}
use Rattle.field_base.specs.Ring.{IsRing}
use Rattle.field_base.proofs.RemainderRing.{ghash_ring}
use Rattle.field_base.proofs.RingLemmas.{sum_times}
use Rattle.ghash_slices.specs.Cantor.{AreCantorTwiddles, point, polynomial_value}
use Rattle.ghash_slices.specs.Stages.{factor, lower_place, stage, stages, upper_place}
use Rattle.ghash_slices.proofs.CantorValues.{factors_are_subspace_values, sums_are_values}
use Rattle.ghash_slices.proofs.GhashVectors.{ghash_vectors}
use Rattle.ghash_slices.proofs.Places.{by_block, next_quotient}
use Rattle.ghash_slices.proofs.StageSums.{stages_sum, sum_of_factors-same, sum_of_factors-values}
use Rattle.ghash_slices.specs.LowStages.{ghash_cantor_vector, ghash_product, HoldSums, values_from}
use Rattle.additive_transforms.specs.Stages.{AreLeft, IsButterfly, IsStage}

-- ---- places

-- a place by its block of stage j, its bit j, and its place in the half
pub record SplitPlace (j p : ℕ) : Type 0 where
  pub bit : bit_at p j < 2
  pub low : p % 2 ^ j < 2 ^ j
  pub place : p ≡ p / 2 ^ suc j * 2 ^ suc j + (bit_at p j * 2 ^ j + p % 2 ^ j)

-- a place as its block of stage j, its bit j and the bits below
pub split_place : (j p : ℕ) → SplitPlace j p
split_place j p =
    let half = div-add-mod p (2 ^ j) in
    let whole = div-add-mod (p / 2 ^ j) 2 in
    let quotient = next_quotient p j in
    let size = two-pow-succ j in
    record {
      bit = bit_at-lt p j;
      low = mod-lt p (pow_pos j);
      place = joined (p / 2 ^ j) (p / 2 ^ suc j) (2 ^ j) (2 ^ suc j) (p % 2 ^ j) quotient size (sym half);
    }
  where
    joined : (whole q h s r : ℕ) → q ≡ whole / 2 → s ≡ h + h → p ≡ h * whole + r → p ≡ q * s + (whole % 2 * h + r)
    joined whole q h s r is size parts =
        let again : whole ≡ q * 2 + whole % 2 = omega (arith, is) in
        parts ∙ ap (λ (w : ℕ). h * w + r) again
        ∙ (let same : h * (q * 2 + whole % 2) + r ≡ q * (h + h) + (whole % 2 * h + r) = omega arith in same)
        ∙ ap (λ (n : ℕ). q * n + (whole % 2 * h + r)) (sym size)

-- both places of a pair are before the end of the blocks
module _ (j blocks p : ℕ) (inside : p < blocks * 2 ^ suc j) where
  -- the block of a place of the values is one of the blocks
  pub block_before : p / 2 ^ suc j < blocks
  block_before = (div-lt_iff_lt-mul (pow_pos (suc j))).1 inside

  -- and ends where the values end at the latest
  pub end_before : p / 2 ^ suc j * 2 ^ suc j + 2 ^ suc j ≤ blocks * 2 ^ suc j
  end_before =
      let room : suc (p / 2 ^ suc j) * 2 ^ suc j ≤ blocks * 2 ^ suc j = mul-le-mul_right (2 ^ suc j) block_before in
      let one : suc (p / 2 ^ suc j) * 2 ^ suc j ≡ p / 2 ^ suc j * 2 ^ suc j + 2 ^ suc j = omega arith in
      omega (arith, room, one)

  -- so its lower place is a place of the values
  pub lower_inside : lower_place j p < blocks * 2 ^ suc j
  unfolding lower_place
  lower_inside =
      let small = (split_place j p).low in
      let size = two-pow-succ j in
      let end = end_before in
      omega (arith, small, size, end)

  -- and so is its upper place
  pub upper_inside : upper_place j p < blocks * 2 ^ suc j
  unfolding upper_place lower_place
  upper_inside =
      let small = (split_place j p).low in
      let size = two-pow-succ j in
      let end = end_before in
      omega (arith, small, size, end)

-- ---- one stage

-- a stage reads the values of the blocks alone
stage-same : (times : ℕ → ℕ → ℕ) (f : ℕ → ℕ → ℕ) (j blocks : ℕ) (a b : ℕ → ℕ) → ((k : ℕ) → k < blocks * 2 ^ suc j → a k ≡ b k)
    → (p : ℕ) → p < blocks * 2 ^ suc j → stage times f j a p ≡ stage times f j b p
unfolding stage
stage-same times f j blocks a b same p inside =
    ap₂ (λ (x y : ℕ). bit_xor x (times (f j p) y)) (same (lower_place j p) (lower_inside j blocks p inside))
    (same (upper_place j p) (upper_inside j blocks p inside))

-- the upper result of a butterfly is the lower one of a scalar that is 1 more
pub upper_result : (width : ℕ) (times : ℕ → ℕ → ℕ) → IsRing width 1 times → (t low high : ℕ) → high < 2 ^ width
    → bit_xor high (bit_xor low (times t high)) ≡ bit_xor low (times (bit_xor t 1) high)
upper_result width times ring t low high fits =
    xor_comm high (bit_xor low (times t high)) ∙ xor_assoc low (times t high) high
    ∙ ap (bit_xor low)
    (sym (sum_times width 1 times ring t 1 high ∙ ap (bit_xor (times t high)) (ring.one high ∙ mod-eq_of_lt fits)))

-- the butterfly of a block is the stage at its places, whose factors are the block's twiddle and bit j of the place
pub stage-at : (width : ℕ) (times : ℕ → ℕ → ℕ) → IsRing width 1 times → (f : ℕ → ℕ → ℕ) (j p t : ℕ) (a b : ℕ → ℕ)
    → ((k : ℕ) → a k < 2 ^ width) → f j p ≡ bit_xor t (bit_at p j)
    → IsButterfly times t (2 ^ j) (λ r. a (p / 2 ^ suc j * 2 ^ suc j + r)) (λ r. b (p / 2 ^ suc j * 2 ^ suc j + r))
    → b p ≡ stage times f j a p
unfolding stage upper_place lower_place
stage-at width times ring f j p t a b fits factor_is block =
    two_cases
    (λ d. bit_at p j ≡ d → b p ≡ bit_xor (a (q * 2 ^ suc j + r)) (times (bit_xor t (bit_at p j)) (a (q * 2 ^ suc j + r + 2 ^ j))))
    at_lower at_upper (bit_at p j) split.bit refl
    ∙ ap (λ (s : ℕ). bit_xor (a (q * 2 ^ suc j + r)) (times s (a (q * 2 ^ suc j + r + 2 ^ j)))) (sym factor_is)
  where
    q : ℕ
    q = p / 2 ^ suc j

    r : ℕ
    r = p % 2 ^ j

    split : SplitPlace j p
    split = split_place j p

    at_lower : bit_at p j ≡ 0
        → b p ≡ bit_xor (a (q * 2 ^ suc j + r)) (times (bit_xor t (bit_at p j)) (a (q * 2 ^ suc j + r + 2 ^ j)))
    at_lower none =
        let at : p ≡ q * 2 ^ suc j + r = omega (arith, split.place, ap (λ (d : ℕ). d * 2 ^ j) none) in
        let other : q * 2 ^ suc j + (2 ^ j + r) ≡ q * 2 ^ suc j + r + 2 ^ j = omega arith in
        ap b at ∙ block.lower r split.low
        ∙ ap₂ (λ (s : ℕ) (k : ℕ). bit_xor (a (q * 2 ^ suc j + r)) (times s (a k))) (sym (ap (bit_xor t) none ∙ xor_zero_r t)) other

    at_upper : bit_at p j ≡ 1
        → b p ≡ bit_xor (a (q * 2 ^ suc j + r)) (times (bit_xor t (bit_at p j)) (a (q * 2 ^ suc j + r + 2 ^ j)))
    at_upper one =
        let at : p ≡ q * 2 ^ suc j + (2 ^ j + r) = omega (arith, split.place, ap (λ (d : ℕ). d * 2 ^ j) one) in
        let other : q * 2 ^ suc j + (2 ^ j + r) ≡ q * 2 ^ suc j + r + 2 ^ j = omega arith in
        let high : ℕ = a (q * 2 ^ suc j + (2 ^ j + r)) in
        let low : ℕ = a (q * 2 ^ suc j + r) in
        ap b at ∙ block.upper r split.low ∙ ap (bit_xor high) (block.lower r split.low)
        ∙ upper_result width times ring t low high (fits (q * 2 ^ suc j + (2 ^ j + r)))
        ∙ ap (bit_xor low) (ap₂ (λ (s : ℕ) (k : ℕ). times s (a k)) (ap (bit_xor t) (sym one)) other)

-- ---- stages one after another, of 2 ^ m places

-- 2 ^ m values are whole blocks of stage n
pub whole_blocks : (m n : ℕ) → n < m → 2 ^ m ≡ 2 ^ (m - suc n) * 2 ^ suc n
whole_blocks m n below =
    let parts : m ≡ m - suc n + suc n = omega arith in
    ap (λ (e : ℕ). 2 ^ e) parts ∙ pow-add 2 (m - suc n) (suc n)

module _ (times : ℕ → ℕ → ℕ) (shifts basis : List ℕ) where
  -- the factor of stage j at p depends on p / 2 ^ j alone
  by_quotient : (j p q : ℕ) → p / 2 ^ j ≡ q / 2 ^ j → factor shifts basis j p ≡ factor shifts basis j q
  unfolding factor
  by_quotient j = by_block (λ (block bit : ℕ). bit_xor (bit_xor (slice_index shifts j) (linear_image basis block)) bit) j

  -- stage n of 2 ^ m values depends on those values alone
  stage-here : (m n : ℕ) → n < m → (a b : ℕ → ℕ) → ((k : ℕ) → k < 2 ^ m → a k ≡ b k) → (p : ℕ) → p < 2 ^ m
      → stage times (factor shifts basis) n a p ≡ stage times (factor shifts basis) n b p
  stage-here m n below a b same p inside =
      let all = whole_blocks m n below in
      stage-same times (factor shifts basis) n (2 ^ (m - suc n)) a b (λ k within. same k (omega (arith, all, within))) p
      (omega (arith, all, inside))

  -- and so do the stages below n
  stages-same : (m n : ℕ) → n ≤ m → (a b : ℕ → ℕ) → ((k : ℕ) → k < 2 ^ m → a k ≡ b k) → (p : ℕ) → p < 2 ^ m
      → stages times (factor shifts basis) n a p ≡ stages times (factor shifts basis) n b p
  unfolding stages
  stages-same m zero within a b same p inside = same p inside
  stages-same m (suc n) within a b same p inside =
      stages-same m n (omega arith) (stage times (factor shifts basis) n a) (stage times (factor shifts basis) n b)
      (λ k below. stage-here m n (omega arith) a b same k below) p inside

  -- the stages below n take what is there to the values
  abbrev pub AreUndone : ℕ → ℕ → List ℕ → List ℕ → Type 0
  AreUndone m n old now =
      (p : ℕ) → p < 2 ^ m → stages times (factor shifts basis) n (slice_index now) p ≡ slice_index old p

  -- before its first stage nothing is undone
  pub undone_start : (m : ℕ) (old : List ℕ) → AreUndone m 0 old old
  unfolding stages
  undone_start m old p inside = refl

module _ (width : ℕ) (times : ℕ → ℕ → ℕ) (ring : IsRing width 1 times) (shifts basis : List ℕ) where
  -- butterflies in all blocks are the stage
  pub stage-is : (j blocks : ℕ) (a b : List ℕ) → ((p : ℕ) → slice_index a p < 2 ^ width)
      → IsStage times (slice_index shifts j) basis j blocks a b → (p : ℕ)
      → p < blocks * 2 ^ suc j → slice_index b p ≡ stage times (factor shifts basis) j (slice_index a) p
  unfolding factor
  stage-is j blocks a b fits is p inside =
      stage-at width times ring (factor shifts basis) j p (bit_xor (slice_index shifts j) (linear_image basis (p / 2 ^ suc j)))
      (slice_index a) (slice_index b) fits refl (is (p / 2 ^ suc j) (block_before j blocks p inside))

  -- one more stage of the forward transform
  pub left_step : (m n blocks : ℕ) (old now next : List ℕ) → n < m → blocks ≡ 2 ^ (m - suc n) → ((p : ℕ) → slice_index now p < 2 ^ width)
      → IsStage times (slice_index shifts n) basis n blocks now next → AreLeft times shifts basis m (suc n) old now
      → AreLeft times shifts basis m n old next
  unfolding stages
  left_step m n blocks old now next below count fits is left p inside =
      stages-same times shifts basis m n (omega arith) (slice_index next) (stage times (factor shifts basis) n (slice_index now))
      (λ k within. stage-is n blocks now next fits is k (reach k within)) p inside
      ∙ left p inside
    where
      reach : (k : ℕ) → k < 2 ^ m → k < blocks * 2 ^ suc n
      reach k within = let all = whole_blocks m n below ∙ ap (λ (c : ℕ). c * 2 ^ suc n) (sym count) in omega (arith, all, within)

  -- one more stage of the inverse transform
  pub undone_step : (m n blocks : ℕ) (old now next : List ℕ) → n < m → blocks ≡ 2 ^ (m - suc n) → ((p : ℕ) → slice_index next p < 2 ^ width)
      → IsStage times (slice_index shifts n) basis n blocks next now → AreUndone times shifts basis m n old now
      → AreUndone times shifts basis m (suc n) old next
  unfolding stages
  undone_step m n blocks old now next below count fits is undone p inside =
      stages-same times shifts basis m n (omega arith) (stage times (factor shifts basis) n (slice_index next)) (slice_index now)
      (λ k within. sym (stage-is n blocks next now fits is k (reach k within))) p inside
      ∙ undone p inside
    where
      reach : (k : ℕ) → k < 2 ^ m → k < blocks * 2 ^ suc n
      reach k within = let all = whole_blocks m n below ∙ ap (λ (c : ℕ). c * 2 ^ suc n) (sym count) in omega (arith, all, within)

-- ---- values, with the twiddles of n stages

module _ (width : ℕ) (times : ℕ → ℕ → ℕ) (vector : ℕ → ℕ) (wide : 0 < width) (ring : IsRing width 1 times) (vectors : AreCantorVectors width times vector) (shifts basis : List ℕ) (z n : ℕ) (twiddles : AreCantorTwiddles width times vector z n shifts basis) (long : suc (length basis) ≡ n) where
  -- a place of 2 ^ m is one that the basis numbers
  pub reached : (m p : ℕ) → m ≤ n → p < 2 ^ m → p < 2 ^ suc (length basis)
  reached m p few inside =
      let most : 2 ^ m ≤ 2 ^ suc (length basis) = pow-le-pow_right (lit< tt) (omega (arith, few, long)) in omega (arith, most, inside)

  fewer : (m : ℕ) → m ≤ n → AreCantorTwiddles width times vector z m shifts basis
  fewer m few =
      record {
        stages_fit = let all = twiddles.stages_fit in omega (arith, few, all);
        basis_fits = twiddles.basis_fits;
        shifts_are = λ j below. twiddles.shifts_are j (omega (arith, below, few));
        basis_is = twiddles.basis_is;
      }

  pub stages_are_values : (m : ℕ) (c : List ℕ) (p : ℕ) → m ≤ n → p < 2 ^ m
      → stages times (factor shifts basis) m (slice_index c) p % 2 ^ width
      ≡ polynomial_value times m (slice_index c) (point width vector z p)
  stages_are_values m c p few inside =
      stages_sum width times wide ring (factor shifts basis) (by_quotient times shifts basis) m (slice_index c) p
      ∙ sum_of_factors-values times (λ j. factor shifts basis j p) m (λ k. slice_index c (p / 2 ^ m * 2 ^ m + k)) (slice_index c)
      (λ k below.
      ap (slice_index c) (ap (λ (q : ℕ). q * 2 ^ m + k) (div-eq_of_lt inside) ∙ (let same : 0 * 2 ^ m + k ≡ k = omega arith in same)))
      ∙ sums_are_values width times vector wide ring vectors z m shifts basis (fewer m few) (slice_index c) p (reached m p few inside)

-- ---- the low stages in the field of GHASH, whose twiddles have the same factors

module _ (shifts basis : List ℕ) (z : ℕ) (twiddles : AreCantorTwiddles 128 ghash_product ghash_cantor_vector z 4 shifts basis)
    (long : length basis ≡ 39) (m : ℕ) (enough : 4 ≤ m) (few : m ≤ 40) (all_shifts all_basis : List ℕ) (n : ℕ)
    (all : AreCantorTwiddles 128 ghash_product ghash_cantor_vector z n all_shifts all_basis) (all_long : suc (length all_basis) ≡ n)
    (reach : m ≤ n) where
  low_basis : length (take (m - 1) basis) ≡ m - 1
  low_basis = length-take-le (m - 1) basis (omega arith)

  low_twiddles : AreCantorTwiddles 128 ghash_product ghash_cantor_vector z 4 (take 4 shifts) (take (m - 1) basis)
  low_twiddles =
      record {
        stages_fit = lit≤ tt;
        basis_fits = omega (arith, low_basis);
        shifts_are = λ j below. get_or-take 4 shifts j 0 below ∙ twiddles.shifts_are j below;
        basis_is =
            λ t below.
            let within : t < m - 1 = omega (arith, low_basis, below) in
            get_or-take (m - 1) basis t 0 within ∙ twiddles.basis_is t (omega arith);
      }

  low_factor : (j p : ℕ) → j < 4 → p < 2 ^ m → factor (take 4 shifts) (take (m - 1) basis) j p ≡ factor all_shifts all_basis j p
  low_factor j p below inside =
      factors_are_subspace_values 128 ghash_product ghash_cantor_vector (lit< tt) ghash_ring ghash_vectors z 4 (take 4 shifts)
      (take (m - 1) basis) low_twiddles j p below wide
      ∙ sym (factors_are_subspace_values 128 ghash_product ghash_cantor_vector (lit< tt) ghash_ring ghash_vectors z n all_shifts all_basis
      all j p (omega (arith, below, enough, reach))
      (reached 128 ghash_product ghash_cantor_vector (lit< tt) ghash_ring ghash_vectors all_shifts all_basis z n all all_long m p reach
      inside))
    where
      bits : suc (length (take (m - 1) basis)) ≡ m
      bits = omega (arith, low_basis)

      wide : p < 2 ^ suc (length (take (m - 1) basis))
      wide = subst (λ (n : ℕ). p < 2 ^ n) (sym bits) inside

  pub low_stages_are : (now new : List ℕ) → length now ≡ 2 ^ m → HoldSums (take 4 shifts) (take (m - 1) basis) 0 now new
      → (p : ℕ) → p < 2 ^ m
      → slice_index new p ≡ stages ghash_product (factor all_shifts all_basis) 4 (slice_index now) p % 2 ^ 128
  low_stages_are now new whole sums p inside =
      let at : p ≡ 16 * (p / 16) + p % 16 = omega arith in
      let within : p % 16 < 16 = omega arith in
      let here : 16 * (p / 16) + p % 16 < length now = omega (arith, at, inside, whole) in
      ap (slice_index new) at ∙ sums (p / 16) (p % 16) within here
      ∙ sum_of_factors-same ghash_product
      (λ j. factor (take 4 shifts) (take (m - 1) basis) j (16 * (0 + p / 16) + p % 16)) (λ j. factor all_shifts all_basis j p) 4
      (values_from now (16 * (p / 16)))
      (λ j below.
      let same : 16 * (0 + p / 16) + p % 16 ≡ p = omega arith in
      ap (factor (take 4 shifts) (take (m - 1) basis) j) same ∙ low_factor j p below inside)
      ∙ sum_of_factors-values ghash_product (λ j. factor all_shifts all_basis j p) 4 (values_from now (16 * (p / 16)))
      (λ k. slice_index now (p / 2 ^ 4 * 2 ^ 4 + k))
      (λ k below. let same : 16 * (p / 16) + k ≡ p / 2 ^ 4 * 2 ^ 4 + k = omega arith in ap (slice_index now) same)
      ∙ sym
      (stages_sum 128 ghash_product (lit< tt) ghash_ring (factor all_shifts all_basis) (by_quotient ghash_product all_shifts all_basis) 4
      (slice_index now) p)
