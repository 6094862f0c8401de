-- What all the stages leave has one origin.
use Rattle.std.proofs.Common.{◌≡◌, ℕ, zero, suc, ◌+◌, ◌-◌, ◌*◌, ◌/◌, ◌%◌, ◌^◌, ◌<◌, ◌≤◌, List, length, refl, sym, ◌∙◌, ap, ap₂, subst, arith}
use Rattle.std.specs.Prelude.{bit_xor, slice_index}
use Rattle.std.specs.Int.{bit_at}
use Rattle.std.proofs.Math.Nat.{two-pow-succ}
use Rattle.std.proofs.lemmas.List.{ext_get_or}
use Rattle.std.proofs.lemmas.Nat.{div-mul-add, mod-mul-add, xor_lt}
use native.Mathlib.Nat.{mod-eq_of_lt}
use lib.Bits.{xor_assoc, xor_zero_r}
use Rattle.field_base.specs.lemmas.BitRing.{two_cases}
use Rattle.field_base.specs.LinearMaps.{linear_image}
use Rattle.field_base.specs.Orders.{AreCantorVectors}
use Rattle.field_base.specs.Ring.{IsRing}
use Rattle.field_base.proofs.RingLemmas.{sum_times, xor_cancel, xor_back}
use Rattle.additive_transforms.specs.Stages.{AreLeft}
use Rattle.ghash_slices.specs.Stages.{factor, lower_place, stage, stages, upper_place}
use Rattle.ghash_slices.specs.Cantor.{AreCantorTwiddles, point, polynomial_value}
use Rattle.additive_transforms.specs.Transform.{AreTheCoefficients, HoldValuesAtPoints}
use Rattle.additive_transforms.proofs.Counts.{one_exponent}
use Rattle.additive_transforms.proofs.WholeStages.{AreUndone, SplitPlace, end_before, split_place, stages_are_values, whole_blocks}

-- ---- both places of a pair

-- places q 2 ^ (j + 1) + r and 2 ^ j further, for r below 2 ^ j
record BothPlaces (j q r : ℕ) : Type 0 where
  low_quotient : (q * 2 ^ suc j + r) / 2 ^ suc j ≡ q
  high_quotient : (q * 2 ^ suc j + (2 ^ j + r)) / 2 ^ suc j ≡ q
  low_rest : (q * 2 ^ suc j + r) % 2 ^ j ≡ r
  high_rest : (q * 2 ^ suc j + (2 ^ j + r)) % 2 ^ j ≡ r
  low_bit : bit_at (q * 2 ^ suc j + r) j ≡ 0
  high_bit : bit_at (q * 2 ^ suc j + (2 ^ j + r)) j ≡ 1

-- place r of either half of block q: its block, its place in the half and its bit j
both_places : (j q r : ℕ) → r < 2 ^ j → BothPlaces j q r
both_places j q r below =
    let size = two-pow-succ j in
    let low : q * 2 ^ suc j + r ≡ q * 2 * 2 ^ j + r = ap (λ (s : ℕ). q * s + r) size ∙ omega arith in
    let high : q * 2 ^ suc j + (2 ^ j + r) ≡ (q * 2 + 1) * 2 ^ j + r = ap (λ (s : ℕ). q * s + (2 ^ j + r)) size ∙ omega arith in
    record {
      low_quotient = div-mul-add q (2 ^ suc j) r (omega (arith, size));
      high_quotient = div-mul-add q (2 ^ suc j) (2 ^ j + r) (omega (arith, size));
      low_rest = ap (λ (n : ℕ). n % 2 ^ j) low ∙ mod-mul-add (q * 2) (2 ^ j) r below;
      high_rest = ap (λ (n : ℕ). n % 2 ^ j) high ∙ mod-mul-add (q * 2 + 1) (2 ^ j) r below;
      low_bit = ap (λ (n : ℕ). n / 2 ^ j % 2) low ∙ ap (λ (n : ℕ). n % 2) (div-mul-add (q * 2) (2 ^ j) r below) ∙ omega arith;
      high_bit = ap (λ (n : ℕ). n / 2 ^ j % 2) high ∙ ap (λ (n : ℕ). n % 2) (div-mul-add (q * 2 + 1) (2 ^ j) r below) ∙ omega arith;
    }

-- ---- one stage has one origin

module _ (width : ℕ) (times : ℕ → ℕ → ℕ) (ring : IsRing width 1 times) (shifts basis : List ℕ) (j q r : ℕ) (below : r < 2 ^ j) (a : ℕ → ℕ) (fits : (p : ℕ) → a p < 2 ^ width) where
  -- the two places of the pair
  places : BothPlaces j q r
  places = both_places j q r below

  -- at the lower place stage j leaves a(low) + t a(high)
  at_low : stage times (factor shifts basis) j a (q * 2 ^ suc j + r)
      ≡ bit_xor (a (q * 2 ^ suc j + r)) (times (bit_xor (slice_index shifts j) (linear_image basis q)) (a (q * 2 ^ suc j + (2 ^ j + r))))
  unfolding stage factor upper_place lower_place
  at_low =
      ap₂ (λ (x y : ℕ). bit_xor x y)
      (ap₂ (λ (n s : ℕ). a (n * 2 ^ suc j + s)) places.low_quotient places.low_rest)
      (ap₂ times
      (ap₂ (λ (n d : ℕ). bit_xor (bit_xor (slice_index shifts j) (linear_image basis n)) d) places.low_quotient places.low_bit
      ∙ xor_zero_r (bit_xor (slice_index shifts j) (linear_image basis q)))
      (ap₂ (λ (n s : ℕ). a (n * 2 ^ suc j + s + 2 ^ j)) places.low_quotient places.low_rest ∙ ap a order))
    where
      order : q * 2 ^ suc j + r + 2 ^ j ≡ q * 2 ^ suc j + (2 ^ j + r)
      order = omega arith

  -- and at the upper place that and a(high)
  at_high : stage times (factor shifts basis) j a (q * 2 ^ suc j + (2 ^ j + r))
      ≡ bit_xor (stage times (factor shifts basis) j a (q * 2 ^ suc j + r)) (a (q * 2 ^ suc j + (2 ^ j + r)))
  unfolding stage factor upper_place lower_place
  at_high =
      ap₂ (λ (x y : ℕ). bit_xor x y)
      (ap₂ (λ (n s : ℕ). a (n * 2 ^ suc j + s)) places.high_quotient places.high_rest)
      (ap₂ times
      (ap₂ (λ (n d : ℕ). bit_xor (bit_xor (slice_index shifts j) (linear_image basis n)) d) places.high_quotient places.high_bit)
      (ap₂ (λ (n s : ℕ). a (n * 2 ^ suc j + s + 2 ^ j)) places.high_quotient places.high_rest ∙ ap a order))
      ∙ ap (bit_xor (a (q * 2 ^ suc j + r)))
      (sum_times width 1 times ring (bit_xor (slice_index shifts j) (linear_image basis q)) 1 (a (q * 2 ^ suc j + (2 ^ j + r)))
      ∙ ap (bit_xor (times (bit_xor (slice_index shifts j) (linear_image basis q)) (a (q * 2 ^ suc j + (2 ^ j + r)))))
      (ring.one (a (q * 2 ^ suc j + (2 ^ j + r))) ∙ mod-eq_of_lt (fits (q * 2 ^ suc j + (2 ^ j + r)))))
      ∙ sym (xor_assoc (a (q * 2 ^ suc j + r)) (times (bit_xor (slice_index shifts j) (linear_image basis q)) (a (q * 2 ^ suc j + (2 ^ j + r))))
      (a (q * 2 ^ suc j + (2 ^ j + r))))
      ∙ ap (λ (x : ℕ). bit_xor x (a (q * 2 ^ suc j + (2 ^ j + r)))) (sym at_low)
    where
      order : q * 2 ^ suc j + r + 2 ^ j ≡ q * 2 ^ suc j + (2 ^ j + r)
      order = omega arith

module _ (width : ℕ) (times : ℕ → ℕ → ℕ) (ring : IsRing width 1 times) (shifts basis : List ℕ) where
  -- both values of a pair, from what the stage made of them
  pair_origin : (j q r : ℕ) → r < 2 ^ j → (a b : ℕ → ℕ) → ((p : ℕ) → a p < 2 ^ width) → ((p : ℕ) → b p < 2 ^ width)
      → stage times (factor shifts basis) j a (q * 2 ^ suc j + r) ≡ stage times (factor shifts basis) j b (q * 2 ^ suc j + r)
      → stage times (factor shifts basis) j a (q * 2 ^ suc j + (2 ^ j + r))
      ≡ stage times (factor shifts basis) j b (q * 2 ^ suc j + (2 ^ j + r))
      → (a (q * 2 ^ suc j + r) ≡ b (q * 2 ^ suc j + r)) × (a (q * 2 ^ suc j + (2 ^ j + r)) ≡ b (q * 2 ^ suc j + (2 ^ j + r)))
  pair_origin j q r below a b fits fits' low high = (lower, upper)
    where
      of_high : (c : ℕ → ℕ) → ((p : ℕ) → c p < 2 ^ width) → bit_xor (stage times (factor shifts basis) j c (q * 2 ^ suc j + r))
          (stage times (factor shifts basis) j c (q * 2 ^ suc j + (2 ^ j + r))) ≡ c (q * 2 ^ suc j + (2 ^ j + r))
      of_high c c_fits =
          ap (bit_xor (stage times (factor shifts basis) j c (q * 2 ^ suc j + r))) (at_high width times ring shifts basis j q r below c c_fits)
          ∙ xor_cancel (stage times (factor shifts basis) j c (q * 2 ^ suc j + r)) (c (q * 2 ^ suc j + (2 ^ j + r)))

      upper : a (q * 2 ^ suc j + (2 ^ j + r)) ≡ b (q * 2 ^ suc j + (2 ^ j + r))
      upper = sym (of_high a fits) ∙ ap₂ bit_xor low high ∙ of_high b fits'

      of_low : (c : ℕ → ℕ) → ((p : ℕ) → c p < 2 ^ width) → bit_xor (stage times (factor shifts basis) j c (q * 2 ^ suc j + r))
          (times (bit_xor (slice_index shifts j) (linear_image basis q)) (c (q * 2 ^ suc j + (2 ^ j + r)))) ≡ c (q * 2 ^ suc j + r)
      of_low c c_fits =
          ap (λ (x : ℕ). bit_xor x (times (bit_xor (slice_index shifts j) (linear_image basis q)) (c (q * 2 ^ suc j + (2 ^ j + r)))))
          (at_low width times ring shifts basis j q r below c c_fits)
          ∙ xor_back (c (q * 2 ^ suc j + r)) (times (bit_xor (slice_index shifts j) (linear_image basis q)) (c (q * 2 ^ suc j + (2 ^ j + r))))

      lower : a (q * 2 ^ suc j + r) ≡ b (q * 2 ^ suc j + r)
      lower =
          sym (of_low a fits)
          ∙ ap₂ (λ (x y : ℕ). bit_xor x (times (bit_xor (slice_index shifts j) (linear_image basis q)) y)) low upper
          ∙ of_low b fits'

  -- values of which stage n leaves the same are the same
  stage_origin : (m n : ℕ) → n < m → (a b : ℕ → ℕ) → ((p : ℕ) → a p < 2 ^ width) → ((p : ℕ) → b p < 2 ^ width)
      → ((k : ℕ) → k < 2 ^ m → stage times (factor shifts basis) n a k ≡ stage times (factor shifts basis) n b k)
      → (p : ℕ) → p < 2 ^ m → a p ≡ b p
  stage_origin m n below a b fits fits' same p inside =
      two_cases (λ d. bit_at p n ≡ d → a p ≡ b p)
      (λ none.
      let at : p ≡ p / 2 ^ suc n * 2 ^ suc n + p % 2 ^ n = omega (arith, split.place, ap (λ (d : ℕ). d * 2 ^ n) none) in
      ap a at ∙ both.0 ∙ ap b (sym at))
      (λ one.
      let at : p ≡ p / 2 ^ suc n * 2 ^ suc n + (2 ^ n + p % 2 ^ n) = omega (arith, split.place, ap (λ (d : ℕ). d * 2 ^ n) one) in
      ap a at ∙ both.1 ∙ ap b (sym at))
      (bit_at p n) split.bit refl
    where
      split : SplitPlace n p
      split = split_place n p

      all : 2 ^ m ≡ 2 ^ (m - suc n) * 2 ^ suc n
      all = whole_blocks m n below

      end : p / 2 ^ suc n * 2 ^ suc n + 2 ^ suc n ≤ 2 ^ m
      end = let room = end_before n (2 ^ (m - suc n)) p (omega (arith, all, inside)) in omega (arith, room, all)

      size : 2 ^ suc n ≡ 2 ^ n + 2 ^ n
      size = two-pow-succ n

      both : (a (p / 2 ^ suc n * 2 ^ suc n + p % 2 ^ n) ≡ b (p / 2 ^ suc n * 2 ^ suc n + p % 2 ^ n))
          × (a (p / 2 ^ suc n * 2 ^ suc n + (2 ^ n + p % 2 ^ n)) ≡ b (p / 2 ^ suc n * 2 ^ suc n + (2 ^ n + p % 2 ^ n)))
      both =
          let small = split.low in
          let low : p / 2 ^ suc n * 2 ^ suc n + p % 2 ^ n < 2 ^ m = omega (arith, end, size, small) in
          let high : p / 2 ^ suc n * 2 ^ suc n + (2 ^ n + p % 2 ^ n) < 2 ^ m = omega (arith, end, size, small) in
          pair_origin n (p / 2 ^ suc n) (p % 2 ^ n) small a b fits fits' (same _ low) (same _ high)

  -- a stage leaves elements
  stage-lt : (n : ℕ) (a : ℕ → ℕ) → ((p : ℕ) → a p < 2 ^ width) → (p : ℕ) → stage times (factor shifts basis) n a p < 2 ^ width
  unfolding stage
  stage-lt n a fits p =
      xor_lt width (a (lower_place n p)) (times (factor shifts basis n p) (a (upper_place n p))) (fits (lower_place n p))
      (ring.below (factor shifts basis n p) (a (upper_place n p)))

  -- values of which all stages leave the same are the same, stage by stage
  pub stages_origin : (m n : ℕ) → n ≤ m → (a b : ℕ → ℕ) → ((p : ℕ) → a p < 2 ^ width) → ((p : ℕ) → b p < 2 ^ width)
      → ((k : ℕ) → k < 2 ^ m
      → stages times (factor shifts basis) n a k % 2 ^ width ≡ stages times (factor shifts basis) n b k % 2 ^ width)
      → (p : ℕ) → p < 2 ^ m → a p ≡ b p
  unfolding stages
  stages_origin m zero within a b fits fits' same p inside =
      sym (mod-eq_of_lt (fits p)) ∙ same p inside ∙ mod-eq_of_lt (fits' p)
  stages_origin m (suc n) within a b fits fits' same p inside =
      stage_origin m n (omega arith) a b fits fits'
      (stages_origin m n (omega arith) (stage times (factor shifts basis) n a) (stage times (factor shifts basis) n b)
      (stage-lt n a fits) (stage-lt n b fits') same)
      p inside

-- ---- whole transforms, of the m for which there are 2 ^ m values

module _ (width : ℕ) (times : ℕ → ℕ → ℕ) (vector : ℕ → ℕ) (wide : 0 < width) (ring : IsRing width 1 times) (vectors : AreCantorVectors width times vector) (shifts basis : List ℕ) (z n : ℕ) (twiddles : AreCantorTwiddles width times vector z n shifts basis) (long : suc (length basis) ≡ n) (m : ℕ) (few : m ≤ n) where
  -- what all stages leave is the values
  are_values : (c : List ℕ) (p : ℕ) → p < 2 ^ m → stages times (factor shifts basis) m (slice_index c) p % 2 ^ width
      ≡ polynomial_value times m (slice_index c) (point width vector z p)
  are_values c p inside = stages_are_values width times vector wide ring vectors shifts basis z n twiddles long m c p few inside

  -- all stages take the coefficients to the values
  pub values_of : (coefficients values : List ℕ) → length coefficients ≡ 2 ^ m
      → ((p : ℕ) → p < 2 ^ m → slice_index values p ≡ stages times (factor shifts basis) m (slice_index coefficients) p % 2 ^ width)
      → HoldValuesAtPoints width times vector z coefficients values
  values_of coefficients values whole are k is p inside =
      let same : m ≡ k = one_exponent m k (sym whole ∙ is) in
      let here : p < 2 ^ m = subst (λ (e : ℕ). p < 2 ^ e) (sym same) inside in
      are p here ∙ are_values coefficients p here
      ∙ ap (λ (e : ℕ). polynomial_value times e (slice_index coefficients) (point width vector z p)) same

  -- the forward transform by butterflies leaves at each place the value of the polynomial at that place's point
  pub all_leave : (old new : List ℕ) → length old ≡ 2 ^ m → ((p : ℕ) → slice_index new p < 2 ^ width)
      → AreLeft times shifts basis m 0 old new → HoldValuesAtPoints width times vector z old new
  unfolding stages
  all_leave old new whole fits left =
      values_of old new whole (λ p inside. sym (mod-eq_of_lt (fits p)) ∙ ap (λ (v : ℕ). v % 2 ^ width) (left p inside))

  -- the inverse transform leaves coefficients with those values
  pub undone_leave : (old new : List ℕ) → length new ≡ 2 ^ m → ((p : ℕ) → slice_index old p < 2 ^ width)
      → AreUndone times shifts basis m m old new → HoldValuesAtPoints width times vector z new old
  undone_leave old new whole fits undone =
      values_of new old whole (λ p inside. sym (ap (λ (v : ℕ). v % 2 ^ width) (undone p inside) ∙ mod-eq_of_lt (fits p)))

  -- and no others have them
  pub only_these : (values coefficients : List ℕ) → length values ≡ 2 ^ m → length coefficients ≡ 2 ^ m
      → ((p : ℕ) → slice_index coefficients p < 2 ^ width) → HoldValuesAtPoints width times vector z coefficients values
      → AreTheCoefficients width times vector z values coefficients
  only_these values coefficients whole whole' fits these =
      record {
        have = these;
        only =
            λ others as_long others_fit hold.
            let count : length others ≡ 2 ^ m = as_long ∙ whole in
            ext_get_or 0 others coefficients (count ∙ sym whole')
            (λ p below.
            let here : p < 2 ^ m = omega (arith, count, below) in
            stages_origin width times ring shifts basis m m (omega arith) (slice_index others) (slice_index coefficients) others_fit fits
            (λ k inside.
            are_values others k inside
            ∙ sym (hold m count k inside)
            ∙ these m whole' k inside
            ∙ sym (are_values coefficients k inside))
            p here);
      }
