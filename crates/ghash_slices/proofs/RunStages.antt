-- One stage of a run, pair by pair, and the four stages.
use Rattle.std.proofs.Common.{◌≡◌, ◌≢◌, ◌⊎◌, inl, inr, ℕ, ◌+◌, ◌-◌, ◌*◌, ◌/◌, ◌%◌, ◌^◌, ◌<◌, ◌≤◌, List, length, get_or-set_other, get_or-set_same, refl, sym, ◌∙◌, ap, ap₂, subst, arith, rules}
use Rattle.std.specs.Prelude.{bit_xor, slice_index}
use Rattle.std.proofs.Math.ListN.{set}
use Rattle.std.proofs.lemmas.Bool.{cases_order}
use Rattle.std.proofs.lemmas.Nat.{pow_pos}
use native.Mathlib.Nat.{mod-eq_of_lt}
use lib.Bits.{xor_assoc, xor_comm, xor_zero_r}
use Rattle.field_base.proofs.RemainderRing.{ghash_ring}
use Rattle.field_base.proofs.RingLemmas.{sum_times}
use Rattle.ghash_slices.specs.Stages.{upper_place, stage}
use Rattle.ghash_slices.specs.LowStages.{ghash_product, values_from}
use Rattle.ghash_slices.specs.Runs.{run_factor, with_pair}
use Rattle.ghash_slices.proofs.RunPlaces.{pair_of, lower_of, PairPlaces, pair_places, run_places}

-- two numbers are equal or not
same_or_not : (a b : ℕ) → (a ≡ b) ⊎ (a ≢ b)
same_or_not a b = pick (cases_order a b)
  where
    pick : (a ≡ b) ⊎ ((a < b) ⊎ (b < a)) → (a ≡ b) ⊎ (a ≢ b)
    pick (inl same) = inl same
    pick (inr (inl below)) = inr (omega arith)
    pick (inr (inr above)) = inr (omega arith)

-- ---- one pair

-- what a stage gives at both places of pair n of a run, by one product
module _ (twiddles low : List ℕ) (a : ℕ → ℕ) (j n : ℕ) (places : PairPlaces j n) where
  -- the scalar of pair n: the twiddle of its stage, and the sum for its block
  scalar : ℕ
  scalar = bit_xor (slice_index twiddles j) (slice_index low (n / 2 ^ j))

  -- the lower place of a pair gets lo + scalar * hi
  pub stage_lower : stage ghash_product (run_factor twiddles low) j a (lower_of j n)
      ≡ bit_xor (a (lower_of j n)) (ghash_product (bit_xor (slice_index twiddles j) (slice_index low (n / 2 ^ j))) (a (lower_of j n + 2 ^ j)))
  unfolding stage upper_place run_factor
  stage_lower =
      ap₂ (λ (q f : ℕ). bit_xor (a q) (ghash_product f (a (q + 2 ^ j)))) places.lower_lower
      (ap₂ (λ (block bit : ℕ). bit_xor (bit_xor (slice_index twiddles j) (slice_index low block)) bit) places.lower_block places.lower_bit
      ∙ xor_zero_r (bit_xor (slice_index twiddles j) (slice_index low (n / 2 ^ j))))

  -- and the upper place that and hi
  pub stage_upper : a (lower_of j n + 2 ^ j) < 2 ^ 128
      → stage ghash_product (run_factor twiddles low) j a (lower_of j n + 2 ^ j)
      ≡ bit_xor (a (lower_of j n + 2 ^ j))
      (bit_xor (a (lower_of j n)) (ghash_product (bit_xor (slice_index twiddles j) (slice_index low (n / 2 ^ j))) (a (lower_of j n + 2 ^ j))))
  unfolding stage upper_place run_factor
  stage_upper fits =
      ap₂ (λ (q f : ℕ). bit_xor (a q) (ghash_product f (a (q + 2 ^ j)))) places.upper_lower
      (ap₂ (λ (block bit : ℕ). bit_xor (bit_xor (slice_index twiddles j) (slice_index low block)) bit) places.upper_block places.upper_bit)
      ∙ ap (bit_xor (a (lower_of j n)))
      (sum_times 128 1 ghash_product ghash_ring (bit_xor (slice_index twiddles j) (slice_index low (n / 2 ^ j))) 1 (a (lower_of j n + 2 ^ j))
      ∙ ap (bit_xor (ghash_product (bit_xor (slice_index twiddles j) (slice_index low (n / 2 ^ j))) (a (lower_of j n + 2 ^ j))))
      (ghash_ring.one (a (lower_of j n + 2 ^ j)) ∙ mod-eq_of_lt fits))
      ∙ sym (xor_assoc (a (lower_of j n)) (ghash_product (bit_xor (slice_index twiddles j) (slice_index low (n / 2 ^ j))) (a (lower_of j n + 2 ^ j))) (a (lower_of j n + 2 ^ j)))
      ∙ xor_comm (bit_xor (a (lower_of j n)) (ghash_product (bit_xor (slice_index twiddles j) (slice_index low (n / 2 ^ j))) (a (lower_of j n + 2 ^ j)))) (a (lower_of j n + 2 ^ j))

-- ---- one stage

-- the places of the pairs below n of the run from `start` on have what stage j gives, and all others what they had
pub record StageSoFar (twiddles low : List ℕ) (j start n : ℕ) (old now : List ℕ) : Type 0 where
  pub same_length : length now ≡ length old
  pub done : (q : ℕ) → q < 16 → pair_of j q < n
      → slice_index now (start + q) ≡ stage ghash_product (run_factor twiddles low) j (values_from old start) q
  pub rest : (q : ℕ) → q < 16 → n ≤ pair_of j q → slice_index now (start + q) ≡ slice_index old (start + q)
  pub before : (p : ℕ) → p < start → slice_index now p ≡ slice_index old p
  pub behind : (p : ℕ) → start + 16 ≤ p → slice_index now p ≡ slice_index old p

-- before the first pair nothing is done
pub stage_starts : (twiddles low : List ℕ) (j start : ℕ) (old : List ℕ) → StageSoFar twiddles low j start 0 old old
stage_starts twiddles low j start old =
    record {
      same_length = refl;
      done = λ q within below. absurd (omega arith);
      rest = λ q within above. refl;
      before = λ p outside. refl;
      behind = λ p outside. refl;
    }

-- one more pair done: both its places hold what the stage leaves there
pub stage_step : (twiddles low : List ℕ) (j start n : ℕ) (old now : List ℕ) → j < 4 → n < 8 → start + 16 ≤ length old
    → ((p : ℕ) → slice_index old p < 2 ^ 128) → StageSoFar twiddles low j start n old now → (lower upper sum difference : ℕ)
    → lower ≡ start + lower_of j n → upper ≡ start + (lower_of j n + 2 ^ j)
    → sum ≡ bit_xor (slice_index now lower) (ghash_product (bit_xor (slice_index twiddles j) (slice_index low (n / 2 ^ j))) (slice_index now upper))
    → difference ≡ bit_xor (slice_index now upper) sum
    → StageSoFar twiddles low j start (n + 1) old (set (set now lower sum) upper difference)
stage_step twiddles low j start n old now few small whole fits so_far lower upper sum difference lower_is upper_is sum_is difference_is =
    record {
      same_length = search (rules, so_far.same_length);
      done = λ q within below. written q within below (same_or_not q (lower_of j n)) (same_or_not q (lower_of j n + 2 ^ j));
      rest =
          λ q within above.
          let not_lower : start + q ≢ lower = λ same. absurd (omega (arith, places.lower_pair, ap (pair_of j) (shifted q lower (lower_of j n) lower_is same), above)) in
          let not_upper : start + q ≢ upper = λ same. absurd (omega (arith, places.upper_pair, ap (pair_of j) (shifted q upper (lower_of j n + 2 ^ j) upper_is same), above)) in
          kept (start + q) not_lower not_upper ∙ so_far.rest q within (omega arith);
      before =
          λ p outside.
          let not_lower : p ≢ lower = omega arith in
          let not_upper : p ≢ upper = omega arith in
          kept p not_lower not_upper ∙ so_far.before p outside;
      behind =
          λ p outside.
          let room = places.upper_fits in
          let not_lower : p ≢ lower = omega (arith, room) in
          let not_upper : p ≢ upper = omega (arith, room) in
          kept p not_lower not_upper ∙ so_far.behind p outside;
    }
  where
    places : PairPlaces j n
    places = pair_places j n few small

    shifted : (q place at : ℕ) → place ≡ start + at → start + q ≡ place → q ≡ at
    shifted q place at is same = omega arith

    -- the lengths and places
    upper_within : upper < length (set now lower sum)
    upper_within =
        let room = places.upper_fits in
        let same = so_far.same_length in
        let as_long : length (set now lower sum) ≡ length now = search rules in
        omega (arith, room, same, as_long)

    lower_within : lower < length now
    lower_within = let room = places.upper_fits in let same = so_far.same_length in omega (arith, room, same)

    apart : lower ≢ upper
    apart = let half : 0 < 2 ^ j = pow_pos j in omega arith

    kept : (p : ℕ) → p ≢ lower → p ≢ upper → slice_index (set (set now lower sum) upper difference) p ≡ slice_index now p
    kept p not_lower not_upper =
        get_or-set_other (set now lower sum) upper p difference 0 not_upper ∙ get_or-set_other now lower p sum 0 not_lower

    -- what is read
    low_read : slice_index now lower ≡ values_from old start (lower_of j n)
    low_read =
        let room = places.upper_fits in
        let at = places.lower_pair in
        ap (slice_index now) lower_is ∙ so_far.rest (lower_of j n) (omega (arith, room)) (omega (arith, at))

    high_read : slice_index now upper ≡ values_from old start (lower_of j n + 2 ^ j)
    high_read =
        let room = places.upper_fits in
        let at = places.upper_pair in
        ap (slice_index now) upper_is ∙ so_far.rest (lower_of j n + 2 ^ j) room (omega (arith, at))

    scalar : ℕ
    scalar = bit_xor (slice_index twiddles j) (slice_index low (n / 2 ^ j))

    new_sum : sum ≡ stage ghash_product (run_factor twiddles low) j (values_from old start) (lower_of j n)
    new_sum =
        sum_is ∙ ap₂ (λ (x y : ℕ). bit_xor x (ghash_product (bit_xor (slice_index twiddles j) (slice_index low (n / 2 ^ j))) y)) low_read high_read
        ∙ sym (stage_lower twiddles low (values_from old start) j n places)

    new_difference : difference ≡ stage ghash_product (run_factor twiddles low) j (values_from old start) (lower_of j n + 2 ^ j)
    new_difference =
        difference_is
        ∙ ap₂ bit_xor high_read
        (sum_is ∙ ap₂ (λ (x y : ℕ). bit_xor x (ghash_product (bit_xor (slice_index twiddles j) (slice_index low (n / 2 ^ j))) y)) low_read high_read)
        ∙ sym (stage_upper twiddles low (values_from old start) j n places (fits _))

    written : (q : ℕ) → q < 16 → pair_of j q < n + 1 → (q ≡ lower_of j n) ⊎ (q ≢ lower_of j n)
        → (q ≡ lower_of j n + 2 ^ j) ⊎ (q ≢ lower_of j n + 2 ^ j)
        → slice_index (set (set now lower sum) upper difference) (start + q)
        ≡ stage ghash_product (run_factor twiddles low) j (values_from old start) q
    written q within below (inl at_lower) other =
        let here : start + q ≡ lower = omega arith in
        ap (slice_index (set (set now lower sum) upper difference)) here
        ∙ get_or-set_other (set now lower sum) upper lower difference 0 apart
        ∙ get_or-set_same now lower sum 0 lower_within
        ∙ new_sum ∙ ap (stage ghash_product (run_factor twiddles low) j (values_from old start)) (sym at_lower)
    written q within below (inr not_lower) (inl at_upper) =
        let here : start + q ≡ upper = omega arith in
        ap (slice_index (set (set now lower sum) upper difference)) here
        ∙ get_or-set_same (set now lower sum) upper difference 0 upper_within
        ∙ new_difference ∙ ap (stage ghash_product (run_factor twiddles low) j (values_from old start)) (sym at_upper)
    written q within below (inr not_lower) (inr not_upper) =
        let another : pair_of j q ≢ n = places.others q not_lower not_upper in
        let off_lower : start + q ≢ lower = omega arith in
        let off_upper : start + q ≢ upper = omega arith in
        kept (start + q) off_lower off_upper ∙ so_far.done q within (omega arith)

-- the pairs that are to come hold what they held
pub upper_read : (twiddles low : List ℕ) (j start n m : ℕ) (old now : List ℕ) → j < 4 → n ≤ m → m < 8 → StageSoFar twiddles low j start n old now
    → (place : ℕ) → place ≡ start + lower_of j m → slice_index now (place + 2 ^ j) ≡ values_from old start (lower_of j m + 2 ^ j)
upper_read twiddles low j start n m old now few later small so_far place place_is =
    let places = pair_places j m few small in
    let at : place + 2 ^ j ≡ start + (lower_of j m + 2 ^ j) = omega (arith, place_is) in
    let here = places.upper_pair in
    ap (slice_index now) at ∙ so_far.rest (lower_of j m + 2 ^ j) places.upper_fits (omega (arith, here, later))

-- one more pair done, by a product of what it held at first
pub pair_done : (twiddles low : List ℕ) (j start n : ℕ) (old now new : List ℕ) → j < 4 → n < 8 → start + 16 ≤ length old
    → ((p : ℕ) → slice_index old p < 2 ^ 128) → StageSoFar twiddles low j start n old now → (place product : ℕ) → place ≡ start + lower_of j n
    → product
    ≡ ghash_product (bit_xor (slice_index twiddles j) (slice_index low (n / 2 ^ j))) (values_from old start (lower_of j n + 2 ^ j))
    → new ≡ with_pair now place (place + 2 ^ j) product → StageSoFar twiddles low j start (n + 1) old new
pair_done twiddles low j start n old now new few small whole fits so_far place product place_is product_is new_is =
    subst (StageSoFar twiddles low j start (n + 1) old) (sym new_is)
    (stage_step twiddles low j start n old now few small whole fits so_far place (place + 2 ^ j)
    (bit_xor (slice_index now place) product) (bit_xor (slice_index now (place + 2 ^ j)) (bit_xor (slice_index now place) product))
    place_is (omega (arith, place_is))
    (ap (bit_xor (slice_index now place))
    (product_is
    ∙ ap (ghash_product (bit_xor (slice_index twiddles j) (slice_index low (n / 2 ^ j))))
    (sym (upper_read twiddles low j start n n old now few (omega arith) small so_far place place_is))))
    refl)

-- after the eight pairs the stage is done
pub stage_ends : (twiddles low : List ℕ) (j start n : ℕ) (old now : List ℕ) → j < 4 → 8 ≤ n → StageSoFar twiddles low j start n old now
    → (q : ℕ) → q < 16 → slice_index now (start + q) ≡ stage ghash_product (run_factor twiddles low) j (values_from old start) q
stage_ends twiddles low j start n old now few all so_far q within =
    let last = (run_places j q few within).pair_fits in
    so_far.done q within (omega (arith, last))

-- as the code computes it, from half the places of a block
pub pair_added : (twiddles low : List ℕ) (j start n m half lower product : ℕ) (old first now new : List ℕ) → j < 4 → n ≤ m → m < 8
    → start + 16 ≤ length old → ((p : ℕ) → slice_index old p < 2 ^ 128) → half ≡ 2 ^ j → lower ≡ start + (2 * m - m % half)
    → StageSoFar twiddles low j start n old first → StageSoFar twiddles low j start m old now
    → product ≡ ghash_product (bit_xor (slice_index twiddles j) (slice_index low (m / half))) (slice_index first (lower + half))
    → new ≡ with_pair now lower (lower + half) product → StageSoFar twiddles low j start (m + 1) old new
pair_added twiddles low j start n m half lower product old first now new few later small whole fits is_half is_lower at_first so_far is_product is_new =
    pair_done twiddles low j start m old now new few small whole fits so_far lower product place
    (is_product
    ∙ ap (λ (h : ℕ). ghash_product (bit_xor (slice_index twiddles j) (slice_index low (m / h))) (slice_index first (lower + h))) is_half
    ∙ ap (ghash_product (bit_xor (slice_index twiddles j) (slice_index low (m / 2 ^ j))))
    (upper_read twiddles low j start n m old first few later small at_first lower place))
    (is_new ∙ ap (λ (h : ℕ). with_pair now lower (lower + h) product) is_half)
  where
    place : lower ≡ start + lower_of j m
    place = is_lower ∙ ap (λ (h : ℕ). start + (2 * m - m % h)) is_half
