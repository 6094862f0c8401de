-- A polynomial within t errors is the only one, and every solution of the key equation leads to it.
use Rattle.std.proofs.Common.{◌≡◌, ◌⊎◌, ℕ, suc, ◌+◌, ◌^◌, ◌<◌, ◌≤◌, inl, inr, List, length, Bool, true, false, refl}
use Rattle.std.proofs.Common.{sym, ◌∙◌, ap, le_trans, arith}
use Rattle.std.specs.Prelude.{bit_xor, nat_eq, not, ◌||◌, ◌&&◌}
use Rattle.std.proofs.lemmas.Bool.{cases_lt}
use Rattle.std.proofs.lemmas.Nat.{pow_pos, xor_lt}
use lib.Bits.{xor_self}
use Rattle.field_base.specs.Field.{IsField}
use Rattle.field_base.proofs.RingLemmas.{sum_times, times-zero, xor_nothing}
use Rattle.field_base.proofs.FieldLemmas.{no_zero_divisors}
use Rattle.field_base.specs.Interpolation.{InterpolatesPoints}
use Rattle.field_base.specs.PolynomialRoots.{AreDistinctBelow}
use Rattle.field_base.proofs.Codewords.{lagrange_interpolates, many_roots_mean_zero}
use Rattle.field_base.proofs.PolynomialCoefficients.{coefficients_of}
use Rattle.field_base.proofs.Polynomials.{IsPolynomial, polynomial-lt, polynomial-unique}
use Rattle.field_slices.specs.Marks.{marked_below}
use Rattle.error_codes.specs.Words.{at, is_wrong, HasNonzero, IsWithinErrors}
use Rattle.error_codes.specs.Decoding.{Decodes, DecodersAreRight, DecodingIsUnique, IsQuotient, IsRestored}
use Rattle.error_codes.specs.Decoding.{KeyHasSolution, Rejects, RestoredIsOnly, SolutionsDecode}
use Rattle.error_codes.proofs.Agreement.{agrees}
use Rattle.field_slices.proofs.Counting.{none-of-three, one-unmarked, three-marks}
use Rattle.field_slices.proofs.Counts.{enumerated}
use Rattle.error_codes.proofs.Marks.{differ-is, equal-is, fewer-marks, none-of-two, not-false, right-is}
use Rattle.field_slices.proofs.Counts.{unmarked-count}
use Rattle.error_codes.proofs.Marks.{two-marks, wrong-is}
use Rattle.error_codes.proofs.Lists.{has-nonzero, list-polynomial}
use Rattle.error_codes.proofs.Products.{locator, locator-elsewhere, locator-nonzero, locator-polynomial, locator-zero}
use Rattle.error_codes.proofs.Products.{polynomial-most}
use Rattle.error_codes.proofs.Products.{polynomial-product}

pub decoding_is_unique : DecodingIsUnique
decoding_is_unique width times wide field k n e t point word erased received short f g f_within g_within x =
    agrees width times field n point received.points k (at times f) (at times g)
    (list-polynomial width times field k f f_within.count)
    (list-polynomial width times field k g g_within.count) (λ i. erased i || f_wrong i || g_wrong i)
    (let all = three-marks erased f_wrong g_wrong n in
    let few_erased = received.few_erased in let few_f = f_within.few_wrong in let few_g = g_within.few_wrong in
    omega (arith, all, few_erased, few_f, few_g, short))
    (λ i below free.
    let none = none-of-three (erased i) (f_wrong i) (g_wrong i) free in
    sym (right-is (erased i) (word i) (at times f (point i)) none.0 none.1)
    ∙ right-is (erased i) (word i) (at times g (point i)) none.0 none.2) x
  where
    f_wrong : ℕ → Bool
    f_wrong = is_wrong point word erased (at times f)

    g_wrong : ℕ → Bool
    g_wrong = is_wrong point word erased (at times g)

pub key_has_solution : KeyHasSolution
key_has_solution width times wide field k n e t m s point word erased received tops bottoms short f within =
    let bottom = coefficients_of width times field.ring (suc s) found bottom-polynomial in
    let top = coefficients_of width times field.ring m (λ x. times (at times f x) (found x)) top-polynomial in (
      top.0,
      bottom.0,
      record {
        top_count = top.1;
        bottom_count = omega (arith, bottom.1);
        nonzero = has-nonzero width times field bottom.0 (λ none. nonzero (cases_lt t n) (λ x. bottom.2 x ∙ none x));
        at_points = λ i below kept.
            sym (top.2 (point i)) ∙ at-point i below kept (wrong i) refl ∙ ap (times (word i)) (bottom.2 (point i));
      },
    )
  where
    wrong : ℕ → Bool
    wrong = is_wrong point word erased (at times f)

    found : ℕ → ℕ
    found = locator width times wide field point wrong n

    bottom-polynomial : IsPolynomial times (suc s) found
    bottom-polynomial =
        polynomial-most width times field.ring (suc (marked_below wrong n)) (suc s) found
        (let few = within.few_wrong in
        omega (arith, few, bottoms)) (locator-polynomial width times wide field point wrong n)

    top-polynomial : IsPolynomial times m (λ x. times (at times f x) (found x))
    top-polynomial =
        polynomial-most width times field.ring (k + s) m (λ x. times (at times f x) (found x)) tops
        (polynomial-product width times field.ring k s (at times f) found
        (list-polynomial width times field k f within.count) bottom-polynomial)

    nonzero : (t < n) ⊎ (n ≤ t) → ((x : ℕ) → found x ≡ 0) → ⊥
    nonzero (inl more) none =
        let right = one-unmarked wrong n (let few = within.few_wrong in omega (arith, few, more)) in
        locator-elsewhere width times wide field point wrong n right.0 received.points right.1 right.2
        (none (point right.0))
    nonzero (inr fewer) none =
        let empty : n ≡ 0 = omega (arith, fewer, bottoms, short) in
        locator-nonzero width times wide field point wrong n 0 (pow_pos width) received.points.below
        (λ i below. absurd (omega (arith, below, empty))) (none 0)

    at-point : (i : ℕ) → i < n → erased i ≡ false → (b : Bool) → wrong i ≡ b
        → times (at times f (point i)) (found (point i)) ≡ times (word i) (found (point i))
    at-point i below kept true is =
        let zero_there = locator-zero width times wide field point wrong n i below is in
        ap (times (at times f (point i))) zero_there ∙ times-zero width 1 times field.ring (at times f (point i))
        ∙ sym (ap (times (word i)) zero_there ∙ times-zero width 1 times field.ring (word i))
    at-point i below kept false is =
        ap (λ (z : ℕ). times z (found (point i))) (sym (right-is (erased i) (word i) (at times f (point i)) kept is))

module _ (width : ℕ) (times : ℕ → ℕ → ℕ) (field : IsField width times) where
  -- a b = c b only where b is 0 or a is c
  pub cancelled : (a b c : ℕ) → a < 2 ^ width → b < 2 ^ width → c < 2 ^ width → times a b ≡ times c b
      → (a ≡ c) ⊎ (b ≡ 0)
  cancelled a b c a_fits b_fits c_fits same =
      elim (no_zero_divisors width times field.ring field.inverses (bit_xor a c) b
      (xor_lt width a c a_fits c_fits) b_fits
      (sum_times width 1 times field.ring a c b ∙ ap (λ (z : ℕ). bit_xor z (times c b)) same ∙ xor_self (times c b))) [
        | inl none ↦ inl (xor_nothing a c none)
        | inr none ↦ inr none
      ]

-- a bottom is 0 at few points
pub few-zeros : (width : ℕ) (times : ℕ → ℕ → ℕ) → 0 < width → IsField width times → (n s : ℕ) (point : ℕ → ℕ)
    → AreDistinctBelow n (2 ^ width) point
    → (bottom : List ℕ) → length bottom ≡ s + 1 → HasNonzero width bottom
    → marked_below (λ i. nat_eq (at times bottom (point i)) 0) n ≤ s
few-zeros width times wide field n s point points bottom count nonzero = pick (cases_lt s (marked_below is_zero n))
  where
    is_zero : ℕ → Bool
    is_zero i = nat_eq (at times bottom (point i)) 0

    numbered : (y : ℕ → ℕ) × ((i : ℕ) → i < marked_below is_zero n → (y i < n) × (is_zero (y i) ≡ true))
        × ((i j : ℕ) → i < marked_below is_zero n → j < marked_below is_zero n → y i ≡ y j → i ≡ j)
    numbered = enumerated is_zero n

    pick : (s < marked_below is_zero n) ⊎ (marked_below is_zero n ≤ s) → marked_below is_zero n ≤ s
    pick (inr few) = few
    pick (inl many) =
        absurd (nonzero.2
        ((many_roots_mean_zero width times (s + 1) bottom (λ i. point (numbered.0 i)) wide field (omega (arith, count))
        (record {
          below = λ i below. points.below (numbered.0 i) (numbered.1 i (enough i below)).0;
          differ = λ i j i_below j_below same.
              numbered.2 i j (enough i i_below) (enough j j_below)
              (points.differ (numbered.0 i) (numbered.0 j) (numbered.1 i (enough i i_below)).0
              (numbered.1 j (enough j j_below)).0 same);
        })
        (λ i below. equal-is (at times bottom (point (numbered.0 i))) 0
        (numbered.1 i (enough i below)).1)).each_coefficient nonzero.0 nonzero.1))
      where
        enough : (i : ℕ) → i < s + 1 → i < marked_below is_zero n
        enough i below = omega (arith, below, many)

pub solutions_decode : SolutionsDecode
solutions_decode width times wide field k n e t m s point word erased received tops short f within top bottom solves =
    record {
      product = product;
      only_quotient = λ g count quotient.
          agrees width times field n point received.points k (at times g) (at times f)
          (list-polynomial width times field k g count) f-polynomial is_zero
          (omega (arith, few, short))
          (λ i below marked.
          elim (cancelled width times field (at times g (point i)) (at times bottom (point i)) (at times f (point i))
          (polynomial-lt width times field.ring k (at times g) (list-polynomial width times field k g count) (point i))
          (polynomial-lt width times field.ring (s + 1) (at times bottom) bottom-polynomial (point i))
          (polynomial-lt width times field.ring k (at times f) f-polynomial (point i)) (sym (quotient (point i))
          ∙ product (point i))) [
            | inl same ↦ same
            | inr none ↦ absurd (differ-is (at times bottom (point i)) 0 marked none)
          ]);
      zero_where_wrong = λ i below wrong.
          let is = wrong-is (erased i) (word i) (at times f (point i)) wrong in
          elim (at-place i below is.0) [
            | inl same ↦ absurd (is.1 same)
            | inr none ↦ none
          ];
      right_elsewhere = λ i below kept nonzero.
          elim (at-place i below kept) [
            | inl same ↦ same
            | inr none ↦ absurd (nonzero none)
          ];
      few_zeros = few;
    }
  where
    wrong : ℕ → Bool
    wrong = is_wrong point word erased (at times f)

    is_zero : ℕ → Bool
    is_zero i = nat_eq (at times bottom (point i)) 0

    f-polynomial : IsPolynomial times k (at times f)
    f-polynomial = list-polynomial width times field k f within.count

    bottom-polynomial : IsPolynomial times (s + 1) (at times bottom)
    bottom-polynomial = list-polynomial width times field (s + 1) bottom solves.bottom_count

    bottom-suc : IsPolynomial times (suc s) (at times bottom)
    bottom-suc = list-polynomial width times field (suc s) bottom (let count = solves.bottom_count in
        omega (arith, count))

    -- agree of max (m, k + s) coefficients
    product : (x : ℕ) → at times top x ≡ times (at times f x) (at times bottom x)
    product = pick (cases_lt m (k + s))
      where
        both : (c : ℕ) → m ≤ c → k + s ≤ c → c + t + e ≤ n → (x : ℕ)
            → at times top x ≡ times (at times f x) (at times bottom x)
        both c m_most ks_most room =
            agrees width times field n point received.points c (at times top)
            (λ x. times (at times f x) (at times bottom x))
            (polynomial-most width times field.ring m c (at times top) m_most
            (list-polynomial width times field m top solves.top_count))
            (polynomial-most width times field.ring (k + s) c (λ x. times (at times f x) (at times bottom x)) ks_most
            (polynomial-product width times field.ring k s (at times f) (at times bottom) f-polynomial bottom-suc))
            (λ i. erased i || wrong i)
            (let all = two-marks erased wrong n in let few_erased = received.few_erased in
            let few_wrong = within.few_wrong in
            omega (arith, all, few_erased, few_wrong, room))
            (λ i below free.
            let none = none-of-two (erased i) (wrong i) free in
            solves.at_points i below none.0
            ∙ ap (λ (z : ℕ). times z (at times bottom (point i)))
            (right-is (erased i) (word i) (at times f (point i)) none.0 none.1))

        pick : (m < k + s) ⊎ (k + s ≤ m) → (x : ℕ) → at times top x ≡ times (at times f x) (at times bottom x)
        pick (inl less) = both (k + s) (omega (arith, less)) (omega arith) short
        pick (inr more) = both m (omega arith) more tops

    at-place : (i : ℕ) → i < n → erased i ≡ false → (word i ≡ at times f (point i)) ⊎ (at times bottom (point i) ≡ 0)
    at-place i below kept =
        cancelled width times field (word i) (at times bottom (point i)) (at times f (point i))
        (received.symbols i below)
        (polynomial-lt width times field.ring (s + 1) (at times bottom) bottom-polynomial (point i))
        (polynomial-lt width times field.ring k (at times f) f-polynomial (point i))
        (sym (solves.at_points i below kept) ∙ product (point i))

    few : marked_below (λ i. nat_eq (at times bottom (point i)) 0) n ≤ s
    few = few-zeros width times wide field n s point received.points bottom solves.bottom_count solves.nonzero

pub restored_is_only : RestoredIsOnly
restored_is_only width times wide field k n e t m s point word erased received tops short top bottom solves = (
  (
    given.coefficients,
    record {
      count = given.count;
      place = numbered.0;
      places = record {
        below = λ j below. (numbered.1 j (enough j below)).0;
        differ =
            λ i j i_below j_below same. numbered.2 i j (enough i i_below) (enough j j_below) same;
      };
      kept = λ j below. (free j below).0;
      nonzero = λ j below. differ-is (at times bottom (point (numbered.0 j))) 0 (free j below).1;
      symbols = λ j below. sym (given.is_polynomial (point (numbered.0 j))) ∙ given.at_points j below;
    },
  ),
  λ g restored f within.
      let same = only g restored f within in (
        same,
        record {
          count = restored.count;
          few_wrong =
              le_trans
              (fewer-marks (is_wrong point word erased (at times g)) (is_wrong point word erased (at times f)) n
              (λ i below is. ap (λ (z : ℕ). not (erased i) && not (nat_eq (word i) z)) (same (point i)) ∙ is))
              within.few_wrong;
        },
      ),
)
  where
    is_zero : ℕ → Bool
    is_zero i = nat_eq (at times bottom (point i)) 0

    used : ℕ → Bool
    used i = not (erased i || is_zero i)

    numbered : (y : ℕ → ℕ) × ((i : ℕ) → i < marked_below used n → (y i < n) × (used (y i) ≡ true))
        × ((i j : ℕ) → i < marked_below used n → j < marked_below used n → y i ≡ y j → i ≡ j)
    numbered = enumerated used n

    enough : (i : ℕ) → i < k → i < marked_below used n
    enough i below =
        let count = unmarked-count (λ p. erased p || is_zero p) n in let all = two-marks erased is_zero n in
        let few = few-zeros width times wide field n s point received.points bottom solves.bottom_count solves.nonzero
        in
        let few_erased = received.few_erased in
        omega (arith, below, count, all, few, few_erased, short)

    free : (i : ℕ) → i < k → (erased (numbered.0 i) ≡ false) × (is_zero (numbered.0 i) ≡ false)
    free i below = none-of-two (erased (numbered.0 i)) (is_zero (numbered.0 i))
        (not-false (erased (numbered.0 i) || is_zero (numbered.0 i)) (numbered.1 i (enough i below)).1)

    given : InterpolatesPoints width times k (λ j. point (numbered.0 j)) (λ j. word (numbered.0 j))
    given =
        lagrange_interpolates width times k (λ j. point (numbered.0 j)) (λ j. word (numbered.0 j)) wide field
        (record {
          below = λ j below. received.points.below (numbered.0 j) (numbered.1 j (enough j below)).0;
          differ = λ i j i_below j_below same.
              numbered.2 i j (enough i i_below) (enough j j_below)
              (received.points.differ (numbered.0 i) (numbered.0 j) (numbered.1 i (enough i i_below)).0
              (numbered.1 j (enough j j_below)).0 same);
        })
        (λ j below. received.symbols (numbered.0 j) (numbered.1 j (enough j below)).0)

    only : (g : List ℕ) → IsRestored times k n point word erased bottom g → (f : List ℕ)
        → IsWithinErrors times k n t point word erased f
        → (x : ℕ) → at times f x ≡ at times g x
    only g restored f within =
        let decodes = solutions_decode width times wide field k n e t m s point word erased received tops short f within
        top bottom solves in
        polynomial-unique width times field.ring field.inverses k (at times f) (at times g)
        (list-polynomial width times field k f within.count)
        (list-polynomial width times field k g restored.count) (λ j. point (restored.place j))
        (λ j below. received.points.below (restored.place j) (restored.places.below j below))
        (λ i j i_below j_below same.
        restored.places.differ i j i_below j_below
        (received.points.differ (restored.place i) (restored.place j) (restored.places.below i i_below)
        (restored.places.below j j_below) same))
        (λ j below.
        sym (decodes.right_elsewhere (restored.place j) (restored.places.below j below) (restored.kept j below)
        (restored.nonzero j below))
        ∙ sym (restored.symbols j below))

pub decoders_are_right : DecodersAreRight
decoders_are_right width times wide field k n e t m s point word erased received tops bottoms room = (
  (λ g g_within. (
    g_within,
    λ f f_within.
        decoding_is_unique width times wide field k n e t point word erased received
        (omega (arith, tops, bottoms, room)) f g f_within g_within,
  )),
  rejects,
)
  where
    too-many : (f g : List ℕ) → IsWithinErrors times k n t point word erased f → ((x : ℕ) → at times g x ≡ at times f x)
        → t < marked_below (is_wrong point word erased (at times g)) n → ⊥
    too-many f g within same many =
        let fewer =
        fewer-marks (is_wrong point word erased (at times g)) (is_wrong point word erased (at times f)) n
        (λ i below is. ap (λ (z : ℕ). not (erased i) && not (nat_eq (word i) z)) (sym (same (point i))) ∙ is) in
        let few = within.few_wrong in
        absurd (omega (arith, fewer, few, many))

    rejects : Rejects width times k n t m s point word erased → (f : List ℕ)
        → IsWithinErrors times k n t point word erased f → ⊥
    rejects (inl none) f within =
        let solution = key_has_solution width times wide field k n e t m s point word erased received tops bottoms
        (omega (arith, tops, room)) f within in
        none solution.0 solution.1 solution.2
    rejects (inr found) f within = why found.3
      where
        decodes : Decodes times k s n point word erased found.0 found.1 f
        decodes =
            solutions_decode width times wide field k n e t m s point word erased received room
            (omega (arith, tops, room)) f within found.0 found.1 found.2

        why : ((g : List ℕ) → IsQuotient times k found.0 found.1 g → ⊥)
            ⊎ ((g : List ℕ) × (IsQuotient times k found.0 found.1 g ⊎ IsRestored times k n point word erased found.1 g)
            × (t < marked_below (is_wrong point word erased (at times g)) n)) → ⊥
        why (inl none) = none f (record { count = within.count; product = decodes.product })
        why (inr given) = reason given.1
          where
            reason : IsQuotient times k found.0 found.1 given.0
                ⊎ IsRestored times k n point word erased found.1 given.0 → ⊥
            reason (inl quotient) =
                too-many f given.0 within (decodes.only_quotient given.0 quotient.count quotient.product) given.2
            reason (inr restored) =
                too-many f given.0 within
                (λ x.
                sym (((restored_is_only width times wide field k n e t m s point word erased received room
                (omega (arith, tops, room)) found.0 found.1
                found.2).1 given.0 restored f within).0 x))
                given.2
