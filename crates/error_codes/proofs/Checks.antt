-- Codes by checks: at most one word is meant, every solution of the equations of syndromes leads to it, and values of
-- polynomials are such words.
use Rattle.std.proofs.Common.{◌≡◌, ◌≢◌, ◌⊎◌, ℕ, zero, suc, ◌+◌, ◌-◌, ◌^◌, ◌<◌, ◌≤◌, inl, inr, List, length, Bool, true}
use Rattle.std.proofs.Common.{false, refl, sym, ◌∙◌, ap, ap₂, le_trans, arith}
use Rattle.std.specs.Prelude.{bit_xor, nat_eq, not, slice_index, ◌&&◌, ◌||◌}
use Rattle.std.proofs.lemmas.Bool.{cases_lt}
use Rattle.std.proofs.lemmas.Bool.Decides.{eqb_tells}
use Rattle.std.proofs.lemmas.Nat.{pow_below, xor_comm, xor_lt}
use lib.Bits.{xor_self, xor_zero_r}
use Rattle.field_base.specs.Basis.{sum_below, product_below}
use Rattle.field_base.specs.Field.{IsField}
use Rattle.field_base.specs.Powers.{power}
use Rattle.field_base.proofs.FieldLemmas.{inverse-power, no_zero_divisors, power-inverts}
use Rattle.field_base.proofs.PowerLemmas.{one-times}
use Rattle.field_base.proofs.RingLemmas.{times_left_comm, times-zero, xor_cancel, xor_nothing, zero-times}
use Rattle.field_base.specs.Interpolation.{lagrange, other_factors}
use Rattle.field_base.specs.PolynomialRoots.{AreDistinctBelow}
use Rattle.field_base.proofs.PolynomialCoefficients.{coefficients_of}
use Rattle.field_base.proofs.Interpolation.{factors-lt, factors_more, factors-nonzero, factors_skip, interpolated-is}
use Rattle.field_base.proofs.Polynomials.{IsPolynomial, polynomial-lt, polynomial-same, polynomial-shift}
use Rattle.error_codes.specs.Checks.{AreScaled, CheckDecodersAreRight, ChecksHaveSolution, Corrects, IsChecked, IsSent}
use Rattle.error_codes.specs.Checks.{RejectsChecked, SentIsUnique, SyndromesCorrect, SyndromesDecode, ValuesAreChecked}
use Rattle.error_codes.specs.Checks.{WordsDiffer, dual_weight, key_sum, syndrome}
use Rattle.field_slices.specs.Marks.{marked_below}
use Rattle.error_codes.specs.Words.{at, is_wrong}
use Rattle.field_slices.proofs.Counting.{none-of-three, one-unmarked, three-marks}
use Rattle.error_codes.proofs.Marks.{differ-is, fewer-marks, none-of-two, right-is, two-marks, wrong-is}
use Rattle.error_codes.proofs.Decoding.{cancelled, few-zeros}
use Rattle.error_codes.proofs.Lists.{has-nonzero, list-polynomial}
use Rattle.error_codes.proofs.Moments.{key-values, power-none, sum-add, sum-one, sum-same, sum-times, vandermonde}
use Rattle.error_codes.proofs.Products.{locator, locator-nonzero, locator-polynomial, locator-zero, polynomial-most}
use Rattle.error_codes.proofs.Products.{polynomial-product}

module _ (width : ℕ) (times : ℕ → ℕ → ℕ) (wide : 0 < width) (field : IsField width times) (n : ℕ)
    (point scale : ℕ → ℕ) where
  pub syndrome-sum : (a b : ℕ → ℕ) (m : ℕ)
      → syndrome times n point scale (λ i. bit_xor (a i) (b i)) m ≡ bit_xor (syndrome times n point scale a m)
      (syndrome times n point scale b m)
  syndrome-sum a b m =
      sum-same (λ i. times (times (scale i) (bit_xor (a i) (b i))) (power 1 times (point i) m))
      (λ i. bit_xor (times (times (scale i) (a i)) (power 1 times (point i) m))
      (times (times (scale i) (b i)) (power 1 times (point i) m))) n
      (λ i below.
      ap (λ (z : ℕ). times z (power 1 times (point i) m)) (field.ring.over_sum (scale i) (a i) (b i))
      ∙ field.ring.comm (bit_xor (times (scale i) (a i)) (times (scale i) (b i))) (power 1 times (point i) m)
      ∙ field.ring.over_sum (power 1 times (point i) m) (times (scale i) (a i)) (times (scale i) (b i))
      ∙ ap₂ bit_xor (field.ring.comm (power 1 times (point i) m) (times (scale i) (a i)))
      (field.ring.comm (power 1 times (point i) m) (times (scale i) (b i))))
      ∙ sum-add (λ i. times (times (scale i) (a i)) (power 1 times (point i) m))
      (λ i. times (times (scale i) (b i)) (power 1 times (point i) m)) n

  module _ (scaled : AreScaled width n point scale) (checks : ℕ) where
    -- two words of the code that differ at no more marked places than there are checks are one
    pub checked-same : (c d : ℕ → ℕ) → IsChecked width times checks n point scale c
        → IsChecked width times checks n point scale d
        → (marked : ℕ → Bool) → marked_below marked n ≤ checks → ((i : ℕ) → i < n → marked i ≡ false → c i ≡ d i)
        → (i : ℕ) → i < n → c i ≡ d i
    checked-same c d c_checked d_checked marked few same i within =
        elim (no_zero_divisors width times field.ring field.inverses (scale i) (bit_xor (c i) (d i))
        (scaled.scales i within)
        (xor_lt width (c i) (d i) (c_checked.symbols i within) (d_checked.symbols i within))
        (vandermonde width times wide field n point scaled.points checks
        (λ j. times (scale j) (bit_xor (c j) (d j))) marked
        (λ j below. field.ring.below (scale j) (bit_xor (c j) (d j))) few
        (λ j below free.
        ap (times (scale j)) (ap (λ (z : ℕ). bit_xor z (d j)) (same j below free) ∙ xor_self (d j))
        ∙ times-zero width 1 times field.ring (scale j))
        (λ m below. syndrome-sum c d m ∙ ap₂ bit_xor (c_checked.sums m below) (d_checked.sums m below)) i within)) [
          | inl none ↦ absurd (scaled.nonzero i within none)
          | inr none ↦ xor_nothing (c i) (d i) none
        ]

    -- the sums of coefficients with the syndromes of a word of the code are 0
    pub checked-sums : (c : ℕ → ℕ) → IsChecked width times checks n point scale c → (s : ℕ) (cs : List ℕ)
        → length cs ≡ s + 1 → (m : ℕ) → m + s < checks
        → key_sum times cs (syndrome times n point scale c) m ≡ 0
    checked-sums c checked s cs count m below =
        sum-same (λ j. times (slice_index cs j) (syndrome times n point scale c (m + j))) (λ j. times 0 0) (length cs)
        (λ j inside.
        ap (times (slice_index cs j)) (checked.sums (m + j) (omega (arith, inside, count, below)))
        ∙ times-zero width 1 times field.ring (slice_index cs j)
        ∙ sym (times-zero width 1 times field.ring 0))
        ∙ sum-times width times wide field 0 (λ j. 0) (length cs)
        ∙ zero-times width 1 times field.ring (sum_below (λ j. 0) (length cs))

pub sent_is_unique : SentIsUnique
sent_is_unique width times wide field checks n e t point scale word erased scaled few_erased short c d c_sent d_sent =
    checked-same width times wide field n point scale scaled checks c d c_sent.checked d_sent.checked
    (λ i. erased i || c_wrong i || d_wrong i)
    (let all = three-marks erased c_wrong d_wrong n in let few_c = c_sent.few_wrong in let few_d = d_sent.few_wrong in
    omega (arith, all, few_erased, few_c, few_d, short))
    (λ i below free.
    let none = none-of-three (erased i) (c_wrong i) (d_wrong i) free in
    sym (right-is (erased i) (word i) (c i) none.0 none.1) ∙ right-is (erased i) (word i) (d i) none.0 none.2)
  where
    c_wrong : ℕ → Bool
    c_wrong = is_wrong (λ i. i) word erased c

    d_wrong : ℕ → Bool
    d_wrong = is_wrong (λ i. i) word erased d

pub words_differ : WordsDiffer
words_differ width times wide field checks n point scale scaled c d c_checked d_checked i within other =
    pick (cases_lt checks (marked_below differ n))
  where
    differ : ℕ → Bool
    differ j = not (nat_eq (c j) (d j))

    equal : (a b : ℕ) → not (nat_eq a b) ≡ false → a ≡ b
    equal a b is = elim (eqb_tells a b) [
      | inl same ↦ same.1
      | inr differs ↦ let no : not (nat_eq a b) ≡ true = ap not differs.0 in absurd (cc)
    ]

    pick : (checks < marked_below differ n) ⊎ (marked_below differ n ≤ checks) → checks < marked_below differ n
    pick (inl many) = many
    pick (inr few) =
        absurd (other
        (checked-same width times wide field n point scale scaled checks c d c_checked d_checked differ few
        (λ j below free. equal (c j) (d j) free) i within))

pub checks_have_solution : ChecksHaveSolution
checks_have_solution width times wide field checks n e t s point scale word erased scaled fits few_erased enough short c
    sent =
    let bottom = coefficients_of width times field.ring (suc s) found bottom-polynomial in (
      bottom.0,
      record {
        count = omega (arith, bottom.1);
        nonzero = has-nonzero width times field bottom.0 (λ none. nonzero (λ x. bottom.2 x ∙ none x));
        at_erased = λ i below is. sym (bottom.2 (point i))
            ∙ locator-zero width times wide field point marked n i below (ap (λ (b : Bool). b || wrong i) is);
        sums = λ m below.
            key-values width times wide field n point bottom.0 (λ i. times (scale i) (word i)) m
            ∙ sum-same (λ i. times (times (times (scale i) (word i)) (power 1 times (point i) m))
            (at times bottom.0 (point i)))
            (λ i. times (times (times (scale i) (c i)) (power 1 times (point i) m)) (at times bottom.0 (point i))) n
            (λ i inside. same m i (at times bottom.0 (point i)) (marked i) refl (λ is. sym (bottom.2 (point i))
            ∙ locator-zero width times wide field point marked n i inside is))
            ∙ sym (key-values width times wide field n point bottom.0 (λ i. times (scale i) (c i)) m)
            ∙ checked-sums width times wide field n point scale scaled checks c sent.checked s bottom.0
            (omega (arith, bottom.1)) m below;
      },
    )
  where
    wrong : ℕ → Bool
    wrong = is_wrong (λ i. i) word erased c

    marked : ℕ → Bool
    marked i = erased i || wrong i

    few : marked_below marked n ≤ s
    few = let all = two-marks erased wrong n in let few_wrong = sent.few_wrong in
        omega (arith, all, few_erased, few_wrong, enough)

    found : ℕ → ℕ
    found = locator width times wide field point marked n

    bottom-polynomial : IsPolynomial times (suc s) found
    bottom-polynomial =
        polynomial-most width times field.ring (suc (marked_below marked n)) (suc s) found (omega (arith, few))
        (locator-polynomial width times wide field point marked n)

    nonzero : ((x : ℕ) → found x ≡ 0) → ⊥
    nonzero none =
        let right = one-unmarked marked n (omega (arith, few, short)) in
        locator-nonzero width times wide field point marked n (point right.0)
        (scaled.points.below right.0 right.1) scaled.points.below
        (λ i below is same.
        let one : right.0 ≡ i = scaled.points.differ right.0 i right.1 below same in
        let yes : marked right.0 ≡ true = ap marked one ∙ is in let no_mark = right.2 in absurd (cc))
        (none (point right.0))

    same : (m i v : ℕ) (b : Bool) → marked i ≡ b → (marked i ≡ true → v ≡ 0)
        → times (times (times (scale i) (word i)) (power 1 times (point i) m)) v ≡ times
        (times (times (scale i) (c i)) (power 1 times (point i) m)) v
    same m i v true is none =
        ap (times (times (times (scale i) (word i)) (power 1 times (point i) m))) (none is)
        ∙ times-zero width 1 times field.ring (times (times (scale i) (word i)) (power 1 times (point i) m))
        ∙ sym (ap (times (times (times (scale i) (c i)) (power 1 times (point i) m))) (none is)
        ∙ times-zero width 1 times field.ring (times (times (scale i) (c i)) (power 1 times (point i) m)))
    same m i v false is none =
        let free = none-of-two (erased i) (wrong i) is in
        ap (λ (z : ℕ). times (times (times (scale i) z) (power 1 times (point i) m)) v)
        (right-is (erased i) (word i) (c i) free.0 free.1)

pub syndromes_decode : SyndromesDecode
syndromes_decode width times wide field checks n t s point scale word erased scaled fits short c sent bottom solves =
    record {
      zero_where_wrong = zero-where-wrong;
      right_elsewhere = right-elsewhere;
      few_zeros = few;
      restored = λ d checked same i within.
          checked-same width times wide field n point scale scaled checks d c checked sent.checked is_zero
          (omega (arith, few, short))
          (λ j below free.
          let nonzero = differ-is (at times bottom (point j)) 0 free in same j below nonzero
          ∙ right-elsewhere j below nonzero)
          i within;
    }
  where
    wrong : ℕ → Bool
    wrong = is_wrong (λ i. i) word erased c

    is_zero : ℕ → Bool
    is_zero i = nat_eq (at times bottom (point i)) 0

    few : marked_below (λ i. nat_eq (at times bottom (point i)) 0) n ≤ s
    few = few-zeros width times wide field n s point scaled.points bottom solves.count solves.nonzero

    difference : ℕ → ℕ
    difference i = bit_xor (word i) (c i)

    y : ℕ → ℕ
    y i = times (times (scale i) (difference i)) (at times bottom (point i))

    swapped : (a b d : ℕ) → times (times a b) d ≡ times (times a d) b
    swapped a b d = field.ring.assoc a b d ∙ ap (times a) (field.ring.comm b d) ∙ sym (field.ring.assoc a d b)

    value-lt : (i : ℕ) → at times bottom (point i) < 2 ^ width
    value-lt i = polynomial-lt width times field.ring (s + 1) (at times bottom)
        (list-polynomial width times field (s + 1) bottom solves.count) (point i)

    unmarked : (i : ℕ) → i < n → wrong i ≡ false → (b : Bool) → erased i ≡ b → y i ≡ 0
    unmarked i below free true is =
        ap (times (times (scale i) (difference i))) (solves.at_erased i below is)
        ∙ times-zero width 1 times field.ring (times (scale i) (difference i))
    unmarked i below free false is =
        ap (λ (z : ℕ). times (times (scale i) (bit_xor z (c i))) (at times bottom (point i)))
        (right-is (erased i) (word i) (c i) is free)
        ∙ ap (λ (z : ℕ). times (times (scale i) z) (at times bottom (point i))) (xor_self (c i))
        ∙ ap (λ (z : ℕ). times z (at times bottom (point i))) (times-zero width 1 times field.ring (scale i))
        ∙ zero-times width 1 times field.ring (at times bottom (point i))

    sums : (m : ℕ) → m < t → sum_below (λ i. times (y i) (power 1 times (point i) m)) n ≡ 0
    sums m below =
        sum-same (λ i. times (y i) (power 1 times (point i) m))
        (λ i. times (times (times (scale i) (difference i)) (power 1 times (point i) m)) (at times bottom (point i))) n
        (λ i inside. swapped (times (scale i) (difference i)) (at times bottom (point i)) (power 1 times (point i) m))
        ∙ sym (key-values width times wide field n point bottom (λ i. times (scale i) (difference i)) m)
        ∙ sum-same (λ j. times (slice_index bottom j) (syndrome times n point scale difference (m + j)))
        (λ j. times (slice_index bottom j) (syndrome times n point scale word (m + j))) (length bottom)
        (λ j inside.
        ap (times (slice_index bottom j))
        (syndrome-sum width times wide field n point scale word c (m + j)
        ∙ ap (bit_xor (syndrome times n point scale word (m + j)))
        (sent.checked.sums (m + j) (let count = solves.count in omega (arith, inside, count, below, short)))
        ∙ xor_zero_r (syndrome times n point scale word (m + j))))
        ∙ solves.sums m (omega (arith, below, short))

    all-zero : (i : ℕ) → i < n → y i ≡ 0
    all-zero i within =
        vandermonde width times wide field n point scaled.points t y wrong
        (λ j below. field.ring.below (times (scale j) (difference j)) (at times bottom (point j))) sent.few_wrong
        (λ j below free. unmarked j below free (erased j) refl) sums i within

    zero-where-wrong : (i : ℕ) → i < n → wrong i ≡ true → at times bottom (point i) ≡ 0
    zero-where-wrong i within is =
        elim (no_zero_divisors width times field.ring field.inverses (times (scale i) (difference i))
        (at times bottom (point i))
        (field.ring.below (scale i) (difference i)) (value-lt i) (all-zero i within)) [
          | inl none ↦ absurd (elim (no_zero_divisors width times field.ring field.inverses (scale i) (difference i)
              (scaled.scales i within)
              (xor_lt width (word i) (c i) (fits i within) (sent.checked.symbols i within)) none) [
                | inl nothing ↦ scaled.nonzero i within nothing
                | inr nothing ↦ (wrong-is (erased i) (word i) (c i) is).1 (xor_nothing (word i) (c i) nothing)
              ])
          | inr none ↦ none
        ]

    right-elsewhere : (i : ℕ) → i < n → at times bottom (point i) ≢ 0 → word i ≡ c i
    right-elsewhere i within nonzero = pick (erased i) refl (wrong i) refl
      where
        pick : (a : Bool) → erased i ≡ a → (b : Bool) → wrong i ≡ b → word i ≡ c i
        pick true is b b_is = absurd (nonzero (solves.at_erased i within is))
        pick false is true b_is = absurd (nonzero (zero-where-wrong i within b_is))
        pick false is false b_is = right-is (erased i) (word i) (c i) is b_is

pub syndromes_correct : SyndromesCorrect
syndromes_correct width times wide field checks n t s point scale word erased scaled fits short c sent bottom solves d
    corrected i within =
    pick (eqb_tells (at times bottom (point i)) 0)
  where
    decodes : Corrects width times checks s n point scale word erased bottom c
    decodes = syndromes_decode width times wide field checks n t s point scale word erased scaled fits short c sent
        bottom solves

    difference : ℕ → ℕ
    difference j = bit_xor (word j) (c j)

    -- only place i counts in the sum
    value-is : (others : List ℕ) → length others ≤ checks
        → ((j : ℕ) → j < n → at times bottom (point j) ≡ 0 → j ≢ i → at times others (point j) ≡ 0)
        → key_sum times others (syndrome times n point scale word) 0 ≡ times (times (scale i) (difference i))
        (at times others (point i))
    value-is others count zero_elsewhere =
        sum-same (λ j. times (slice_index others j) (syndrome times n point scale word (0 + j)))
        (λ j. times (slice_index others j) (syndrome times n point scale difference (0 + j))) (length others)
        (λ j below.
        ap (times (slice_index others j))
        (sym (xor_zero_r (syndrome times n point scale word (0 + j)))
        ∙ ap (bit_xor (syndrome times n point scale word (0 + j)))
        (sym (sent.checked.sums (0 + j) (omega (arith, below, count))))
        ∙ sym (syndrome-sum width times wide field n point scale word c (0 + j))))
        ∙ key-values width times wide field n point others (λ j. times (scale j) (difference j)) 0
        ∙ sum-one (λ j. times (times (times (scale j) (difference j)) (power 1 times (point j) 0))
        (at times others (point j))) n i within
        (λ j below other. term j below other (eqb_tells (at times bottom (point j)) 0))
        ∙ ap (λ (z : ℕ). times z (at times others (point i)))
        (power-none width times wide field (times (scale i) (difference i)) (point i)
        (field.ring.below (scale i) (difference i)))
      where
        term : (j : ℕ) → j < n → j ≢ i
            → ((nat_eq (at times bottom (point j)) 0 ≡ true)
            × (at times bottom (point j) ≡ 0)) ⊎ ((nat_eq (at times bottom (point j)) 0 ≡ false)
            × (at times bottom (point j) ≡ 0 → ⊥))
            → times (times (times (scale j) (difference j)) (power 1 times (point j) 0)) (at times others (point j)) ≡ 0
        term j below other (inl none) =
            ap (times (times (times (scale j) (difference j)) (power 1 times (point j) 0)))
            (zero_elsewhere j below none.1 other)
            ∙ times-zero width 1 times field.ring (times (times (scale j) (difference j)) (power 1 times (point j) 0))
        term j below other (inr some) =
            ap (λ (z : ℕ). times (times (times (scale j) (bit_xor z (c j))) (power 1 times (point j) 0))
            (at times others (point j)))
            (decodes.right_elsewhere j below some.1)
            ∙ ap (λ (z : ℕ). times (times (times (scale j) z) (power 1 times (point j) 0)) (at times others (point j)))
            (xor_self (c j))
            ∙ ap (λ (z : ℕ). times (times z (power 1 times (point j) 0)) (at times others (point j)))
            (times-zero width 1 times field.ring (scale j))
            ∙ ap (λ (z : ℕ). times z (at times others (point j)))
            (zero-times width 1 times field.ring (power 1 times (point j) 0))
            ∙ zero-times width 1 times field.ring (at times others (point j))

    pick : ((nat_eq (at times bottom (point i)) 0 ≡ true)
        × (at times bottom (point i) ≡ 0)) ⊎ ((nat_eq (at times bottom (point i)) 0 ≡ false)
        × (at times bottom (point i) ≡ 0 → ⊥))
        → d i ≡ c i
    pick (inr some) = corrected.kept i within some.1 ∙ decodes.right_elsewhere i within some.1
    pick (inl none) =
        let finds = corrected.found i within none.1 in
        let value_lt = polynomial-lt width times field.ring (length finds.others) (at times finds.others)
        (list-polynomial width times field (length finds.others) finds.others refl) (point i) in
        elim (cancelled width times field (times (scale i) (bit_xor (word i) (d i))) (at times finds.others (point i))
        (times (scale i) (difference i))
        (field.ring.below (scale i) (bit_xor (word i) (d i))) value_lt (field.ring.below (scale i) (difference i))
        (finds.value ∙ value-is finds.others finds.short finds.zero_elsewhere)) [
          | inr nothing ↦ absurd (finds.nonzero nothing)
          | inl same ↦ elim (cancelled width times field (bit_xor (word i) (d i)) (scale i) (difference i)
              (xor_lt width (word i) (d i) (fits i within) (corrected.symbols i within)) (scaled.scales i within)
              (xor_lt width (word i) (c i) (fits i within) (sent.checked.symbols i within))
              (field.ring.comm (bit_xor (word i) (d i)) (scale i) ∙ same ∙ field.ring.comm (scale i) (difference i))) [
                | inr nothing ↦ absurd (scaled.nonzero i within nothing)
                | inl equal ↦ sym (xor_cancel (word i) (d i)) ∙ ap (bit_xor (word i)) equal ∙ xor_cancel (word i) (c i)
              ]
        ]

pub check_decoders_are_right : CheckDecodersAreRight
check_decoders_are_right width times wide field checks n e t s point scale word erased scaled fits few_erased enough
    short fewer = (
      (λ d d_sent. (
        d_sent,
        λ c c_sent.
            sent_is_unique width times wide field checks n e t point scale word erased scaled few_erased
            (omega (arith, enough, short)) c d c_sent d_sent,
      )),
      rejects,
    )
  where
    rejects : RejectsChecked width times checks n t s point scale word erased → (c : ℕ → ℕ)
        → IsSent width times checks n t point scale word erased c → ⊥
    rejects (inl none) c sent =
        let solution = checks_have_solution width times wide field checks n e t s point scale word erased scaled fits
        few_erased enough fewer c sent in
        none solution.0 solution.1
    rejects (inr found) c sent =
        found.4
        (record {
          checked = record {
            symbols = found.3.symbols;
            sums = λ m below.
                sum-same (λ i. times (times (scale i) (found.2 i)) (power 1 times (point i) m))
                (λ i. times (times (scale i) (c i)) (power 1 times (point i) m)) n
                (λ i inside. ap (λ (z : ℕ). times (times (scale i) z) (power 1 times (point i) m)) (same i inside))
                ∙ sent.checked.sums m below;
          };
          few_wrong =
              le_trans
              (fewer-marks (is_wrong (λ i. i) word erased found.2) (is_wrong (λ i. i) word erased c) n
              (λ i below is. ap (λ (z : ℕ). not (erased i) && not (nat_eq (word i) z)) (sym (same i below)) ∙ is))
              sent.few_wrong;
        })
      where
        same : (i : ℕ) → i < n → found.2 i ≡ c i
        same = syndromes_correct width times wide field checks n t s point scale word erased scaled fits short c sent
            found.0 found.1 found.2 found.3

-- ---- values are checked

module _ (width : ℕ) (times : ℕ → ℕ → ℕ) (wide : 0 < width) (field : IsField width times) where
  one_fits : 1 < 2 ^ width
  one_fits = pow_below 0 width wide

  pub power-polynomial : (m : ℕ) → IsPolynomial times (suc m) (λ x. power 1 times x m)
  unfolding IsPolynomial power
  power-polynomial zero = (
    1,
    (λ x. 0),
    (λ x. refl),
    λ x. sym (ap₂ bit_xor (one-times width 1 times field.ring 1 one_fits) (times-zero width 1 times field.ring x)
        ∙ xor_zero_r 1),
  )
  power-polynomial (suc m) =
      polynomial-same width times field.ring (suc (suc m)) (λ x. times x (power 1 times x m))
      (λ x. power 1 times x (suc m))
      (λ x. field.ring.comm x (power 1 times x m)) (polynomial-shift width times field.ring (suc m)
      (λ x. power 1 times x m) (power-polynomial m))

  module _ (point : ℕ → ℕ) where
    -- up to both own places the products are one
    same-before : (own skip x n : ℕ) → n ≤ own → n ≤ skip
        → other_factors times point own x n ≡ other_factors times point skip x n
    unfolding product_below
    same-before own skip x zero own_most skip_most = refl
    same-before own skip x (suc n) own_most skip_most =
        factors_more width times field wide point own x n (λ e. absurd (omega (arith, e, own_most)))
        ∙ ap (λ (z : ℕ). times z (bit_xor x (point n))) (same-before own skip x n (omega (arith, own_most))
        (omega (arith, skip_most)))
        ∙ sym (factors_more width times field wide point skip x n (λ e. absurd (omega (arith, e, skip_most))))

    -- the product of all differences has the own one as a factor
    with-own : (own skip x n : ℕ) → own < n → n ≤ skip
        → other_factors times point skip x n ≡ times (other_factors times point own x n) (bit_xor x (point own))
    with-own own skip x zero within most = absurd (omega (arith, within))
    with-own own skip x (suc n) within most =
        pick (eqb_tells n own) (λ below. with-own own skip x n below (omega (arith, most)))
      where
        more : other_factors times point skip x (suc n) ≡ times (other_factors times point skip x n)
            (bit_xor x (point n))
        more = factors_more width times field wide point skip x n (λ e. absurd (omega (arith, e, most)))

        earlier : (n own : ℕ) → own < suc n → (n ≡ own → ⊥) → own < n
        earlier n own below other = omega (arith, below, other)

        at_most : (n own : ℕ) → n ≡ own → n ≤ own
        at_most n own e = omega (arith, e)

        swapped : (a b d : ℕ) → times (times a b) d ≡ times (times a d) b
        swapped a b d = field.ring.assoc a b d ∙ ap (times a) (field.ring.comm b d) ∙ sym (field.ring.assoc a d b)

        pick : ((nat_eq n own ≡ true) × (n ≡ own)) ⊎ ((nat_eq n own ≡ false) × (n ≡ own → ⊥))
            → (own < n → other_factors times point skip x n ≡ times (other_factors times point own x n)
            (bit_xor x (point own)))
            → other_factors times point skip x (suc n) ≡ times (other_factors times point own x (suc n))
            (bit_xor x (point own))
        pick (inl same) before =
            more
            ∙ ap₂ times
            (sym (same-before own skip x n (at_most n own same.1) (omega (arith, most)))
            ∙ sym (factors_skip width times field wide point own x n same.1))
            (ap (λ (i : ℕ). bit_xor x (point i)) same.1)
        pick (inr other) before =
            more ∙ ap (λ (z : ℕ). times z (bit_xor x (point n))) (before (earlier n own within other.1))
            ∙ swapped (other_factors times point own x n) (bit_xor x (point own)) (bit_xor x (point n))
            ∙ ap (λ (z : ℕ). times z (bit_xor x (point own)))
            (sym (factors_more width times field wide point own x n other.1))

    module _ (last : ℕ) (points : AreDistinctBelow (suc last) (2 ^ width) point) where
      abbrev weight : ℕ → ℕ
      weight i = dual_weight width times (suc last) point i

      fraction : (j : ℕ) → j < last → times (weight last) (lagrange width times point last j (point last)) ≡ weight j
      fraction j below =
          inverse-power width times field wide (other_factors times point j (point j) (suc last))
          (times (weight last) (lagrange width times point last j (point last)))
          (factors-lt width times field wide point j (point j) (suc last))
          (field.ring.below (weight last) (lagrange width times point last j (point last)))
          (ap (λ (z : ℕ). times z (times (weight last) (times b inverse)))
          (factors_more width times field wide point j (point j) last (λ e. absurd (omega (arith, e, below)))
          ∙ ap (times c) (xor_comm (point j) (point last)))
          ∙ arranged c d (weight last) b inverse
          ∙ ap₂ times
          (power-inverts width times field wide c (factors-lt width times field wide point j (point j) last)
          (factors-nonzero width times field wide point (suc last) points.below points.differ j
          (omega (arith, below)) last (omega arith)))
          (ap (λ (z : ℕ). times z (weight last))
          (sym (with-own j last (point last) last below (omega arith))
          ∙ sym (factors_skip width times field wide point last (point last) last refl))
          ∙ power-inverts width times field wide (other_factors times point last (point last) (suc last))
          (factors-lt width times field wide point last (point last) (suc last))
          (factors-nonzero width times field wide point (suc last) points.below points.differ last (omega arith)
          (suc last) (omega arith)))
          ∙ one-times width 1 times field.ring 1 one_fits)
        where
          b : ℕ
          b = other_factors times point j (point last) last

          c : ℕ
          c = other_factors times point j (point j) last

          d : ℕ
          d = bit_xor (point last) (point j)

          inverse : ℕ
          inverse = power 1 times c (2 ^ width - 2)

          arranged : (p q u v i : ℕ) → times (times p q) (times u (times v i)) ≡ times (times p i) (times (times v q) u)
          arranged p q u v i =
              field.ring.assoc p q (times u (times v i))
              ∙ ap (times p)
              (ap (times q) (sym (field.ring.assoc u v i) ∙ field.ring.comm (times u v) i)
              ∙ times_left_comm width 1 times field.ring q i (times u v)
              ∙ ap (times i) (ap (times q) (field.ring.comm u v) ∙ sym (field.ring.assoc q v u)
              ∙ ap (λ (z : ℕ). times z u) (field.ring.comm q v)))
              ∙ sym (field.ring.assoc p i (times (times v q) u))

      -- the weighted values of a polynomial of n - 1 coefficients have the sum 0
      pub weighted-none : (g : ℕ → ℕ) → IsPolynomial times last g
          → sum_below (λ i. times (weight i) (g (point i))) (suc last) ≡ 0
      unfolding sum_below
      weighted-none g p =
          ap (bit_xor (sum_below (λ i. times (weight i) (g (point i))) last))
          (ap (times (weight last))
          (sym (interpolated-is width times field wide point last (λ i below. points.below i (omega (arith, below)))
          (λ i j i_below j_below. points.differ i j (omega (arith, i_below)) (omega (arith, j_below))) g p
          (λ i. g (point i)) (λ i below. refl)
          (λ i below. polynomial-lt width times field.ring last g p (point i)) (point last)))
          ∙ sym (sum-times width times wide field (weight last)
          (λ j. times (lagrange width times point last j (point last)) (g (point j))) last)
          ∙ sum-same (λ j. times (weight last) (times (lagrange width times point last j (point last)) (g (point j))))
          (λ i. times (weight i) (g (point i))) last
          (λ j below.
          sym (field.ring.assoc (weight last) (lagrange width times point last j (point last)) (g (point j)))
          ∙ ap (λ (z : ℕ). times z (g (point j))) (fraction j below)))
          ∙ xor_self (sum_below (λ i. times (weight i) (g (point i))) last)

pub values_are_checked : ValuesAreChecked
values_are_checked width times wide field k checks zero point scale word cs points count short same m below =
    absurd (omega (arith, below, short))
values_are_checked width times wide field k checks (suc last) point scale word cs points count short same m below =
    sum-same (λ i. times (times (scale i) (word i)) (power 1 times (point i) m))
    (λ i. times (dual_weight width times (suc last) point i) (times (at times cs (point i))
    (power 1 times (point i) m))) (suc last)
    (λ i inside.
    ap (λ (z : ℕ). times z (power 1 times (point i) m)) (same i inside)
    ∙ field.ring.assoc (dual_weight width times (suc last) point i) (at times cs (point i)) (power 1 times (point i) m))
    ∙ weighted-none width times wide field point last points (λ x. times (at times cs x) (power 1 times x m))
    (polynomial-most width times field.ring (k + m) last (λ x. times (at times cs x) (power 1 times x m))
    (omega (arith, below, short))
    (polynomial-product width times field.ring k m (at times cs) (λ x. power 1 times x m)
    (list-polynomial width times field k cs count)
    (power-polynomial width times wide field m)))
