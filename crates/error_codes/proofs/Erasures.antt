-- Syndromes where places are erased.
use Rattle.std.proofs.Common.{◌≡◌, ℕ, suc, ◌+◌, ◌<◌, List, length, Bool, true, false, refl, sym, ◌∙◌, ap, arith}
use Rattle.std.specs.Prelude.{slice_index}
use Rattle.field_base.specs.Basis.{sum_below}
use Rattle.field_base.specs.Field.{IsField}
use Rattle.field_base.specs.Powers.{power}
use Rattle.field_base.proofs.RingLemmas.{times-zero, zero-times}
use Rattle.field_base.proofs.PolynomialCoefficients.{coefficients_of}
use Rattle.field_base.proofs.Polynomials.{IsPolynomial}
use Rattle.error_codes.specs.Checks.{AreScaled, ErasuresMultiply, IsSent, NullVectorsExist, NullVectorsSolve, key_sum}
use Rattle.error_codes.specs.Checks.{syndrome}
use Rattle.field_slices.specs.Marks.{marked_below}
use Rattle.error_codes.specs.Words.{at, is_wrong}
use Rattle.error_codes.proofs.Checks.{checked-sums}
use Rattle.field_slices.proofs.Counting.{one-unmarked}
use Rattle.error_codes.proofs.Marks.{right-is}
use Rattle.error_codes.proofs.Lists.{has-nonzero}
use Rattle.error_codes.proofs.Moments.{key-values, sum-none, sum-same}
use Rattle.error_codes.proofs.Products.{locator, locator-elsewhere, locator-polynomial, locator-zero, polynomial-most}

module _ (width : ℕ) (times : ℕ → ℕ → ℕ) (wide : 0 < width) (field : IsField width times) (n : ℕ)
    (point scale : ℕ → ℕ) where
  swapped : (a b d : ℕ) → times (times a b) d ≡ times (times a d) b
  swapped a b d = field.ring.assoc a b d ∙ ap (times a) (field.ring.comm b d) ∙ sym (field.ring.assoc a d b)

  -- the sums of a factor with the sums of gamma are those of values
  gamma-values : (word : ℕ → ℕ) (gamma factor : List ℕ) (m : ℕ)
      → key_sum times factor (key_sum times gamma (syndrome times n point scale word)) m
      ≡ sum_below (λ i. times (times (times (times (scale i) (word i)) (at times gamma (point i)))
      (power 1 times (point i) m)) (at times factor (point i))) n
  gamma-values word gamma factor m =
      sum-same (λ j. times (slice_index factor j) (key_sum times gamma (syndrome times n point scale word) (m + j)))
      (λ j. times (slice_index factor j) (sum_below (λ i. times (z i) (power 1 times (point i) (m + j))) n))
      (length factor)
      (λ j below.
      ap (times (slice_index factor j))
      (key-values width times wide field n point gamma y (m + j)
      ∙ sum-same (λ i. times (times (y i) (power 1 times (point i) (m + j))) (at times gamma (point i)))
      (λ i. times (z i) (power 1 times (point i) (m + j))) n
      (λ i inside. swapped (y i) (power 1 times (point i) (m + j)) (at times gamma (point i)))))
      ∙ key-values width times wide field n point factor z m
    where
      y : ℕ → ℕ
      y i = times (scale i) (word i)

      z : ℕ → ℕ
      z i = times (y i) (at times gamma (point i))

pub erasures_multiply : ErasuresMultiply
erasures_multiply width times wide field n m point scale word gamma factor bottom product =
    key-values width times wide field n point bottom (λ i. times (scale i) (word i)) m
    ∙ sum-same (λ i. times (times (times (scale i) (word i)) (power 1 times (point i) m)) (at times bottom (point i)))
    (λ i. times (times (times (times (scale i) (word i)) (at times gamma (point i))) (power 1 times (point i) m))
    (at times factor (point i))) n
    (λ i below.
    ap (times (times (times (scale i) (word i)) (power 1 times (point i) m))) (product (point i))
    ∙ sym (field.ring.assoc (times (times (scale i) (word i)) (power 1 times (point i) m)) (at times gamma (point i))
    (at times factor (point i)))
    ∙ ap (λ (v : ℕ). times v (at times factor (point i)))
    (swapped width times wide field n point scale (times (scale i) (word i)) (power 1 times (point i) m)
    (at times gamma (point i))))
    ∙ sym (gamma-values width times wide field n point scale word gamma factor m)

-- entries on the other side
pub turned : (times : ℕ → ℕ → ℕ) → ((a b : ℕ) → times a b ≡ times b a) → (factor : List ℕ) (entry : ℕ → ℕ) (m : ℕ)
    → key_sum times factor entry m ≡ sum_below (λ j. times (entry (m + j)) (slice_index factor j)) (length factor)
turned times comm factor entry m =
    sum-same (λ j. times (slice_index factor j) (entry (m + j))) (λ j. times (entry (m + j)) (slice_index factor j))
    (length factor)
    (λ j below. comm (slice_index factor j) (entry (m + j)))

pub null_vectors_solve : NullVectorsSolve
null_vectors_solve width times wide field checks s n point scale word erased gamma factor bottom gamma_zero product
    count nonzero null = record {
      count = count;
      nonzero = nonzero;
      at_erased = λ i below is.
          product (point i) ∙ ap (λ (z : ℕ). times z (at times factor (point i))) (gamma_zero i below is)
          ∙ zero-times width 1 times field.ring (at times factor (point i));
      sums = λ m below.
          erasures_multiply width times wide field n m point scale word gamma factor bottom product
          ∙ turned times field.ring.comm factor (key_sum times gamma (syndrome times n point scale word)) m
          ∙ null m below;
    }

-- the locator of the wrong places, as a list of v + 1 coefficients, has sums 0 with those of gamma
pub sent-sums : (width : ℕ) (times : ℕ → ℕ → ℕ) (wide : 0 < width) (field : IsField width times)
    → (checks n e t : ℕ) (point scale word : ℕ → ℕ) (erased : ℕ → Bool) → AreScaled width n point scale
    → (gamma : List ℕ) → length gamma ≡ e + 1 → ((i : ℕ) → i < n → erased i ≡ true → at times gamma (point i) ≡ 0)
    → (c : ℕ → ℕ) → IsSent width times checks n t point scale word erased c
    → (v : ℕ) (cs : List ℕ) → length cs ≡ suc v
    → ((x : ℕ) → locator width times wide field point (is_wrong (λ i. i) word erased c) n x ≡ at times cs x)
    → (m : ℕ) → m + (e + v) < checks → key_sum times cs (key_sum times gamma (syndrome times n point scale word)) m ≡ 0
sent-sums width times wide field checks n e t point scale word erased scaled gamma gamma_count gamma_zero c sent v cs
    count values m below =
    gamma-values width times wide field n point scale word gamma cs m
    ∙ sum-same (λ i. times (times (times (times (scale i) (word i)) (at times gamma (point i)))
    (power 1 times (point i) m)) (at times cs (point i)))
    (λ i. times (times (times (times (scale i) (c i)) (at times gamma (point i))) (power 1 times (point i) m))
    (at times cs (point i))) n
    (λ i inside.
    same m i (at times cs (point i)) inside (erased i) refl (wrong i) refl
    (λ is. sym (values (point i)) ∙ locator-zero width times wide field point wrong n i inside is))
    ∙ sym (gamma-values width times wide field n point scale c gamma cs m)
    ∙ sum-none (λ j. times (slice_index cs j) (key_sum times gamma (syndrome times n point scale c) (m + j)))
    (length cs)
    (λ j inside.
    ap (times (slice_index cs j))
    (checked-sums width times wide field n point scale scaled checks c sent.checked e gamma gamma_count (m + j)
    (omega (arith, inside, count, below)))
    ∙ times-zero width 1 times field.ring (slice_index cs j))
  where
    wrong : ℕ → Bool
    wrong = is_wrong (λ i. i) word erased c

    same : (m i v : ℕ) → i < n → (a : Bool) → erased i ≡ a → (b : Bool) → wrong i ≡ b → (wrong i ≡ true → v ≡ 0)
        → times (times (times (times (scale i) (word i)) (at times gamma (point i))) (power 1 times (point i) m)) v
        ≡ times (times (times (times (scale i) (c i)) (at times gamma (point i))) (power 1 times (point i) m)) v
    same m i v inside true is b b_is none = lost (times (scale i) (word i)) ∙ sym (lost (times (scale i) (c i)))
      where
        lost : (u : ℕ) → times (times (times u (at times gamma (point i))) (power 1 times (point i) m)) v ≡ 0
        lost u =
            ap (λ (g : ℕ). times (times (times u g) (power 1 times (point i) m)) v) (gamma_zero i inside is)
            ∙ ap (λ (g : ℕ). times (times g (power 1 times (point i) m)) v) (times-zero width 1 times field.ring u)
            ∙ ap (λ (g : ℕ). times g v) (zero-times width 1 times field.ring (power 1 times (point i) m))
            ∙ zero-times width 1 times field.ring v
    same m i v inside false is true b_is none =
        ap (times (times (times (times (scale i) (word i)) (at times gamma (point i))) (power 1 times (point i) m)))
        (none b_is)
        ∙ times-zero width 1 times field.ring (times (times (times (scale i) (word i)) (at times gamma (point i)))
        (power 1 times (point i) m))
        ∙ sym (ap (times (times (times (times (scale i) (c i)) (at times gamma (point i)))
        (power 1 times (point i) m))) (none b_is)
        ∙ times-zero width 1 times field.ring (times (times (times (scale i) (c i)) (at times gamma (point i)))
        (power 1 times (point i) m)))
    same m i v inside false is false b_is none =
        ap (λ (z : ℕ). times (times (times (times (scale i) z) (at times gamma (point i)))
        (power 1 times (point i) m)) v)
        (right-is (erased i) (word i) (c i) is b_is)

pub null_vectors_exist : NullVectorsExist
null_vectors_exist width times wide field checks n e t point scale word erased scaled short gamma gamma_count gamma_zero
    c sent =
    let list = coefficients_of width times field.ring (suc t) found found-polynomial in (
      list.0,
      omega (arith, list.1),
      has-nonzero width times field list.0 (λ none. nonzero (λ x. list.2 x ∙ none x)),
      λ m below.
          ap (λ (k : ℕ). sum_below (λ j. times (key_sum times gamma (syndrome times n point scale word) (m + j))
          (slice_index list.0 j)) k) (longer list.1)
          ∙ sym (turned times field.ring.comm list.0 (key_sum times gamma (syndrome times n point scale word)) m)
          ∙ sent-sums width times wide field checks n e t point scale word erased scaled gamma gamma_count gamma_zero c
          sent t list.0 list.1 list.2 m below,
    )
  where
    wrong : ℕ → Bool
    wrong = is_wrong (λ i. i) word erased c

    found : ℕ → ℕ
    found = locator width times wide field point wrong n

    longer : {k : ℕ} → k ≡ suc t → t + 1 ≡ k
    longer is = omega (arith, is)

    found-polynomial : IsPolynomial times (suc t) found
    found-polynomial =
        polynomial-most width times field.ring (suc (marked_below wrong n)) (suc t) found (let few = sent.few_wrong in
        omega (arith, few))
        (locator-polynomial width times wide field point wrong n)

    nonzero : ((x : ℕ) → found x ≡ 0) → ⊥
    nonzero none =
        let right = one-unmarked wrong n (let few = sent.few_wrong in omega (arith, few, short)) in
        locator-elsewhere width times wide field point wrong n right.0 scaled.points right.1 right.2
        (none (point right.0))
