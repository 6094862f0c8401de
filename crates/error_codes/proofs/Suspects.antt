-- Where a word is meant, a shortest register of the sums for the erased points is 0, in reverse, at all wrong places that
-- are not erased, and the places that are suspected are few.
use Rattle.std.proofs.Common.{◌≡◌, ◌≢◌, ℕ, zero, suc, ◌+◌, ◌-◌, ◌*◌, ◌%◌, ◌^◌, ◌<◌, ◌≤◌, List, [], ◌∷◌, length, Bool}
use Rattle.std.proofs.Common.{true, false, inl, inr, refl, sym, ◌∙◌, ap, ap₂, arith}
use Rattle.std.specs.Prelude.{bit_xor, nat_eq, slice_index, ◌||◌}
use Rattle.std.proofs.lemmas.Nat.{pow_below, xor_comm}
use native.Mathlib.Nat.{mod-eq_of_lt}
use Rattle.field_base.specs.Basis.{sum_below}
use Rattle.field_base.specs.Field.{IsField}
use Rattle.field_base.specs.Powers.{power, terms_from}
use Rattle.field_base.proofs.FieldLemmas.{no_zero_divisors}
use Rattle.field_base.proofs.PolynomialCoefficients.{coefficients_of, value_of-cons}
use Rattle.field_base.proofs.Polynomials.{IsPolynomial, polynomial-lt}
use Rattle.field_slices.specs.Marks.{marked_below}
use Rattle.field_slices.proofs.Counting.{one-unmarked}
use Rattle.error_codes.specs.Checks.{AreScaled, Corrects, IsSent, SolvesChecks, key_sum, syndrome}
use Rattle.error_codes.specs.Correcting.{code_value}
use Rattle.error_codes.specs.Filling.{marked_product, weighted_sum}
use Rattle.error_codes.specs.Registers.{IsRegister, IsShortest}
use Rattle.error_codes.specs.Words.{at, HasNonzero}
use Rattle.error_codes.proofs.Checks.{syndromes_decode}
use Rattle.error_codes.proofs.CodeValues.{horner-next}
use Rattle.error_codes.proofs.Decoding.{few-zeros}
use Rattle.error_codes.proofs.Erasures.{null_vectors_solve}
use Rattle.error_codes.proofs.Lists.{has-nonzero, list-polynomial}
use Rattle.error_codes.proofs.Marks.{differ-is, fewer-marks, none-of-two, two-marks}
use Rattle.error_codes.proofs.Moments.{key-values, sum-same}
use Rattle.error_codes.proofs.Products.{locator, locator-elsewhere, locator-lt, locator-polynomial, locator-zero}
use Rattle.error_codes.proofs.Products.{polynomial-product}
use Rattle.error_codes.proofs.Registers.{sum-reversed}
use Rattle.error_codes.proofs.ShortRegisters.{registers_are_short}

-- c (k - 1), .., c 1, c 0
unfoldable pub reversed : (ℕ → ℕ) → ℕ → List ℕ
reversed c zero = []
reversed c (suc k) = c k ∷ reversed c k

pub reversed-count : (c : ℕ → ℕ) (k : ℕ) → length (reversed c k) ≡ k
unfolding reversed
reversed-count c zero = refl
reversed-count c (suc k) = ap suc (reversed-count c k)

pub reversed-at : (c : ℕ → ℕ) (k j : ℕ) → j ≤ k → slice_index (reversed c (suc k)) j ≡ c (k - j)
unfolding reversed
reversed-at c k zero most = ap c (whole k)
  where
    whole : (a : ℕ) → a ≡ a - zero
    whole a = omega arith
reversed-at c zero (suc j) most = absurd (omega (arith, most))
reversed-at c (suc k) (suc j) most = reversed-at c k j (omega (arith, most)) ∙ ap c (both k j)
  where
    both : (a b : ℕ) → a - b ≡ suc a - suc b
    both a b = omega arith

-- a register of the first entries alone
pub shortest-same : (times : ℕ → ℕ → ℕ) (a b : ℕ → ℕ) (L l : ℕ) (c : ℕ → ℕ) → ((m : ℕ) → m < l → a m ≡ b m)
    → IsShortest times a L l c → IsShortest times b L l c
shortest-same times a b L l c same shortest = record {
  register = register a b same L c shortest.register;
  least = λ M d is. shortest.least M d (register b a (λ m below. sym (same m below)) M d is);
}
  where
    register : (a b : ℕ → ℕ) → ((m : ℕ) → m < l → a m ≡ b m) → (M : ℕ) (d : ℕ → ℕ) → IsRegister times a M l d
        → IsRegister times b M l d
    register a b same M d is = record {
      first = is.first;
      short = is.short;
      sums = λ p most below.
          sum-same (λ i. times (d i) (b (p - i))) (λ i. times (d i) (a (p - i))) (suc M)
          (λ i inside. ap (times (d i)) (sym (same (p - i) (omega (arith, below)))))
          ∙ is.sums p most below;
    }

module _ (width : ℕ) (times : ℕ → ℕ → ℕ) (wide : 0 < width) (field : IsField width times) where
  one_fits : 1 < 2 ^ width
  one_fits = pow_below 0 width wide

  -- the reverse has the values of Horner's rule
  pub reversed-value : (c : ℕ → ℕ) (k x : ℕ) → at times (reversed c k) x ≡ code_value times k c x
  unfolding reversed terms_from sum_below
  reversed-value c zero x = refl
  reversed-value c (suc k) x =
      value_of-cons width times field.ring (c k) (reversed c k) x
      ∙ xor_comm (times 1 (c k)) (times x (at times (reversed c k) x))
      ∙ ap₂ bit_xor
      (ap (times x) (reversed-value c k x) ∙ field.ring.comm x (code_value times k c x))
      (field.ring.comm 1 (c k))
      ∙ sym (horner-next width times wide field k c x)

  module _ (checks n most : ℕ) (point scale word : ℕ → ℕ) (erased : ℕ → Bool) (scaled : AreScaled width n point scale)
      (fits : (i : ℕ) → i < n → word i < 2 ^ width) (few : 2 * most + marked_below erased n ≤ checks)
      (checks_below : checks < n) (sent : ℕ → ℕ)
      (is_sent : IsSent width times checks n most point scale word erased sent)
      (sums : ℕ → ℕ) (left : ℕ) (left_is : left + marked_below erased n ≡ checks)
      (sums_are : (m : ℕ) → m < left → sums m
      ≡ weighted_sum times n point (λ i. times (scale i) (word i)) (marked_product times point erased n) m)
      (L : ℕ) (c : ℕ → ℕ) (shortest : IsShortest times sums L left c) where
    abbrev e : ℕ
    e = marked_below erased n

    gamma : (cs : List ℕ) × (length cs ≡ suc e)
        × ((x : ℕ) → locator width times wide field point erased n x ≡ at times cs x)
    gamma = coefficients_of width times field.ring (suc e) (locator width times wide field point erased n)
        (locator-polynomial width times wide field point erased n)

    gamma-count : length gamma.0 ≡ e + 1
    gamma-count = let count = gamma.1 in omega (arith, count)

    gamma-zero : (i : ℕ) → i < n → erased i ≡ true → at times gamma.0 (point i) ≡ 0
    gamma-zero i below is = sym (gamma.2 (point i)) ∙ locator-zero width times wide field point erased n i below is

    abbrev entry : ℕ → ℕ
    entry = key_sum times gamma.0 (syndrome times n point scale word)

    entries : (m : ℕ) → m < left → sums m ≡ entry m
    entries m below =
        sums_are m below
        ∙ sum-same (λ i. times (times (times (scale i) (word i)) (power 1 times (point i) m))
        (marked_product times point erased n (point i)))
        (λ i. times (times (times (scale i) (word i)) (power 1 times (point i) m)) (at times gamma.0 (point i))) n
        (λ i inside. ap (times (times (times (scale i) (word i)) (power 1 times (point i) m))) (gamma.2 (point i)))
        ∙ sym (key-values width times wide field n point gamma.0 (λ i. times (scale i) (word i)) m)

    shortest-entries : IsShortest times entry L left c
    shortest-entries = shortest-same times sums entry L left c entries shortest

    -- the register is short
    pub register-short : L ≤ most
    register-short =
        registers_are_short width times wide field checks n e most point scale word erased scaled gamma.0 gamma-count
        gamma-zero sent is_sent L left c left_is shortest-entries

    abbrev factor : List ℕ
    factor = reversed c (suc L)

    factor-count : length factor ≡ L + 1
    factor-count = let count = reversed-count c (suc L) in omega (arith, count)

    factor-nonzero : HasNonzero width factor
    factor-nonzero = (
      L,
      omega (arith, factor-count),
      λ none. let no : 1 ≡ 0 = sym (mod-eq_of_lt one_fits) ∙ sym last ∙ none in absurd (omega (arith, no)),
    )
      where
        end : L - L ≡ 0
        end = omega arith

        last : slice_index factor L % 2 ^ width ≡ 1 % 2 ^ width
        last = ap (λ (z : ℕ). z % 2 ^ width)
            (reversed-at c L L (omega arith) ∙ ap c end ∙ shortest.register.first)

    abbrev suspected : ℕ → Bool
    suspected i = erased i || nat_eq (at times factor (point i)) 0

    few-suspected : marked_below suspected n ≤ e + L
    few-suspected =
        let all = two-marks erased (λ i. nat_eq (at times factor (point i)) 0) n in
        let roots = few-zeros width times wide field n L point scaled.points factor factor-count factor-nonzero in
        omega (arith, all, roots)

    product-polynomial : IsPolynomial times (suc e + L)
        (λ x. times (locator width times wide field point erased n x) (at times factor x))
    product-polynomial =
        polynomial-product width times field.ring (suc e) L (locator width times wide field point erased n)
        (at times factor) (locator-polynomial width times wide field point erased n)
        (list-polynomial width times field (suc L) factor (reversed-count c (suc L)))

    bottom : (cs : List ℕ) × (length cs ≡ suc e + L)
        × ((x : ℕ) → times (locator width times wide field point erased n x) (at times factor x) ≡ at times cs x)
    bottom = coefficients_of width times field.ring (suc e + L)
        (λ x. times (locator width times wide field point erased n x) (at times factor x)) product-polynomial

    nonzero-elsewhere : (i : ℕ) → i < n → suspected i ≡ false → at times bottom.0 (point i) ≢ 0
    nonzero-elsewhere i below free none =
        elim (no_zero_divisors width times field.ring field.inverses
        (locator width times wide field point erased n (point i)) (at times factor (point i))
        (locator-lt width times wide field point erased n (point i))
        (polynomial-lt width times field.ring (suc L) (at times factor)
        (list-polynomial width times field (suc L) factor (reversed-count c (suc L))) (point i))
        (bottom.2 (point i) ∙ none)) [
          | inl nothing ↦ locator-elsewhere width times wide field point erased n i scaled.points below
              (none-of-two (erased i) (nat_eq (at times factor (point i)) 0) free).0 nothing
          | inr nothing ↦ differ-is (at times factor (point i)) 0
              (none-of-two (erased i) (nat_eq (at times factor (point i)) 0) free).1 nothing
        ]

    bottom-nonzero : HasNonzero width bottom.0
    bottom-nonzero =
        has-nonzero width times field bottom.0
        (λ none.
        let right = one-unmarked suspected n
        (omega (arith, few-suspected, register-short, few, checks_below)) in
        nonzero-elsewhere right.0 right.1 right.2 (none (point right.0)))

    placed : (m j : ℕ) → j ≤ L → m + L - (L - j) ≡ m + j
    placed m j inside = omega (arith, inside)

    null : (m : ℕ) → m + (e + L) < checks
        → sum_below (λ j. times (entry (m + j)) (slice_index factor j)) (length factor) ≡ 0
    null m below =
        ap (sum_below (λ j. times (entry (m + j)) (slice_index factor j))) (reversed-count c (suc L))
        ∙ sum-same (λ j. times (entry (m + j)) (slice_index factor j))
        (λ j. times (c (L - j)) (entry (m + L - (L - j)))) (suc L)
        (λ j inside.
        field.ring.comm (entry (m + j)) (slice_index factor j)
        ∙ ap₂ times (reversed-at c L j (omega (arith, inside)))
        (ap entry (sym (placed m j (omega (arith, inside))))))
        ∙ sym (sum-reversed L (λ i. times (c i) (entry (m + L - i))))
        ∙ shortest-entries.register.sums (m + L) (omega arith) (omega (arith, below, left_is))

    solves : SolvesChecks width times checks (e + L) n point scale word erased bottom.0
    solves =
        null_vectors_solve width times wide field checks (e + L) n point scale word erased gamma.0 factor bottom.0
        gamma-zero
        (λ x. sym (bottom.2 x) ∙ ap (λ (z : ℕ). times z (at times factor x)) (gamma.2 x))
        (let count = bottom.1 in omega (arith, count)) bottom-nonzero null

    corrects : Corrects width times checks (e + L) n point scale word erased bottom.0 sent
    corrects =
        syndromes_decode width times wide field checks n most (e + L) point scale word erased scaled fits
        (omega (arith, register-short, few)) sent is_sent bottom.0 solves

    more : suc L ≡ L + 1
    more = omega arith

    module _ (marks : ℕ → Bool)
        (marks_are : (i : ℕ) → i < n → marks i ≡ (erased i || nat_eq (code_value times (L + 1) c (point i)) 0)) where
      as-suspected : (i : ℕ) → i < n → suspected i ≡ marks i
      as-suspected i below =
          ap (λ (v : ℕ). erased i || nat_eq v 0)
          (reversed-value c (suc L) (point i) ∙ ap (λ (k : ℕ). code_value times k c (point i)) more)
          ∙ sym (marks_are i below)

      -- no more places are suspected than are erased or counted by the register
      pub suspects-counted : marked_below marks n ≤ marked_below erased n + L
      suspects-counted =
          let fewer = fewer-marks marks suspected n (λ i below is. as-suspected i below ∙ is) in
          omega (arith, fewer, few-suspected)

      -- and so they are few
      pub suspects-few : marked_below marks n ≤ checks
      suspects-few = omega (arith, suspects-counted, register-short, few)

      -- and all others are right
      pub others-right : (i : ℕ) → i < n → marks i ≡ false → word i ≡ sent i
      others-right i below free =
          corrects.right_elsewhere i below (nonzero-elsewhere i below (as-suspected i below ∙ free))
