-- Lists of coefficients: which are 0, and that those of a polynomial are the only ones.
use Rattle.std.proofs.Common.{◌≡◌, ◌⊎◌, ℕ, zero, suc, ◌%◌, ◌^◌, ◌<◌, inl, inr, List, [], ◌∷◌, length, refl, sym, ◌∙◌}
use Rattle.std.proofs.Common.{ap, ap₂, subst, arith}
use Rattle.std.specs.Prelude.{bit_xor, slice_index}
use Rattle.std.proofs.lemmas.Nat.{xor_lt}
use native.Mathlib.Nat.{mod-eq_of_lt}
use lib.Bits.{xor_assoc, xor_self}
use Rattle.field_base.specs.Field.{IsField}
use Rattle.field_base.specs.Powers.{terms_from}
use Rattle.field_base.proofs.RingLemmas.{times-zero, times-mod, xor_left_comm, xor_nothing}
use Rattle.field_base.specs.PolynomialRoots.{AreDistinctBelow}
use Rattle.field_base.proofs.Codewords.{many_roots_mean_zero}
use Rattle.field_base.proofs.Polynomials.{IsPolynomial}
use Rattle.field_base.proofs.PolynomialCoefficients.{of_coefficients, value_of-cons}
use Rattle.error_codes.specs.Words.{at, HasNonzero}
use Rattle.error_codes.proofs.Products.{polynomial-as}

-- (a + b) + (c + d) = (a + c) + (b + d)
pub swap_middle : (a b c d : ℕ) → bit_xor (bit_xor a b) (bit_xor c d) ≡ bit_xor (bit_xor a c) (bit_xor b d)
swap_middle a b c d =
    xor_assoc a b (bit_xor c d) ∙ ap (bit_xor a) (xor_left_comm b c d) ∙ sym (xor_assoc a c (bit_xor b d))

module _ (width : ℕ) (times : ℕ → ℕ → ℕ) (field : IsField width times) where
  pub list-polynomial : (k : ℕ) (cs : List ℕ) → length cs ≡ k → IsPolynomial times k (at times cs)
  list-polynomial k cs count =
      polynomial-as width times field.ring (length cs) k (at times cs) count (of_coefficients width times field.ring cs)

  -- ---- coefficients that are 0

  zero-values : (cs : List ℕ) → ((i : ℕ) → i < length cs → slice_index cs i % 2 ^ width ≡ 0) → (x : ℕ)
      → at times cs x ≡ 0
  unfolding terms_from
  zero-values [] none x = refl
  zero-values (c ∷ cs) none x =
      value_of-cons width times field.ring c cs x
      ∙ ap₂ bit_xor (field.ring.one c ∙ none 0 (omega arith))
      (ap (times x) (zero-values cs (λ i below. none (suc i) (omega (arith, below))) x)
      ∙ times-zero width 1 times field.ring x)

  some-nonzero : (cs : List ℕ) → HasNonzero width cs ⊎ ((i : ℕ) → i < length cs → slice_index cs i % 2 ^ width ≡ 0)
  some-nonzero [] = inr (λ i below. absurd (omega (arith, below)))
  some-nonzero (c ∷ cs) = pick (c % 2 ^ width) refl (some-nonzero cs)
    where
      pick : (r : ℕ) → c % 2 ^ width ≡ r → HasNonzero width cs ⊎ ((i : ℕ) → i < length cs
          → slice_index cs i % 2 ^ width ≡ 0)
          → HasNonzero width (c ∷ cs) ⊎ ((i : ℕ) → i < suc (length cs) → slice_index (c ∷ cs) i % 2 ^ width ≡ 0)
      pick (suc r) is rest = inl (0, omega arith, λ none. absurd (omega (arith, is, none)))
      pick zero is (inl some) = inl (suc some.0, omega (arith, some.1), some.2)
      pick zero is (inr none) = inr each
        where
          each : (i : ℕ) → i < suc (length cs) → slice_index (c ∷ cs) i % 2 ^ width ≡ 0
          each zero below = is
          each (suc i) below = none i (omega (arith, below))

  pub has-nonzero : (cs : List ℕ) → (((x : ℕ) → at times cs x ≡ 0) → ⊥) → HasNonzero width cs
  has-nonzero cs other = elim (some-nonzero cs) [
    | inl some ↦ some
    | inr none ↦ absurd (other (zero-values cs none))
  ]

  -- ---- a polynomial has one list of coefficients

  -- the coefficients of a polynomial as elements of the field
  pub coefficients-fit : (k : ℕ) (f : ℕ → ℕ) → IsPolynomial times k f
      → (cs : List ℕ) × (length cs ≡ k) × ((i : ℕ) → i < length cs → slice_index cs i < 2 ^ width) × ((x : ℕ)
      → at times cs x ≡ f x)
  unfolding IsPolynomial terms_from
  coefficients-fit zero f p = ([], refl, (λ i below. absurd (omega (arith, below))), λ x. sym (p x))
  coefficients-fit (suc k) f p = next (coefficients-fit k p.1 p.2)
    where
      next : ((cs : List ℕ) × (length cs ≡ k) × ((i : ℕ) → i < length cs → slice_index cs i < 2 ^ width) × ((x : ℕ)
          → at times cs x ≡ p.1 x))
          → (cs : List ℕ) × (length cs ≡ suc k) × ((i : ℕ) → i < length cs → slice_index cs i < 2 ^ width) × ((x : ℕ)
          → at times cs x ≡ f x)
      next rest = (
        p.0 % 2 ^ width ∷ rest.0,
        ap suc rest.1,
        fits,
        λ x.
            value_of-cons width times field.ring (p.0 % 2 ^ width) rest.0 x
            ∙ ap₂ bit_xor (times-mod width 1 times field.ring 1 p.0) (ap (times x) (rest.3 x)) ∙ sym (p.3 x),
      )
        where
          mod_fits : (a : ℕ) → a % 2 ^ width < 2 ^ width
          mod_fits a = subst (λ (z : ℕ). z < 2 ^ width) (field.ring.one a) (field.ring.below 1 a)

          fits : (i : ℕ) → i < suc (length rest.0) → slice_index (p.0 % 2 ^ width ∷ rest.0) i < 2 ^ width
          fits zero below = mod_fits p.0
          fits (suc i) below = rest.2 i (omega (arith, below))

  abbrev added : List ℕ → List ℕ → List ℕ
  added [] ds = []
  added (c ∷ cs) [] = []
  added (c ∷ cs) (d ∷ ds) = bit_xor c d ∷ added cs ds

  added-length : (cs ds : List ℕ) → length cs ≡ length ds → length (added cs ds) ≡ length cs
  added-length [] ds same = refl
  added-length (c ∷ cs) [] same = absurd (omega (arith, same))
  added-length (c ∷ cs) (d ∷ ds) same = ap suc (added-length cs ds (omega (arith, same)))

  added-value : (cs ds : List ℕ) → length cs ≡ length ds → (x : ℕ)
      → at times (added cs ds) x ≡ bit_xor (at times cs x) (at times ds x)
  unfolding terms_from
  added-value [] [] same x = refl
  added-value [] (d ∷ ds) same x = absurd (omega (arith, same))
  added-value (c ∷ cs) [] same x = absurd (omega (arith, same))
  added-value (c ∷ cs) (d ∷ ds) same x =
      value_of-cons width times field.ring (bit_xor c d) (added cs ds) x
      ∙ ap₂ bit_xor (field.ring.over_sum 1 c d) (ap (times x) (added-value cs ds (omega (arith, same)) x)
      ∙ field.ring.over_sum x (at times cs x) (at times ds x))
      ∙ swap_middle (times 1 c) (times 1 d) (times x (at times cs x)) (times x (at times ds x))
      ∙ sym (ap₂ bit_xor (value_of-cons width times field.ring c cs x) (value_of-cons width times field.ring d ds x))

  all-same : (cs ds : List ℕ) → length cs ≡ length ds → ((i : ℕ) → i < length cs → slice_index cs i < 2 ^ width)
      → ((i : ℕ) → i < length ds → slice_index ds i < 2 ^ width)
      → ((i : ℕ) → i < length (added cs ds) → slice_index (added cs ds) i % 2 ^ width ≡ 0) → cs ≡ ds
  all-same [] [] same cs_fit ds_fit none = refl
  all-same [] (d ∷ ds) same cs_fit ds_fit none = absurd (omega (arith, same))
  all-same (c ∷ cs) [] same cs_fit ds_fit none = absurd (omega (arith, same))
  all-same (c ∷ cs) (d ∷ ds) same cs_fit ds_fit none =
      ap₂ ◌∷◌
      (xor_nothing c d (sym (mod-eq_of_lt (xor_lt width c d (cs_fit 0 (omega arith)) (ds_fit 0 (omega arith))))
      ∙ none 0 (omega arith)))
      (all-same cs ds (omega (arith, same)) (λ i below. cs_fit (suc i) (omega (arith, below)))
      (λ i below. ds_fit (suc i) (omega (arith, below)))
      (λ i below. none (suc i) (omega (arith, below))))

  pub coefficients-only : 0 < width → (k : ℕ) (cs ds : List ℕ) → length cs ≡ k → length ds ≡ k → (point : ℕ → ℕ)
      → AreDistinctBelow k (2 ^ width) point
      → ((i : ℕ) → i < length cs → slice_index cs i < 2 ^ width)
      → ((i : ℕ) → i < length ds → slice_index ds i < 2 ^ width)
      → ((i : ℕ) → i < k → at times cs (point i) ≡ at times ds (point i)) → cs ≡ ds
  coefficients-only wide k cs ds cs_count ds_count point points cs_fit ds_fit values =
      let same : length cs ≡ length ds = cs_count ∙ sym ds_count in
      all-same cs ds same cs_fit ds_fit
      (many_roots_mean_zero width times k (added cs ds) point wide field (let long = added-length cs ds same in
      omega (arith, long, cs_count)) points
      (λ i below.
      added-value cs ds same (point i) ∙ ap (λ (z : ℕ). bit_xor z (at times ds (point i))) (values i below)
      ∙ xor_self (at times ds (point i)))).each_coefficient
