-- Polynomials of a degree: their coefficient at the top is not 0, and degrees of products add.
use Rattle.std.proofs.Common.{◌≡◌, ◌≢◌, ℕ, zero, suc, ◌+◌, ◌%◌, ◌^◌, ◌<◌, inl, inr, List, [], ◌∷◌, length, refl, sym}
use Rattle.std.proofs.Common.{◌∙◌, ap, ap₂, subst, arith}
use Rattle.std.specs.Prelude.{bit_xor, slice_index}
use native.Mathlib.Nat.{mod-eq_of_lt}
use lib.Bits.{xor_assoc, xor_zero_l, xor_zero_r}
use Rattle.field_base.specs.Field.{IsField}
use Rattle.field_base.specs.Powers.{power, terms_from}
use Rattle.field_base.proofs.FieldLemmas.{no_zero_divisors}
use Rattle.field_base.proofs.PowerLemmas.{power-add}
use Rattle.field_base.proofs.RingLemmas.{mod-times, times_left_comm, times-mod, times-zero}
use Rattle.std.proofs.lemmas.Nat.{pow_below}
use Rattle.field_base.proofs.PolynomialCoefficients.{coefficients_of, value_of-cons}
use Rattle.field_base.proofs.Polynomials.{IsPolynomial, polynomial-same, polynomial-scale, polynomial-sum}
use Rattle.error_codes.specs.Euclid.{HasCount, HasTop}
use Rattle.error_codes.specs.Words.{at}
use Rattle.error_codes.proofs.Checks.{power-polynomial}
use Rattle.error_codes.proofs.Lists.{list-polynomial}
use Rattle.error_codes.proofs.Products.{polynomial-as, polynomial-product}

module _ (width : ℕ) (times : ℕ → ℕ → ℕ) (wide : 0 < width) (field : IsField width times) where
  pub count-polynomial : (k : ℕ) (f : ℕ → ℕ) → HasCount times k f → IsPolynomial times k f
  count-polynomial k f has =
      polynomial-same width times field.ring k (at times has.coefficients) f (λ x. sym (has.values x))
      (list-polynomial width times field k has.coefficients has.count)

  pub polynomial-count : (k : ℕ) (f : ℕ → ℕ) → IsPolynomial times k f → HasCount times k f
  polynomial-count k f p = let cs = coefficients_of width times field.ring k f p in
      record { coefficients = cs.0; count = cs.1; values = cs.2 }

  pub top-polynomial : (d : ℕ) (f : ℕ → ℕ) → HasTop width times d f → IsPolynomial times (suc d) f
  top-polynomial d f has =
      polynomial-same width times field.ring (suc d) (at times has.coefficients) f (λ x. sym (has.values x))
      (list-polynomial width times field (suc d) has.coefficients has.count)

  -- a list of coefficients without the last, which is at the top
  pub without-top : (d : ℕ) (cs : List ℕ) → length cs ≡ suc d
      → (g : ℕ → ℕ) × IsPolynomial times d g × ((x : ℕ)
      → at times cs x ≡ bit_xor (g x) (times (slice_index cs d) (power 1 times x d)))
  unfolding IsPolynomial terms_from power
  without-top d [] count = absurd (omega (arith, count))
  without-top zero (c ∷ []) count = (
    (λ x. 0),
    (λ x. refl),
    λ x.
        value_of-cons width times field.ring c [] x
        ∙ ap₂ bit_xor (field.ring.comm 1 c) (times-zero width 1 times field.ring x)
        ∙ xor_zero_r (times c 1) ∙ sym (xor_zero_l (times c 1)),
  )
  without-top zero (c ∷ e ∷ cs) count = absurd (omega (arith, count))
  without-top (suc d) (c ∷ cs) count = next (without-top d cs (omega (arith, count)))
    where
      next : ((g : ℕ → ℕ) × IsPolynomial times d g × ((x : ℕ)
          → at times cs x ≡ bit_xor (g x) (times (slice_index cs d) (power 1 times x d))))
          → (g : ℕ → ℕ) × IsPolynomial times (suc d) g
          × ((x : ℕ) → at times (c ∷ cs) x ≡ bit_xor (g x) (times (slice_index cs d) (times (power 1 times x d) x)))
      next rest = (
        (λ x. bit_xor (times 1 c) (times x (rest.0 x))),
        (c, rest.0, rest.1, λ x. refl),
        λ x.
            value_of-cons width times field.ring c cs x
            ∙ ap (bit_xor (times 1 c))
            (ap (times x) (rest.2 x) ∙ field.ring.over_sum x (rest.0 x) (times (slice_index cs d) (power 1 times x d))
            ∙ ap (bit_xor (times x (rest.0 x)))
            (times_left_comm width 1 times field.ring x (slice_index cs d) (power 1 times x d)
            ∙ ap (times (slice_index cs d)) (field.ring.comm x (power 1 times x d))))
            ∙ sym (xor_assoc (times 1 c) (times x (rest.0 x)) (times (slice_index cs d) (times (power 1 times x d) x))),
      )

  -- and one more coefficient at the top
  with-top : (d : ℕ) (g : ℕ → ℕ) → IsPolynomial times d g → (top : ℕ)
      → (cs : List ℕ) × (length cs ≡ suc d) × (slice_index cs d ≡ top)
      × ((x : ℕ) → bit_xor (g x) (times top (power 1 times x d)) ≡ at times cs x)
  unfolding IsPolynomial terms_from power
  with-top zero g p top = (
    top ∷ [],
    refl,
    refl,
    λ x.
        ap (λ (z : ℕ). bit_xor z (times top 1)) (p x) ∙ xor_zero_l (times top 1) ∙ sym (xor_zero_r (times top 1))
        ∙ sym (value_of-cons width times field.ring top [] x
        ∙ ap₂ bit_xor (field.ring.comm 1 top) (times-zero width 1 times field.ring x)),
  )
  with-top (suc d) g p top = next (with-top d p.1 p.2 top)
    where
      next : ((cs : List ℕ) × (length cs ≡ suc d) × (slice_index cs d ≡ top) × ((x : ℕ)
          → bit_xor (p.1 x) (times top (power 1 times x d)) ≡ at times cs x))
          → (cs : List ℕ) × (length cs ≡ suc (suc d)) × (slice_index cs (suc d) ≡ top)
          × ((x : ℕ) → bit_xor (g x) (times top (times (power 1 times x d) x)) ≡ at times cs x)
      next rest = (
        p.0 ∷ rest.0,
        ap suc rest.1,
        rest.2,
        λ x.
            ap (λ (z : ℕ). bit_xor z (times top (times (power 1 times x d) x))) (p.3 x)
            ∙ xor_assoc (times 1 p.0) (times x (p.1 x)) (times top (times (power 1 times x d) x))
            ∙ ap (bit_xor (times 1 p.0))
            (ap (bit_xor (times x (p.1 x)))
            (ap (times top) (field.ring.comm (power 1 times x d) x)
            ∙ times_left_comm width 1 times field.ring top x (power 1 times x d))
            ∙ sym (field.ring.over_sum x (p.1 x) (times top (power 1 times x d))) ∙ ap (times x) (rest.3 x))
            ∙ sym (value_of-cons width times field.ring p.0 rest.0 x),
      )

  -- a polynomial of d coefficients and a multiple of x^d
  pub make-top : (d : ℕ) (f g : ℕ → ℕ) → IsPolynomial times d g → (top : ℕ) → top % 2 ^ width ≢ 0
      → ((x : ℕ) → f x ≡ bit_xor (g x) (times top (power 1 times x d))) → HasTop width times d f
  make-top d f g p top nonzero values =
      let list = with-top d g p top in
      record {
        coefficients = list.0;
        count = list.1;
        top = λ none. nonzero (ap (λ (z : ℕ). z % 2 ^ width) (sym list.2) ∙ none);
        values = λ x. values x ∙ list.3 x;
      }

  pub top-sum : (d : ℕ) (f h : ℕ → ℕ) → IsPolynomial times d f → HasTop width times d h
      → HasTop width times d (λ x. bit_xor (f x) (h x))
  top-sum d f h p has =
      let parts = without-top d has.coefficients has.count in
      make-top d (λ x. bit_xor (f x) (h x)) (λ x. bit_xor (f x) (parts.0 x))
      (polynomial-sum width times field.ring d f parts.0 p parts.1)
      (slice_index has.coefficients d) has.top
      (λ x.
      ap (bit_xor (f x)) (has.values x ∙ parts.2 x)
      ∙ sym (xor_assoc (f x) (parts.0 x) (times (slice_index has.coefficients d) (power 1 times x d))))

  pub top-product : (a b : ℕ) (f h : ℕ → ℕ) → HasTop width times a f → HasTop width times b h
      → HasTop width times (a + b) (λ x. times (f x) (h x))
  top-product a b f h f_has h_has =
      let f_parts = without-top a f_has.coefficients f_has.count in
      let h_parts = without-top b h_has.coefficients h_has.count in
      make-top (a + b) (λ x. times (f x) (h x))
      (λ x. bit_xor (times (f_parts.0 x) (h x)) (times (times p (h_parts.0 x)) (power 1 times x a)))
      (polynomial-sum width times field.ring (a + b) (λ x. times (f_parts.0 x) (h x))
      (λ x. times (times p (h_parts.0 x)) (power 1 times x a))
      (polynomial-product width times field.ring a b f_parts.0 h f_parts.1 (top-polynomial b h h_has))
      (polynomial-as width times field.ring (b + a) (a + b) (λ x. times (times p (h_parts.0 x)) (power 1 times x a))
      (omega arith)
      (polynomial-product width times field.ring b a (λ x. times p (h_parts.0 x)) (λ x. power 1 times x a)
      (polynomial-scale width times field.ring b p h_parts.0 h_parts.1) (power-polynomial width times wide field a))))
      (times p q) nonzero
      (λ x.
      ap (λ (z : ℕ). times z (h x)) (f_has.values x ∙ f_parts.2 x)
      ∙ expanded (f_parts.0 x) (power 1 times x a) (h x) (h_parts.0 x) (power 1 times x b) (power 1 times x (a + b))
      (h_has.values x ∙ h_parts.2 x)
      (power-add width 1 times field.ring (pow_below 0 width wide) x a b))
    where
      p : ℕ
      p = slice_index f_has.coefficients a

      q : ℕ
      q = slice_index h_has.coefficients b

      nonzero : times p q % 2 ^ width ≢ 0
      nonzero none =
          elim (no_zero_divisors width times field.ring field.inverses (p % 2 ^ width) (q % 2 ^ width) (fits p) (fits q)
          (mod-times width 1 times field.ring p (q % 2 ^ width) ∙ times-mod width 1 times field.ring p q
          ∙ sym (mod-eq_of_lt (field.ring.below p q)) ∙ none)) [
            | inl is ↦ f_has.top is
            | inr is ↦ h_has.top is
          ]
        where
          fits : (z : ℕ) → z % 2 ^ width < 2 ^ width
          fits z = subst (λ (r : ℕ). r < 2 ^ width) (field.ring.one z) (field.ring.below 1 z)

      -- (g + p x^a) h = g h + p x^a g' + p q x^(a + b)
      expanded : (u xa v w xb xab : ℕ) → v ≡ bit_xor w (times q xb) → xab ≡ times xa xb
          → times (bit_xor u (times p xa)) v ≡ bit_xor (bit_xor (times u v) (times (times p w) xa))
          (times (times p q) xab)
      expanded u xa v w xb xab v_is xab_is =
          field.ring.comm (bit_xor u (times p xa)) v ∙ field.ring.over_sum v u (times p xa)
          ∙ ap₂ bit_xor (field.ring.comm v u)
          (field.ring.comm v (times p xa) ∙ ap (times (times p xa)) v_is
          ∙ field.ring.over_sum (times p xa) w (times q xb)
          ∙ ap₂ bit_xor (swapped p xa w)
          (field.ring.assoc p xa (times q xb) ∙ ap (times p) (times_left_comm width 1 times field.ring xa q xb)
          ∙ sym (field.ring.assoc p q (times xa xb))
          ∙ ap (times (times p q)) (sym xab_is)))
          ∙ sym (xor_assoc (times u v) (times (times p w) xa) (times (times p q) xab))
        where
          swapped : (r s z : ℕ) → times (times r s) z ≡ times (times r z) s
          swapped r s z = field.ring.assoc r s z ∙ ap (times r) (field.ring.comm s z) ∙ sym (field.ring.assoc r z s)
