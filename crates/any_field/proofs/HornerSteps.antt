-- Values of polynomials by Horner's rule.
use Rattle.std.proofs.Common.{◌≡◌, ℕ, zero, suc, refl, ◌+◌, ◌-◌, ◌*◌, ◌/◌, ◌%◌, ◌^◌, ◌≤◌, ◌<◌, sym, ◌∙◌, ap, ap₂, subst, arith}
use Rattle.std.specs.Prelude.{◌↔◌, IsTrue, bit_xor, nat_eq}
use Rattle.std.proofs.lemmas.Bool.Decides.{Decides-eqb}
use Rattle.std.proofs.lemmas.Nat.{pow-add, pow_pos, pow_below, xor_comm, xor_lt, shr-shr}
use native.Mathlib.Nat.{mod-lt, mul-add-div_right, mul-add-mod_self_right}
use Rattle.field_base.specs.Remainder.{HasDegree, mul_mod}
use Rattle.field_base.proofs.CarrylessProduct.{bit_cases}
use Rattle.any_field.specs.Values.{binary_value, binary_value_in, IsEmbeddingOf, IsIsomorphismOf}
use Rattle.any_field.proofs.RootValues.{at-step, at-one, at-sum, roots_give_embeddings, roots_give_isomorphisms}
use Rattle.any_field.specs.Contexts.{IsContext, HasNoFactors, field_product, with_top}
use Rattle.field_base.proofs.RingLemmas.{mod-times, xor_cancel}
use Rattle.any_field.proofs.RatioSteps.{with_top-xor}
use Rattle.any_field.proofs.WordRemainders.{top-degree, context-ring}
use Rattle.any_field.proofs.ContextFields.{irreducible-of}

-- the sum is the value of the terms from x^left on, shifted down
pub record IsValueSoFar (w t b d u left sum : ℕ) : Type 0 where
  pub left_fits : left ≤ d
  pub fits : sum < 2 ^ w
  pub is : sum ≡ binary_value (mul_mod w (with_top w t)) b (with_top d u / 2 ^ left)

module _ (w t r b d u : ℕ) (context : IsContext w t r) (fits : u < 2 ^ d) where
  pub value-start : IsValueSoFar w t b d u d 1
  value-start = record {
    left_fits = refl-le d;
    fits = pow_below 0 w context.wide;
    is =
        sym (ap (binary_value (mul_mod w (with_top w t)) b) (top-degree d u fits)
        ∙ at-one w (mul_mod w (with_top w t)) context.wide (context-ring w t r context) b);
  }
    where
      refl-le : (n : ℕ) → n ≤ n
      refl-le n = omega arith

  -- below the highest term the bits are those of the tail
  low-bit : (k : ℕ) → k < d → with_top d u / 2 ^ k % 2 ≡ u / 2 ^ k % 2
  low-bit k less =
      let parts : d - suc k + 1 + k ≡ d = omega arith in
      let even : 2 ^ (d - suc k + 1) ≡ 2 ^ (d - suc k) * 2 = pow-add 2 (d - suc k) 1 in
      ap (λ (z : ℕ). (z + u) / 2 ^ k % 2) (ap (λ (z : ℕ). 2 ^ z) (sym parts) ∙ pow-add 2 (d - suc k + 1) k)
      ∙ ap (λ (z : ℕ). z % 2) (mul-add-div_right (pow_pos k) (2 ^ (d - suc k + 1)) u)
      ∙ ap (λ (z : ℕ). (z + u / 2 ^ k) % 2) even ∙ mul-add-mod_self_right (2 ^ (d - suc k)) 2 (u / 2 ^ k)

  pub value-step : (left sum product : ℕ) → 0 < left → IsValueSoFar w t b d u left sum
      → product ≡ mul_mod w (with_top w t) sum b
      → IsValueSoFar w t b d u (left - 1) (bit_xor product (u / 2 ^ (left - 1) % 2))
  value-step left sum product some is product_is =
      let times = mul_mod w (with_top w t) in
      let ring = context-ring w t r context in
      let k = left - 1 in
      let less : k < d = omega (arith, is.left_fits) in
      let next : k + 1 ≡ left = omega arith in
      let half : with_top d u / 2 ^ k / 2 ≡ with_top d u / 2 ^ left = shr-shr (with_top d u) k 1 ∙ ap (λ (z : ℕ). with_top d u / 2 ^ z) next in
      let bit_fits : u / 2 ^ k % 2 < 2 ^ w = bit_cases (λ z. z < 2 ^ w) (pow_pos w) (pow_below 0 w context.wide) (u / 2 ^ k) in
      record {
        left_fits = omega (arith, is.left_fits);
        fits = xor_lt w product (u / 2 ^ k % 2) (subst (λ (z : ℕ). z < 2 ^ w) (sym product_is) (ring.below sum b)) bit_fits;
        is =
            xor_comm product (u / 2 ^ k % 2)
            ∙ ap₂ bit_xor (sym (low-bit k less))
            (product_is ∙ ring.comm sum b ∙ ap (times b) (is.is ∙ ap (binary_value times b) (sym half)))
            ∙ sym (at-step w times context.wide ring b (with_top d u / 2 ^ k));
      }

  pub value-end : (left sum : ℕ) → left ≡ 0 → IsValueSoFar w t b d u left sum → sum ≡ binary_value (mul_mod w (with_top w t)) b (with_top d u)
  value-end left sum none is =
      is.is ∙ ap (binary_value (mul_mod w (with_top w t)) b) (ap (λ (z : ℕ). with_top d u / 2 ^ z) none ∙ whole (with_top d u))
    where
      whole : (x : ℕ) → x / 2 ^ 0 ≡ x
      whole x = omega arith

pub isomorphic : (w t r v u s b : ℕ) → IsContext w t r → IsContext v u s → HasNoFactors (with_top v u) → w ≡ v
    → binary_value (mul_mod w (with_top w t)) b (with_top v u) ≡ 0
    → IsIsomorphismOf w (mul_mod v (with_top v u)) (mul_mod w (with_top w t)) (binary_value (mul_mod w (with_top w t)) b)
isomorphic w t r v u s b context other none same root =
    let wide : 0 < w = context.wide in
    subst (λ (n : ℕ). IsIsomorphismOf w (mul_mod n (with_top v u)) (mul_mod w (with_top w t)) (binary_value (mul_mod w (with_top w t)) b)) same
    (roots_give_isomorphisms w (with_top v u) (mul_mod w (with_top w t)) b wide
    (subst (λ (n : ℕ). HasDegree n (with_top v u)) (sym same) (top-degree v u other.tail_below)) (irreducible-of (with_top v u) none)
    (context-ring w t r context) root)

pub root-exactly : (A : Type 0) (v value : ℕ) → A → v ≡ value → IsTrue (nat_eq v 0) ↔ (A × (value ≡ 0))
root-exactly A v value same is = ((λ yes. (same, sym is ∙ (Decides-eqb v 0).0 yes)), (λ both. (Decides-eqb v 0).1 (is ∙ both.1)))

-- the value of a polynomial with x^degree in front, without that of x^degree
pub without-top : (w t r b d x low v high : ℕ) → IsContext w t r → low ≡ x % 2 ^ d → v ≡ binary_value (field_product w t) b (with_top d low)
    → high ≡ binary_value (field_product w t) b (with_top d 0) → bit_xor v high ≡ binary_value (field_product w t) b (x % 2 ^ d)
without-top w t r b d x low v high context low_is is high_is =
    let at = binary_value (field_product w t) b in
    let fits : low < 2 ^ d = subst (λ (z : ℕ). z < 2 ^ d) (sym low_is) (mod-lt x (pow_pos d)) in
    ap₂ bit_xor
    (is ∙ ap at (with_top-xor d low fits) ∙ at-sum w (field_product w t) context.wide (context-ring w t r context) b (2 ^ d) low)
    (high_is ∙ ap at (whole d))
    ∙ xor_comm (bit_xor (at (2 ^ d)) (at low)) (at (2 ^ d)) ∙ xor_cancel (at (2 ^ d)) (at low) ∙ ap at low_is
  where
    whole : (d : ℕ) → with_top d 0 ≡ 2 ^ d
    whole d = omega arith

pub embedded : (w t r v u s b : ℕ) → IsContext w t r → IsContext v u s → HasNoFactors (with_top v u)
    → binary_value (field_product w t) b (with_top v u) ≡ 0
    → IsEmbeddingOf v w (field_product v u) (field_product w t) (binary_value (field_product w t) b)
embedded w t r v u s b context other none root =
    roots_give_embeddings v (with_top v u) w (field_product w t) b other.wide context.wide (top-degree v u other.tail_below)
    (irreducible-of (with_top v u) none) (context-ring w t r context) root

-- a value reads the low bits of the point
at-low-in : (w t r b low : ℕ) → IsContext w t r → low ≡ b % 2 ^ w → (fuel p : ℕ)
    → binary_value_in fuel (field_product w t) low p ≡ binary_value_in fuel (field_product w t) b p
unfolding binary_value_in
at-low-in w t r b low context is zero p = refl
at-low-in w t r b low context is (suc fuel) zero = refl
at-low-in w t r b low context is (suc fuel) (suc p) =
    ap (bit_xor (suc p % 2))
    (ap₂ (field_product w t) is (at-low-in w t r b low context is fuel (suc p / 2))
    ∙ mod-times w 1 (field_product w t) (context-ring w t r context) b (binary_value_in fuel (field_product w t) b (suc p / 2)))

pub at-low : (w t r b low : ℕ) → IsContext w t r → low ≡ b % 2 ^ w → (p : ℕ)
    → binary_value (field_product w t) low p ≡ binary_value (field_product w t) b p
unfolding binary_value
at-low w t r b low context is p = at-low-in w t r b low context is p p
