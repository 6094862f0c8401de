-- The value of a polynomial by Horner's rule: c[0] + c[1] a + c[2] a ^ 2 + .. is c[0] + (c[1] + c[2] a + ..) a.
use Rattle.std.proofs.Common.{◌≡◌, ℕ, suc, ◌+◌, ◌-◌, ◌^◌, ◌<◌, ◌≤◌, List, [], ◌∷◌, length, drop, get_or, sym, ◌∙◌, ap, ap₂, arith}
use Rattle.std.specs.Prelude.{bit_xor}
use Rattle.std.proofs.lemmas.List.{drop_all, drop_more}
use Rattle.std.proofs.lemmas.Nat.{xor_comm}
use Rattle.field_base.specs.Powers.{power, terms_from, value_of}
use Rattle.field_base.specs.Ring.{IsRing}
use Rattle.field_base.proofs.PowerLemmas.{times-one}
use Rattle.field_base.proofs.RingLemmas.{sum_times, zero-times}

module _ {A : Type 0} (width unit : ℕ) (times : ℕ → ℕ → ℕ) (ring : IsRing width unit times) (repr : A → ℕ) (a : ℕ) where
  -- each exponent higher by 1 is a factor a
  terms_from-suc : (n : ℕ) (cs : List A)
      → terms_from unit times repr a (suc n) cs ≡ times (terms_from unit times repr a n cs) a
  unfolding power terms_from
  terms_from-suc n [] = sym (zero-times width unit times ring a)
  terms_from-suc n (c ∷ cs) =
      ap₂ bit_xor (sym (ring.assoc (repr c) (power unit times a n) a)) (terms_from-suc (suc n) cs)
      ∙ sym
      (sum_times width unit times ring (times (repr c) (power unit times a n)) (terms_from unit times repr a (suc n) cs) a)

  -- one more coefficient in front
  pub value_of-cons : (c : A) (cs : List A) → repr c < 2 ^ width
      → value_of unit times repr (c ∷ cs) a ≡ bit_xor (repr c) (times (value_of unit times repr cs a) a)
  unfolding power terms_from
  value_of-cons c cs fits = ap₂ bit_xor (times-one width unit times ring (repr c) fits) (terms_from-suc 0 cs)

  -- before the first coefficient the value is 0
  pub horner_start : (value n : ℕ) (cs : List A) → length cs ≤ n → value ≡ 0 → value ≡ value_of unit times repr (drop n cs) a
  unfolding terms_from
  horner_start value n cs past is_zero =
      is_zero ∙ ap (λ (zs : List A). value_of unit times repr zs a) (sym (drop_all n cs past))

  -- the coefficients come from the last one down, and each makes what is there the upper part
  pub horner_step : (value next n : ℕ) (cs : List A) (c : A) → 0 < n → n ≤ length cs → repr c < 2 ^ width → c ≡ get_or cs (n - 1) c
      → value ≡ value_of unit times repr (drop n cs) a → next ≡ bit_xor (times value a) (repr c)
      → next ≡ value_of unit times repr (drop (n - 1) cs) a
  horner_step value next n cs c above within fits read so_far is =
      let last : n - 1 < length cs = omega arith in
      let again : n ≡ n - 1 + 1 = omega arith in
      is ∙ xor_comm (times value a) (repr c)
      ∙ ap (λ (x : ℕ). bit_xor (repr c) (times x a)) (so_far ∙ ap (λ (m : ℕ). value_of unit times repr (drop m cs) a) again)
      ∙ sym (value_of-cons c (drop (n - 1 + 1) cs) fits)
      ∙ ap (λ (zs : List A). value_of unit times repr zs a)
      (ap (λ (b : A). b ∷ drop (n - 1 + 1) cs) read ∙ sym (drop_more cs (n - 1) c last))
