-- The terms of a polynomial's value, from one place to the next, and the powers of x modulo a polynomial.
use Rattle.std.proofs.Common.{◌≡◌, ℕ, zero, suc, ◌+◌, ◌*◌, ◌^◌, ◌<◌, ◌≤◌, List, ◌∷◌, length, drop, get_or, refl, sym, ◌∙◌, ap, arith}
use Rattle.std.specs.Prelude.{bit_xor}
use Rattle.std.proofs.Math.Seq.{drop-cons}
use Rattle.std.proofs.lemmas.List.{drop_all}
use Rattle.std.proofs.lemmas.Nat.{pow_below}
use native.Mathlib.Nat.{pow-suc, one-mul}
use native.Mathlib.Numerals.{add-one}
use lib.Bits.{xor_zero_r}
use Rattle.field_base.specs.Carryless.{carryless}
use Rattle.field_base.specs.Powers.{power, terms_from}
use Rattle.field_base.specs.Remainder.{HasDegree, rem, mul_mod}
use Rattle.field_base.proofs.CarrylessProduct.{carryless_shl, carryless_one}
use Rattle.field_base.proofs.RemainderLaws.{rem_small}
use Rattle.field_base.proofs.RemainderRing.{mul_mod-rem}

module _ {A : Type 0} (unit : ℕ) (times : ℕ → ℕ → ℕ) (repr : A → ℕ) (a : ℕ) where
  -- the term of a place, and those behind it
  pub terms_from-drop : (cs : List A) (k : ℕ) (c : A) → k < length cs → c ≡ get_or cs k c
      → terms_from unit times repr a k (drop k cs)
      ≡ bit_xor (times (repr c) (power unit times a k)) (terms_from unit times repr a (k + 1) (drop (k + 1) cs))
  unfolding terms_from
  terms_from-drop cs k c within c_is =
      ap (terms_from unit times repr a k)
      (drop-cons cs k c within ∙ ap (λ (z : A). z ∷ drop (suc k) cs) (sym c_is))
      ∙ ap (λ (n : ℕ). bit_xor (times (repr c) (power unit times a k)) (terms_from unit times repr a n (drop n cs)))
      (sym (add-one k))

  -- behind the last place nothing is left
  pub terms_end : (cs : List A) (k whole sum : ℕ) → length cs ≤ k
      → bit_xor sum (terms_from unit times repr a k (drop k cs)) ≡ whole → sum ≡ whole
  unfolding terms_from
  terms_end cs k whole sum past so_far =
      sym (xor_zero_r sum)
      ∙ ap (λ (zs : List A). bit_xor sum (terms_from unit times repr a k zs)) (sym (drop_all k cs past)) ∙ so_far

-- the product by a power of x shifts
pub carryless_power : (x k : ℕ) → carryless x (2 ^ k) ≡ x * 2 ^ k
carryless_power x k =
    ap (carryless x) (sym (one-mul (2 ^ k))) ∙ carryless_shl k x 1 ∙ ap (λ (z : ℕ). z * 2 ^ k) (carryless_one x)

-- below the degree the powers of x are those of the whole numbers
pub power_of_x : (width modulus : ℕ) → HasDegree width modulus → (k : ℕ) → k < width
    → power 1 (mul_mod width modulus) 2 k ≡ 2 ^ k
unfolding power
power_of_x width modulus degree zero within = refl
power_of_x width modulus degree (suc k) within =
    let below : k < width = omega arith in
    let wide : 1 < width = omega arith in
    ap (λ (x : ℕ). mul_mod width modulus x 2) (power_of_x width modulus degree k below)
    ∙ mul_mod-rem width modulus degree (2 ^ k) 2 (pow_below k width below) (pow_below 1 width wide)
    ∙ ap (rem width modulus) (carryless_power (2 ^ k) 1 ∙ sym (pow-suc 2 k))
    ∙ rem_small width modulus degree (2 ^ suc k) (pow_below (suc k) width within)
