-- The remainder modulo x^w and a tail of low degree by two folds, for every width and every tail of four terms.
use Rattle.std.proofs.Common.{◌≡◌, ℕ, ◌+◌, ◌*◌, ◌/◌, ◌%◌, ◌^◌, ◌≤◌, ◌<◌, refl, sym, ◌∙◌, ap, ap₂, subst, lit<, lit≤}
use Rattle.std.specs.Prelude.{bit_xor}
use Rattle.std.proofs.lemmas.Nat.{xor_comm, xor_lt, xor_mod, xor_shr, shr_split, shr_below, pow-add, pow_pos}
use native.Mathlib.Nat.{mod-lt, mod-eq_of_lt, div-eq_of_lt, add_comm, mul-div-mul_right, lt_of_lt_of_le, pow-le-pow_right}
use lib.Bits.{xor_assoc, xor_zero_r, xor_shifted}
use Rattle.field_base.specs.Carryless.{carryless}
use Rattle.field_base.specs.Remainder.{HasDegree, rem, poly64_modulus, ghash_modulus}
use Rattle.field_base.proofs.CarrylessProduct.{carryless_sum, carryless_one, carryless_shl, carryless_lt}
use Rattle.field_base.proofs.RemainderLaws.{rem_small, rem_multiple}
use Rattle.field_base.proofs.RingLemmas.{xor_cancel}
use Rattle.word_carryless.specs.Tail.{poly64_tail, ghash_tail}
use Rattle.field_base.proofs.ValueLemmas.{carryless_power}

-- ---- the product by a tail of four terms

-- the tail with the terms a, b, d and 0
abbrev tail : ℕ → ℕ → ℕ → ℕ
tail a b d = bit_xor (bit_xor (bit_xor (2 ^ a) (2 ^ b)) (2 ^ d)) 1

-- h (x^a + x^b + x^d + 1) as a sum of shifts of h
carryless_tail : (h a b d : ℕ) → carryless h (tail a b d) ≡ bit_xor (bit_xor (bit_xor (h * 2 ^ a) (h * 2 ^ b)) (h * 2 ^ d)) h
carryless_tail h a b d =
    carryless_sum h (bit_xor (bit_xor (2 ^ a) (2 ^ b)) (2 ^ d)) 1
    ∙ ap₂ bit_xor
    (carryless_sum h (bit_xor (2 ^ a) (2 ^ b)) (2 ^ d)
    ∙ ap₂ bit_xor (carryless_sum h (2 ^ a) (2 ^ b) ∙ ap₂ bit_xor (carryless_power h a) (carryless_power h b)) (carryless_power h d))
    (carryless_one h)

-- what of the product is below x^w
tail_low : (w a b d h : ℕ) → h < 2 ^ w
    → bit_xor (bit_xor (bit_xor (h * 2 ^ a % 2 ^ w) (h * 2 ^ b % 2 ^ w)) (h * 2 ^ d % 2 ^ w)) h
    ≡ carryless h (tail a b d) % 2 ^ w
tail_low w a b d h fits =
    sym (ap (λ (z : ℕ). z % 2 ^ w) (carryless_tail h a b d)
    ∙ xor_mod (bit_xor (bit_xor (h * 2 ^ a) (h * 2 ^ b)) (h * 2 ^ d)) h w
    ∙ ap₂ bit_xor
    (xor_mod (bit_xor (h * 2 ^ a) (h * 2 ^ b)) (h * 2 ^ d) w
    ∙ ap (λ (z : ℕ). bit_xor z (h * 2 ^ d % 2 ^ w)) (xor_mod (h * 2 ^ a) (h * 2 ^ b) w))
    (mod-eq_of_lt fits))

-- a shift by a, past w places
shl_high : (w a above h : ℕ) → above + a ≡ w → h * 2 ^ a / 2 ^ w ≡ h / 2 ^ above
shl_high w a above h e =
    ap (λ (z : ℕ). h * 2 ^ a / z) (ap (λ (z : ℕ). 2 ^ z) (sym e) ∙ pow-add 2 above a)
    ∙ mul-div-mul_right h (2 ^ above) (pow_pos a)

-- what of the product is past x^w
tail_high : (w a b d a' b' d' h : ℕ) → h < 2 ^ w → a' + a ≡ w → b' + b ≡ w → d' + d ≡ w
    → bit_xor (bit_xor (h / 2 ^ a') (h / 2 ^ b')) (h / 2 ^ d') ≡ carryless h (tail a b d) / 2 ^ w
tail_high w a b d a' b' d' h fits e_a e_b e_d =
    sym (ap (λ (z : ℕ). z / 2 ^ w) (carryless_tail h a b d)
    ∙ xor_shr (bit_xor (bit_xor (h * 2 ^ a) (h * 2 ^ b)) (h * 2 ^ d)) h w
    ∙ ap₂ bit_xor
    (xor_shr (bit_xor (h * 2 ^ a) (h * 2 ^ b)) (h * 2 ^ d) w
    ∙ ap₂ bit_xor
    (xor_shr (h * 2 ^ a) (h * 2 ^ b) w ∙ ap₂ bit_xor (shl_high w a a' h e_a) (shl_high w b b' h e_b))
    (shl_high w d d' h e_d))
    (div-eq_of_lt fits)
    ∙ xor_zero_r (bit_xor (bit_xor (h / 2 ^ a') (h / 2 ^ b')) (h / 2 ^ d')))

-- ---- the folds

module _ (w t : ℕ) (degree : HasDegree w (bit_xor (1 * 2 ^ w) t)) where
  -- x^w counts as the tail
  fold_once : (h p : ℕ) → rem w (bit_xor (1 * 2 ^ w) t) (bit_xor (h * 2 ^ w) p) ≡ rem w (bit_xor (1 * 2 ^ w) t) (bit_xor (carryless h t) p)
  fold_once h p =
      ap (λ (z : ℕ). rem w (bit_xor (1 * 2 ^ w) t) (bit_xor z p)) (sym (xor_cancel (carryless h t) (h * 2 ^ w)))
      ∙ ap (rem w (bit_xor (1 * 2 ^ w) t))
      (turned (carryless h t) (h * 2 ^ w) p ∙ ap (λ (z : ℕ). bit_xor z (bit_xor (carryless h t) p)) (sym whole))
      ∙ rem_multiple w (bit_xor (1 * 2 ^ w) t) degree h (bit_xor (carryless h t) p)
    where
      whole : carryless h (bit_xor (1 * 2 ^ w) t) ≡ bit_xor (h * 2 ^ w) (carryless h t)
      whole =
          carryless_sum h (1 * 2 ^ w) t
          ∙ ap (λ (z : ℕ). bit_xor z (carryless h t)) (carryless_shl w h 1 ∙ ap (λ (z : ℕ). z * 2 ^ w) (carryless_one h))

      turned : (a b c : ℕ) → bit_xor (bit_xor a (bit_xor a b)) c ≡ bit_xor (bit_xor b a) (bit_xor a c)
      turned a b c =
          ap (λ (z : ℕ). bit_xor z c) (xor_cancel a b)
          ∙ sym (xor_assoc b a (bit_xor a c) ∙ ap (bit_xor b) (xor_cancel a c))

  -- a tail of degree below half the width leaves nothing after the second fold
  pub fold_twice : (n low high : ℕ) → t < 2 ^ n → n + n ≤ w → low < 2 ^ w → high < 2 ^ w
      → rem w (bit_xor (1 * 2 ^ w) t) (high * 2 ^ w + low)
      ≡ bit_xor (bit_xor low (carryless high t % 2 ^ w)) (carryless (carryless high t / 2 ^ w) t % 2 ^ w)
  fold_twice n low high small half low_fits high_fits =
      ap (rem w (bit_xor (1 * 2 ^ w) t)) (sym (xor_shifted high w low low_fits)) ∙ fold_once high low
      ∙ ap (λ (z : ℕ). rem w (bit_xor (1 * 2 ^ w) t) (bit_xor z low)) (sym (split (carryless high t)))
      ∙ ap (rem w (bit_xor (1 * 2 ^ w) t)) (xor_assoc (carryless high t / 2 ^ w * 2 ^ w) (carryless high t % 2 ^ w) low)
      ∙ fold_once (carryless high t / 2 ^ w) (bit_xor (carryless high t % 2 ^ w) low)
      ∙ rem_small w (bit_xor (1 * 2 ^ w) t) degree _
      (xor_lt w (carryless (carryless high t / 2 ^ w) t) _ spill_fits
      (xor_lt w (carryless high t % 2 ^ w) low (mod-lt (carryless high t) (pow_pos w)) low_fits))
      ∙ xor_comm (carryless (carryless high t / 2 ^ w) t) (bit_xor (carryless high t % 2 ^ w) low)
      ∙ ap₂ bit_xor (xor_comm (carryless high t % 2 ^ w) low) (sym (mod-eq_of_lt spill_fits))
    where
      split : (c : ℕ) → bit_xor (c / 2 ^ w * 2 ^ w) (c % 2 ^ w) ≡ c
      split c = xor_shifted (c / 2 ^ w) w (c % 2 ^ w) (mod-lt c (pow_pos w)) ∙ shr_split c w

      spill_fits : carryless (carryless high t / 2 ^ w) t < 2 ^ w
      spill_fits =
          lt_of_lt_of_le
          (carryless_lt n n (carryless high t / 2 ^ w) t
          (shr_below (carryless high t) n w
          (subst (λ (z : ℕ). carryless high t < 2 ^ z) (add_comm w n) (carryless_lt w n high t high_fits small)))
          small)
          (pow-le-pow_right (lit< tt) half)

-- ---- the two moduli

-- of a modulus x^w and the tail with the terms a, b, d and 0: the product by the tail, below x^w and past it, and the remainder by it
pub record IsFold (w modulus t a b d a' b' d' : ℕ) : Type 0 where
  -- what the code computes as the product by the tail, below x^w
  pub low : (h : ℕ) → h < 2 ^ w
      → bit_xor (bit_xor (bit_xor (h * 2 ^ a % 2 ^ w) (h * 2 ^ b % 2 ^ w)) (h * 2 ^ d % 2 ^ w)) h ≡ carryless h t % 2 ^ w
  -- what the code computes as the product by the tail, past x^w
  pub high : (h : ℕ) → h < 2 ^ w → bit_xor (bit_xor (h / 2 ^ a') (h / 2 ^ b')) (h / 2 ^ d') ≡ carryless h t / 2 ^ w
  -- the remainder of two words by two folds
  pub remainder : (low high : ℕ) → low < 2 ^ w → high < 2 ^ w
      → rem w modulus (high * 2 ^ w + low) ≡ bit_xor (bit_xor low (carryless high t % 2 ^ w)) (carryless (carryless high t / 2 ^ w) t % 2 ^ w)

-- the shifts of the code compute these for every tail of four terms of a degree n with 2 n at most w
fold : (w a b d a' b' d' n : ℕ) → a' + a ≡ w → b' + b ≡ w → d' + d ≡ w → tail a b d < 2 ^ n → n + n ≤ w
    → HasDegree w (bit_xor (1 * 2 ^ w) (tail a b d)) → IsFold w (bit_xor (1 * 2 ^ w) (tail a b d)) (tail a b d) a b d a' b' d'
fold w a b d a' b' d' n e_a e_b e_d small half degree = record {
  low = tail_low w a b d;
  high = λ h fits. tail_high w a b d a' b' d' h fits e_a e_b e_d;
  remainder = λ low high. fold_twice w (tail a b d) degree n low high small half;
}

-- the folds of x^64 + x^4 + x^3 + x + 1
pub fold_64 : IsFold 64 poly64_modulus poly64_tail 4 3 1 60 61 63
fold_64 = fold 64 4 3 1 60 61 63 5 refl refl refl (lit< tt) (lit≤ tt) refl

-- the folds of x^128 + x^7 + x^2 + x + 1
pub fold_128 : IsFold 128 ghash_modulus ghash_tail 7 2 1 121 126 127
fold_128 = fold 128 7 2 1 121 126 127 8 refl refl refl (lit< tt) (lit≤ tt) refl

-- ---- the modulus of GHASH, word by word

-- what of the product of a word by the tail is below x^64
pub word_low : (h : ℕ) → h < 2 ^ 64
    → bit_xor (bit_xor (bit_xor (h * 2 ^ 7 % 2 ^ 64) (h * 2 ^ 2 % 2 ^ 64)) (h * 2 ^ 1 % 2 ^ 64)) h ≡ carryless h ghash_tail % 2 ^ 64
word_low = tail_low 64 7 2 1

-- and what is past it
pub word_high : (h : ℕ) → h < 2 ^ 64
    → bit_xor (bit_xor (h / 2 ^ 57) (h / 2 ^ 62)) (h / 2 ^ 63) ≡ carryless h ghash_tail / 2 ^ 64
word_high h fits = tail_high 64 7 2 1 57 62 63 h fits refl refl refl
