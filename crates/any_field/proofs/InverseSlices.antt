-- The inverses of many words, which are read by their low bits: what is written are elements.
use Rattle.std.proofs.Common.{◌≡◌, ℕ, ◌+◌, ◌%◌, ◌^◌, ◌<◌, ◌≤◌, inl, inr, List, length, map, set, sym, ◌∙◌, ap, subst, arith}
use Rattle.std.specs.Prelude.{slice_index}
use Rattle.std.proofs.lemmas.Bool.Decides.{eqb_tells}
use Rattle.std.proofs.lemmas.List.{ext_get_or, get_or-map, get_or-set_same, get_or-set_other, length-map, length-set}
use Rattle.std.proofs.lemmas.Nat.{pow_pos}
use native.Mathlib.Nat.{mod-eq_of_lt, mod-lt}
use Rattle.field_base.specs.Field.{AreInverses}
use Rattle.field_base.proofs.RingLemmas.{mod-times, times-mod}
use Rattle.any_field.specs.Contexts.{IsContext, field_product}
use Rattle.any_field.proofs.WordRemainders.{context-ring}

pub low-lt : (w x : ℕ) → x % 2 ^ w < 2 ^ w
low-lt w x = mod-lt x (pow_pos w)

-- the low bits of a product are the product of those of its factors
pub low-both : (w t r : ℕ) → IsContext w t r → (x y p : ℕ) → p ≡ field_product w t x y → p % 2 ^ w ≡ field_product w t (x % 2 ^ w) (y % 2 ^ w)
low-both w t r context x y p is =
    let ring = context-ring w t r context in
    let times = field_product w t in
    mod-eq_of_lt (subst (λ (z : ℕ). z < 2 ^ w) (sym is) (ring.below x y)) ∙ is ∙ sym (times-mod w 1 times ring x y)
    ∙ sym (mod-times w 1 times ring x (y % 2 ^ w))

pub low-times : (w t r : ℕ) → IsContext w t r → (x y low p : ℕ) → low ≡ y % 2 ^ w → p ≡ field_product w t x low
    → p % 2 ^ w ≡ field_product w t (x % 2 ^ w) (y % 2 ^ w)
low-times w t r context x y low p low_is is =
    low-both w t r context x y p (is ∙ ap (field_product w t x) low_is ∙ times-mod w 1 (field_product w t) (context-ring w t r context) x y)

-- from a place on there are elements
abbrev pub AreBelow : ℕ → List ℕ → ℕ → Type 0
AreBelow w ys n = (i : ℕ) → n ≤ i → i < length ys → slice_index ys i < 2 ^ w

pub below-start : (w : ℕ) (ys : List ℕ) (n : ℕ) → length ys ≡ n → AreBelow w ys n
below-start w ys n long i reached within = absurd (omega (arith, long, reached, within))

-- one place more
pub below-step : (w : ℕ) (ys : List ℕ) (m n written : ℕ) → m ≡ n + 1 → n < length ys → written < 2 ^ w → AreBelow w ys m → AreBelow w (set ys n written) n
below-step w ys m n written next inside fits so_far i reached within =
    elim (eqb_tells i n) [
      | inl same ↦ subst (λ (k : ℕ). slice_index (set ys n written) k < 2 ^ w) (sym same.1)
          (subst (λ (z : ℕ). z < 2 ^ w) (sym (get_or-set_same ys n written 0 inside)) fits)
      | inr other ↦ subst (λ (z : ℕ). z < 2 ^ w) (sym (get_or-set_other ys n i written 0 other.1))
          (so_far i (above reached other.1) (subst (λ (k : ℕ). i < k) (length-set ys n written) within))
    ]
  where
    above : n ≤ i → (i ≡ n → ⊥) → m ≤ i
    above reached other = omega (arith, reached, other, next)

-- then the low bits are the words
pub below-end : (w : ℕ) (times : ℕ → ℕ → ℕ) (xs ys : List ℕ) (n : ℕ) → n ≤ 0 → AreBelow w ys n
    → AreInverses times (map (λ (x : ℕ). x % 2 ^ w) xs) (map (λ (x : ℕ). x % 2 ^ w) ys)
    → AreInverses times (map (λ (x : ℕ). x % 2 ^ w) xs) ys
below-end w times xs ys n none below inverses =
    subst (AreInverses times (map (λ (x : ℕ). x % 2 ^ w) xs))
    (ext_get_or 0 (map (λ (x : ℕ). x % 2 ^ w) ys) ys (length-map ys (λ (x : ℕ). x % 2 ^ w)) (λ i within.
    let inside : i < length ys = subst (λ (k : ℕ). i < k) (length-map ys (λ (x : ℕ). x % 2 ^ w)) within in
    get_or-map (λ (x : ℕ). x % 2 ^ w) ys i 0 0 inside ∙ mod-eq_of_lt (below i (omega (arith, none)) inside)))
    inverses
