-- Inverses of polynomials by the level of the tower that is their field.
use Rattle.std.proofs.Common.{◌≡◌, ◌⊎◌, inl, inr, ℕ, ◌<◌, ◌^◌, List, length, get_or, sym, ◌∙◌, ap, subst, arith}
use Rattle.std.proofs.lemmas.Bool.{cases_eq}
use Rattle.field_base.specs.Basis.{basis_image, IsChangeOfBasis}
use Rattle.field_base.specs.Field.{IsField, IsInverseOrZero}
use Rattle.field_base.specs.Remainder.{mul_mod}
use Rattle.field_base.specs.Tower.{tower_mul}
use Rattle.field_base.proofs.RingLemmas.{zero-times}
use Rattle.many_words.specs.Words.{HoldInverses}
use Rattle.many_words.specs.Fields.{field_of}

module _ (level width modulus : ℕ) (images : List ℕ) (is : IsChangeOfBasis level width modulus images)
    (field : IsField width (mul_mod width modulus)) where
  -- the polynomial that is the image of an element
  abbrev image : ℕ → ℕ
  image = basis_image width modulus images

  -- the image of an element's inverse is the inverse of its image
  inverse_of_image : (x y : ℕ) → IsInverseOrZero (tower_mul level) x y → IsInverseOrZero (mul_mod width modulus) (image x) (image y)
  inverse_of_image x y inverse = (
    (λ none. of_zero none (cases_eq x 0)),
    (λ some. one (λ none. some (ap image none ∙ is.homomorphism.zero_image))),
  )
    where
      one : (x ≡ 0 → ⊥) → mul_mod width modulus (image x) (image y) ≡ 1
      one some = sym (is.homomorphism.product_image x y) ∙ ap image (inverse.1 some) ∙ is.homomorphism.one_image

      apart : (n : ℕ) → n ≡ 1 → n ≡ 0 → ⊥
      apart n first second = omega arith

      of_zero : image x ≡ 0 → (x ≡ 0) ⊎ (x ≡ 0 → ⊥) → image y ≡ 0
      of_zero none (inl zero_is) = ap image (inverse.0 zero_is) ∙ is.homomorphism.zero_image
      of_zero none (inr some) =
          absurd (apart (mul_mod width modulus (image x) (image y)) (one some)
          (ap (λ (n : ℕ). mul_mod width modulus n (image y)) none ∙ zero-times width 1 (mul_mod width modulus) field.ring (image y)))

  -- so words are inverted by elements whose images they are
  module _ {W : Type 0} (number : W → ℕ) (k : ℕ) (same : k ≡ level) where
    pub inverses_of_images : (old elements inverses new : List W) → length inverses ≡ length elements → length new ≡ length inverses
        → ((p : ℕ) → p < length elements → (d : W) → image (number (get_or elements p d)) ≡ number (get_or old p d))
        → ((p : ℕ) → p < length inverses → (d : W)
        → IsInverseOrZero (tower_mul k) (number (get_or elements p d)) (number (get_or inverses p d)))
        → ((p : ℕ) → p < length new → (d : W) → number (get_or new p d) ≡ image (number (get_or inverses p d)))
        → (generator : ℕ) → HoldInverses (field_of number width (mul_mod width modulus) generator) old new
    inverses_of_images old elements inverses new long also are inverted back generator p less d =
        let x = number (get_or elements p d) in
        let y = number (get_or inverses p d) in
        let back_is = back p less d in (
          subst (λ (n : ℕ). n < 2 ^ width) (sym back_is) (is.homomorphism.below y),
          subst (λ (n : ℕ). IsInverseOrZero (mul_mod width modulus) (number (get_or old p d)) n) (sym back_is)
              (subst (λ (n : ℕ). IsInverseOrZero (mul_mod width modulus) n (image y)) (are p (omega (arith, less, long, also)) d)
              (inverse_of_image x y
              (subst (λ (n : ℕ). IsInverseOrZero (tower_mul n) x y) same (inverted p (omega (arith, less, also)) d)))),
        )
