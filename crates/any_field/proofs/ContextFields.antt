-- The type of fields whose modulus is chosen at run time.
use Rattle.std.proofs.Common.{◌≡◌, ◌≢◌, inl, inr, ℕ, ◌-◌, ◌^◌, ◌<◌, sym, ◌∙◌, ap, ap₂, subst}
use Rattle.std.proofs.lemmas.Bool.{cases_eq}
use Rattle.std.proofs.lemmas.Bool.Decides.{Decides-eqb}
use Rattle.std.proofs.lemmas.Nat.{pow_pos}
use Rattle.std.specs.Prelude.{◌↔◌, ◌%◌, IsTrue, nat_eq}
use native.Mathlib.Nat.{mod-eq_of_lt, mod-lt}
use Rattle.field_base.specs.Field.{IsField, IsInverseOrZero}
use Rattle.field_base.specs.Remainder.{mul_mod}
use Rattle.field_base.specs.Powers.{repeated_square}
use Rattle.field_base.proofs.FieldLemmas.{squarings-square}
use Rattle.field_base.proofs.PowerLemmas.{repeated_square-lt}
use Rattle.field_base.proofs.RingLemmas.{mod-times, times-mod}
use Rattle.any_field.specs.Irreducible.{IsIrreducible}
use Rattle.any_field.proofs.IrreducibleFields.{irreducible_gives_field}
use Rattle.any_field.specs.Contexts.{IsContext, IsFieldModulus, HasNoFactors, field_product, with_top}
use Rattle.any_field.proofs.WordRemainders.{top-degree, context-ring}

pub irreducible-of : (f : ℕ) → HasNoFactors f → IsIrreducible f
irreducible-of f none g h is =
    elim (cases_eq g 1) [
      | inl e ↦ inl e
      | inr g_other ↦ elim (cases_eq h 1) [ inl e ↦ inr e | inr h_other ↦ absurd (none g h is g_other h_other) ]
    ]

pub field-at : (w t r : ℕ) → IsContext w t r → HasNoFactors (with_top w t) → IsField w (mul_mod w (with_top w t))
field-at w t r context none =
    irreducible_gives_field w (with_top w t) context.wide (top-degree w t context.tail_below) (irreducible-of (with_top w t) none)

-- a product is an element
pub product-lt : (w t r x y p : ℕ) → IsContext w t r → p ≡ mul_mod w (with_top w t) x y → p < 2 ^ w
product-lt w t r x y p context is = subst (λ (z : ℕ). z < 2 ^ w) (sym is) ((context-ring w t r context).below x y)

-- a product reads the low bits of its operands
pub low-product : (w t r x y u v : ℕ) → IsContext w t r → u ≡ x % 2 ^ w → v ≡ y % 2 ^ w → field_product w t u v ≡ field_product w t x y
low-product w t r x y u v context u_is v_is =
    let ring = context-ring w t r context in
    ap₂ (field_product w t) u_is v_is ∙ mod-times w 1 (field_product w t) ring x (y % 2 ^ w) ∙ times-mod w 1 (field_product w t) ring x y

-- a word is an element where its low bits are the word
pub element-exactly : (w x low : ℕ) → low ≡ x % 2 ^ w → IsTrue (nat_eq x low) ↔ x < 2 ^ w
element-exactly w x low low_is = (
  (λ yes. subst (λ (z : ℕ). z < 2 ^ w) (sym ((Decides-eqb x low).0 yes ∙ low_is)) (mod-lt x (pow_pos w))),
  (λ fits. (Decides-eqb x low).1 (sym (low_is ∙ mod-eq_of_lt fits))),
)

pub modulus-at : (w t r : ℕ) → IsContext w t r → HasNoFactors (with_top w t) → IsFieldModulus w t
modulus-at w t r context none = (context.wide, context.narrow, context.tail_below, irreducible-of (with_top w t) none)

-- x times the inverse of y is a quotient
pub quotient-found : (w t r x y low_x low_y inverse q : ℕ) → IsContext w t r → low_x ≡ x % 2 ^ w → low_y ≡ y % 2 ^ w → low_y ≢ 0
    → IsInverseOrZero (field_product w t) low_y inverse → q ≡ field_product w t low_x inverse
    → (q < 2 ^ w) × (field_product w t q y ≡ x % 2 ^ w) × (y % 2 ^ w ≢ 0)
quotient-found w t r x y low_x low_y inverse q context x_is y_is some inverts q_is =
    let times = field_product w t in
    let ring = context-ring w t r context in
    let one : times inverse y ≡ 1 =
    ring.comm inverse y ∙ sym (mod-times w 1 times ring y inverse) ∙ ap (λ (z : ℕ). times z inverse) (sym y_is) ∙ inverts.1 some in (
      product-lt w t r low_x inverse q context q_is,
      ap (λ (z : ℕ). times z y) q_is ∙ ring.assoc low_x inverse y ∙ ap (times low_x) one ∙ ring.comm low_x 1 ∙ ring.one low_x
          ∙ ap (λ (z : ℕ). z % 2 ^ w) x_is ∙ mod-eq_of_lt (mod-lt x (pow_pos w)),
      (λ e. some (y_is ∙ e)),
    )

-- one squaring fewer than the degree gives the root
pub root-found : (w t r x low found : ℕ) → IsContext w t r → HasNoFactors (with_top w t) → low ≡ x % 2 ^ w
    → found ≡ repeated_square 1 (field_product w t) (w - 1) low
    → record { root : field_product w t found found ≡ x % 2 ^ w; fits : found < 2 ^ w }
root-found w t r x low found context none low_is found_is =
    let field = field-at w t r context none in
    let low_fits : low < 2 ^ w = subst (λ (z : ℕ). z < 2 ^ w) (sym low_is) (mod-lt x (pow_pos w)) in
    record {
      root =
          ap₂ (field_product w t) found_is found_is ∙ squarings-square w (field_product w t) field context.wide low low_fits ∙ low_is;
      fits =
          subst (λ (z : ℕ). z < 2 ^ w) (sym found_is) (repeated_square-lt w 1 (field_product w t) field.ring (w - 1) low);
    }
