-- The moduli of the fields of bytes that codes use are irreducible: no polynomial of degree 1 to 7 divides one of them (computed).
use Rattle.std.proofs.Common.{◌≡◌, ◌≢◌, ℕ, zero, suc, ◌+◌, ◌*◌, ◌%◌, ◌^◌, ◌≤◌, ◌<◌, Bool, true, ◌&&◌, not, eqb, inl, inr, refl, sym, ◌∙◌, ap, subst, arith}
use Rattle.std.proofs.lemmas.Bool.{and_parts, false≢true}
use Rattle.std.proofs.lemmas.Bool.Decides.{eqb_tells}
use Rattle.std.proofs.lemmas.Nat.{pow_pos, div-add-mod'}
use native.Mathlib.Nat.{eq-or-lt_of_le, mod-lt, one-mul}
use Rattle.field_base.specs.Remainder.{rem, rem_in}
use Rattle.field_base.proofs.CarrylessProduct.{carryless_comm}
use Rattle.any_field.specs.Contexts.{BytesOfCodesAreFields, with_top}
use Rattle.any_field.specs.Irreducible.{IsIrreducible}
use Rattle.any_field.proofs.IrreducibleFields.{irreducible-by, rem-multiple}
use Rattle.any_field.proofs.WordRemainders.{top-degree}

-- whether no x^m + t divides f, for t below n
none_below : ℕ → ℕ → ℕ → Bool
none_below f m zero = true
none_below f m (suc n) = not (eqb (rem m (with_top m n) f) 0) && none_below f m n

-- and no polynomial of degree 1 to n
none_up_to : ℕ → ℕ → Bool
none_up_to f zero = true
none_up_to f (suc n) = none_below f (suc n) (2 ^ suc n) && none_up_to f n

last : (m n : ℕ) → m < suc n → m ≤ n
last m n less = omega (arith, less)

leaves : (f m n t : ℕ) → none_below f m n ≡ true → t < n → rem m (with_top m t) f ≢ 0
unfolding none_below
leaves f m zero t pass less = absurd (omega (arith, less))
leaves f m (suc n) t pass less =
    let parts = and_parts (not (eqb (rem m (with_top m n) f) 0)) (none_below f m n) pass in
    elim (eq-or-lt_of_le (last t n less)) [
      | inl same ↦ subst (λ (z : ℕ). rem m (with_top m z) f ≢ 0) (sym same) (told (rem m (with_top m n) f) parts.0)
      | inr below ↦ leaves f m n t parts.1 below
    ]
  where
    told : (r : ℕ) → not (eqb r 0) ≡ true → r ≢ 0
    told r pass e = elim (eqb_tells r 0) [ inl same ↦ false≢true (sym (ap not same.0) ∙ pass) | inr other ↦ other.1 e ]

leaves-all : (f n m t : ℕ) → none_up_to f n ≡ true → 0 < m → m ≤ n → t < 2 ^ m → rem m (with_top m t) f ≢ 0
unfolding none_up_to
leaves-all f zero m t pass some most less = absurd (omega (arith, some, most))
leaves-all f (suc n) m t pass some most less =
    let parts = and_parts (none_below f (suc n) (2 ^ suc n)) (none_up_to f n) pass in
    elim (eq-or-lt_of_le most) [
      | inl same ↦ leaves f m (2 ^ m) t (subst (λ (z : ℕ). none_below f z (2 ^ z) ≡ true) (sym same) parts.0) less
      | inr below ↦ leaves-all f n m t parts.1 some (last m n below) less
    ]

-- a polynomial of degree 8 that none divides is irreducible
byte-irreducible : (tail : ℕ) → tail < 2 ^ 8 → none_up_to (with_top 8 tail) 7 ≡ true → IsIrreducible (with_top 8 tail)
byte-irreducible tail fits pass =
    irreducible-by 8 (with_top 8 tail) (top-degree 8 tail fits)
    (λ m n g h m_some n_some total left right product.
    let parts : with_top m (g % 2 ^ m) ≡ g =
    ap (λ (z : ℕ). z + g % 2 ^ m) (sym (ap (λ (z : ℕ). z * 2 ^ m) left ∙ one-mul (2 ^ m))) ∙ div-add-mod' g (2 ^ m) in
    leaves-all (with_top 8 tail) 7 m (g % 2 ^ m) pass m_some (omega (arith, n_some, total)) (mod-lt g (pow_pos m))
    (ap (λ (z : ℕ). rem m z (with_top 8 tail)) parts ∙ ap (rem m g) (sym product ∙ carryless_comm g h) ∙ rem-multiple m g left h))

passes_11d : none_up_to (with_top 8 0x1d) 7 ≡ true
unfolding none_up_to none_below rem rem_in
passes_11d = refl

passes_187 : none_up_to (with_top 8 0x87) 7 ≡ true
unfolding none_up_to none_below rem rem_in
passes_187 = refl

pub bytes_of_codes_are_fields : BytesOfCodesAreFields
bytes_of_codes_are_fields = (
  ((omega arith, omega arith, omega arith, byte-irreducible 0x1d (omega arith) passes_11d), (λ a b. refl)),
  ((omega arith, omega arith, omega arith, byte-irreducible 0x87 (omega arith) passes_187), (λ a b. refl)),
)
