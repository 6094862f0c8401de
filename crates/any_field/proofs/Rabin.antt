-- The test of Rabin. An irreducible factor g of degree d divides x^(2^n) + x only where d divides n: n squarings are as many as n leaves
-- modulo d, and fewer than d do not return x.
use Rattle.std.proofs.Common.{◌≡◌, ◌⊎◌, inl, inr, ℕ, zero, suc, ◌+◌, ◌*◌, ◌/◌, ◌%◌, ◌^◌, ◌≤◌, ◌<◌, refl, sym, ◌∙◌, ap, ap₂, subst, arith}
use Rattle.std.specs.Prelude.{bit_xor}
use Rattle.std.proofs.lemmas.Nat.{xor_comm, div-add-mod'}
use Rattle.std.proofs.lemmas.Bool.{cases_eq}
use Rattle.std.proofs.Math.Pow.{pow-lt}
use native.Mathlib.Nat.{mod-eq_of_lt, mod-lt, eq-zero-or-pos, mul_assoc, mul-le-mul_left, zero-mul, mul-zero, one-mul, mul-mod_left}
use lib.Bits.{xor_assoc, xor_self, xor_zero_r}
use Rattle.field_base.specs.Carryless.{carryless}
use Rattle.field_base.specs.Field.{IsField}
use Rattle.field_base.specs.Powers.{repeated_square}
use Rattle.field_base.specs.Remainder.{HasDegree, rem, mul_mod}
use Rattle.field_base.proofs.CarrylessProduct.{one_carryless, carryless_comm, carryless_assoc, carryless_zero, zero_carryless, sum_carryless, carryless_sum}
use Rattle.field_base.proofs.PowerLemmas.{repeated_square-none}
use Rattle.field_base.proofs.FieldLemmas.{field_repeated_square-mod_bits}
use Rattle.field_base.proofs.RemainderLaws.{rem_small, rem_lt, rem_sum}
use Rattle.field_base.proofs.RingLemmas.{xor_cancel}
use Rattle.any_field.specs.Irreducible.{IsIrreducible, AreCoprime}
use Rattle.any_field.specs.Rabin.{IsPrime, PassesRabin, RabinIsExact, CoprimeBySteps, InversesGiveField}
use Rattle.any_field.proofs.Degrees.{degree-zero}
use Rattle.any_field.proofs.IrreducibleFields.{irreducible_gives_field, factor-irreducible, factors, irreducible-by}
use Rattle.any_field.proofs.Products.{field-of}
use Rattle.any_field.proofs.Tests.{rem-squarings, divisor-fails, some-moves, all-return, irreducible-coprime}

-- ---- the order of the squarings

-- modulo an irreducible polynomial of degree above 1, n squarings return x only where the degree divides n
returns-divides : (d g : ℕ) → 1 < d → HasDegree d g → IsIrreducible g → (n : ℕ) → repeated_square 1 (mul_mod d g) n 2 ≡ 2 → n % d ≡ 0
returns-divides d g two degree irreducible n same =
    let field = irreducible_gives_field d g (omega arith) degree irreducible in
    let left : repeated_square 1 (mul_mod d g) (n % d) 2 ≡ 2 = field_repeated_square-mod_bits d (mul_mod d g) field n 2 ∙ same in
    let positive : 0 < d = omega arith in
    elim (eq-zero-or-pos (n % d)) [
      | inl e ↦ e
      | inr some ↦
          absurd (some-moves d (mul_mod d g) positive field.ring field.inverses (n % d) some (mod-lt n positive)
          (λ x fits. all-return d g two degree (n % d) left x fits))
    ]

-- and they do where it divides n
pub divides-returns : (d g : ℕ) → (field : IsField d (mul_mod d g)) → (k x : ℕ) → x < 2 ^ d → repeated_square 1 (mul_mod d g) (k * d) x ≡ x
divides-returns d g field k x fits =
    sym (field_repeated_square-mod_bits d (mul_mod d g) field (k * d) x)
    ∙ ap (λ (n : ℕ). repeated_square 1 (mul_mod d g) n x) (mul-mod_left k d) ∙ none
  where
    none : repeated_square 1 (mul_mod d g) 0 x ≡ x
    none = repeated_square-none d 1 (mul_mod d g) field.ring x fits

-- ---- a polynomial that passes is irreducible

module _ (width modulus : ℕ) (wide : 0 < width) (degree : HasDegree width modulus) (passes : PassesRabin width modulus) where
  -- the remainder of x modulo a factor has the order that divides the width
  module _ (d g h : ℕ) (small : 0 < d) (less : d < width) (factor_degree : HasDegree d g) (is : carryless h g ≡ modulus)
      (irreducible : IsIrreducible g) where
    two : 1 < width
    two = omega arith

    field : IsField d (mul_mod d g)
    field = irreducible_gives_field d g small factor_degree irreducible

    -- squarings of x modulo the factor
    reduced : (n : ℕ) → rem d g (repeated_square 1 (mul_mod width modulus) n 2) ≡ repeated_square 1 (mul_mod d g) n (rem d g 2)
    reduced n = rem-squarings width modulus d g h wide degree small factor_degree is n 2 (pow-lt two)

    whole : repeated_square 1 (mul_mod d g) width (rem d g 2) ≡ rem d g 2
    whole = sym (reduced width) ∙ ap (rem d g) (passes.returns ∙ mod-eq_of_lt (pow-lt two))

    -- the degree of the factor divides the width
    divides : width % d ≡ 0
    divides =
        elim (cases_eq d 1) [
          | inl e ↦ ap (λ (z : ℕ). width % z) e ∙ omega arith
          | inr above ↦
              let large : 1 < d = omega (arith, above) in
              let x : rem d g 2 ≡ 2 = rem_small d g factor_degree 2 (pow-lt large) in
              returns-divides d g large factor_degree irreducible width (ap (repeated_square 1 (mul_mod d g) width) (sym x) ∙ whole ∙ x)
        ]

    -- the test at a multiple of the degree fails
    fails : (k : ℕ) → AreCoprime (bit_xor (repeated_square 1 (mul_mod width modulus) (k * d) 2) 2) modulus → ⊥
    fails k coprime =
        divisor-fails width modulus d g h wide degree small factor_degree is (bit_xor (repeated_square 1 (mul_mod width modulus) (k * d) 2) 2)
        (rem_sum d g factor_degree (repeated_square 1 (mul_mod width modulus) (k * d) 2) 2
        ∙ ap (λ (z : ℕ). bit_xor z (rem d g 2)) (reduced (k * d) ∙ divides-returns d g field k (rem d g 2) (rem_lt d g factor_degree 2))
        ∙ xor_self (rem d g 2))
        coprime

    -- so that no c above 1 has the product with a multiple of the degree that is the width
    no-part : (fuel c k : ℕ) → c ≤ fuel → 1 < c → c * (k * d) ≡ width → ⊥
    no-part zero c k few above product = absurd (omega arith)
    no-part (suc fuel) c k few above product =
        fails k (passes.coprime c (k * d) record { above = above; factors = λ a b ab. splits a b ab (no-part fuel) } product)
      where
        splits : (a b : ℕ) → a * b ≡ c → ((c k : ℕ) → c ≤ fuel → 1 < c → c * (k * d) ≡ width → ⊥) → (a ≡ 1) ⊎ (b ≡ 1)
        splits zero b ab none = absurd (omega (arith, ab, zero-mul b))
        splits (suc zero) b ab none = inl refl
        splits (suc (suc a)) zero ab none = absurd (omega (arith, ab, mul-zero (suc (suc a))))
        splits (suc (suc a)) (suc zero) ab none = inr refl
        splits (suc (suc a)) (suc (suc b)) ab none =
            absurd (none (suc (suc a)) (suc (suc b) * k) (smaller a b ab) (omega arith)
            (ap (λ (z : ℕ). suc (suc a) * z) (mul_assoc (suc (suc b)) k d) ∙ sym (mul_assoc (suc (suc a)) (suc (suc b)) (k * d))
            ∙ ap (λ (z : ℕ). z * (k * d)) ab ∙ product))
          where
            smaller : (a b : ℕ) → suc (suc a) * suc (suc b) ≡ c → suc (suc a) ≤ fuel
            smaller a b ab = omega (arith, few, mul-le-mul_left (suc (suc a)) (two-le b))
              where
                two-le : (b : ℕ) → 2 ≤ suc (suc b)
                two-le b = omega arith

    contradiction : ⊥
    contradiction =
        let quotient : width / d * d ≡ width = omega (arith, div-add-mod' width d, divides) in
        large (width / d) quotient
      where
        large : (c : ℕ) → c * d ≡ width → ⊥
        large zero e = absurd (omega (arith, e, zero-mul d))
        large (suc zero) e = absurd (omega (arith, e, one-mul d))
        large (suc (suc c)) e =
            no-part (suc (suc c)) (suc (suc c)) 1 (omega arith) (omega arith) (ap (λ (z : ℕ). suc (suc c) * z) (one-mul d) ∙ e)

  no-factor : (fuel d g h : ℕ) → d ≤ fuel → 0 < d → d < width → HasDegree d g → carryless h g ≡ modulus → ⊥
  no-factor zero d g h few small less factor_degree is = absurd (omega arith)
  no-factor (suc fuel) d g h few small less factor_degree is =
      contradiction d g h small less factor_degree is
      (factor-irreducible d g h modulus factor_degree is
      (λ e q r some lower. no-factor fuel e q r (omega (arith, few, lower)) some (omega (arith, lower, less))))

  passes-irreducible : IsIrreducible modulus
  passes-irreducible =
      irreducible-by width modulus degree
      (λ m n g h m_some n_some sum left right is.
      no-factor m m g h (omega arith) m_some (omega (arith, n_some, sum)) left (carryless_comm h g ∙ is))

-- ---- an irreducible polynomial passes

irreducible-passes : (width modulus : ℕ) → 0 < width → HasDegree width modulus → IsIrreducible modulus → PassesRabin width modulus
irreducible-passes width modulus wide degree irreducible = record {
  returns = (irreducible_gives_field width modulus wide degree irreducible).squarings_return 2;
  coprime = λ p part prime product. parts p part prime product (eq-zero-or-pos part);
}
  where
    less : (p part : ℕ) → 1 < p → p * part ≡ width → 0 < part → part < width
    less zero part above product some = absurd (omega arith)
    less (suc zero) part above product some = absurd (omega arith)
    less (suc (suc p)) part above product some = omega (arith, product)

    parts : (p part : ℕ) → IsPrime p → p * part ≡ width → (part ≡ 0) ⊎ (0 < part)
        → AreCoprime (bit_xor (repeated_square 1 (mul_mod width modulus) part 2) 2) modulus
    parts p part prime product (inl none) = absurd (omega (arith, product, ap (λ (z : ℕ). p * z) none, mul-zero p))
    parts p part prime product (inr some) =
        irreducible-coprime width modulus wide degree irreducible part some (less p part prime.above product some)

pub rabin_is_exact : RabinIsExact
rabin_is_exact width modulus wide degree = (passes-irreducible width modulus wide degree, irreducible-passes width modulus wide degree)

-- ---- common factors by steps

pub coprime_by_steps : CoprimeBySteps
coprime_by_steps = record {
  swap = λ a b coprime. record {
    left = coprime.right;
    right = coprime.left;
    sum = xor_comm (carryless coprime.right b) (carryless coprime.left a) ∙ coprime.sum;
  };
  add = λ a b q. (
    (λ coprime. record {
      left = coprime.left;
      right = bit_xor (carryless coprime.left q) coprime.right;
      sum = moved coprime.left q a b coprime.right ∙ coprime.sum;
    }),
    (λ coprime. record {
      left = coprime.left;
      right = bit_xor (carryless coprime.left q) coprime.right;
      sum =
          sym (moved coprime.left q a b (bit_xor (carryless coprime.left q) coprime.right))
          ∙ ap (λ (z : ℕ). bit_xor (carryless coprime.left a) (carryless z b)) (xor_cancel (carryless coprime.left q) coprime.right) ∙ coprime.sum;
    }),
  );
  none = λ a. (
    (λ coprime. unit coprime.left a (sym (ap (bit_xor (carryless coprime.left a)) (carryless_zero coprime.right) ∙ xor_zero_r (carryless coprime.left a)) ∙ coprime.sum)),
    (λ e. record { left = 1; right = 0; sum = ap₂ bit_xor (one_carryless a ∙ e) (zero_carryless 0) }),
  );
}
  where
    moved : (u q a b v : ℕ) → bit_xor (carryless u a) (carryless (bit_xor (carryless u q) v) b)
        ≡ bit_xor (carryless u (bit_xor a (carryless q b))) (carryless v b)
    moved u q a b v =
        ap (bit_xor (carryless u a)) (sum_carryless (carryless u q) v b ∙ ap (λ (z : ℕ). bit_xor z (carryless v b)) (carryless_assoc u q b))
        ∙ sym (xor_assoc (carryless u a) (carryless u (carryless q b)) (carryless v b))
        ∙ ap (λ (z : ℕ). bit_xor z (carryless v b)) (sym (carryless_sum u a (carryless q b)))

    unit : (u a : ℕ) → carryless u a ≡ 1 → a ≡ 1
    unit u a one =
        let parts = factors 0 1 u a refl one in
        degree-zero a (subst (λ (z : ℕ). HasDegree z a) (zero-sum parts.0 parts.1 parts.4) parts.3)
      where
        zero-sum : (m n : ℕ) → m + n ≡ 0 → n ≡ 0
        zero-sum m n e = omega arith

pub inverses_give_field : InversesGiveField
inverses_give_field width times wide ring inverses = field-of width times wide ring inverses
