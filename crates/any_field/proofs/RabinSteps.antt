-- The test of Rabin by words.
use Rattle.std.proofs.Common.{◌≡◌, ◌↔◌, inl, inr, ℕ, zero, suc, ◌+◌, ◌-◌, ◌*◌, ◌%◌, ◌^◌, ◌≤◌, ◌<◌, sym, ◌∙◌, ap, ap₂, subst, arith}
use Rattle.std.specs.Prelude.{bit_xor}
use Rattle.std.specs.Int.Count.{count_leading_zeros}
use Rattle.std.proofs.lemmas.Nat.{xor_comm, xor_lt, mul-mod_first}
use Rattle.std.proofs.Math.Pow.{pow_mono, pow-lt, mod-mod-pow}
use native.Mathlib.Nat.{mul_assoc, pow-suc, one-mul, mul-zero, lt_of_lt_of_le, mul-mod_left, eq-or-lt_of_le}
use lib.Bits.{xor_self, xor_zero_r}
use Rattle.field_base.specs.Carryless.{carryless}
use Rattle.field_base.specs.Powers.{repeated_square}
use Rattle.field_base.specs.Remainder.{HasDegree, mul_mod}
use Rattle.field_base.specs.Ring.{IsRing}
use Rattle.field_base.proofs.PowerLemmas.{repeated_square-lt, repeated_square_more}
use Rattle.field_base.proofs.RemainderRing.{mul_mod_ring}
use Rattle.field_base.proofs.RingLemmas.{xor_exchange}
use Rattle.any_field.specs.Irreducible.{AreCoprime, IsIrreducible}
use Rattle.any_field.proofs.Barrett.{top-and-tail}
use Rattle.any_field.proofs.Degrees.{degree-unique, degree-least}
use Rattle.any_field.proofs.Rabin.{coprime_by_steps, rabin_is_exact}
use Rattle.any_field.proofs.Tests.{irreducible-coprime}
use Rattle.any_field.specs.Contexts.{with_top}
use Rattle.any_field.proofs.WordRemainders.{top-degree}
use Rattle.any_field.proofs.RatioSteps.{with_top-xor}
use Rattle.any_field.proofs.EuclidSteps.{lead, shifted, shifted-degree, both, swapped}

-- ---- the first step of Euclid's, which takes the highest term from the modulus

pub no-factor-zero : (w t : ℕ) → 0 < w → AreCoprime 0 (with_top w t) → ⊥
no-factor-zero w t wide coprime =
    let one : with_top w t ≡ 1 = (coprime_by_steps.none (with_top w t)).0 (coprime_by_steps.swap 0 (with_top w t) coprime) in
    absurd (omega (arith, one, pow_mono {i = 1} {j = w} wide))

module _ (w t a : ℕ) (wide : 0 < w) (narrow : w ≤ 128) (fits : t < 2 ^ w) (some : 0 < a) (a_fits : a < 2 ^ w) where
  degree-below : (j : ℕ) → 2 ^ j ≤ a → j < w
  degree-below j least = grind (arith, pow_mono {i = w} {j = j})

  pub shift-fits : (128 ≤ w + count_leading_zeros 128 a) × (w + count_leading_zeros 128 a < 256)
  shift-fits =
      let top = lead a some (lt_of_lt_of_le a_fits (pow_mono narrow)) in
      let less : top.0 < w = degree-below top.0 (degree-least top.0 a top.2) in
      (omega (arith, top.1, less), omega (arith, top.1))

  power : (k : ℕ) → 2 * 2 ^ k ≡ 2 ^ suc k
  power k = omega (arith, pow-suc 2 k)

  shorter : (x : ℕ) → x % 2 ^ 128 % 2 ^ w ≡ x % 2 ^ w
  shorter x =
      let whole : 128 ≡ 128 - w + w = omega (arith, narrow) in
      ap (λ (z : ℕ). x % 2 ^ z % 2 ^ w) whole ∙ mod-mod-pow x (128 - w) w

  cancel : (p x y : ℕ) → bit_xor (bit_xor p x) (bit_xor p y) ≡ bit_xor x y
  cancel p x y = xor_exchange p x p y ∙ ap (λ (z : ℕ). bit_xor z (bit_xor x y)) (xor_self p) ∙ xor_comm 0 (bit_xor x y) ∙ xor_zero_r (bit_xor x y)

  -- the shift that gives a the degree of the modulus
  pub shift-sum : (j : ℕ) → HasDegree j a → j + suc (w + count_leading_zeros 128 a - 128) ≡ w
  shift-sum j degree =
      let top = lead a some (lt_of_lt_of_le a_fits (pow_mono narrow)) in
      let less : top.0 < w = degree-below top.0 (degree-least top.0 a top.2) in
      let same : top.0 ≡ j = degree-unique top.0 j a top.2 degree in
      omega (arith, top.1, less, same)

  -- and the sum of both
  pub first-parts : bit_xor (with_top w t) (carryless (2 ^ suc (w + count_leading_zeros 128 a - 128)) a)
      ≡ bit_xor t (a * 2 ^ 1 % 2 ^ 128 * 2 ^ (w + count_leading_zeros 128 a - 128) % 2 ^ 128 % 2 ^ w)
  first-parts =
      let top = lead a some (lt_of_lt_of_le a_fits (pow_mono narrow)) in
      let k = w + count_leading_zeros 128 a - 128 in
      let degree : HasDegree w (a * 2 ^ suc k) =
      subst (λ (z : ℕ). HasDegree z (a * 2 ^ suc k)) (shift-sum top.0 top.2) (shifted-degree top.0 (suc k) a top.2) in
      let bits : a * 2 ^ 1 % 2 ^ 128 * 2 ^ k % 2 ^ 128 % 2 ^ w ≡ a * 2 ^ suc k % 2 ^ w =
      ap (λ (z : ℕ). z % 2 ^ w)
      (mul-mod_first (a * 2 ^ 1) (2 ^ k) (2 ^ 128) ∙ ap (λ (z : ℕ). z % 2 ^ 128) (mul_assoc a 2 (2 ^ k) ∙ ap (λ (z : ℕ). a * z) (power k)))
      ∙ shorter (a * 2 ^ suc k) in
      ap₂ bit_xor (with_top-xor w t fits)
      (shifted (suc k) a ∙ top-and-tail w (a * 2 ^ suc k) degree ∙ ap (λ (z : ℕ). bit_xor z (a * 2 ^ suc k % 2 ^ w)) (one-mul (2 ^ w)))
      ∙ cancel (2 ^ w) t (a * 2 ^ suc k % 2 ^ w) ∙ ap (bit_xor t) (sym bits)

  pub first-step : AreCoprime a (bit_xor t (a * 2 ^ 1 % 2 ^ 128 * 2 ^ (w + count_leading_zeros 128 a - 128) % 2 ^ 128 % 2 ^ w))
      ↔ AreCoprime a (with_top w t)
  first-step =
      let k = w + count_leading_zeros 128 a - 128 in
      both _ _ _ (swapped a _)
      (both _ _ _ (subst (λ (z : ℕ). AreCoprime z a ↔ AreCoprime (with_top w t) a) first-parts (coprime_by_steps.add (with_top w t) a (2 ^ suc k)))
      (swapped (with_top w t) a))

-- ---- the loop

abbrev squared : ℕ → ℕ → ℕ → ℕ
squared w t n = repeated_square 1 (mul_mod w (with_top w t)) n 2

-- before step i
pub record IsTested (w t i moved : ℕ) : Type 0 where
  pub moved_is : moved ≡ squared w t (i - 1)
  pub coprime : (k : ℕ) → 0 < k → k < i → w % k ≡ 0 → AreCoprime (bit_xor (squared w t k) 2) (with_top w t)

module _ (w t : ℕ) (wide : 0 < w) (fits : t < 2 ^ w) where
  ring : IsRing w 1 (mul_mod w (with_top w t))
  ring = mul_mod_ring w (with_top w t) wide (top-degree w t fits)

  pub tested-start : (x : ℕ) → x ≡ 2 % 2 ^ w → IsTested w t 1 x
  unfolding repeated_square
  tested-start x is = record {
    moved_is = is ∙ sym (ring.one 2);
    coprime = λ k some less. absurd (omega (arith, some, less));
  }

  pub tested-lt : (i moved : ℕ) → IsTested w t i moved → moved < 2 ^ w
  tested-lt i moved is =
      subst (λ (z : ℕ). z < 2 ^ w) (sym is.moved_is) (repeated_square-lt w 1 (mul_mod w (with_top w t)) ring (i - 1) 2)

  pub next-is : (i moved next : ℕ) → 0 < i → IsTested w t i moved → next ≡ mul_mod w (with_top w t) moved moved → next ≡ squared w t i
  next-is i moved next some is next_is =
      let count : i - 1 + 1 ≡ i = omega arith in
      next_is ∙ ap (λ (z : ℕ). mul_mod w (with_top w t) z z) is.moved_is
      ∙ sym (repeated_square_more w 1 (mul_mod w (with_top w t)) ring (i - 1) 2) ∙ ap (squared w t) count

  -- what is tested fits
  pub sum-lt : (i moved next : ℕ) → 0 < i → i < w → IsTested w t i moved → next ≡ mul_mod w (with_top w t) moved moved → bit_xor next 2 < 2 ^ w
  sum-lt i moved next some less is next_is =
      let two : 1 < w = omega arith in
      xor_lt w next 2 (subst (λ (z : ℕ). z < 2 ^ w) (sym next_is) (ring.below moved moved)) (pow-lt two)

  pub tested-step : (i moved next : ℕ) → 0 < i → IsTested w t i moved → next ≡ mul_mod w (with_top w t) moved moved
      → (w % i ≡ 0 → AreCoprime (bit_xor next 2) (with_top w t)) → IsTested w t (i + 1) next
  tested-step i moved next some is next_is test = record {
    moved_is = let count : i ≡ i + 1 - 1 = omega arith in next-is i moved next some is next_is ∙ ap (squared w t) count;
    coprime = λ k positive below divides.
        let least : k ≤ i = omega (arith, below) in
        elim (eq-or-lt_of_le least) [
          | inl e ↦
              subst (λ (z : ℕ). AreCoprime (bit_xor z 2) (with_top w t)) (next-is i moved next some is next_is ∙ ap (squared w t) (sym e))
              (test (ap (λ (z : ℕ). w % z) (sym e) ∙ divides))
          | inr lower ↦ is.coprime k positive lower divides
        ];
  }

  pub tested-fails : (i moved next : ℕ) → 0 < i → i < w → IsTested w t i moved → next ≡ mul_mod w (with_top w t) moved moved
      → (AreCoprime (bit_xor next 2) (with_top w t) → ⊥) → IsIrreducible (with_top w t) → ⊥
  tested-fails i moved next some less is next_is fails irreducible =
      fails (subst (λ (z : ℕ). AreCoprime (bit_xor z 2) (with_top w t)) (sym (next-is i moved next some is next_is))
      (irreducible-coprime w (with_top w t) wide (top-degree w t fits) irreducible i some less))

  pub tested-end : (moved last x : ℕ) → IsTested w t w moved → last ≡ mul_mod w (with_top w t) moved moved → x ≡ 2 % 2 ^ w
      → (last ≡ x) ↔ IsIrreducible (with_top w t)
  tested-end moved last x is last_is x_is =
      let degree = top-degree w t fits in
      let exact = rabin_is_exact w (with_top w t) wide degree in
      let same : last ≡ squared w t w = next-is w moved last wide is last_is in (
        (λ e. exact.0 record {
          returns = sym same ∙ e ∙ x_is;
          coprime = λ p part prime product.
              is.coprime part (positive p part product) (less p part prime.above product) (ap (λ (z : ℕ). z % part) (sym product) ∙ mul-mod_left p part);
        }),
        (λ irreducible. same ∙ (exact.1 irreducible).returns ∙ sym x_is),
      )
    where
      positive : (p part : ℕ) → p * part ≡ w → 0 < part
      positive p zero product = absurd (omega (arith, product, mul-zero p, wide))
      positive p (suc part) product = omega arith

      less : (p part : ℕ) → 1 < p → p * part ≡ w → part < w
      less zero part above product = absurd (omega arith)
      less (suc zero) part above product = absurd (omega arith)
      less (suc (suc p)) part above product = omega (arith, product, wide)
