-- Common factors of words, by Euclid's steps: a polynomial shifted so that both have the same degree is added to the other.
use Rattle.std.proofs.Common.{◌≡◌, ◌≢◌, ◌⊎◌, ◌↔◌, inl, inr, ℕ, suc, ◌+◌, ◌-◌, ◌*◌, ◌/◌, ◌%◌, ◌^◌, ◌≤◌, ◌<◌, Bool, true, false, rules, sym, ◌∙◌, ap, ap₂, subst, arith}
use Rattle.std.specs.Prelude.{bit_xor}
use Rattle.std.specs.Prelude.{IsTrue}
use Rattle.std.specs.Int.Count.{count_leading_zeros}
use Rattle.std.proofs.lemmas.Nat.{pow-add, pow_pos, shl_below, xor_comm, xor_shr, shr_split, leading_top}
use Rattle.std.proofs.Math.Pow.{pow_mono}
use native.Mathlib.Nat.{mod-eq_of_lt, mod-lt, zero-mul, one-mul, lt_of_lt_of_le, mul-le-mul_right}
use lib.Bits.{xor_zero_r}
use Rattle.field_base.specs.Carryless.{carryless}
use Rattle.field_base.specs.Remainder.{HasDegree}
use Rattle.field_base.proofs.CarrylessProduct.{one_carryless, shl_carryless}
use Rattle.any_field.specs.Irreducible.{AreCoprime}
use Rattle.any_field.proofs.Degrees.{degree-of, degree-least, degree-most}
use Rattle.any_field.proofs.Rabin.{coprime_by_steps}

-- a shifted polynomial is a multiple
pub shifted : (k b : ℕ) → carryless (2 ^ k) b ≡ b * 2 ^ k
shifted k b =
    ap (λ (z : ℕ). carryless z b) (sym (one-mul (2 ^ k))) ∙ shl_carryless k 1 b ∙ ap (λ (z : ℕ). z * 2 ^ k) (one_carryless b)

-- its degree
pub shifted-degree : (j k b : ℕ) → HasDegree j b → HasDegree (j + k) (b * 2 ^ k)
shifted-degree j k b degree =
    degree-of (j + k) (b * 2 ^ k)
    (subst (λ (z : ℕ). z ≤ b * 2 ^ k) (sym (pow-add 2 j k)) (mul-le-mul_right (2 ^ k) (degree-least j b degree)))
    (subst (λ (z : ℕ). b * 2 ^ k < 2 ^ z) (next j k) (shl_below b (suc j) k (degree-most j b degree)))
  where
    next : (j k : ℕ) → suc j + k ≡ suc (j + k)
    next j k = omega arith

-- the sum of two of one degree has a lower degree
pub lower : (j a b : ℕ) → HasDegree j a → HasDegree j b → bit_xor a b < 2 ^ j
lower j a b left right = zero-shr (bit_xor a b) (xor_shr a b j ∙ ap₂ bit_xor left right)
  where
    zero-shr : (x : ℕ) → x / 2 ^ j ≡ 0 → x < 2 ^ j
    zero-shr x none = omega (arith, sym (shr_split x j) ∙ ap (λ (z : ℕ). z * 2 ^ j + x % 2 ^ j) none, mod-lt x (pow_pos j), zero-mul (2 ^ j))

-- the degree of a word, by its leading zeros
pub lead : (a : ℕ) → 0 < a → a < 2 ^ 128 → (j : ℕ) × (count_leading_zeros 128 a + suc j ≡ 128) × HasDegree j a
lead a some fits = let top = leading_top 128 a some fits in (top.0, top.1, degree-of top.0 a top.2 top.3)

-- what one step does
pub record IsStep (a b sum : ℕ) : Type 0 where
  pub less : sum < a
  pub coprime : AreCoprime sum b ↔ AreCoprime a b

pub step-fits : (a b : ℕ) → 0 < b → b ≤ a → a < 2 ^ 128
    → (count_leading_zeros 128 a ≤ count_leading_zeros 128 b) × (count_leading_zeros 128 b < 128)
step-fits a b some least fits =
    let first = lead a (omega arith) fits in
    let second = lead b some (omega arith) in
    let order : second.0 ≤ first.0 = below second.0 first.0 (degree-least second.0 b second.2) (degree-most first.0 a first.2) in
    (omega (arith, first.1, second.1), omega (arith, second.1))
  where
    below : (v w : ℕ) → 2 ^ v ≤ b → a < 2 ^ suc w → v ≤ w
    below v w low high = grind (arith, pow_mono {i = suc w} {j = v})

pub step-is : (a b : ℕ) → 0 < b → b ≤ a → a < 2 ^ 128
    → IsStep a b (bit_xor a (b * 2 ^ (count_leading_zeros 128 b - count_leading_zeros 128 a) % 2 ^ 128))
step-is a b some least fits =
    let first = lead a (omega arith) fits in
    let second = lead b some (omega arith) in
    let k = count_leading_zeros 128 b - count_leading_zeros 128 a in
    let fewer = (step-fits a b some least fits).0 in
    let same : second.0 + k ≡ first.0 = omega (arith, first.1, second.1, fewer) in
    let degree : HasDegree first.0 (b * 2 ^ k) = subst (λ (z : ℕ). HasDegree z (b * 2 ^ k)) same (shifted-degree second.0 k b second.2) in
    let whole : b * 2 ^ k < 2 ^ 128 = lt_of_lt_of_le (degree-most first.0 (b * 2 ^ k) degree) (pow_mono {i = suc first.0} {j = 128} (omega (arith, first.1))) in
    subst (IsStep a b) (ap (bit_xor a) (shifted k b ∙ sym (mod-eq_of_lt whole)))
    record {
      less = lt_of_lt_of_le (subst (λ (z : ℕ). bit_xor a z < 2 ^ first.0) (sym (shifted k b)) (lower first.0 a (b * 2 ^ k) first.2 degree)) (degree-least first.0 a first.2);
      coprime = coprime_by_steps.add a b (2 ^ k);
    }

-- where one is 0, both are coprime where the sum is 1
pub last : (a b : ℕ) → (a ≡ 0) ⊎ (b ≡ 0) → AreCoprime a b ↔ (bit_xor a b ≡ 1)
last a b (inr none) =
    let sum : bit_xor a b ≡ a = ap (bit_xor a) none ∙ xor_zero_r a in (
      (λ coprime. sum ∙ (coprime_by_steps.none a).0 (subst (AreCoprime a) none coprime)),
      (λ e. subst (AreCoprime a) (sym none) ((coprime_by_steps.none a).1 (sym sum ∙ e))),
    )
last a b (inl none) =
    let sum : bit_xor a b ≡ b = xor_comm a b ∙ ap (bit_xor b) none ∙ xor_zero_r b in (
      (λ coprime. sum ∙ (coprime_by_steps.none b).0 (subst (AreCoprime b) none (coprime_by_steps.swap a b coprime))),
      (λ e. coprime_by_steps.swap b a (subst (AreCoprime b) (sym none) ((coprime_by_steps.none b).1 (sym sum ∙ e)))),
    )

pub less-left : (s a b : ℕ) → s < a → s + b < a + b
less-left s a b less = omega arith

pub less-right : (s a b : ℕ) → s < b → a + s < a + b
less-right s a b less = omega arith

pub both : (A B C : Type 0) → A ↔ B → B ↔ C → A ↔ C
both A B C p q = ((λ a. q.0 (p.0 a)), (λ c. p.1 (q.1 c)))

pub swapped : (a b : ℕ) → AreCoprime a b ↔ AreCoprime b a
swapped a b = (coprime_by_steps.swap a b, coprime_by_steps.swap b a)

pub turned : (A B : Type 0) → A ↔ B → B ↔ A
turned A B p = (p.1, p.0)

pub positive : (a : ℕ) → a ≢ 0 → 0 < a
positive a some = omega arith

pub never : (A : Type 0) → (A → ⊥) → IsTrue false ↔ A
never A none = ((λ h. absurd (search (rules, h))), (λ a. absurd (none a)))

pub told : (A : Type 0) (r : Bool) → IsTrue r ↔ A → r ≡ true → A
told A r p e = p.0 (subst (λ (z : Bool). IsTrue z) (sym e) (search rules))
