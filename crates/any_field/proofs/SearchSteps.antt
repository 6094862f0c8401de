-- Searches along the numbers: what is not found before a place, nor there, is nowhere.
use Rattle.std.proofs.Common.{◌≡◌, ◌*◌, inl, inr, ℕ, ◌+◌, ◌≤◌, ◌<◌, Option, None, Some, rules, sym, subst, arith}
use Rattle.std.specs.Prelude.{◌↔◌, IfNone, IsSome}
use native.Mathlib.Nat.{eq-or-lt_of_le}
use Rattle.field_base.specs.Orders.{HasFullOrder}
use Rattle.field_base.specs.Remainder.{rem}
use Rattle.any_field.specs.Contexts.{field_product, with_top}

pub none-left : (P : ℕ → Type 0) (tail candidate last : ℕ) → last ≤ candidate → ((u : ℕ) → P u → u ≤ last)
    → ((u : ℕ) → u < candidate → tail ≤ u → P u → ⊥) → (P candidate → ⊥) → (u : ℕ) → tail ≤ u → P u → ⊥
none-left P tail candidate last end most before here u least is =
    elim (eq-or-lt_of_le (fits u candidate (most u is) end)) [
      | inl same ↦ here (subst P same is)
      | inr less ↦ before u less least is
    ]
  where
    fits : (u candidate : ℕ) → u ≤ last → last ≤ candidate → u ≤ candidate
    fits u candidate below end = omega (arith, below, end)

pub some-of : {A : Type 0} (P : Type 0) (found : Option A) → IfNone found P → (P → ⊥) → IsSome found
some-of P None none other = absurd (other none)
some-of P (Some x) none other = search rules

-- the last number is wanted where one of them is, and none before it
pub found-at : (P : ℕ → Type 0) (n place last r : ℕ) → r < n → P r → last + 1 ≡ n → ((u : ℕ) → u < place → P u → ⊥)
    → last ≤ place → P place
found-at P n place last r below is count before least =
    elim (eq-or-lt_of_le within) [ inl same ↦ subst P same is | inr less ↦ absurd (before r less is) ]
  where
    within : r ≤ place
    within = omega (arith, below, count, least)

-- what is primitive in the field that was made is so in the field of the degree and the tail
pub primitive-there : (d t e u x : ℕ) → e ≡ d → u ≡ t → x ≡ rem d (with_top d t) (1 * 2)
    → HasFullOrder e (field_product e u) x ↔ HasFullOrder d (field_product d t) (rem d (with_top d t) 2)
primitive-there d t e u x degree tail is = (
  λ full. subst (HasFullOrder d (field_product d t)) is
      (subst (λ (v : ℕ). HasFullOrder d (field_product d v) x) tail (subst (λ (v : ℕ). HasFullOrder v (field_product v u) x) degree full)),
  λ full. subst (λ (v : ℕ). HasFullOrder v (field_product v u) x) (sym degree)
      (subst (λ (v : ℕ). HasFullOrder d (field_product d v) x) (sym tail) (subst (HasFullOrder d (field_product d t)) (sym is) full)),
)
