-- Powers of a base, one after another, until one is the element, is 1, or is 0.
use Rattle.std.proofs.Common.{◌≡◌, ◌≢◌, ◌⊎◌, inl, inr, ℕ, zero, suc, ◌+◌, ◌-◌, ◌%◌, ◌^◌, ◌≤◌, ◌<◌, below_more, below_none, mul_comm, refl, sym, ◌∙◌, ap, arith}
use Rattle.std.proofs.lemmas.Bool.{cases_eq}
use Rattle.std.proofs.lemmas.Nat.{pow_below}
use native.Mathlib.Nat.{mod-lt}
use Rattle.field_base.specs.Field.{IsField}
use Rattle.field_base.specs.Powers.{power}
use Rattle.field_base.proofs.PowerLemmas.{power-add, power-mul, power-one}
use Rattle.field_base.proofs.RingLemmas.{times-mod, times-zero, zero-times}
use Rattle.any_field.specs.Orders.{IsOrder}
use Rattle.any_field.proofs.OrderFactors.{multiple, nonzero-order, periodic}

-- `now` is the power to the exponent; no power to a lower one is x, nor, but to 0, is 1
pub record IsWalk (width : ℕ) (times : ℕ → ℕ → ℕ) (base x exponent now : ℕ) : Type 0 where
  pub some : 0 < exponent
  pub most : exponent ≤ 2 ^ width - 1
  pub is : now ≡ power 1 times base exponent
  pub before : (k : ℕ) → k < exponent → power 1 times base k ≢ x
  pub apart : (k : ℕ) → 0 < k → k < exponent → power 1 times base k ≢ 1

module _ (width : ℕ) (times : ℕ → ℕ → ℕ) (wide : 0 < width) (field : IsField width times) (base x : ℕ) where
  one_fits : 1 < 2 ^ width
  one_fits = pow_below 0 width wide

  pub walk-start : (low : ℕ) → low ≡ base % 2 ^ width → x ≢ 1 → IsWalk width times base x 1 low
  unfolding power
  walk-start low is other = record {
    some = omega arith;
    most = omega (arith, one_fits);
    is = is ∙ sym (power-one width 1 times field.ring one_fits base);
    before = below_more (λ k. power 1 times base k ≢ x) 0 (below_none (λ k. power 1 times base k ≢ x)) (λ e. other (sym e));
    apart = λ k some less. absurd (omega (arith, some, less));
  }

  -- a power of 0 is 0
  zero-power : (e : ℕ) → 0 < e → base % 2 ^ width ≡ 0 → power 1 times base e ≡ 0
  unfolding power
  zero-power zero some none = absurd (omega (arith, some))
  zero-power (suc e) some none =
      sym (times-mod width 1 times field.ring (power 1 times base e) base) ∙ ap (times (power 1 times base e)) none
      ∙ times-zero width 1 times field.ring (power 1 times base e)

  power-next : (e : ℕ) → times (power 1 times base e) base ≡ power 1 times base (suc e)
  unfolding power
  power-next e = refl

  -- the last exponent gives 1, unless the base is 0
  not-last : (exponent now : ℕ) → IsWalk width times base x exponent now → 1 < now → exponent ≢ 2 ^ width - 1
  not-last exponent now walk above same =
      elim (cases_eq (base % 2 ^ width) 0) [
        | inl none ↦ absurd (omega (arith, above, walk.is ∙ zero-power exponent walk.some none))
        | inr some ↦ absurd (omega (arith, above, walk.is ∙ ap (power 1 times base) same ∙ nonzero-order width times field wide base some))
      ]

  pub power-zero : power 1 times base 0 ≡ 1
  unfolding power
  power-zero = refl

  -- so that there is room for one more
  pub walk-room : (exponent now : ℕ) → IsWalk width times base x exponent now → 1 < now → exponent + 1 ≤ 2 ^ width - 1
  walk-room exponent now walk above = below exponent (2 ^ width - 1) walk.most (not-last exponent now walk above)
    where
      below : (a b : ℕ) → a ≤ b → a ≢ b → a + 1 ≤ b
      below a b least other = elim (cases_eq a b) [ inl e ↦ absurd (other e) | inr apart ↦ omega (arith, least, apart) ]

  pub walk-step : (exponent now low next : ℕ) → low ≡ base % 2 ^ width → IsWalk width times base x exponent now → now ≢ x → 1 < now
      → next ≡ times now low → IsWalk width times base x (exponent + 1) next
  walk-step exponent now low next low_is walk other above next_is = record {
    some = omega arith;
    most = walk-room exponent now walk above;
    is =
        next_is ∙ ap (times now) low_is ∙ times-mod width 1 times field.ring now base ∙ ap (λ (z : ℕ). times z base) walk.is ∙ one-more exponent;
    before = below_more (λ k. power 1 times base k ≢ x) exponent walk.before (λ e. other (walk.is ∙ e));
    apart = λ k some less. below_more (λ k. 0 < k → power 1 times base k ≢ 1) exponent (λ k less some. walk.apart k some less)
        (λ some e. absurd (omega (arith, above, walk.is ∙ e))) k less some;
  }
    where
      plus : (e : ℕ) → suc e ≡ e + 1
      plus e = omega arith

      one-more : (e : ℕ) → times (power 1 times base e) base ≡ power 1 times base (e + 1)
      one-more e = power-next e ∙ ap (power 1 times base) (plus e)

  -- where a power is 1, or 0, there are no others
  pub walk-none : (exponent now : ℕ) → IsWalk width times base x exponent now → now ≢ x → now ≤ 1 → (k : ℕ) → power 1 times base k ≢ x
  walk-none exponent now walk other least k is =
      elim (cases_eq now 1) [
        | inl one ↦
            walk.before (k % exponent) (mod-lt k walk.some)
            (sym (periodic width times field.ring one_fits base exponent k (sym walk.is ∙ one)) ∙ is)
        | inr apart ↦ zero-case (low now least apart) (split k exponent)
      ]
    where
      low : (n : ℕ) → n ≤ 1 → n ≢ 1 → n ≡ 0
      low zero least apart = refl
      low (suc zero) least apart = absurd (apart refl)
      low (suc (suc n)) least apart = absurd (omega (arith, least))

      split : (a b : ℕ) → (a < b) ⊎ ((c : ℕ) × (b + c ≡ a))
      split a zero = inr (a, omega arith)
      split zero (suc b) = inl (omega arith)
      split (suc a) (suc b) = elim (split a b) [ inl less ↦ inl (omega (arith, less)) | inr more ↦ inr (more.0, omega (arith, more.1)) ]

      zero-case : now ≡ 0 → (k < exponent) ⊎ ((c : ℕ) × (exponent + c ≡ k)) → ⊥
      zero-case none (inl less) = walk.before k less is
      zero-case none (inr more) =
          other (none ∙ sym (zero-times width 1 times field.ring (power 1 times base more.0)) ∙ ap (λ (z : ℕ). times z (power 1 times base more.0)) (sym none ∙ walk.is)
          ∙ sym (power-add width 1 times field.ring one_fits base exponent more.0) ∙ ap (power 1 times base) more.1 ∙ is)

-- ---- by the order of the base

module _ (width : ℕ) (times : ℕ → ℕ → ℕ) (wide : 0 < width) (field : IsField width times) (base x order : ℕ) where
  -- a power of the base is 1 to the order
  pub no-power : power 1 times base order ≡ 1 → power 1 times x order ≢ 1 → (k : ℕ) → power 1 times base k ≢ x
  no-power one other k is =
      other (ap (λ (z : ℕ). power 1 times z order) (sym is) ∙ sym (power-mul width 1 times field.ring (pow_below 0 width wide) base k order)
      ∙ ap (power 1 times base) (mul_comm k order) ∙ multiple width times field.ring (pow_below 0 width wide) base order k one)

  -- no exponent below one that is below the order gives the same power, since the rest of the order would lead from that to 1 too early
  pub least-logarithm : IsOrder times base order → (e : ℕ) → e < order → power 1 times base e ≡ x → (k : ℕ) → k < e → power 1 times base k ≢ x
  least-logarithm is_order e below is k less same =
      let whole : e + (order - e) ≡ order = omega (arith, below) in
      is_order.least (k + (order - e)) (omega (arith, below)) (omega (arith, below, less))
      (power-add width 1 times field.ring (pow_below 0 width wide) base k (order - e)
      ∙ ap (λ (z : ℕ). times z (power 1 times base (order - e))) (same ∙ sym is)
      ∙ sym (power-add width 1 times field.ring (pow_below 0 width wide) base e (order - e)) ∙ ap (power 1 times base) whole ∙ is_order.one)

pub some-order : (n : ℕ) → n ≢ 0 → 0 < n
some-order zero other = absurd (other refl)
some-order (suc n) other = omega arith
