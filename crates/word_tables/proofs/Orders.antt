-- The orders of the generators up to 16 bits, by computing their powers one after another.
use Rattle.std.proofs.Common.{◌≡◌, ◌≢◌, ℕ, zero, suc, ◌+◌, ◌-◌, ◌^◌, ◌<◌, Bool, true, false, eqb, List, [], ◌∷◌, refl, sym, ◌∙◌, ap, subst, arith, lit<}
use Rattle.std.proofs.lemmas.Bool.{false≢true, eqb-false}
use native.Mathlib.Nat.{mod-eq_of_lt}
use Rattle.field_base.specs.Powers.{power}
use Rattle.field_base.specs.Quadratic.{quadratic}
use Rattle.field_base.specs.Tower.{root, tower_mul}
use Rattle.field_base.proofs.PowerLemmas.{power-lt, power-one}
use Rattle.field_base.proofs.RingLemmas.{sum_times}
use Rattle.field_base.proofs.TowerRing.{tower_ring}
use Rattle.field_base.proofs.TowerFrobenius.{tower_power-units, one_fits}
use Rattle.field_base.specs.Orders.{HasFullOrder}
use Rattle.word_tables.specs.Generators.{GeneratorsHaveFullOrder}
use Rattle.field_base.proofs.BasisColumns.{sum_of_columns}
use Rattle.field_base.proofs.LinearMapLemmas.{columns_checked}
use Rattle.field_base.proofs.TableChecks.{passes}

-- ---- a search for a power that is 1

-- whether none of the n values that begin with this one, each the step of the one before, is 1
unfoldable never_one : (ℕ → ℕ) → ℕ → ℕ → Bool
never_one step zero value = true
never_one step (suc n) value = elim (eqb value 1) [ true ↦ false | false ↦ never_one step n (step value) ]

-- a search that ends with `true` has not stopped at this step, and the rest of it ends with `true`
guarded : (stop rest : Bool) → elim stop [ true ↦ false | false ↦ rest ] ≡ true → (stop ≡ false) × (rest ≡ true)
guarded true rest pass = absurd (false≢true pass)
guarded false rest pass = (refl, pass)

module _ (times : ℕ → ℕ → ℕ) (g : ℕ) (step : ℕ → ℕ) (steps : (e : ℕ) → step (power 1 times g e) ≡ power 1 times g (suc e)) where
  -- if the search from g^m passes n steps, then none of g^m, .., g^(m + n - 1) is 1
  never_one_from : (n m i : ℕ) → never_one step n (power 1 times g m) ≡ true → i < n → power 1 times g (m + i) ≢ 1
  unfolding never_one
  never_one_from zero m i pass inside = absurd (omega arith)
  never_one_from (suc n) m zero pass inside =
      let first : m + 0 ≡ m = omega arith in
      let parts = guarded (eqb (power 1 times g m) 1) (never_one step n (step (power 1 times g m))) pass in
      λ is_one. eqb-false (power 1 times g m) 1 parts.0 (sym (ap (power 1 times g) first) ∙ is_one)
  never_one_from (suc n) m (suc i) pass inside =
      let next : m + suc i ≡ suc m + i = omega arith in
      let parts = guarded (eqb (power 1 times g m) 1) (never_one step n (step (power 1 times g m))) pass in
      let rest = subst (λ (x : ℕ). never_one step n x ≡ true) (steps m) parts.1 in
      λ is_one. never_one_from n (suc m) i rest (omega arith) (sym (ap (power 1 times g) next) ∙ is_one)

  -- the powers from the first on
  never_one_at : (n e : ℕ) → never_one step n g ≡ true → power 1 times g 1 ≡ g → 0 < e → e < suc n → power 1 times g e ≢ 1
  never_one_at n zero pass first nonzero inside = absurd (omega arith)
  never_one_at n (suc e) pass first nonzero inside =
      let place : 1 + e ≡ suc e = omega arith in
      λ is_one. never_one_from n 1 e (subst (λ (x : ℕ). never_one step n x ≡ true) (sym first) pass) (omega arith)
      (ap (power 1 times g) place ∙ is_one)

-- a nonzero element of a level has full order if no positive power below the number of nonzero elements is 1
full_order : (k g : ℕ) (step : ℕ → ℕ) → ((e : ℕ) → step (power 1 (tower_mul k) g e) ≡ power 1 (tower_mul k) g (suc e))
    → g < 2 ^ 2 ^ k → g ≢ 0 → never_one step (2 ^ 2 ^ k - 2) g ≡ true → HasFullOrder (2 ^ k) (tower_mul k) g
full_order k g step steps fits nonzero pass =
    let first : power 1 (tower_mul k) g 1 ≡ g =
    power-one (2 ^ k) 1 (tower_mul k) (tower_ring k) (one_fits k) g ∙ mod-eq_of_lt fits in (
      tower_power-units k g fits nonzero,
      λ e positive inside. never_one_at (tower_mul k) g step steps (2 ^ 2 ^ k - 2) e pass first positive (omega arith),
    )

-- ---- each level

-- the step by the product itself
steps_of_product : (k g e : ℕ) → tower_mul k (power 1 (tower_mul k) g e) g ≡ power 1 (tower_mul k) g (suc e)
unfolding power
steps_of_product k g e = refl

-- at 1 bit no power has to be looked at
order_1 : never_one (λ x. tower_mul 0 x 1) 0 1 ≡ true
unfolding never_one
order_1 = refl

-- at 2 bits 2 powers of the generator are not 1 (computed)
order_2 : never_one (λ x. tower_mul 1 x 2) 2 2 ≡ true
unfolding never_one tower_mul quadratic root
order_2 = refl

-- at 4 bits 14 powers of the generator are not 1 (computed)
order_4 : never_one (λ x. tower_mul 2 x 5) 14 5 ≡ true
unfolding never_one tower_mul quadratic root
order_4 = refl

-- at 8 bits 254 powers of the generator are not 1 (computed)
order_8 : never_one (λ x. tower_mul 3 x 0x13) 254 0x13 ≡ true
unfolding never_one tower_mul quadratic root
order_8 = refl

-- at 16 bits by the columns of the product by the generator, the products of 1, 2, 4, ..
columns_16 : List ℕ
columns_16 =
    0x102 ∷ 0x203 ∷ 0x408 ∷ 0x80c ∷ 0x1020 ∷ 0x2030 ∷ 0x4080 ∷ 0x80c0 ∷
    0x1201 ∷ 0x2302 ∷ 0x4804 ∷ 0x8c08 ∷ 0x6110 ∷ 0xb220 ∷ 0x1440 ∷ 0x2880 ∷ []

-- the columns at 16 bits are the products of the generator by the powers of two (computed)
columns_16_pass : passes (λ j column. eqb column (tower_mul 4 (2 ^ j) 0x102)) 0 columns_16 ≡ true
unfolding passes columns_16 tower_mul quadratic root
columns_16_pass = refl

-- so their map takes each power of the generator to the next
steps_of_columns : (e : ℕ) → sum_of_columns columns_16 (power 1 (tower_mul 4) 0x102 e) ≡ power 1 (tower_mul 4) 0x102 (suc e)
unfolding power columns_16
steps_of_columns e =
    columns_checked (λ x. tower_mul 4 x 0x102) (λ a b. sum_times 16 1 (tower_mul 4) (tower_ring 4) a b 0x102) columns_16
    columns_16_pass (power 1 (tower_mul 4) 0x102 e) (power-lt 16 1 (tower_mul 4) (tower_ring 4) (lit< tt) 0x102 e)

-- at 16 bits 65,534 powers of the generator are not 1 (computed)
order_16 : never_one (sum_of_columns columns_16) 65534 0x102 ≡ true
unfolding never_one sum_of_columns columns_16
order_16 = refl

-- at each level of up to 16 bits the generator has full order
pub generators_have_full_order : GeneratorsHaveFullOrder
generators_have_full_order zero low =
    full_order 0 1 (λ x. tower_mul 0 x 1) (steps_of_product 0 1) (lit< tt) (λ e. absurd (omega arith)) order_1
generators_have_full_order (suc zero) low =
    full_order 1 2 (λ x. tower_mul 1 x 2) (steps_of_product 1 2) (lit< tt) (λ e. absurd (omega arith)) order_2
generators_have_full_order (suc (suc zero)) low =
    full_order 2 5 (λ x. tower_mul 2 x 5) (steps_of_product 2 5) (lit< tt) (λ e. absurd (omega arith)) order_4
generators_have_full_order (suc (suc (suc zero))) low =
    full_order 3 0x13 (λ x. tower_mul 3 x 0x13) (steps_of_product 3 0x13) (lit< tt) (λ e. absurd (omega arith)) order_8
generators_have_full_order (suc (suc (suc (suc zero)))) low =
    full_order 4 0x102 (sum_of_columns columns_16) steps_of_columns (lit< tt) (λ e. absurd (omega arith)) order_16
generators_have_full_order (suc (suc (suc (suc (suc k))))) low = absurd (omega arith)
