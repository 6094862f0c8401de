-- Registers over any field: sums are elements, and what cancels a failure.
use Rattle.std.proofs.Common.{◌≡◌, ◌≢◌, inl, inr, ℕ, zero, suc, ◌+◌, ◌-◌, ◌^◌, ◌<◌, List, length, set, sym, ◌∙◌, ap, subst, arith}
use Rattle.std.specs.Prelude.{bit_xor, slice_index}
use Rattle.std.proofs.lemmas.Bool.{cases_lt}
use Rattle.std.proofs.lemmas.List.{get_or-set_other, get_or-set_same, get_or_past}
use Rattle.std.proofs.lemmas.Nat.{pow_below, pow_pos, xor_lt}
use Rattle.field_base.specs.Basis.{sum_below}
use Rattle.field_base.specs.Field.{IsField}
use Rattle.field_base.proofs.PowerLemmas.{times-one}
use Rattle.error_codes.specs.Registers.{register_sum}
use Rattle.error_codes.proofs.MasseySteps.{IsBetweenEntries}

-- a sum of elements is one
pub sum-fits : (width : ℕ) (f : ℕ → ℕ) → ((i : ℕ) → f i < 2 ^ width) → (n : ℕ) → sum_below f n < 2 ^ width
unfolding sum_below
sum-fits width f each zero = pow_pos width
sum-fits width f each (suc n) = xor_lt width (sum_below f n) (f n) (sum-fits width f each n) (each n)

module _ (width : ℕ) (times : ℕ → ℕ → ℕ) (wide : 0 < width) (field : IsField width times) (entry : ℕ → ℕ) where
  pub register_sum-fits : (L : ℕ) (c : ℕ → ℕ) (p : ℕ) → register_sum times entry L c p < 2 ^ width
  register_sum-fits L c p = sum-fits width (λ i. times (c i) (entry (p - i))) (λ i. field.ring.below (c i) (entry (p - i))) (suc L)

  -- the sum over the older failure
  pub sum-cancels : (l L : ℕ) (c : ℕ → ℕ) (g : ℕ) (b : ℕ → ℕ) (failure sum a inverse : ℕ)
      → IsBetweenEntries times entry l L c g b failure → sum ≡ register_sum times entry L c l → a ≡ times sum inverse
      → (failure < 2 ^ width → failure ≢ 0 → times failure inverse ≡ 1) → times a failure ≡ sum
  sum-cancels l L c g b failure sum a inverse between sum_is a_is inverts =
      ap (λ (z : ℕ). times z failure) a_is ∙ field.ring.assoc sum inverse failure
      ∙ ap (times sum) (field.ring.comm inverse failure ∙ inverts failure_fits between.nonzero)
      ∙ times-one width 1 times field.ring sum sum_fits
    where
      failure_fits : failure < 2 ^ width
      failure_fits = subst (λ (v : ℕ). v < 2 ^ width) between.failed (register_sum-fits (suc g - L) b g)

      sum_fits : sum < 2 ^ width
      sum_fits = subst (λ (v : ℕ). v < 2 ^ width) (sym sum_is) (register_sum-fits L c l)

  -- coefficients that begin with 1, and zeros
  pub unit-fits : (cleared : List ℕ) → 0 < length cleared → ((i : ℕ) → slice_index cleared i ≡ 0)
      → (i : ℕ) → slice_index (set cleared 0 1) i < 2 ^ width
  unit-fits cleared some zeros i =
      elim (cases_lt 0 i) [
        | inl above ↦
            subst (λ (v : ℕ). v < 2 ^ width)
            (sym (get_or-set_other cleared 0 i 1 0 (λ e. absurd (omega (arith, e, above))) ∙ zeros i)) (pow_pos width)
        | inr here ↦
            let is : i ≡ 0 = omega (arith, here) in
            subst (λ (v : ℕ). v < 2 ^ width)
            (sym (ap (slice_index (set cleared 0 1)) is ∙ get_or-set_same cleared 0 1 0 some)) (pow_below 0 width wide)
      ]

  -- a multiple of older ones that is added so many places on
  pub added-fits : (shift factor : ℕ) (older : ℕ → ℕ) (old new : List ℕ) → length new ≡ length old
      → ((i : ℕ) → i < shift → slice_index new i ≡ slice_index old i)
      → ((i : ℕ) → shift + i < length old
      → slice_index new (shift + i) ≡ bit_xor (slice_index old (shift + i)) (times factor (older i)))
      → ((i : ℕ) → slice_index old i < 2 ^ width) → (i : ℕ) → slice_index new i < 2 ^ width
  added-fits shift factor older old new long before behind fits i =
      elim (cases_lt i shift) [
        | inl early ↦ subst (λ (v : ℕ). v < 2 ^ width) (sym (before i early)) (fits i)
        | inr late ↦
            elim (cases_lt i (length old)) [
              | inl inside ↦
                  let place : shift + (i - shift) ≡ i = omega (arith, late) in
                  subst (λ (k : ℕ). slice_index new k < 2 ^ width) place
                  (subst (λ (v : ℕ). v < 2 ^ width) (sym (behind (i - shift) (omega (arith, place, inside))))
                  (xor_lt width (slice_index old (shift + (i - shift))) (times factor (older (i - shift)))
                  (fits (shift + (i - shift))) (field.ring.below factor (older (i - shift)))))
              | inr past ↦
                  subst (λ (v : ℕ). v < 2 ^ width) (sym (get_or_past new i 0 (omega (arith, past, long)))) (pow_pos width)
            ]
      ]
