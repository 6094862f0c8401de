-- The product of every lane by a bit, which stands for itself times the one: by 1 the lanes stay, and by 0 each is 0.
use Rattle.std.proofs.Common.{◌≡◌, ℕ, zero, suc, ◌*◌, ◌^◌, ◌<◌, List, [], ◌∷◌, length, map, replicate, refl, sym, ◌∙◌, ap, ap₂, arith}
use native.Mathlib.Nat.{mod-eq_of_lt, one-mul, zero-mul}
use Rattle.field_base.specs.Ring.{IsRing}
use Rattle.field_base.proofs.RingLemmas.{times-zero}
use Rattle.packed_lanes.specs.Lanes.{lane_by_lane}

module _ {A : Type 0} (repr : A → ℕ) (width unit : ℕ) (times : ℕ → ℕ → ℕ) (ring : IsRing width unit times) where
  -- by the one
  times_one : (a : ℕ) → a < 2 ^ width → a ≡ times a (1 * unit)
  times_one a fits = sym (ap (times a) (one-mul unit) ∙ ring.comm a unit ∙ ring.one a ∙ mod-eq_of_lt fits)

  -- by the bit 1
  pub kept : (range : (x : A) → repr x < 2 ^ width) (n b : ℕ) (xs : List A) → length xs ≡ n → b ≡ 1
      → map repr xs ≡ lane_by_lane times (map repr xs) (replicate n (b * unit))
  kept range zero b [] long is = refl
  kept range zero b (x ∷ xs) long is = absurd (omega arith)
  kept range (suc n) b [] long is = absurd (omega arith)
  kept range (suc n) b (x ∷ xs) long is =
      ap₂ (λ (z : ℕ) (zs : List ℕ). z ∷ zs)
      (times_one (repr x) (range x) ∙ ap (λ (k : ℕ). times (repr x) (k * unit)) (sym is))
      (kept range n b xs (omega arith) is)

  -- by the bit 0
  pub cleared : (n b : ℕ) (xs : List A) (nothing : A) → length xs ≡ n → b ≡ 0 → repr nothing ≡ 0
      → map repr (replicate n nothing) ≡ lane_by_lane times (map repr xs) (replicate n (b * unit))
  cleared zero b [] nothing long is none = refl
  cleared zero b (x ∷ xs) nothing long is none = absurd (omega arith)
  cleared (suc n) b [] nothing long is none = absurd (omega arith)
  cleared (suc n) b (x ∷ xs) nothing long is none =
      ap₂ (λ (z : ℕ) (zs : List ℕ). z ∷ zs)
      (none ∙ sym (ap (times (repr x)) (ap (λ (k : ℕ). k * unit) is ∙ zero-mul unit) ∙ times-zero width unit times ring (repr x)))
      (cleared n b xs nothing (omega arith) is none)
