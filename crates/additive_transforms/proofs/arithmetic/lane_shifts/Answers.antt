use Rattle.std.proofs.Common.{◌≡◌, ◌⊎◌, inl, inr, ℕ, zero, suc, ◌+◌, ◌-◌, ◌<◌, ◌≤◌, ◌≢◌, length, get_or, get_or-set_other, get_or-set_same, below_more, refl, ◌∙◌, ap, subst, arith, rules}
use Rattle.std.specs.Prelude.{replicate}
use Rattle.std.proofs.lemmas.Bool.{cases_lt}
use Rattle.field_base.specs.Tower.{tower_mul}
use Rattle.ghash_slices.specs.Cantor.{subspace_value}
use Rattle.additive_transforms.proofs.SubspaceSteps.{first_subspace_value, next_subspace_value}
use Rattle.additive_transforms.proofs.arithmetic.lane_shifts.Goals as goal

-- the shift of the lowest stage is the number itself
first : (times : ℕ → ℕ → ℕ) (v z i : ℕ) → v ≡ z → i < 1 → get_or (replicate 6 v) i 0 ≡ subspace_value times i z
first times v z zero is below = is ∙ first_subspace_value times z
first times v z (suc i) is below = absurd (omega arith)

-- what stands alike in six places fits in each, and beyond them 0 does
all_fit : (v most i : ℕ) → v < most → get_or (replicate 6 v) i 0 < most
all_fit v most zero fits = fits
all_fit v most (suc zero) fits = fits
all_fit v most (suc (suc zero)) fits = fits
all_fit v most (suc (suc (suc zero))) fits = fits
all_fit v most (suc (suc (suc (suc zero)))) fits = fits
all_fit v most (suc (suc (suc (suc (suc zero))))) fits = fits
all_fit v most (suc (suc (suc (suc (suc (suc i)))))) fits = omega (arith, fits)

-- what holds at a place and at all others holds everywhere
split : (holds : ℕ → Type 0) (j : ℕ) → holds j → ((i : ℕ) → i ≢ j → holds i) → (i : ℕ) → holds i
split holds j here others i = pick (cases_lt i j) (cases_lt j i)
  where
    pick : (i < j) ⊎ (j ≤ i) → (j < i) ⊎ (i ≤ j) → holds i
    pick (inl less) more = others i (omega (arith, less))
    pick (inr least) (inl more) = others i (omega (arith, more))
    pick (inr least) (inr most) = let same : j ≡ i = omega (arith, least, most) in subst holds same here

pub loop-j-init : goal.loop-j-init
loop-j-init g c =
    let times = tower_mul g.L.Level.LEVEL in
    let z = g.R.Stored.number c.args.z in (
      refl,
      (λ i below. first times _ z i c.number_of-shifts.ensures.number below),
      first_subspace_value times z,
      (λ i. all_fit _ _ i c.number_of-shifts.ensures.fits),
    )

pub loop-j-preserved : goal.loop-j-preserved
loop-j-preserved g c =
    let times = tower_mul g.L.Level.LEVEL in
    let z = g.R.Stored.number c.args.z in
    let j = c.loop-j.j in
    let so_far = c.loop-j.invariant in
    let back : j - 1 + 1 ≡ j = omega arith in
    let ahead : j ≡ j + 1 - 1 = omega arith in
    let within : j < length c.loop-j.shifts = omega (arith, so_far.0) in
    let is : g.R.Stored.number c.xor-shift.result ≡ subspace_value times j z =
    next_subspace_value times z (j - 1) (g.R.Stored.number c.loop-j.shift) _ _ so_far.2 c.square.ensures c.xor-shift.ensures
    ∙ ap (λ (n : ℕ). subspace_value times n z) back in (
      search (rules, so_far.0),
      below_more _ _ (λ i below. let other : i ≢ j = omega arith in rw get_or-set_other (so_far.1 i below))
          (rw get_or-set_same (c.number_of.ensures.number ∙ is)),
      is ∙ ap (λ (n : ℕ). subspace_value times n z) ahead,
      split _ j (rw get_or-set_same c.number_of.ensures.fits) (λ i other. rw get_or-set_other (so_far.3 i)),
    )
