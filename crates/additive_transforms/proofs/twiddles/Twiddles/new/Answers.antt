use Rattle.std.proofs.Common.{◌≡◌, ℕ, zero, suc, ◌+◌, ◌-◌, ◌<◌, ◌≢◌, length, get_or, get_or-set_other, get_or-set_same, below_more, refl, ◌∙◌, ap, arith, rules}
use Rattle.std.specs.Prelude.{replicate}
use Rattle.ghash_slices.specs.Cantor.{subspace_value}
use Rattle.ghash_slices.specs.LowStages.{ghash_product}
use Rattle.additive_transforms.proofs.SubspaceSteps.{first_subspace_value, next_subspace_value}
use Rattle.additive_transforms.proofs.twiddles.Twiddles.new.Goals as goal

first : (z i : ℕ) → i < 1 → get_or (replicate 4 z) i 0 ≡ subspace_value ghash_product i z
first z zero below = first_subspace_value ghash_product z
first z (suc i) below = absurd (omega arith)

pub loop-j-init : goal.loop-j-init
loop-j-init c = (refl, first c.args.z)

pub loop-j-preserved : goal.loop-j-preserved
loop-j-preserved c =
    let j = c.loop-j.j in
    let before : j - 1 < j = omega arith in
    let next : j - 1 + 1 ≡ j = omega arith in
    let within : j < length c.loop-j.shifts = omega (arith, c.loop-j.invariant.0) in
    let shift : ℕ = get_or c.loop-j.shifts (j - 1) 0 in (
      search (rules, c.loop-j.invariant.0),
      below_more _ _
          (λ i below. let other : i ≢ j = omega arith in rw get_or-set_other (c.loop-j.invariant.1 i below))
          (rw get_or-set_same (next_subspace_value ghash_product c.args.z (j - 1) shift _ _ (c.loop-j.invariant.1 (j - 1) before)
          c.square_mod_128.ensures refl
          ∙ ap (λ (n : ℕ). subspace_value ghash_product n c.args.z) next)),
    )
