use Rattle.std.proofs.Common.{ℕ, List, subst}
use Rattle.ghash_slices.specs.LowStages.{HoldSums, HoldValuesAtCantorPoints}
use Rattle.ghash_slices.specs.Twiddles.{shifts_of}
use Rattle.ghash_slices.proofs.WordValues.{of_own}
use Rattle.ghash_slices.proofs.low_stages.LowStageTwiddles.forward_in.Goals as goal

pub returns-clause-sums : goal.returns-clause-sums
returns-clause-sums g c =
    let shifts = shifts_of c.args.self.now in
    let new = c.run_low_stages.new.values in
    subst (λ (basis : List ℕ). HoldSums shifts basis c.args.first_run c.args.values.now new) c.deref.ensures.value
    (of_own (HoldSums shifts c.deref.result.now c.args.first_run) c.args.values.now new c.run_low_stages.ensures.sums)

pub returns-clause-values : goal.returns-clause-values
returns-clause-values g c =
    let shifts = shifts_of c.args.self.now in
    let new = c.run_low_stages.new.values in
    subst (λ (basis : List ℕ). HoldValuesAtCantorPoints shifts basis c.args.first_run c.args.values.now new) c.deref.ensures.value
    (of_own (HoldValuesAtCantorPoints shifts c.deref.result.now c.args.first_run) c.args.values.now new c.run_low_stages.ensures.values)
