use Rattle.std.proofs.Common.{ℕ, ◌++◌, length, map, sym, ◌∙◌, subst}
use Rattle.std.specs.Prelude.{slice_index}
use Rattle.std.proofs.lemmas.List.{length-map}
use Rattle.ghash_slices.specs.LowStages.{ghash_product}
use Rattle.additive_transforms.specs.Stages.{IsButterfly}
use Rattle.additive_transforms.proofs.Butterflies.{forward_numbers, inverse_numbers, taken_back, taken_on}
use Rattle.additive_transforms.proofs.kernel.OfKernelStageArithmetic.butterflies.Goals as goal

pub returns-then-inverse-clause-values : goal.returns-then-inverse-clause-values
returns-then-inverse-clause-values g c =
    let value = g.K.Kernel.value in
    let is = c.butterfly_inverse.ensures.values in
    let high = length-map c.args.hi.now value ∙ sym c.requires.pairs in
    taken_back ghash_product _ _ _ _ c.args.inverse c.if-inverse.true
    (subst
    (λ (t : ℕ). IsButterfly ghash_product t (length c.args.lo.now)
    (slice_index (map value c.butterfly_inverse.new.lo ++ map value c.butterfly_inverse.new.hi))
    (slice_index (map value c.args.lo.now ++ map value c.args.hi.now)))
    c.to_polynomial_128-scalar.ensures
    (inverse_numbers ghash_product _ (length c.args.lo.now) _ _ _ _ (length-map c.args.lo.now value) high is.high is.low))

pub returns-clause-values : goal.returns-clause-values
returns-clause-values g c =
    let value = g.K.Kernel.value in
    let is = c.butterfly_forward.ensures.values in
    let high = length-map c.args.hi.now value ∙ sym c.requires.pairs in
    taken_on ghash_product _ _ _ _ c.args.inverse c.if-inverse.false
    (subst
    (λ (t : ℕ). IsButterfly ghash_product t (length c.args.lo.now) (slice_index (map value c.args.lo.now ++ map value c.args.hi.now))
    (slice_index (map value c.butterfly_forward.new.lo ++ map value c.butterfly_forward.new.hi)))
    c.to_polynomial_128-scalar.ensures
    (forward_numbers ghash_product _ (length c.args.lo.now) _ _ _ _ (length-map c.args.lo.now value) high is.low is.high))
