use Rattle.std.proofs.Common.{◌≡◌, ◌+◌, length, set, refl, sym, ◌∙◌, arith, below_more, below_none}
use Rattle.std.specs.Prelude.{slice_index}
use Rattle.std.specs.List.{range_with_len}
use Rattle.std.proofs.lemmas.List.{ext_get_or, get_or-set_other, get_or-set_same, length-set}
use Rattle.std.proofs.lemmas.List.FromFn.{get_or-range_with_len, length-range_with_len}
use Rattle.field_slices.proofs.decompositions.count_up.Goals as goal

pub loop-place-init : goal.loop-place-init
loop-place-init c = (refl, below_none (λ i. slice_index c.args.order.now i ≡ i))

pub loop-place-preserved : goal.loop-place-preserved
loop-place-preserved c =
    let order = c.loop-place.order in
    let place = c.loop-place.place in
    let so_far = c.loop-place.invariant in (
      length-set order place place ∙ so_far.0,
      below_more (λ i. slice_index (set order place place) i ≡ i) place
          (λ i before. get_or-set_other order place i place 0 (λ e. absurd (omega (arith, e, before))) ∙ so_far.1 i before)
          (get_or-set_same order place place 0 (omega arith)),
    )

pub returns : goal.returns
returns c =
    let order = c.loop-place.order in
    let so_far = c.loop-place.invariant in
    let count = length c.args.order.now in
    ext_get_or 0 order (range_with_len 0 count) (so_far.0 ∙ sym (length-range_with_len 0 count))
    (λ i below.
    let own : 0 + i ≡ i = omega arith in
    so_far.1 i (omega (arith, below, so_far.0)) ∙ sym (get_or-range_with_len 0 count i 0 (omega (arith, below, so_far.0)) ∙ own))
