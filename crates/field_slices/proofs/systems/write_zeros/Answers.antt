use Rattle.std.proofs.Common.{◌≡◌, map, set, ◌∙◌, arith, below_more, below_none}
use Rattle.std.specs.Prelude.{slice_index}
use Rattle.field_base.proofs.Places.{number-set_same, number-set_other}
use Rattle.field_slices.proofs.systems.write_zeros.Goals as goal

pub loop-place-init : goal.loop-place-init
loop-place-init g c =
    let number = g.S.Scalars.number c.args.field in
    below_none (λ j. slice_index (map number c.args.values.now) j ≡ 0)

pub loop-place-preserved : goal.loop-place-preserved
loop-place-preserved g c =
    let number = g.S.Scalars.number c.args.field in
    let values = c.loop-place.values in
    let place = c.loop-place.place in
    below_more (λ j. slice_index (map number (set values place c.zero.result)) j ≡ 0) place
    (λ j before. number-set_other number values place j c.zero.result (λ e. absurd (omega (arith, e, before)))
    ∙ c.loop-place.invariant j before)
    (number-set_same number values place c.zero.result (omega arith) ∙ c.zero.ensures)

pub returns-clause-zeros : goal.returns-clause-zeros
returns-clause-zeros g c = λ j below. c.loop-place.invariant j (omega (arith, below))
