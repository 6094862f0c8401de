use Rattle.std.proofs.Common.{◌≡◌, ℕ, ◌+◌, ◌-◌, ◌*◌, ◌%◌, ◌^◌, ◌∙◌, ap, arith}
use Rattle.std.specs.Prelude.{bit_xor}
use Rattle.field_base.specs.LinearMaps.{linear_image}
use Rattle.additive_transforms.specs.Elements.{twiddle_basis}
use Rattle.additive_transforms.proofs.Carries.{carry_below, carry_on, carry_short, one_enters, one_leaves}
use Rattle.additive_transforms.proofs.elements.twiddles.next_twiddle.Goals as goal

pub loop-rest-init : goal.loop-rest-init
loop-rest-init g c =
    let by = g.K.StageArithmetic in
    let basis = twiddle_basis g.K.StageArithmetic.width by.vector in
    let same : c.args.block ≡ c.args.block * 2 ^ 0 = omega arith in
    (omega arith, λ shift is. is ∙ ap (λ (n : ℕ). bit_xor shift (linear_image basis n)) same)

pub loop-rest-preserved : goal.loop-rest-preserved
loop-rest-preserved g c =
    let by = g.K.StageArithmetic in
    let rest = c.loop-rest.rest in
    let element = c.loop-rest.element in
    let carried = c.loop-rest.invariant.0 in
    let within = carry_below rest element (c.args.block + 1) (by.width - 1) carried c.requires in (
      carry_on rest element (c.args.block + 1) c.loop-rest-test.true carried,
      (λ shift is.
          one_leaves by.width by.vector g.met.K.StageArithmetic.wide_law shift rest element within
          (by.number c.loop-rest.sum) (by.number c.sum-sum.result) (by.number c.cantor_vector.result) (c.loop-rest.invariant.1 shift is)
          c.sum-sum.ensures
          c.cantor_vector.ensures c.loop-rest-test.true),
    )

pub overflow_add-element : goal.overflow_add-element
overflow_add-element g c =
    let short = carry_short c.loop-rest.rest c.loop-rest.element (c.args.block + 1) c.loop-rest.invariant.0
    (omega (arith, c.ranges.block.fits)) in
    omega (arith, short)

pub overflow_add-element-in-loop-rest : goal.overflow_add-element-in-loop-rest
overflow_add-element-in-loop-rest g c =
    let short = carry_short c.loop-rest.rest c.loop-rest.element (c.args.block + 1) c.loop-rest.invariant.0
    (omega (arith, c.ranges.block.fits)) in
    omega (arith, short)

pub overflow_add-element-2 : goal.overflow_add-element-2
overflow_add-element-2 g c =
    let short = carry_short c.loop-rest.rest c.loop-rest.element (c.args.block + 1) c.loop-rest.invariant.0
    (omega (arith, c.ranges.block.fits)) in
    omega (arith, short)

pub cantor_vector-requires : goal.cantor_vector-requires
cantor_vector-requires g c =
    let within = carry_below c.loop-rest.rest c.loop-rest.element (c.args.block + 1) (g.K.StageArithmetic.width - 1)
    c.loop-rest.invariant.0 c.requires in
    omega (arith, within)

pub cantor_vector-requires-2 : goal.cantor_vector-requires-2
cantor_vector-requires-2 g c =
    let within = carry_below c.loop-rest.rest c.loop-rest.element (c.args.block + 1) (g.K.StageArithmetic.width - 1)
    c.loop-rest.invariant.0 c.requires in
    omega (arith, within)

pub returns : goal.returns
returns g c shift is =
    let by = g.K.StageArithmetic in
    let rest = c.loop-rest.rest in
    let element = c.loop-rest.element in
    let carried = c.loop-rest.invariant.0 in
    let within = carry_below rest element (c.args.block + 1) (by.width - 1) carried c.requires in
    let none : rest % 2 ≡ 0 = omega (arith, c.loop-rest-test.false) in
    one_enters by.width by.vector g.met.K.StageArithmetic.wide_law shift rest element within
    (by.number c.loop-rest.sum) (by.number c.sum.result) (by.number c.cantor_vector-2.result) (c.loop-rest.invariant.1 shift is)
    c.sum.ensures
    c.cantor_vector-2.ensures (c.args.block + 1) none carried
