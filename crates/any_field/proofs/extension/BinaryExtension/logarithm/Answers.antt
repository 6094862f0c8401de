use Rattle.std.proofs.Common.{◌<◌, sym, ◌∙◌, arith}
use Rattle.std.proofs.lemmas.Nat.{pow_pos}
use Rattle.std.proofs.Math.Pow.{pow_mono}
use Rattle.any_field.specs.Contexts.{field_product}
use Rattle.any_field.proofs.ContextFields.{field-at}
use Rattle.any_field.proofs.LogarithmSteps.{power-zero, walk-none, walk-room, walk-start, walk-step}
use Rattle.any_field.proofs.extension.BinaryExtension.logarithm.Goals as goal

pub returns-then-x-eq1-clause-found : goal.returns-then-x-eq1-clause-found
returns-then-x-eq1-clause-found c =
    let s = c.args.self in
    power-zero s.degree (field_product s.degree s.tail) s.context.wide (field-at s.degree s.tail s.ratio s.context s.irreducible) c.args.base 0
    ∙ sym c.if-x-eq1.true ∙ c.low_bits-x.ensures

pub loop-power-init : goal.loop-power-init
loop-power-init c =
    let s = c.args.self in
    walk-start s.degree (field_product s.degree s.tail) s.context.wide (field-at s.degree s.tail s.ratio s.context s.irreducible) c.args.base
    c.low_bits-x.result c.low_bits-base.result c.low_bits-base.ensures c.if-x-eq1.false

pub loop-power-smaller : goal.loop-power-smaller
loop-power-smaller c = omega (arith, c.loop-power.invariant.most, pow_pos c.args.self.degree)

pub overflow_add-exponent : goal.overflow_add-exponent
overflow_add-exponent c =
    let s = c.args.self in
    let times = field_product s.degree s.tail in
    let field = field-at s.degree s.tail s.ratio s.context s.irreducible in
    let loop = c.loop-power in
    let above : 1 < loop.power = omega (arith, c.if-power-le1.false) in
    omega (
      arith,
      walk-room s.degree times s.context.wide field c.args.base c.low_bits-x.result loop.exponent loop.power loop.invariant above,
      pow_mono s.context.narrow,
    )

pub loop-power-preserved : goal.loop-power-preserved
loop-power-preserved c =
    let s = c.args.self in
    let times = field_product s.degree s.tail in
    let field = field-at s.degree s.tail s.ratio s.context s.irreducible in
    let loop = c.loop-power in
    let above : 1 < loop.power = omega (arith, c.if-power-le1.false) in
    walk-step s.degree times s.context.wide field c.args.base c.low_bits-x.result loop.exponent loop.power c.low_bits-base.result
    c.multiply-power.result c.low_bits-base.ensures loop.invariant c.loop-power-test.true above c.multiply-power.ensures

pub returns-then-power-le1-clause-none : goal.returns-then-power-le1-clause-none
returns-then-power-le1-clause-none c =
    let s = c.args.self in
    let times = field_product s.degree s.tail in
    let field = field-at s.degree s.tail s.ratio s.context s.irreducible in
    let loop = c.loop-power in
    λ k is.
    walk-none s.degree times s.context.wide field c.args.base c.low_bits-x.result loop.exponent loop.power loop.invariant c.loop-power-test.true
    c.if-power-le1.true k (is ∙ sym c.low_bits-x.ensures)

pub returns-clause-found : goal.returns-clause-found
returns-clause-found c = sym c.loop-power.invariant.is ∙ c.loop-power-test.false ∙ c.low_bits-x.ensures

pub returns-clause-least : goal.returns-clause-least
returns-clause-least c = λ k less is. c.loop-power.invariant.before k less (is ∙ sym c.low_bits-x.ensures)
