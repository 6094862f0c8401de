use Rattle.std.specs.Int.Count.{count_leading_zeros}
use Rattle.std.proofs.Common.{◌≡◌, ◌≤◌, ◌^◌, ◌+◌, ◌-◌, ◌*◌, ◌%◌, ℕ, sym, ◌∙◌, subst, arith}
use Rattle.std.specs.Prelude.{bit_xor}
use Rattle.any_field.proofs.EuclidSteps.{positive, less-left, less-right, step-is, step-fits}
use Rattle.any_field.proofs.RabinSteps.{shift-fits}
use Rattle.any_field.proofs.EuclidInverses.{IsEuclid, euclid-start, euclid-step, turned-round, inverse-found, one-inverts}
use Rattle.any_field.proofs.extension.BinaryExtension.inverse_of.Goals as goal
use Rattle.any_field.proofs.extension.BinaryExtension.inverse_of.Goals.{then-loop-a-test+else-b-ne1, else-loop-a-test}

pub returns-then-x-eq1-clause-inverse : goal.returns-then-x-eq1-clause-inverse
returns-then-x-eq1-clause-inverse c =
    one-inverts c.args.self.degree c.args.self.tail c.args.self.ratio c.args.x c.args.self.context c.if-x-eq1.true

pub overflow_sub-shift : goal.overflow_sub-shift
overflow_sub-shift c =
    (shift-fits c.args.self.degree c.args.self.tail c.args.x c.args.self.context.wide c.args.self.context.narrow c.args.self.context.tail_below
    (positive c.args.x c.if-x-eq0.false) c.requires).0

pub loop-a-init : goal.loop-a-init
loop-a-init c =
    subst (λ (z : ℕ). IsEuclid c.args.self.degree c.args.self.tail c.args.x c.args.x 1 (bit_xor c.args.self.tail z)
    (1 * 2 ^ 1 % 2 ^ 128 * 2 ^ (c.args.self.degree + count_leading_zeros 128 c.args.x - 128) % 2 ^ 128)) (sym c.low_bits.ensures)
    (euclid-start c.args.self.degree c.args.self.tail c.args.self.context.wide c.args.self.context.narrow c.args.self.context.tail_below c.args.x
    c.args.self.irreducible c.requires c.if-x-eq0.false c.if-x-eq1.false)

pub overflow_sub-k : goal.overflow_sub-k
overflow_sub-k c =
    (step-fits c.loop-a.a c.loop-a.b (positive c.loop-a.b c.loop-a.invariant.b_some) c.if-a-b.true c.loop-a.auto.a-fits.fits).0

pub loop-a-smaller-then-a-b : goal.loop-a-smaller-then-a-b
loop-a-smaller-then-a-b c =
    less-left _ c.loop-a.a c.loop-a.b
    (step-is c.loop-a.a c.loop-a.b (positive c.loop-a.b c.loop-a.invariant.b_some) c.if-a-b.true c.loop-a.auto.a-fits.fits).less

pub loop-a-preserved-then-a-b : goal.loop-a-preserved-then-a-b
loop-a-preserved-then-a-b c =
    euclid-step c.args.self.degree c.args.self.tail c.args.self.context.wide c.args.self.context.narrow c.args.self.context.tail_below c.args.x
    c.loop-a.a c.loop-a.u c.loop-a.b c.loop-a.v c.requires c.if-a-b.true c.if-b-ne1.true c.loop-a.invariant

pub overflow_sub-k-else-a-b : goal.overflow_sub-k-else-a-b
overflow_sub-k-else-a-b c =
    let least : c.loop-a.a ≤ c.loop-a.b = omega arith in
    (step-fits c.loop-a.b c.loop-a.a (positive c.loop-a.a c.loop-a.invariant.a_some) least c.loop-a.auto.b-fits.fits).0

pub loop-a-smaller : goal.loop-a-smaller
loop-a-smaller c =
    let least : c.loop-a.a ≤ c.loop-a.b = omega arith in
    less-right _ c.loop-a.a c.loop-a.b
    (step-is c.loop-a.b c.loop-a.a (positive c.loop-a.a c.loop-a.invariant.a_some) least c.loop-a.auto.b-fits.fits).less

pub loop-a-preserved : goal.loop-a-preserved
loop-a-preserved c =
    let least : c.loop-a.a ≤ c.loop-a.b = omega arith in
    turned-round c.args.self.degree c.args.self.tail c.args.x _ _ _ _
    (euclid-step c.args.self.degree c.args.self.tail c.args.self.context.wide c.args.self.context.narrow c.args.self.context.tail_below c.args.x
    c.loop-a.b c.loop-a.v c.loop-a.a c.loop-a.u c.requires least c.loop-a-test.true
    (turned-round c.args.self.degree c.args.self.tail c.args.x c.loop-a.a c.loop-a.u c.loop-a.b c.loop-a.v c.loop-a.invariant))

pub returns-then-a-eq1-clause-inverse : goal.returns-then-a-eq1-clause-inverse
returns-then-a-eq1-clause-inverse c =
    inverse-found c.args.self.degree c.args.self.tail c.args.self.ratio c.args.x c.loop-a.u c.args.self.context c.if-x-eq0.false
    (c.loop-a.invariant.a_is ∙ c.if-a-eq1.true)

pub returns-else-a-eq1-clause-inverse : goal.returns-else-a-eq1-clause-inverse
returns-else-a-eq1-clause-inverse c =
    let one : c.loop-a.b ≡ 1 =
    elim c.loop-a-test.branch [ then-loop-a-test+else-b-ne1 w ↦ w.if-b-ne1.false | else-loop-a-test w ↦ absurd (c.if-a-eq1.false w.loop-a-test.false) ] in
    inverse-found c.args.self.degree c.args.self.tail c.args.self.ratio c.args.x c.loop-a.v c.args.self.context c.if-x-eq0.false
    (c.loop-a.invariant.b_is ∙ one)
