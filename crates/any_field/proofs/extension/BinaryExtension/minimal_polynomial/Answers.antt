use Rattle.std.proofs.Common.{◌≡◌, ℕ, ◌+◌, ◌^◌, sym, ◌∙◌, ap, subst, arith}
use Rattle.std.proofs.Math.ListN.{set}
use Rattle.std.specs.Prelude.{bit_xor}
use Rattle.std.proofs.lemmas.List.{get_or-replicate, length-replicate, length-set}
use Rattle.any_field.specs.Contexts.{field_product}
use Rattle.any_field.specs.Values.{binary_value}
use Rattle.any_field.proofs.ContextFields.{field-at}
use Rattle.any_field.proofs.PowerRelations.{IsSpan, minimal-found, nothing-left, power-next, span-more, span-start, sums}
use Rattle.any_field.proofs.RootValues.{at-one}
use Rattle.any_field.proofs.extension.BinaryExtension.minimal_polynomial.Goals as goal

pub loop-degree-init : goal.loop-degree-init
loop-degree-init c =
    let s = c.args.self in
    let times = field_product s.degree s.tail in
    let field = field-at s.degree s.tail s.ratio s.context s.irreducible in
    record {
      values_long = length-replicate {A = ℕ} 128 0;
      polynomials_long = length-replicate {A = ℕ} 128 0;
      span =
          span-start (binary_value times c.args.x) _ _ (sums s.degree times s.context.wide field c.args.x)
          (λ b within. get_or-replicate 128 b 0 0 within) (λ b within. get_or-replicate 128 b 0 0 within);
      power_is = sym (at-one s.degree times s.context.wide field.ring c.args.x);
    }

pub returns-then-rest-eq0-clause-minimal : goal.returns-then-rest-eq0-clause-minimal
returns-then-rest-eq0-clause-minimal c =
    let s = c.args.self in
    let times = field_product s.degree s.tail in
    let field = field-at s.degree s.tail s.ratio s.context s.irreducible in
    let value = binary_value times c.args.x in
    let loop = c.loop-degree in
    let step = c.reduced-rest in
    let rest_is =
    step.ensures.sum value (sums s.degree times s.context.wide field c.args.x) loop.invariant.span.is
    ∙ ap (λ (z : ℕ). bit_xor z (value step.result.1)) loop.invariant.power_is in
    (minimal-found s.degree times s.context.wide field c.args.x loop.values loop.polynomials loop.degree
    (omega (arith, c.loop-degree-test.true, s.context.narrow)) loop.invariant.span step.result.0 step.result.1 rest_is
    (step.ensures.below loop.degree loop.invariant.span.small) c.if-rest-eq0.true).minimal

pub returns-then-rest-eq0-clause-modulus : goal.returns-then-rest-eq0-clause-modulus
returns-then-rest-eq0-clause-modulus c =
    let s = c.args.self in
    let times = field_product s.degree s.tail in
    let field = field-at s.degree s.tail s.ratio s.context s.irreducible in
    let value = binary_value times c.args.x in
    let loop = c.loop-degree in
    let step = c.reduced-rest in
    let rest_is =
    step.ensures.sum value (sums s.degree times s.context.wide field c.args.x) loop.invariant.span.is
    ∙ ap (λ (z : ℕ). bit_xor z (value step.result.1)) loop.invariant.power_is in
    (minimal-found s.degree times s.context.wide field c.args.x loop.values loop.polynomials loop.degree
    (omega (arith, c.loop-degree-test.true, s.context.narrow)) loop.invariant.span step.result.0 step.result.1 rest_is
    (step.ensures.below loop.degree loop.invariant.span.small) c.if-rest-eq0.true).modulus

pub returns-then-rest-eq0-clause-divides : goal.returns-then-rest-eq0-clause-divides
returns-then-rest-eq0-clause-divides c =
    let s = c.args.self in
    let times = field_product s.degree s.tail in
    let field = field-at s.degree s.tail s.ratio s.context s.irreducible in
    let value = binary_value times c.args.x in
    let loop = c.loop-degree in
    let step = c.reduced-rest in
    let rest_is =
    step.ensures.sum value (sums s.degree times s.context.wide field c.args.x) loop.invariant.span.is
    ∙ ap (λ (z : ℕ). bit_xor z (value step.result.1)) loop.invariant.power_is in
    (minimal-found s.degree times s.context.wide field c.args.x loop.values loop.polynomials loop.degree
    (omega (arith, c.loop-degree-test.true, s.context.narrow)) loop.invariant.span step.result.0 step.result.1 rest_is
    (step.ensures.below loop.degree loop.invariant.span.small) c.if-rest-eq0.true).divides

pub loop-degree-preserved : goal.loop-degree-preserved
loop-degree-preserved c =
    let s = c.args.self in
    let times = field_product s.degree s.tail in
    let field = field-at s.degree s.tail s.ratio s.context s.irreducible in
    let value = binary_value times c.args.x in
    let loop = c.loop-degree in
    let step = c.reduced-rest in
    let place = c.degree_of-place.result in
    let rest_is =
    step.ensures.sum value (sums s.degree times s.context.wide field c.args.x) loop.invariant.span.is
    ∙ ap (λ (z : ℕ). bit_xor z (value step.result.1)) loop.invariant.power_is in
    record {
      values_long = length-set loop.values place step.result.0 ∙ loop.invariant.values_long;
      polynomials_long = length-set loop.polynomials place (bit_xor step.result.1 c.power_of_x.result) ∙ loop.invariant.polynomials_long;
      span =
          subst
          (λ (z : ℕ). IsSpan value (set loop.values place step.result.0) (set loop.polynomials place (bit_xor step.result.1 z)) (loop.degree + 1))
          (sym c.power_of_x.ensures)
          (span-more value (sums s.degree times s.context.wide field c.args.x) loop.values loop.polynomials loop.degree loop.invariant.span
          step.result.0 step.result.1 rest_is (step.ensures.below loop.degree loop.invariant.span.small) step.ensures.free place
          c.degree_of-place.ensures.below c.degree_of-place.ensures.degree loop.invariant.values_long loop.invariant.polynomials_long);
      power_is =
          power-next s.degree times s.context.wide field c.args.x loop.degree loop.power c.multiply-power.result loop.invariant.power_is
          c.multiply-power.ensures;
    }

pub returns-clause-minimal : goal.returns-clause-minimal
returns-clause-minimal c =
    let s = c.args.self in
    let times = field_product s.degree s.tail in
    let field = field-at s.degree s.tail s.ratio s.context s.irreducible in
    let value = binary_value times c.args.x in
    let loop = c.loop-degree in
    let step = c.reduced-sum in
    let last : loop.degree ≡ s.degree = omega arith in
    let span = subst (IsSpan value loop.values loop.polynomials) last loop.invariant.span in
    let rest_is =
    step.ensures.sum value (sums s.degree times s.context.wide field c.args.x) span.is
    ∙ ap (λ (z : ℕ). bit_xor z (value step.result.1)) (loop.invariant.power_is ∙ ap (λ (n : ℕ). value (2 ^ n)) last) in
    let small = step.ensures.below s.degree span.small in
    (minimal-found s.degree times s.context.wide field c.args.x loop.values loop.polynomials s.degree s.context.narrow span step.result.0
    step.result.1 rest_is small
    (nothing-left s.degree times s.context.wide field c.args.x loop.values loop.polynomials span step.result.0 step.result.1 rest_is small
    step.ensures.free)).minimal

pub returns-clause-modulus : goal.returns-clause-modulus
returns-clause-modulus c =
    let s = c.args.self in
    let times = field_product s.degree s.tail in
    let field = field-at s.degree s.tail s.ratio s.context s.irreducible in
    let value = binary_value times c.args.x in
    let loop = c.loop-degree in
    let step = c.reduced-sum in
    let last : loop.degree ≡ s.degree = omega arith in
    let span = subst (IsSpan value loop.values loop.polynomials) last loop.invariant.span in
    let rest_is =
    step.ensures.sum value (sums s.degree times s.context.wide field c.args.x) span.is
    ∙ ap (λ (z : ℕ). bit_xor z (value step.result.1)) (loop.invariant.power_is ∙ ap (λ (n : ℕ). value (2 ^ n)) last) in
    let small = step.ensures.below s.degree span.small in
    (minimal-found s.degree times s.context.wide field c.args.x loop.values loop.polynomials s.degree s.context.narrow span step.result.0
    step.result.1 rest_is small
    (nothing-left s.degree times s.context.wide field c.args.x loop.values loop.polynomials span step.result.0 step.result.1 rest_is small
    step.ensures.free)).modulus

pub returns-clause-divides : goal.returns-clause-divides
returns-clause-divides c =
    let s = c.args.self in
    let times = field_product s.degree s.tail in
    let field = field-at s.degree s.tail s.ratio s.context s.irreducible in
    let value = binary_value times c.args.x in
    let loop = c.loop-degree in
    let step = c.reduced-sum in
    let last : loop.degree ≡ s.degree = omega arith in
    let span = subst (IsSpan value loop.values loop.polynomials) last loop.invariant.span in
    let rest_is =
    step.ensures.sum value (sums s.degree times s.context.wide field c.args.x) span.is
    ∙ ap (λ (z : ℕ). bit_xor z (value step.result.1)) (loop.invariant.power_is ∙ ap (λ (n : ℕ). value (2 ^ n)) last) in
    let small = step.ensures.below s.degree span.small in
    (minimal-found s.degree times s.context.wide field c.args.x loop.values loop.polynomials s.degree s.context.narrow span step.result.0
    step.result.1 rest_is small
    (nothing-left s.degree times s.context.wide field c.args.x loop.values loop.polynomials span step.result.0 step.result.1 rest_is small
    step.ensures.free)).divides
