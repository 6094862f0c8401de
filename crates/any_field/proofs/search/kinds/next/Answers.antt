use Rattle.std.proofs.Common.{◌≤◌, below_more, sym, ◌∙◌, arith}
use Rattle.std.proofs.lemmas.Bool.{false≢true}
use Rattle.any_field.proofs.OrderFactors.{ones-are}
use Rattle.any_field.proofs.SearchSteps.{none-left}
use Rattle.any_field.proofs.search.kinds.next.Goals as goal

pub loop-candidate-preserved : goal.loop-candidate-preserved
loop-candidate-preserved g c =
    let loop = c.loop-candidate in
    record {
      least = omega (arith, loop.invariant.least);
      before =
          below_more (λ u. c.args.tail ≤ u → g.K.Kind.is_one c.args.degree u → ⊥) loop.candidate loop.invariant.before
          (λ least is. false≢true (sym c.if-test.false ∙ c.test.ensures.complete is));
    }

pub returns-clause-none : goal.returns-clause-none
returns-clause-none g c =
    let loop = c.loop-candidate in
    let ones = ones-are c.args.degree c.low_bits-last.result (omega (arith, c.if-degree-gt128.false)) c.low_bits-last.ensures in
    none-left (g.K.Kind.is_one c.args.degree) c.args.tail loop.candidate c.low_bits-last.result (omega (arith, c.loop-candidate-test.false))
    (λ u is. let fits = (g.met.K.Kind.field_law c.args.degree u is).2 in omega (arith, ones, fits)) loop.invariant.before
    (λ is. false≢true (sym c.if-test-2.false ∙ c.test-2.ensures.complete is))
