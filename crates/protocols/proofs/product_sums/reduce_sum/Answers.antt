use Rattle.std.proofs.Common.{length, map, ◌*◌, ◌∙◌, ap, arith, ℕ}
use Rattle.sum_checks.specs.Products.{term_product}
use Rattle.protocols.proofs.SchemeRuns.{memory-alone}
use Rattle.protocols.proofs.ProductSums.{sum-taken, two, verified-sum}
use Rattle.protocols.proofs.product_sums.reduce_sum.Goals as goal

pub returns-clause-reduced : goal.returns-clause-reduced
returns-clause-reduced g c =
    let field = g.F.Represented in
    let reduced = c.in_ok-reduced.ensures.read in
    let observes = g.C.CanObserve.observes in
    let gives = g.C.CanSample.gives in
    let terms = map (term_product field.repr) c.as_slice-terms.result.now in
    let are = ap (map (term_product field.repr)) c.as_slice-terms.ensures.value ∙ c.in_ok-terms.ensures in
    let read =
    verified-sum observes gives field.repr field.width field.product c.args.rounds c.args.challenger.now _ terms are (field.repr c.args.sum)
    c.args.messages.now c.in_ok-reduced.reduced.point.items (field.repr c.in_ok-reduced.reduced.claim) (reduced.0, reduced.1) in
    let degree = two observes gives field.repr field.width field.product c.args.rounds c.args.challenger.now c.args.challenger.now terms are in
    record {
      run = read.0;
      left = read.1;
      message_count = let long = c.in_ok-reduced.ensures.length ∙ ap (λ (n : ℕ). c.args.rounds * n) degree in omega (arith, long);
      challenge_count = reduced.2;
    }

pub returns-in_err-reduced-clause-memory : goal.returns-in_err-reduced-clause-memory
returns-in_err-reduced-clause-memory g c wide fits long going =
    let field = g.F.Represented in
    let same = ap (map (term_product field.repr)) c.as_slice-terms.ensures.value ∙ c.in_ok-terms.ensures in
    let memory =
    sum-taken field.width c.args.rounds (length c.args.messages.now) (map (term_product field.repr) c.as_slice-terms.result.now)
    c.in_err-reduced.field-0.0 same long wide fits (c.in_err-reduced.ensures.answer.memory going) in
    memory-alone _ c.from_residual-in_err-reduced.ensures.1 (λ error is. is ∙ memory)
