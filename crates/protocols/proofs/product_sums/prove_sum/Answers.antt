use Rattle.std.proofs.Common.{◌*◌, ℕ, List, length, map, sym, ◌∙◌, ap, subst, arith}
use Rattle.sum_checks.specs.Products.{term_product}
use Rattle.sum_checks.specs.Terms.{AreWithin, Product}
use Rattle.protocols.specs.ProductSums.{interleaved}
use Rattle.protocols.proofs.ProductSums.{product-within, proved-sum, rows-length, run-length, sum-proved, two}
use Rattle.protocols.proofs.SchemeRuns.{memory-alone}
use Rattle.protocols.proofs.product_sums.prove_sum.Goals as goal

pub cube_sum-sum-requires-clause-within : goal.cube_sum-sum-requires-clause-within
cube_sum-sum-requires-clause-within g c = subst (λ (ts : List Product). AreWithin 2 ts) (sym (ap (map (term_product g.F.Represented.repr)) c.as_slice-terms.ensures.value ∙ c.in_ok-terms.ensures)) product-within

pub cube_sum-sum-requires-clause-size : goal.cube_sum-sum-requires-clause-size
cube_sum-sum-requires-clause-size g c =
    ap length (c.as_slice.ensures.value ∙ c.in_ok-rows.ensures)
    ∙ rows-length c.args.left.now c.args.right.now (c.requires.right ∙ sym c.requires.left) ∙ ap (λ (n : ℕ). n * 2) c.requires.left

pub returns-clause-summed : goal.returns-clause-summed
returns-clause-summed g c =
    let field = g.F.Represented in
    let proof = c.in_ok-proven.ensures in
    let proven = c.in_ok-proven.proven in
    let rounds = c.args.rounds in
    let observes = g.C.CanObserve.observes in
    let gives = g.C.CanSample.gives in
    let terms = map (term_product field.repr) c.as_slice-terms.result.now in
    let are = ap (map (term_product field.repr)) c.as_slice-terms.ensures.value ∙ c.in_ok-terms.ensures in
    let sent =
    proved-sum observes gives field.repr field.width field.product rounds c.args.challenger.now _ terms are
    (field.repr c.cube_sum-sum.result) proven.messages.items proven.point.items (interleaved c.args.left.now c.args.right.now) c.as_slice.result.now
    c.as_mut_slice.result.now (c.as_slice.ensures.value ∙ c.in_ok-rows.ensures) (c.as_mut_slice.ensures.value ∙ c.in_ok-rows.ensures) proof.run
    c.cube_sum-sum.ensures proof.honest in
    let degree = two observes gives field.repr field.width field.product rounds c.args.challenger.now c.args.challenger.now terms are in
    record {
      run = sent.0;
      total = sent.1;
      honest = sent.2;
      message_count = let long = proof.length ∙ ap (λ (n : ℕ). rounds * n) degree in omega (arith, long);
      challenge_count = run-length observes gives 2 rounds proven.messages.items proven.point.items sent.0.1 _ sent.0.4;
    }

pub returns-in_err-proven-clause-memory : goal.returns-in_err-proven-clause-memory
returns-in_err-proven-clause-memory g c wide fits going =
    let field = g.F.Represented in
    let same = ap (map (term_product field.repr)) c.as_slice-terms.ensures.value ∙ c.in_ok-terms.ensures in
    let long =
    ap length (c.as_mut_slice.ensures.value ∙ c.in_ok-rows.ensures)
    ∙ rows-length c.args.left.now c.args.right.now (c.requires.right ∙ sym c.requires.left) ∙ ap (λ (n : ℕ). n * 2) c.requires.left in
    let memory =
    sum-proved field.width c.args.rounds (length c.as_mut_slice.result.now) (map (term_product field.repr) c.as_slice-terms.result.now)
    c.in_err-proven.field-0.0 same long (omega (arith, c.requires.few)) wide fits (c.in_err-proven.ensures.answer.memory going) in
    memory-alone _ c.from_residual-in_err-proven.ensures.1 (λ error is. is ∙ memory)
