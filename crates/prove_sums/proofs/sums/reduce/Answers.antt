use Rattle.std.proofs.Common.{ℕ, List, ◌∙◌, subst, arith}
use Rattle.protocols.specs.ProductSums.{IsReducedSum}
use Rattle.protocols.proofs.SchemeRuns.{memory-alone}
use Rattle.prove_sums.specs.Shapes.{messages_in, sum_in}
use Rattle.prove_sums.proofs.SumSteps.{number-at}
use Rattle.prove_sums.proofs.sums.reduce.Goals as goal

pub returns-clause-reduced : goal.returns-clause-reduced
returns-clause-reduced g c =
    let field = g.F.Represented in
    let elements = c.args.elements.now in
    let rounds = c.args.rounds in
    let first = c.index-elements-0.result in
    let says : ℕ → List _ → Type 0 =
    λ (sum : ℕ) (messages : List _).
    IsReducedSum g.C.CanObserve.observes g.C.CanSample.gives field.repr field.width field.product rounds sum messages c.args.challenger.now
    c.in_ok-reduced.reduced.point.items (field.repr c.in_ok-reduced.reduced.claim) c.reduce_sum.new.challenger in
    let read : says (sum_in field.repr elements) (messages_in rounds elements) =
    subst (λ (n : ℕ). says n (messages_in rounds elements)) (number-at field.repr elements 0 first (omega (arith, c.requires)) c.index-elements-0.is)
    (subst (λ (l : List _). says (field.repr first) l) c.part-messages.ensures.values c.in_ok-reduced.ensures.reduced) in
    record {
      run = read.run;
      left = read.left;
      challenge_count = read.challenge_count;
    }

pub returns-in_err-reduced-clause-memory : goal.returns-in_err-reduced-clause-memory
returns-in_err-reduced-clause-memory g c wide fits going =
    memory-alone _ c.from_residual.ensures.1
    (λ error is. is ∙ c.in_err-reduced.ensures.memory wide fits c.part-messages.ensures.count going)
