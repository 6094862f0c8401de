use Rattle.std.proofs.Common.{◌<◌, length, map, ◌∙◌, ap, arith, rules}
use Rattle.sum_checks.proofs.SumcheckSteps.{message-fits, message-long, next-claim, nodes-few, rest-long, verified-more, verified-none}
use Rattle.sum_checks.specs.Refusals.{error_of_call}
use Rattle.sum_checks.proofs.Refusals.{memory-told}
use Rattle.sum_checks.proofs.sumcheck.+verify_rounds.Goals as goal

pub returns-then-rounds-eq0-clause-run : goal.returns-then-rounds-eq0-clause-run
returns-then-rounds-eq0-clause-run g t c =
    verified-none g.C.CanObserve.observes g.C.CanSample.gives g.F.Represented.width g.F.Represented.product g.F.Represented.repr c.args.degree
    c.args.challenger.now (g.F.Represented.repr c.args.reduced.now.claim) c.args.rounds c.args.messages.now c.args.reduced.now.point.items c.if-rounds-eq0.true

pub split_at-requires : goal.split_at-requires
split_at-requires g t c =
    let some : 0 < c.args.rounds = omega arith in
    message-fits (length c.args.messages.now) c.args.rounds c.args.degree some c.requires.count

pub node_values-requires : goal.node_values-requires
node_values-requires g t c =
    let some : 0 < c.args.rounds = omega arith in
    let long = message-long c.args.messages.now _ c.args.rounds c.args.degree some c.requires.count c.split_at.ensures.front in
    let positive = c.requires.some in
    omega (arith, long, positive)

pub interpolate_at_nodes-reduced-requires : goal.interpolate_at_nodes-reduced-requires
interpolate_at_nodes-reduced-requires g t c =
    let some : 0 < c.args.rounds = omega arith in
    let long = message-long c.args.messages.now _ c.args.rounds c.args.degree some c.requires.count c.split_at.ensures.front in
    nodes-few g.F.Represented.repr _ _ (g.F.Represented.repr c.args.reduced.now.claim) c.args.degree g.F.Represented.width
    (ap (map g.F.Represented.repr) c.as_slice.ensures.value ∙ c.in_ok-nodes.ensures) long c.requires.few c.requires.field

pub verify_rounds-requires : goal.verify_rounds-requires
verify_rounds-requires g t c =
    let some : 0 < c.args.rounds = omega arith in
    let long = rest-long c.args.messages.now _ c.args.rounds c.args.degree some c.requires.count c.split_at.ensures.back in
    search rules

pub returns-clause-run : goal.returns-clause-run
returns-clause-run g t c =
    let repr = g.F.Represented.repr in
    let some : 0 < c.args.rounds = omega arith in
    verified-more g.C.CanObserve.observes g.C.CanSample.gives g.F.Represented.width g.F.Represented.product repr c.args.degree
    c.args.challenger.now c.observe_slice.new.self c.sample.new.self c.verify_rounds.new.challenger (repr c.args.reduced.now.claim)
    (repr c.interpolate_at_nodes-reduced.result) (repr c.verify_rounds.new.reduced.claim) c.args.rounds c.args.messages.now _ _ c.args.reduced.now.point.items c.push.new.self.items
    c.verify_rounds.new.reduced.point.items c.in_ok-challenge.challenge some c.split_at.ensures.front c.split_at.ensures.back
    c.in_ok-observe_slice.ensures.ok c.in_ok-challenge.ensures.ok c.in_ok-push.ensures.items
    (next-claim repr g.F.Represented.width g.F.Represented.product c.in_ok-nodes.nodes.items c.as_slice.result.now _ (repr c.args.reduced.now.claim)
    (repr c.in_ok-challenge.challenge) (repr c.interpolate_at_nodes-reduced.result) c.as_slice.ensures.value c.in_ok-nodes.ensures
    c.interpolate_at_nodes-reduced.ensures)
    c.in_ok-verify_rounds.ensures.run

pub returns-in_err-observe_slice-clause-memory : goal.returns-in_err-observe_slice-clause-memory
returns-in_err-observe_slice-clause-memory g t c =
    memory-told _ c.from_residual.ensures.1 (λ error is. is ∙ ap error_of_call (c.in_err-observe_slice.ensures.answer.memory c.requires.going).0)

pub returns-in_err-challenge-clause-memory : goal.returns-in_err-challenge-clause-memory
returns-in_err-challenge-clause-memory g t c =
    memory-told _ c.from_residual-in_err-challenge.ensures.1
    (λ error is. is ∙ ap error_of_call (c.in_err-challenge.ensures.answer.memory c.in_ok-observe_slice.ensures.answer.goes_on).0)
