use Rattle.std.proofs.Common.{◌≡◌, ℕ, ◌/◌, ◌-◌, ◌<◌, length, map, take, sym, ◌∙◌, ap, arith, rules}
use Rattle.sum_checks.specs.Products.{term_product}
use Rattle.sum_checks.specs.Terms.{degree_of}
use Rattle.sum_checks.proofs.SumcheckSteps.{cube-even, cube-more, half-size, honest-long, proved-more, proved-none}
use Rattle.sum_checks.proofs.TermSteps.{degree-some}
use Rattle.sum_checks.specs.Refusals.{error_of_call}
use Rattle.sum_checks.proofs.Refusals.{memory-told}
use Rattle.sum_checks.proofs.sumcheck.+prove_rounds.Goals as goal

pub returns-then-rounds-eq0-clause-run : goal.returns-then-rounds-eq0-clause-run
returns-then-rounds-eq0-clause-run g t c =
    let repr = g.F.Represented.repr in
    let terms = map (term_product repr) c.args.terms.now in
    proved-none g.C.CanObserve.observes g.C.CanSample.gives g.F.Represented.width g.F.Represented.product repr (degree_of terms) terms c.args.count
    c.args.challenger.now c.args.rounds c.args.values.now c.args.proven.now.messages.items c.args.proven.now.point.items
    c.in_ok-left.left.items c.if-rounds-eq0.true c.in_ok-left.ensures.items

pub invariant_of-round : goal.invariant_of-round
invariant_of-round g t c =
    let some : 0 < c.args.rounds = omega arith in
    let few = c.requires.few in
    record {
      few = omega (arith, few, some);
      size = cube-more (length c.args.values.now) c.args.rounds c.args.count some c.requires.size;
    }

pub fold-requires : goal.fold-requires
fold-requires g t c =
    let some : 0 < c.args.rounds = omega arith in
    cube-even (length c.args.values.now) (c.args.rounds - 1) c.args.count
    (cube-more (length c.args.values.now) c.args.rounds c.args.count some c.requires.size)

pub returns-clause-run : goal.returns-clause-run
returns-clause-run g t c =
    let repr = g.F.Represented.repr in
    let times = g.F.Represented.product in
    let terms = map (term_product repr) c.args.terms.now in
    let sent = c.as_slice-sent.result.now in
    let some : 0 < c.args.rounds = omega arith in
    let same : length c.fold.new.values ≡ length c.args.values.now = omega arith in
    let honest = ap (map repr) c.as_slice-sent.ensures.value ∙ c.in_ok-message.ensures.honest in
    proved-more g.C.CanObserve.observes g.C.CanSample.gives g.F.Represented.width times repr (degree_of terms) terms c.args.count
    c.args.challenger.now c.observe_slice.new.self c.sample.new.self c.prove_rounds.new.challenger c.args.rounds (map repr c.args.values.now) _
    sent c.args.proven.now.messages.items c.extend_from_slice.new.self.items c.prove_rounds.new.proven.messages.items
    c.args.proven.now.point.items c.push.new.self.items c.prove_rounds.new.proven.point.items c.prove_rounds.new.proven.values.items
    c.in_ok-challenge.challenge some
    (honest-long repr times terms c.args.count _ (degree_of terms) (map repr c.args.values.now) sent (degree-some terms) honest)
    honest c.in_ok-observe_slice.ensures.ok c.in_ok-challenge.ensures.ok c.in_ok-extend_from_slice.ensures.items c.in_ok-push.ensures.items
    (ap (λ (n : ℕ). map repr (take (n / 2) c.fold.new.values)) same ∙ c.fold.ensures.folded) c.in_ok-prove_rounds.ensures.run

pub prove_rounds-requires : goal.prove_rounds-requires
prove_rounds-requires g t c =
    let some : 0 < c.args.rounds = omega arith in
    let same : length c.fold.new.values ≡ length c.args.values.now = omega arith in
    let half =
    half-size c.fold.new.values (length c.fold.new.values) (length c.args.values.now) c.args.rounds c.args.count some c.requires.size same same in
    let room =
    half-size c.message.new.scratch (length c.fold.new.values) (length c.args.values.now) c.args.rounds c.args.count some c.requires.size same
    (c.message.ensures.room ∙ c.requires.room) in
    let both = room ∙ sym half in
    search rules

pub returns-in_err-observe_slice-clause-memory : goal.returns-in_err-observe_slice-clause-memory
returns-in_err-observe_slice-clause-memory g t c =
    memory-told _ c.from_residual-in_err-observe_slice.ensures.1 (λ error is. is ∙ ap error_of_call (c.in_err-observe_slice.ensures.answer.memory c.requires.going).0)

pub returns-in_err-challenge-clause-memory : goal.returns-in_err-challenge-clause-memory
returns-in_err-challenge-clause-memory g t c =
    memory-told _ c.from_residual-in_err-challenge.ensures.1
    (λ error is. is ∙ ap error_of_call (c.in_err-challenge.ensures.answer.memory c.in_ok-observe_slice.ensures.answer.goes_on).0)

pub message-requires-clause-field : goal.message-requires-clause-field
message-requires-clause-field g t c = c.requires.field

pub message-requires-clause-room : goal.message-requires-clause-room
message-requires-clause-room g t c = c.requires.room

pub message-requires-clause-within : goal.message-requires-clause-within
message-requires-clause-within g t c = c.requires.within
