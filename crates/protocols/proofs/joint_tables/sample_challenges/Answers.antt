use Rattle.std.proofs.Common.{◌≡◌, ◌++◌, ℕ, List, sym, ◌∙◌, ap, subst, arith}
use Rattle.transcripts.specs.Lists.{InTurn}
use Rattle.sum_checks.specs.Refusals.{error_of_call}
use Rattle.protocols.specs.JointTables.{IsLeastCube}
use Rattle.protocols.proofs.SchemeRuns.{memory-alone}
use Rattle.protocols.proofs.joint_tables.sample_challenges.Goals as goal

pub returns-clause-combined : goal.returns-clause-combined
returns-clause-combined g c =
    let sent : c.as_slice.result.now ≡ c.args.point.now ++ c.args.values.now =
    c.as_slice.ensures.value ∙ c.in_ok-extend_from_slice.ensures.items
    ∙ ap (λ (l : List _). l ++ c.args.values.now) c.in_ok-sent.ensures.items in
    record {
      begun = c.observe_slice.new.self;
      observed =
          subst (λ (l : List _). InTurn g.C.CanObserve.observes l c.args.challenger.now c.observe_slice.new.self) sent
          c.in_ok-observe_slice.ensures.ok;
      sampled = c.in_ok-challenges.ensures.ok;
      cube = subst (λ (n : ℕ). IsLeastCube c.args.count n) (sym c.in_ok-challenges.ensures.count) c.cube_levels.ensures.cube;
    }

pub returns-clause-few : goal.returns-clause-few
returns-clause-few g c =
    let few = c.cube_levels.ensures.few in
    let count = c.in_ok-challenges.ensures.count in
    omega (arith, few, count)

pub returns-in_err-observe_slice-clause-memory : goal.returns-in_err-observe_slice-clause-memory
returns-in_err-observe_slice-clause-memory g c going =
    memory-alone _ c.from_residual-in_err-observe_slice.ensures.1
    (λ error is. is ∙ ap error_of_call (c.in_err-observe_slice.ensures.answer.memory going).0)

pub returns-in_err-challenges-clause-memory : goal.returns-in_err-challenges-clause-memory
returns-in_err-challenges-clause-memory g c going =
    memory-alone _ c.from_residual-in_err-challenges.ensures.1
    (λ error is. is ∙ ap error_of_call (c.in_err-challenges.ensures.memory c.in_ok-observe_slice.ensures.answer.goes_on))
