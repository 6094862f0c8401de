use Rattle.std.proofs.Common.{◌^◌, ℕ, List, length, map, sym, ◌∙◌, ap, subst, arith}
use Rattle.std.specs.List.{range_with_len}
use Rattle.std.proofs.lemmas.List.{length-map}
use Rattle.std.proofs.lemmas.List.FromFn.{length-map-range_with_len}
use Rattle.field_slices.specs.Multilinear.{eq_corner}
use Rattle.transcripts.specs.Lists.{InTurn}
use Rattle.sum_checks.specs.Refusals.{error_of_call}
use Rattle.protocols.proofs.SchemeRuns.{memory-alone}
use Rattle.small_tables.proofs.small_openings.draw_scalars.Goals as goal

pub eq_poly-requires : goal.eq_poly-requires
eq_poly-requires g c =
    let long = ap length c.as_slice-2.ensures.value in
    omega (arith, long, c.in_ok-mix.ensures.count, c.requires)

pub returns-clause-drawn : goal.returns-clause-drawn
returns-clause-drawn g c =
    let field = g.F.Represented in
    let mix = c.in_ok-mix.mix.items in (
      mix,
      record {
        begun = c.observe_slice.new.self;
        observed =
            subst (λ (l : List _). InTurn g.C.CanObserve.observes l c.args.challenger.now c.observe_slice.new.self)
            (c.as_slice.ensures.value ∙ c.in_ok-sent.ensures) c.in_ok-observe_slice.ensures.ok;
        sampled = c.in_ok-mix.ensures.ok;
        count = c.in_ok-mix.ensures.count;
      },
      c.in_ok-scalars.ensures
          ∙ ap (λ (l : List _). map (eq_corner field.product (map field.repr l)) (range_with_len 0 (2 ^ length l))) c.as_slice-2.ensures.value
          ∙ ap (λ (n : ℕ). map (eq_corner field.product (map field.repr mix)) (range_with_len 0 (2 ^ n))) (sym (length-map mix field.repr)),
    )

pub returns-clause-count : goal.returns-clause-count
returns-clause-count g c =
    let field = g.F.Represented in
    sym (length-map c.in_ok-scalars.scalars.items field.repr) ∙ ap length c.in_ok-scalars.ensures
    ∙ length-map-range_with_len (eq_corner field.product (map field.repr c.as_slice-2.result.now)) 0 (2 ^ length c.as_slice-2.result.now)
    ∙ ap (λ (n : ℕ). 2 ^ n) (ap length c.as_slice-2.ensures.value ∙ c.in_ok-mix.ensures.count)

pub returns-in_err-observe_slice-clause-memory : goal.returns-in_err-observe_slice-clause-memory
returns-in_err-observe_slice-clause-memory g c going =
    memory-alone _ c.from_residual-in_err-observe_slice.ensures.1 (λ error is. is ∙ ap error_of_call (c.in_err-observe_slice.ensures.answer.memory going).0)

pub returns-in_err-mix-clause-memory : goal.returns-in_err-mix-clause-memory
returns-in_err-mix-clause-memory g c going =
    memory-alone _ c.from_residual-in_err-mix.ensures.1
    (λ error is. is ∙ ap error_of_call (c.in_err-mix.ensures.memory c.in_ok-observe_slice.ensures.answer.goes_on))
