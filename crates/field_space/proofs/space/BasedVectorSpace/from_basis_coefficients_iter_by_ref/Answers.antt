use Rattle.std.proofs.Common.{◌≡◌, ◌≤◌, refl, ◌∙◌, ap, arith, inl, inr}
use Rattle.std.proofs.lemmas.Bool.{true≢false}
use Rattle.field_base.specs.Chunks.{chunks}
use Rattle.field_space.proofs.Spaces.{fills-yields, more_coefficients, no_coefficients, one_item_more}
use Rattle.field_space.proofs.space.BasedVectorSpace.from_basis_coefficients_iter_by_ref.Goals as goal

pub loop-i-init : goal.loop-i-init
loop-i-init g c =
    (c.requires, no_coefficients _ _ _ _ g.Self.Represented.repr _ _ c.ZERO-element.ensures g.met.Self.PrimeCharacteristicRing.zero_law)

pub returns-in-None : goal.returns-in-None
returns-in-None g c =
    let done = c.loop-i.invariant.1 in
    let few : c.loop-i.i ≤ g.Self.BasedVectorSpace.DIMENSION =
    omega (arith, c.loop-i-test.true, c.DIMENSION-i-end.ensures) in
    let long = done.long in record {
      coefficients = done.taken;
      taken = inl ((c.loop-i.iter, fills-yields g.I.Iterator.next_gives c.args.iter.now 0 done.taken c.loop-i.iter done.fills, c.in-None.ensures.steps), omega (arith, few, long));
      none = ((λ none same. absurd (omega (arith, same, long, c.loop-i-test.true, c.DIMENSION-i-end.ensures))), (λ other. refl));
      value = tt;
      goes_on = λ more. absurd (omega (arith, more, few, long));
    }

pub loop-i-preserved : goal.loop-i-preserved
loop-i-preserved g c =
    let item = c.in-Some.ensures.steps in (
      c.in-Some.ensures.goes_on,
      more_coefficients g.F.Represented.width g.F.Represented.repr _ _ c.loop-i.i _ _ _ _ c.in-Some.coefficient c.loop-i.invariant.1
          (g.F.Represented.range_law c.in-Some.coefficient) item c.with_basis_coefficient-element.ensures,
    )

pub returns-in-Some-next_of : goal.returns-in-Some-next_of
returns-in-Some-next_of g c =
    let done = c.loop-i.invariant.1 in
    let all : c.loop-i.i ≡ g.Self.BasedVectorSpace.DIMENSION =
    omega (arith, c.loop-i-test.false, c.loop-i.auto.i-end, c.DIMENSION-i-end.ensures) in
    let more = one_item_more g.I.Iterator.next_gives c.args.iter.now c.loop-i.iter c.next_of-2.new.iter 0 done.taken c.in-Some-next_of.field-0
    g.Self.BasedVectorSpace.DIMENSION done.fills c.in-Some-next_of.ensures.steps (done.long ∙ all) in record {
      coefficients = more.0;
      taken = inr (more.1, more.2);
      none = ((λ none same. absurd (omega (arith, same, more.2))), (λ other. refl));
      value = tt;
      goes_on = λ _. c.in-Some-next_of.ensures.goes_on;
    }

pub returns-in-None-next_of : goal.returns-in-None-next_of
returns-in-None-next_of g c =
    let done = c.loop-i.invariant.1 in
    let all : c.loop-i.i ≡ g.Self.BasedVectorSpace.DIMENSION =
    omega (arith, c.loop-i-test.false, c.loop-i.auto.i-end, c.DIMENSION-i-end.ensures) in
    let long = done.long ∙ all in record {
      coefficients = done.taken;
      taken = inl ((c.loop-i.iter, fills-yields g.I.Iterator.next_gives c.args.iter.now 0 done.taken c.loop-i.iter done.fills, c.in-None-next_of.ensures.steps), omega (arith, long));
      none = ((λ none. absurd (true≢false none)), (λ other. absurd (other long)));
      value = done.are ∙ ap (λ n. chunks g.F.Represented.width n (g.Self.Represented.repr c.loop-i.element)) all;
      goes_on = λ more. absurd (omega (arith, more, long));
    }
