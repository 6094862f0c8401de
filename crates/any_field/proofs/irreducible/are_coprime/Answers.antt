use Rattle.std.proofs.lemmas.Bool.Decides.{Decides-eqb}
use Rattle.std.proofs.Common.{◌≡◌, ◌⊎◌, ◌≤◌, inl, inr, arith}
use Rattle.std.specs.Prelude.{bit_xor}
use Rattle.any_field.proofs.EuclidSteps.{step-fits, step-is, last, less-left, less-right, both, swapped, turned, positive}
use Rattle.any_field.proofs.irreducible.are_coprime.Goals as goal
use Rattle.any_field.proofs.irreducible.are_coprime.Goals.{then-loop-a-test+else-b-ne0, else-loop-a-test}

pub overflow_sub-a : goal.overflow_sub-a
overflow_sub-a c = (step-fits c.loop-a.a c.loop-a.b (positive c.loop-a.b c.if-b-ne0.true) c.if-a-b.true c.loop-a.auto.a-fits.fits).0

pub loop-a-smaller-then-a-b : goal.loop-a-smaller-then-a-b
loop-a-smaller-then-a-b c =
    less-left _ c.loop-a.a c.loop-a.b (step-is c.loop-a.a c.loop-a.b (positive c.loop-a.b c.if-b-ne0.true) c.if-a-b.true c.loop-a.auto.a-fits.fits).less

pub loop-a-preserved-then-a-b : goal.loop-a-preserved-then-a-b
loop-a-preserved-then-a-b c =
    both _ _ _ (step-is c.loop-a.a c.loop-a.b (positive c.loop-a.b c.if-b-ne0.true) c.if-a-b.true c.loop-a.auto.a-fits.fits).coprime c.loop-a.invariant

pub overflow_sub-b : goal.overflow_sub-b
overflow_sub-b c =
    let least : c.loop-a.a ≤ c.loop-a.b = omega arith in
    (step-fits c.loop-a.b c.loop-a.a (positive c.loop-a.a c.loop-a-test.true) least c.loop-a.auto.b-fits.fits).0

pub loop-a-smaller : goal.loop-a-smaller
loop-a-smaller c =
    let least : c.loop-a.a ≤ c.loop-a.b = omega arith in
    less-right _ c.loop-a.a c.loop-a.b (step-is c.loop-a.b c.loop-a.a (positive c.loop-a.a c.loop-a-test.true) least c.loop-a.auto.b-fits.fits).less

pub loop-a-preserved : goal.loop-a-preserved
loop-a-preserved c =
    let least : c.loop-a.a ≤ c.loop-a.b = omega arith in
    both _ _ _ (swapped c.loop-a.a _)
    (both _ _ _ (step-is c.loop-a.b c.loop-a.a (positive c.loop-a.a c.loop-a-test.true) least c.loop-a.auto.b-fits.fits).coprime
    (both _ _ _ (swapped c.loop-a.b c.loop-a.a) c.loop-a.invariant))

pub returns : goal.returns
returns c =
    let zero : (c.loop-a.a ≡ 0) ⊎ (c.loop-a.b ≡ 0) =
    elim c.loop-a-test.branch [ then-loop-a-test+else-b-ne0 w ↦ inr w.if-b-ne0.false | else-loop-a-test w ↦ inl w.loop-a-test.false ] in
    both _ _ _ (Decides-eqb (bit_xor c.loop-a.a c.loop-a.b) 1)
    (both _ _ _ (turned _ _ (last c.loop-a.a c.loop-a.b zero)) c.loop-a.invariant)
