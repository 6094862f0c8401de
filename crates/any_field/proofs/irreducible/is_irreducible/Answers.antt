use Rattle.std.proofs.Common.{◌≡◌, ℕ, ◌<◌, subst, arith}
use Rattle.std.proofs.lemmas.Bool.Decides.{Decides-eqb, not_from_Decides}
use Rattle.any_field.proofs.EuclidSteps.{both, never, told}
use Rattle.any_field.proofs.RabinSteps.{IsTested, tested-start, tested-lt, tested-step, tested-fails, tested-end, sum-lt}
use Rattle.any_field.proofs.irreducible.is_irreducible.Goals as goal
use Rattle.any_field.proofs.irreducible.is_irreducible.Goals.{then-degree-i-eq0+else-not-is_coprime_to_modulus, else-degree-i-eq0}

pub loop-i-init : goal.loop-i-init
loop-i-init c = tested-start c.args.degree c.args.tail c.requires.wide c.requires.fits _ c.low_bits-x.ensures

pub square-moved-requires-clause-fits : goal.square-moved-requires-clause-fits
square-moved-requires-clause-fits c =
    tested-lt c.args.degree c.args.tail c.requires.wide c.requires.fits c.loop-i.i c.loop-i.moved c.loop-i.invariant

pub is_coprime_to_modulus-requires-clause-a_fits :
    goal.is_coprime_to_modulus-requires-clause-a_fits
is_coprime_to_modulus-requires-clause-a_fits c =
    let some : 0 < c.loop-i.i = omega arith in
    sum-lt c.args.degree c.args.tail c.requires.wide c.requires.fits c.loop-i.i c.loop-i.moved c.square-moved.result some c.loop-i-test.true
    c.loop-i.invariant c.square-moved.ensures

pub returns-then-not-is_coprime_to_modulus : goal.returns-then-not-is_coprime_to_modulus
returns-then-not-is_coprime_to_modulus c =
    let some : 0 < c.loop-i.i = omega arith in
    never _
    (tested-fails c.args.degree c.args.tail c.requires.wide c.requires.fits c.loop-i.i c.loop-i.moved c.square-moved.result some c.loop-i-test.true
    c.loop-i.invariant c.square-moved.ensures
    (not_from_Decides c.is_coprime_to_modulus.result c.is_coprime_to_modulus.ensures c.if-not-is_coprime_to_modulus.true))

pub loop-i-preserved : goal.loop-i-preserved
loop-i-preserved c =
    let some : 0 < c.loop-i.i = omega arith in
    tested-step c.args.degree c.args.tail c.requires.wide c.requires.fits c.loop-i.i c.loop-i.moved c.square-moved.result some
    c.loop-i.invariant c.square-moved.ensures
    (λ divides. elim c.if-degree-i-eq0.branch [
      | then-degree-i-eq0+else-not-is_coprime_to_modulus w ↦
          told _ w.is_coprime_to_modulus.result w.is_coprime_to_modulus.ensures w.if-not-is_coprime_to_modulus.false
      | else-degree-i-eq0 w ↦ absurd (w.if-degree-i-eq0.false divides)
    ])

pub square-requires-clause-fits : goal.square-requires-clause-fits
square-requires-clause-fits c =
    tested-lt c.args.degree c.args.tail c.requires.wide c.requires.fits c.loop-i.i c.loop-i.moved c.loop-i.invariant

pub returns : goal.returns
returns c =
    let last : c.loop-i.i ≡ c.args.degree = omega arith in
    both _ _ _ (Decides-eqb c.square.result c.low_bits-x.result)
    (tested-end c.args.degree c.args.tail c.requires.wide c.requires.fits c.loop-i.moved c.square.result c.low_bits-x.result
    (subst (λ (n : ℕ). IsTested c.args.degree c.args.tail n c.loop-i.moved) last c.loop-i.invariant) c.square.ensures c.low_bits-x.ensures)
