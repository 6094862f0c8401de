use Rattle.std.proofs.Common.{◌∙◌, ap}
use Rattle.std.specs.Prelude.{slice_index}
use Rattle.any_field.proofs.Degrees.{degree-unique}
use Rattle.any_field.proofs.PowerRelations.{reduced-start, reduced-step, rest-less}
use Rattle.any_field.proofs.extension.minimal.reduced.Goals as goal

pub loop-rest-init : goal.loop-rest-init
loop-rest-init c = reduced-start c.args.values.now c.args.polynomials.now c.args.word

pub returns-then-values-place-eq0-clause-free : goal.returns-then-values-place-eq0-clause-free
returns-then-values-place-eq0-clause-free c =
    λ b is.
    ap (slice_index c.args.values.now) (degree-unique b c.degree_of-place.result c.loop-rest.rest is c.degree_of-place.ensures.degree)
    ∙ c.if-values-place-eq0.true

pub loop-rest-smaller : goal.loop-rest-smaller
loop-rest-smaller c =
    rest-less c.loop-rest.rest _ c.degree_of-place.result c.degree_of-place.ensures.degree
    (c.requires c.degree_of-place.result c.degree_of-place.ensures.below c.if-values-place-eq0.false)

pub loop-rest-preserved : goal.loop-rest-preserved
loop-rest-preserved c =
    reduced-step c.args.values.now c.args.polynomials.now c.args.word c.loop-rest.rest c.loop-rest.sum c.degree_of-place.result
    c.degree_of-place.ensures.below c.loop-rest.invariant
