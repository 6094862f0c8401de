use Rattle.std.proofs.Common.{◌<◌, ◌*◌, ◌+◌, ◌^◌, length, ap, ℕ, ◌%◌, arith, rules, ◌∙◌}
use Rattle.std.specs.Prelude.{bit_xor}
use Rattle.field_base.specs.Carryless.{carryless}
use Rattle.any_field.proofs.DotSteps.{dot-start, dot-more, dot-done, double-sum}
use Rattle.any_field.proofs.extension.BinaryExtension.sum_of_half_words.Goals as goal

pub loop-place-init : goal.loop-place-init
loop-place-init g c =
    let s = c.args.self in
    dot-start g.W.Reads.number s.degree s.tail s.ratio s.context c.args.left.now c.args.right.now

pub loop-place-preserved : goal.loop-place-preserved
loop-place-preserved g c =
    let s = c.args.self in
    let loop = c.loop-place in
    let within : loop.place < length c.args.left.now = omega arith in
    let within_other : loop.place < length c.args.right.now = omega (arith, c.requires.beside) in
    dot-more g.W.Reads.number s.degree s.tail s.ratio s.context c.args.left.now c.args.right.now loop.place loop.sum
    (bit_xor loop.sum c.multiply_32-sum.result) c.index-left-place.result c.index-right-place.result
    c.low_bits-x.result c.low_bits-y.result within within_other c.index-left-place.is c.index-right-place.is
    (c.low_bits-x.ensures ∙ ap (λ (z : ℕ). z % 2 ^ s.degree) c.stored.ensures) (c.low_bits-y.ensures ∙ ap (λ (z : ℕ). z % 2 ^ s.degree) c.stored-in-loop-place.ensures)
    (ap (bit_xor loop.sum) c.multiply_32-sum.ensures) loop.invariant

pub reduce_half-requires-clause-fits : goal.reduce_half-requires-clause-fits
reduce_half-requires-clause-fits g c = c.loop-place.invariant.fits

pub returns : goal.returns
returns g c =
    let s = c.args.self in
    c.reduce_half.ensures
    ∙ dot-done g.W.Reads.number s.degree s.tail s.ratio s.context c.args.left.now c.args.right.now c.loop-place.place c.loop-place.sum (omega arith)
    c.loop-place.invariant
