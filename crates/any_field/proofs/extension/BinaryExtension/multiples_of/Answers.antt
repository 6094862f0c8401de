use Rattle.std.proofs.Common.{arith}
use Rattle.any_field.proofs.ScalarMaps.{multiple-lt, multiples-end, multiples-next, multiples-start}
use Rattle.any_field.proofs.extension.BinaryExtension.multiples_of.Goals as goal

pub loop-place-init : goal.loop-place-init
loop-place-init c =
    let s = c.args.self in
    multiples-start s.degree s.tail s.ratio s.context c.args.scalar c.low_bits-multiple.result c.low_bits-multiple.ensures

pub times_x-multiple-requires-clause-fits : goal.times_x-multiple-requires-clause-fits
times_x-multiple-requires-clause-fits c =
    let s = c.args.self in
    let loop = c.loop-place in
    multiple-lt s.degree s.tail s.ratio s.context c.args.scalar loop.place loop.multiple loop.multiples loop.invariant

pub loop-place-preserved : goal.loop-place-preserved
loop-place-preserved c =
    let s = c.args.self in
    let loop = c.loop-place in
    multiples-next s.degree s.tail s.ratio s.context c.args.scalar loop.place loop.multiple c.times_x-multiple.result loop.multiples (omega arith)
    loop.invariant c.times_x-multiple.ensures

pub returns-clause-each : goal.returns-clause-each
returns-clause-each c =
    let s = c.args.self in
    let loop = c.loop-place in
    multiples-end s.degree s.tail s.ratio s.context c.args.scalar loop.place loop.multiple loop.multiples (omega arith) loop.invariant
