use Rattle.std.proofs.Common.{◌+◌, ◌<◌, map, sym, ◌∙◌, ap, subst, arith}
use Rattle.std.specs.Simd.Lanes.{digits_l}
use Rattle.std.proofs.lemmas.List.{length-map}
use Rattle.ghash_slices.proofs.BlockLemmas.{bytes_end, bytes_start, bytes_step, BytesSoFar}
use Rattle.ghash_slices.proofs.blocks.bytes_from.Goals as goal

pub loop-place-init : goal.loop-place-init
loop-place-init g c = bytes_start (map g.W.Reads.number c.args.values.now) c.args.start

pub loop-place-preserved : goal.loop-place-preserved
loop-place-preserved g c =
    let values = map g.W.Reads.number c.args.values.now in
    let place = c.loop-place.place in
    let few : place < 16 = let all = c.count_from-place-end.ensures.few in omega arith in
    subst (BytesSoFar values c.args.start (place + 1)) (sym c.put_lanes.ensures)
    (bytes_step values c.args.start place c.loop-place.bytes c.bytes_of_128.result few
    (c.bytes_of_128.ensures ∙ ap (digits_l 256 16) c.number_at.ensures) c.loop-place.invariant)

pub returns : goal.returns
returns g c =
    let value = g.W.Reads.number in
    let place = c.loop-place.place in
    let count = c.count_from-place-end in
    let all = count.ensures.few in
    bytes_end (map value c.args.values.now) c.args.start place c.loop-place.bytes
    c.numbers_fit.ensures (omega arith)
    (λ short. let few : count.result < 16 = omega arith in
    let end = count.ensures.all few in omega (arith, end, length-map c.args.values.now value))
    c.loop-place.invariant
