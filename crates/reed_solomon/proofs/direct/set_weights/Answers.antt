use Rattle.std.proofs.Common.{◌^◌, ◌<◌, length, ◌∙◌, ap, ap₂, arith}
use Rattle.std.specs.Prelude.{bit_xor, slice_index_or}
use Rattle.std.proofs.lemmas.List.{get_or_read}
use Rattle.field_base.specs.Tower.{tower_mul}
use Rattle.reed_solomon.proofs.KnownSums.{weights_more}
use Rattle.reed_solomon.proofs.direct.set_weights.Goals as goal

pub loop-q-preserved : goal.loop-q-preserved
loop-q-preserved g c =
    let number = g.R.Stored.number in
    let zero = g.R.Stored.ZERO in
    let level = g.L.Level.LEVEL in
    let code = c.args.code.now in
    let p = c.args.p in
    let q = c.loop-q.q in
    let factors = c.args.factors.now in
    let weights = c.loop-q.weights in
    let within : q < length weights = omega (arith, c.loop-q-test.true) in
    let inside : q < 2 ^ code.all_levels = omega (arith, c.requires.long, c.loop-q.auto.weights, within) in
    let own = get_or_read factors p c.index-factors-p.result (omega (arith, c.requires.factors_long, c.requires.place)) c.index-factors-p.is zero in
    let factor = get_or_read factors q c.index-factors-q.result (omega (arith, c.requires.factors_long, inside)) c.index-factors-q.is zero in
    weights_more number zero level code.data_shards code.levels code.parity_shards code.all_levels c.args.present.now g.L.Level.few
    c.requires.points p q c.requires.place inside c.requires.lost (number (slice_index_or factors p zero)) (number (slice_index_or factors q zero))
    (number c.xor.result) weights c.weight_of.result within (c.xor.ensures ∙ ap₂ bit_xor c.point_of.ensures c.point_of-x.ensures)
    (c.requires.all q inside)
    (λ rest fits nonzero is.
    c.weight_of.ensures rest fits nonzero (ap number factor ∙ is) ∙ ap (λ w. tower_mul level (number w) rest) own)
    c.loop-q.invariant
