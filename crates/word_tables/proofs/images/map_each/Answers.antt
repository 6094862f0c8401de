use Rattle.std.proofs.Common.{◌<◌, length, arith}
use Rattle.field_base.specs.LinearMaps.{linear_image}
use Rattle.word_tables.proofs.BlockLemmas.{place_done}
use Rattle.word_tables.proofs.images.map_each.Goals as goal

pub loop-place-preserved : goal.loop-place-preserved
loop-place-preserved c =
    let within : c.loop-place.place < length c.loop-place.bytes = omega (arith, c.loop-place.auto.bytes, c.loop-place-test.true) in
    place_done (linear_image c.args.images.now) c.args.bytes.now c.loop-place.bytes c.loop-place.place c.sum_of_images.result
    c.loop-place-test.true within c.loop-place.invariant c.sum_of_images.ensures
