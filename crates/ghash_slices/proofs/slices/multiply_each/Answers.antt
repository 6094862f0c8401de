use Rattle.std.proofs.Common.{◌≤◌, length, map, ◌∙◌, ap, arith}
use Rattle.std.proofs.lemmas.List.{length-map}
use Rattle.ghash_slices.specs.Blocks.{multiplied_at}
use Rattle.ghash_slices.specs.LowStages.{ghash_product}
use Rattle.ghash_slices.proofs.SliceBlocks.{held_until, none_held, place_written}
use Rattle.ghash_slices.proofs.slices.multiply_each.Goals as goal

pub loop-place-init : goal.loop-place-init
loop-place-init g c =
    let value = g.W.Reads.number in
    let old = map value c.args.values.now in
    none_held (multiplied_at (g.S.ScalarProducts.scalar c.args.products.now) old) c.args.start old

pub loop-place-preserved : goal.loop-place-preserved
loop-place-preserved g c =
    let value = g.W.Reads.number in
    let scalar = g.S.ScalarProducts.scalar c.args.products.now in
    let old = map value c.args.values.now in
    let place = c.loop-place.place in
    let long = length-map c.loop-place.values value in
    let here : place ≤ place = omega arith in
    place_written (multiplied_at scalar old) c.args.start place old (map value c.loop-place.values) (map value c.put_number.new.words)
    c.product-product.result (omega arith) (omega (arith, long)) c.put_number.ensures
    (c.product-product.ensures ∙ ap (ghash_product scalar) (c.number_at.ensures ∙ c.loop-place.invariant.behind place here))
    c.loop-place.invariant

pub returns : goal.returns
returns g c =
    let value = g.W.Reads.number in
    let long = length-map c.args.values.now value in
    let old = map value c.args.values.now in
    held_until (multiplied_at (g.S.ScalarProducts.scalar c.args.products.now) old) c.args.start c.loop-place.place (length c.args.values.now)
    old (map value c.loop-place.values) (omega (arith, long)) (omega (arith, long)) c.loop-place.invariant
