use Rattle.std.proofs.Common.{◌≡◌, ℕ, ◌+◌, ◌<◌, map, subst, arith}
use Rattle.std.proofs.lemmas.List.{length-map}
use Rattle.std.specs.Prelude.{slice_index}
use Rattle.ghash_slices.specs.Blocks.{HoldsPlaces, multiplied_at}
use Rattle.ghash_slices.specs.LowStages.{ghash_product}
use Rattle.ghash_slices.proofs.SliceBlocks.{block_held, none_held, place_written}
use Rattle.ghash_slices.proofs.slices.multiply_block.Goals as goal

pub loop-place-init : goal.loop-place-init
loop-place-init g c =
    let value = g.W.Reads.number in
    let old = map value c.args.values.now in
    let at : c.args.start ≡ c.args.start + 0 = omega arith in
    subst (λ (n : ℕ). HoldsPlaces (multiplied_at c.args.multiples.now.scalar old) c.args.start n old old) at
    (none_held (multiplied_at c.args.multiples.now.scalar old) c.args.start old)

pub loop-place-preserved : goal.loop-place-preserved
loop-place-preserved g c =
    let value = g.W.Reads.number in
    let scalar = c.args.multiples.now.scalar in
    let old = map value c.args.values.now in
    let start = c.args.start in
    let place = c.loop-place.place in
    let within = c.count_from-place-end.ensures.inside in
    let long = length-map c.loop-place.values value in
    let next : start + place + 1 ≡ start + (place + 1) = omega arith in
    subst (λ (n : ℕ). HoldsPlaces (multiplied_at scalar old) start n old (map value c.put_number.new.words)) next
    (place_written (multiplied_at scalar old) start (start + place) old (map value c.loop-place.values) (map value c.put_number.new.words)
    c.value_at.result (omega arith) (omega (arith, within, long)) c.put_number.ensures
    (c.value_at.ensures (λ e. ghash_product scalar (slice_index old (start + e)))
    (c.products-products.ensures (λ e. slice_index old (start + e)) c.bytes_from.ensures))
    c.loop-place.invariant)

pub returns : goal.returns
returns g c =
    let value = g.W.Reads.number in
    let old = map value c.args.values.now in
    let place = c.loop-place.place in
    let count = c.count_from-place-end in
    let most = count.ensures.few in
    block_held (multiplied_at c.args.multiples.now.scalar old) c.args.start place old (map value c.loop-place.values) (omega arith)
    (λ short. let less : count.result < 16 = omega arith in
    let end = count.ensures.all less in omega (arith, end, length-map c.args.values.now value))
    c.loop-place.invariant
