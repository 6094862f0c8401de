use Rattle.std.proofs.Common.{◌≤◌, map, sym, ◌∙◌, ap₂, arith}
use Rattle.std.proofs.lemmas.List.{length-map}
use Rattle.std.specs.Prelude.{bit_xor, slice_index}
use Rattle.ghash_slices.proofs.SliceBlocks.{held_zip2, none_held, place_written}
use Rattle.ghash_slices.proofs.slices.add_each.Goals as goal

pub loop-place-init : goal.loop-place-init
loop-place-init g c =
    let value = g.W.Reads.number in
    none_held (λ p. bit_xor (slice_index (map value c.args.values.now) p) (slice_index (map value c.args.others.now) p)) 0 (map value c.args.values.now)

pub loop-place-preserved : goal.loop-place-preserved
loop-place-preserved g c =
    let value = g.W.Reads.number in
    let long = length-map c.loop-place.values value in
    let here : c.loop-place.place ≤ c.loop-place.place = omega arith in
    place_written (λ p. bit_xor (slice_index (map value c.args.values.now) p) (slice_index (map value c.args.others.now) p)) 0 c.loop-place.place
    (map value c.args.values.now) (map value c.loop-place.values) (map value c.add_number.new.values) _ (omega arith) (omega (arith, long))
    c.add_number.ensures (ap₂ bit_xor (c.loop-place.invariant.behind c.loop-place.place here) c.number_at.ensures)
    c.loop-place.invariant

pub returns : goal.returns
returns g c =
    let value = g.W.Reads.number in
    let long = length-map c.args.values.now value in
    held_zip2 bit_xor c.loop-place.place (map value c.args.values.now) (map value c.args.others.now) (map value c.loop-place.values)
    (long ∙ c.requires ∙ sym (length-map c.args.others.now value)) (omega (arith, long)) c.loop-place.invariant
