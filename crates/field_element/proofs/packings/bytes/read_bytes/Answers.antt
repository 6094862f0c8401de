use Rattle.std.proofs.Common.{◌∙◌, ◌<◌, length, map, sym, ap, arith}
use Rattle.std.proofs.lemmas.List.{get_or-map, length-map}
use Rattle.field_element.specs.Element.{repr_of}
use Rattle.field_element.proofs.PlaceProducts.{number_written, numbers_written}
use Rattle.field_element.proofs.packings.bytes.read_bytes.Goals as goal

pub loop-place-preserved : goal.loop-place-preserved
loop-place-preserved c =
    let elements = c.args.elements.now in
    let place = c.loop-place.place in
    let within : place < length elements = omega (arith, c.loop-place-test.true, c.requires) in
    number_written place c.args.bytes.now c.loop-place.bytes (map repr_of elements) c.word.result c.loop-place-test.true
    (length-map elements repr_of ∙ sym c.requires)
    (c.word.ensures ∙ ap repr_of c.index-elements-place.is ∙ sym (get_or-map repr_of elements place c.index-elements-place.result 0 within))
    c.loop-place.invariant

pub returns : goal.returns
returns c =
    numbers_written c.loop-place.place c.args.bytes.now c.loop-place.bytes (map repr_of c.args.elements.now) c.loop-place-test.false
    (length-map c.args.elements.now repr_of ∙ sym c.requires) c.loop-place.invariant
