use Rattle.std.proofs.Common.{◌∙◌, ◌<◌, get_or, length, map, refl, sym, arith}
use Rattle.std.proofs.lemmas.List.{get_or_default, length-map}
use native.Mathlib.Nat.{mod-eq_of_lt}
use Rattle.field_element.specs.Element.{repr_of}
use Rattle.field_element.proofs.PlaceProducts.{all_other, all_replaced, other, place_replaced}
use Rattle.field_element.proofs.packings.bytes.write_bytes.Goals as goal

pub loop-place-preserved : goal.loop-place-preserved
loop-place-preserved c =
    let old = c.args.elements.now in
    let now = c.loop-place.elements in
    let place = c.loop-place.place in
    let bytes = c.args.bytes.now in
    let within : place < length old = omega (arith, c.loop-place-test.true, c.requires) in
    let inside : place < length now = omega (arith, within, c.loop-place.auto.elements) in
    let r = c.of_word.result in
    place_replaced repr_of other place old now bytes (get_or now place r) r (get_or bytes place 0) within inside (sym c.requires)
    (get_or_default now place r (get_or now place r) inside) refl
    (c.of_word.ensures ∙ mod-eq_of_lt (c.type_inv.bytes place).fits) c.loop-place.invariant

pub returns : goal.returns
returns c =
    let old = c.args.elements.now in
    let past = c.loop-place-test.false in
    all_replaced repr_of other c.loop-place.place old c.loop-place.elements c.args.bytes.now (omega (arith, past, c.requires)) (sym c.requires)
    c.loop-place.invariant
    ∙ all_other (map repr_of old) c.args.bytes.now (length-map old repr_of ∙ c.requires)
