use Rattle.std.proofs.Common.{ℕ, ◌<◌, ◌≤◌, List, [], ◌∷◌, ◌++◌, length, map, take, sym, ◌∙◌, ap, ap₂, arith}
use Rattle.std.proofs.lemmas.List.{map-append, map_more, take_all, take_more_set}
use Rattle.field_base.specs.LinearMaps.{linear_image}
use Rattle.field_element.specs.Element.{repr_of}
use Rattle.field_element.proofs.linear_map.Ghash128.try_apply_linear_map_into.Goals as goal

pub loop-place-preserved : goal.loop-place-preserved
loop-place-preserved c =
    let place = c.loop-place.place in
    let input = c.args.input.now in
    let element = c.index-input-place in
    let within : place < length input = omega arith in
    let room : place < length c.loop-place.output = omega arith in
    let mapped =
    c.new.ensures ∙ c.apply.ensures ∙ c.new-map.ensures c.to_repr.result
    ∙ ap₂ linear_image c.representations.ensures (c.to_repr.ensures ∙ ap repr_of element.is) in
    ap (map repr_of) (take_more_set c.loop-place.output place c.new.result room)
    ∙ map-append repr_of (take place c.loop-place.output) (c.new.result ∷ [])
    ∙ ap₂ (λ (xs : List ℕ) (v : ℕ). xs ++ v ∷ []) c.loop-place.invariant mapped
    ∙ sym (map_more (λ x. linear_image (map repr_of c.args.images.now) (repr_of x)) input place element.result within)

pub returns-clause-mapped : goal.returns-clause-mapped
returns-clause-mapped c enough =
    let output_ends : length c.loop-place.output ≤ c.loop-place.place = omega arith in
    let input_ends : length c.args.input.now ≤ c.loop-place.place = omega arith in
    sym (ap (map repr_of) (take_all c.loop-place.place c.loop-place.output output_ends))
    ∙ c.loop-place.invariant
    ∙ ap (map (λ x. linear_image (map repr_of c.args.images.now) (repr_of x))) (take_all c.loop-place.place c.args.input.now input_ends)
