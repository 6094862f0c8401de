use Rattle.std.proofs.Common.{ℕ, ◌<◌, ◌≤◌, List, [], ◌∷◌, ◌++◌, length, map, sym, ◌∙◌, ap, ap₂, arith, rules}
use Rattle.std.proofs.lemmas.List.{map_more, take_all, take_more_set}
use Rattle.field_element.specs.Element.{repr_of}
use Rattle.field_element.proofs.linear_map.representations.Goals as goal

pub loop-place-preserved : goal.loop-place-preserved
loop-place-preserved c =
    let place = c.loop-place.place in
    let images = c.args.images.now in
    let element = c.index-images-place in
    let within : place < length images = omega (arith, c.told-images) in
    let room : place < length c.loop-place.representations = omega (arith, c.loop-place.invariant.0) in (
      search (rules, c.loop-place.invariant.0),
      take_more_set c.loop-place.representations place c.to_repr.result room
          ∙ ap₂ (λ (xs : List ℕ) (v : ℕ). xs ++ v ∷ []) c.loop-place.invariant.1 c.to_repr.ensures
          ∙ sym (map_more repr_of images place element.result within),
    )

pub returns : goal.returns
returns c =
    let place = c.loop-place.place in
    let images = c.args.images.now in
    let all_written : length c.loop-place.representations ≤ place = omega (arith, c.loop-place.invariant.0) in
    let all_read : length images ≤ place = omega (arith, c.told-images) in
    sym (take_all place c.loop-place.representations all_written) ∙ c.loop-place.invariant.1
    ∙ ap (map repr_of) (take_all place images all_read)
