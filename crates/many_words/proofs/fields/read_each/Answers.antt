use Rattle.std.proofs.Common.{ℕ, ◌<◌, ◌≤◌, List, [], ◌∷◌, ◌++◌, get_or, length, map, sym, ◌∙◌, ap, ap₂, arith, rules, take}
use Rattle.std.proofs.lemmas.List.{map-append, map_more, take_all, take_more_set}
use Rattle.many_words.proofs.fields.read_each.Goals as goal

pub loop-place-preserved : goal.loop-place-preserved
loop-place-preserved g c =
    let place = c.loop-place.place in
    let places = c.args.places.now in
    let number = g.R.Stored.number in
    let read = g.P.Reads.number in
    let x = get_or places place c.index-places-place.result in
    let word = c.stored.result in
    let room : place < length c.loop-place.words = omega arith in
    let within : place < length places = omega (arith, c.loop-place.invariant.0) in (
      search (rules, c.loop-place.invariant.0),
      ap (map number) (take_more_set c.loop-place.words place word room)
          ∙ map-append number (take place c.loop-place.words) (word ∷ [])
          ∙ ap₂ (λ (ns : List ℕ) (n : ℕ). ns ++ n ∷ []) c.loop-place.invariant.1 (c.stored.ensures ∙ ap read c.index-places-place.is)
          ∙ sym (map_more read places place c.index-places-place.result within),
    )

pub returns : goal.returns
returns g c =
    let place = c.loop-place.place in
    let places = c.args.places.now in
    let words = c.loop-place.words in
    let all : length words ≤ place = omega arith in
    let all_read : length places ≤ place = omega (arith, c.loop-place.invariant.0) in
    ◌∙◌ {b = map g.R.Stored.number (take place words)} (ap (map g.R.Stored.number) (sym (take_all place words all)))
    (c.loop-place.invariant.1 ∙ ap (map g.P.Reads.number) (take_all place places all_read))
