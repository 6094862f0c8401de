use Rattle.std.proofs.Common.{◌+◌, ◌<◌, ◌^◌, ℕ, List, get_or, length, map, sym, subst, ◌∙◌, ap, arith}
use Rattle.std.specs.Prelude.{slice_index}
use Rattle.std.proofs.lemmas.List.{get_or-map}
use Rattle.field_base.proofs.Places.{numbers-lt}
use Rattle.field_element.specs.Element.{repr_of}
use Rattle.many_words.proofs.WordDots.{same_long}
use Rattle.field_element.proofs.ChangedPlaces.{changed-all, changed-none, changed-written}
use Rattle.field_element.proofs.element.blocks.change_by_words.Goals as goal

pub change-requires-clause-elements : goal.change-requires-clause-elements
change-requires-clause-elements g c =
    let elements = c.args.elements.now in
    let number = g.R.Stored.number in
    let words = c.read_each.new.words in
    λ k below d. subst (λ (n : ℕ). n < 2 ^ g.K.FieldKernel.width)
    (sym (ap (λ (ns : List ℕ). slice_index ns k) c.read_each.ensures) ∙ get_or-map number words k d 0 below)
    (numbers-lt repr_of g.K.FieldKernel.width (λ x. x.in_range) elements k)

pub loop-place-init : goal.loop-place-init
loop-place-init g c = changed-none repr_of _ c.args.elements.now

pub invariant_of-elements : goal.invariant_of-elements
invariant_of-elements g c =
    let inside : c.loop-place.place < length c.change.new.words =
    let long = same_long g.R.Stored.number repr_of c.read_each.new.words c.args.elements.now c.read_each.ensures in
    let more = c.change.ensures.long in
    omega (arith, long, more) in
    record {
      in_range = subst (λ (w : _). g.R.Stored.number w < 2 ^ g.K.FieldKernel.width) (sym c.index-words-place.is)
          (c.change.ensures.elements c.loop-place.place inside c.index-words-place.result);
    }

pub loop-place-preserved : goal.loop-place-preserved
loop-place-preserved g c =
    let place = c.loop-place.place in
    let elements = c.args.elements.now in
    let number = g.R.Stored.number in
    let word = c.index-words-place.result in
    let before = c.read_each.new.words in
    let after = c.change.new.words in
    let within : place < length elements = omega arith in
    let long = same_long number repr_of before elements c.read_each.ensures in
    let inside : place < length before = omega (arith, within, long) in
    let gives = λ (k : ℕ). g.O.OnWords.gives c.args.operation.now (map repr_of c.args.others.now) (c.args.start + k) in
    changed-written repr_of gives elements c.loop-place.elements place _ within
    (subst (λ (w : _). gives place (slice_index (map repr_of elements) place) (number w)) (sym c.index-words-place.is)
    (subst (λ (x : ℕ). gives place x (number (get_or after place word)))
    (sym (get_or-map number before place word 0 inside) ∙ ap (λ (ns : List ℕ). slice_index ns place) c.read_each.ensures)
    (c.change.ensures.results place inside word)))
    c.loop-place.invariant

pub returns : goal.returns
returns g c = changed-all repr_of _ _ _ c.loop-place.place c.loop-place.invariant (omega arith)
