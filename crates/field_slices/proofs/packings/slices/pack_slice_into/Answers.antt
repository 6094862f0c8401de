use Rattle.std.proofs.Common.{◌≡◌, ◌++◌, ◌≤◌, List, length, take, subst, ◌∙◌, ap, arith}
use Rattle.std.specs.List.{flat_map}
use Rattle.std.proofs.lemmas.List.{length-take-le, take_all, take_more_set}
use Rattle.packed_lanes.specs.Packed.{lanes_of}
use Rattle.field_slices.proofs.LaneLists.{packed_more, rest-fills, packed-all}
use Rattle.field_slices.proofs.packings.slices.pack_slice_into.Goals as goal

pub split_at-requires : goal.split_at-requires
split_at-requires g c =
    let place = c.loop-place.place in
    let packings = c.loop-place.packings in
    let inside = c.loop-place-test.true in
    let kept = c.loop-place.auto.packings in
    let done = length-take-le place packings (omega (arith, kept)) in
    rest-fills (take place packings) c.args.values.now c.loop-place.rest.now c.loop-place.invariant (length c.args.packings.now) c.requires
    (omega (arith, done, inside, kept))

pub loop-place-preserved : goal.loop-place-preserved
loop-place-preserved g c =
    let place = c.loop-place.place in
    let packings = c.loop-place.packings in
    ap (λ (ps : List _). flat_map lanes_of ps ++ c.split_at.result.1.now) (take_more_set packings place c.from_slice.result (omega arith))
    ∙ packed_more (take place packings) c.args.values.now c.loop-place.rest.now c.loop-place.invariant c.from_slice.result
    c.split_at.result.1.now (c.from_slice.ensures ∙ c.split_at.ensures.front) c.split_at.ensures.back

pub returns : goal.returns
returns g c =
    let place = c.loop-place.place in
    let packings = c.loop-place.packings in
    let all : length packings ≤ place = omega arith in
    let done = take_all place packings all in
    let so_far = subst (λ (ps : List _). flat_map lanes_of ps ++ c.loop-place.rest.now ≡ c.args.values.now) done c.loop-place.invariant in
    let kept = c.loop-place.auto.packings in
    packed-all packings c.args.values.now c.loop-place.rest.now so_far (length c.args.packings.now) c.requires (omega (arith, kept))
