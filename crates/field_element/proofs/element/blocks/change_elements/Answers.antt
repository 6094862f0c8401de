use Rattle.std.proofs.Common.{map, sym, subst, arith}
use Rattle.field_element.specs.Element.{repr_of}
use Rattle.field_element.proofs.ChangedPlaces.{changed-all, changed-at_once, changed-none, changed-read}
use Rattle.field_element.proofs.element.blocks.change_elements.Goals as goal

pub loop-place-init : goal.loop-place-init
loop-place-init g c = changed-none repr_of _ c.args.elements.now

pub loop-place-preserved : goal.loop-place-preserved
loop-place-preserved g c =
    let place = c.loop-place.place in
    let gives = g.O.OnWords.gives c.args.operation.now (map repr_of c.args.others.now) place in
    changed-read repr_of _ c.args.elements.now c.loop-place.elements place c.index-elements-place.result _ (omega arith)
    c.index-elements-place.is
    (subst (λ (x : _). gives (repr_of x) (g.R.Stored.number c.result_at.result)) (sym c.index-elements-place.is) c.result_at.ensures.result)
    c.loop-place.invariant

pub returns-after-loop-place : goal.returns-after-loop-place
returns-after-loop-place g c = changed-all repr_of _ _ _ c.loop-place.place c.loop-place.invariant (omega arith)

pub returns-then-elements-le-FEW : goal.returns-then-elements-le-FEW
returns-then-elements-le-FEW g c =
    changed-at_once repr_of (g.O.OnWords.gives c.args.operation.now (map repr_of c.args.others.now)) _ _ c.change_block.ensures

pub returns-then-elements-le-SOME : goal.returns-then-elements-le-SOME
returns-then-elements-le-SOME g c =
    changed-at_once repr_of (g.O.OnWords.gives c.args.operation.now (map repr_of c.args.others.now)) _ _ c.change_block-then-elements-le-SOME.ensures
