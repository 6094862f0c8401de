use Rattle.std.proofs.Common.{length, map, refl, ◌∙◌, ap, arith}
use Rattle.std.proofs.lemmas.List.{length-map, length-set}
use Rattle.additive_transforms.specs.Images.{after_change, before_change}
use Rattle.additive_transforms.proofs.ImageBlocks.{all_replaced, next_replaced, none_replaced}
use Rattle.additive_transforms.proofs.images.change_basis.Goals as goal

pub loop-place-init : goal.loop-place-init
loop-place-init g c = (refl, none_replaced (after_change c.args.back) (before_change c.args.back) (map g.W.Reads.number c.args.words.now))

pub loop-place-preserved : goal.loop-place-preserved
loop-place-preserved g c =
    let count = length-map c.loop-place.words g.W.Reads.number in
    let next_count = length-map c.put_number.new.words g.W.Reads.number in
    let kept = ap length c.put_number.ensures ∙ length-set (map g.W.Reads.number c.loop-place.words) c.loop-place.place c.changed.result in
    let same = c.loop-place.invariant.0 in
    let inside = c.loop-place-test.true in (
      omega (arith, count, next_count, kept, same),
      next_replaced (after_change c.args.back) (before_change c.args.back) (map g.W.Reads.number c.args.words.now)
          (map g.W.Reads.number c.loop-place.words) (map g.W.Reads.number c.put_number.new.words) c.loop-place.place c.changed.result
          (omega (arith, count, same, inside)) (c.changed.ensures ∙ ap (before_change c.args.back) c.number_at-number.ensures)
          c.put_number.ensures c.loop-place.invariant.1,
    )

pub returns-clause-changed : goal.returns-clause-changed
returns-clause-changed g c =
    let count = length-map c.loop-place.words g.W.Reads.number in
    let same = c.loop-place.invariant.0 in
    all_replaced (after_change c.args.back) (before_change c.args.back) (map g.W.Reads.number c.loop-place.words) (map g.W.Reads.number c.args.words.now)
    c.loop-place.place (omega (arith, count, same)) c.loop-place.invariant.1
