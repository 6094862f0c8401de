use Rattle.std.proofs.Common.{◌<◌, length, slice_index, refl, sym, ◌∙◌, ap, arith}
use Rattle.std.proofs.lemmas.List.{length-set}
use Rattle.error_codes.specs.Filling.{is_marked}
use Rattle.error_codes.proofs.RightShares.{own-more, unmarked-left, unmarked-next, unmarked-none}
use Rattle.error_codes.proofs.unmarked.unmarked_of.Goals as goal
use Rattle.error_codes.proofs.unmarked.unmarked_of.Goals.{then-not-marked-i, else-not-marked-i}

pub loop-i-init : goal.loop-i-init
loop-i-init c = (refl, refl, unmarked-none (is_marked c.args.marked.now) _, λ p below. absurd (omega (arith, below)))

pub bounds-places-count : goal.bounds-places-count
bounds-places-count c = let all = c.loop-i.invariant.2.all in omega (arith, all, c.requires.few, c.loop-i-test.true)

pub loop-i-preserved : goal.loop-i-preserved
loop-i-preserved c =
    let i = c.loop-i.i in
    let marked = is_marked c.args.marked.now in
    let places = c.loop-i.places in
    let own = c.loop-i.own in
    let long = c.loop-i.invariant.0 in
    let own_long = c.loop-i.invariant.1 in
    let before = c.loop-i.invariant.2 in
    let below : c.loop-i.count < 255 = (let all = before.all in omega (arith, all, c.requires.few, c.loop-i-test.true)) in
    elim c.if-not-marked-i.branch [
      | then-not-marked-i w ↦ (
        ap length w.places-is ∙ length-set places _ _ ∙ long,
        ap length w.own-is ∙ length-set own _ _ ∙ own_long,
        unmarked-next marked i c.loop-i.count _ _ places _ before w.if-not-marked-i.true (omega (arith, below, long)) w.count-is w.places-is
            (omega arith),
        own-more c.loop-i.count _ _ _ places own _ _ c.args.indexes.now (omega (arith, below, long)) (omega (arith, below, own_long)) w.count-is
            w.places-is w.own-is (ap (slice_index c.args.indexes.now) (omega arith)) c.loop-i.invariant.3,
      )
      | else-not-marked-i w ↦ (
        ap length w.places-is ∙ long,
        ap length w.own-is ∙ own_long,
        unmarked-left marked i c.loop-i.count _ places _ before w.if-not-marked-i.false w.count-is w.places-is,
        λ p inside.
            ap (λ list. slice_index list p) w.own-is ∙ c.loop-i.invariant.3 p (omega (arith, inside, w.count-is))
            ∙ ap (λ list. slice_index c.args.indexes.now (slice_index list p)) (sym w.places-is),
      )
    ]
