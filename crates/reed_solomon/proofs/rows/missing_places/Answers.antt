use Rattle.std.proofs.Common.{◌+◌, ◌<◌, ℕ, List, length, sym, ◌∙◌, ap, refl, subst, arith}
use Rattle.std.proofs.lemmas.List.{length-set}
use Rattle.reed_solomon.specs.Missing.{AreMissing}
use Rattle.reed_solomon.proofs.GroupWriting.{missing-present, missing-taken, no_missing}
use Rattle.reed_solomon.proofs.rows.missing_places.Goals as goal
use Rattle.reed_solomon.proofs.rows.missing_places.Goals.{then-not-present-i, else-not-present-i}

pub loop-i-init : goal.loop-i-init
loop-i-init c = (no_missing c.args.present.now _, omega arith, refl)

pub loop-i-preserved : goal.loop-i-preserved
loop-i-preserved c =
    let before = c.loop-i.invariant.0 in
    elim c.if-not-present-i.branch [
      | then-not-present-i w ↦
          let room : c.loop-i.count < length c.loop-i.places =
          omega (arith, c.loop-i.invariant.1, c.loop-i.invariant.2, c.loop-i-test.true, c.requires.fit, c.requires.inside) in (
            subst (λ (n : ℕ). AreMissing c.args.present.now (c.loop-i.i + 1) c.if-not-present-i.places n) (sym w.count-is)
                (subst (λ (ps : List ℕ). AreMissing c.args.present.now (c.loop-i.i + 1) ps (c.loop-i.count + 1)) (sym w.places-is)
                (missing-taken c.args.present.now c.loop-i.i c.loop-i.places c.loop-i.count before (omega (arith, c.loop-i-test.true, c.requires.inside))
                w.if-not-present-i.true room)),
            omega (arith, w.count-is, c.loop-i.invariant.1),
            ap length w.places-is ∙ length-set c.loop-i.places c.loop-i.count c.loop-i.i ∙ c.loop-i.invariant.2,
          )
      | else-not-present-i w ↦ (
        subst (λ (n : ℕ). AreMissing c.args.present.now (c.loop-i.i + 1) c.if-not-present-i.places n) (sym w.count-is)
            (subst (λ (ps : List ℕ). AreMissing c.args.present.now (c.loop-i.i + 1) ps c.loop-i.count) (sym w.places-is)
            (missing-present c.args.present.now c.loop-i.i c.loop-i.places c.loop-i.count before (omega (arith, c.loop-i-test.true, c.requires.inside))
            w.if-not-present-i.false)),
        omega (arith, w.count-is, c.loop-i.invariant.1),
        ap length w.places-is ∙ c.loop-i.invariant.2,
      )
    ]
