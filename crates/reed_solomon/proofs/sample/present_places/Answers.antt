use Rattle.std.proofs.Common.{◌+◌, ◌<◌, ℕ, List, length, sym, ◌∙◌, ap, subst, arith}
use Rattle.std.proofs.lemmas.List.{length-set}
use Rattle.reed_solomon.specs.Samples.{IsSample}
use Rattle.reed_solomon.proofs.Samples.{sample-absent, sample-full, sample-taken}
use Rattle.reed_solomon.proofs.sample.present_places.Goals as goal
use Rattle.reed_solomon.proofs.sample.present_places.Goals.{then-present-i+then-count-k, else-present-i, else-present-i-via-then-present-i+else-count-k, else-present-i-via-else-present-i}

pub loop-i-preserved : goal.loop-i-preserved
loop-i-preserved c =
    let sample = c.loop-i.invariant.0 in
    let within = c.loop-i-test.true in
    elim c.if-present-i.branch [
      | then-present-i+then-count-k w ↦
          let long : c.loop-i.count < length c.loop-i.places =
          omega (arith, c.loop-i.invariant.1, c.loop-i.invariant.2, c.loop-i-test.true, c.requires.fit) in (
            subst (λ (n : ℕ). IsSample c.args.k c.args.present.now (c.loop-i.i + 1) c.if-present-i.places n) (sym w.count-is)
                (subst (λ (ps : List ℕ). IsSample c.args.k c.args.present.now (c.loop-i.i + 1) ps (c.loop-i.count + 1)) (sym w.places-is)
                (sample-taken c.args.k c.args.present.now c.loop-i.i c.loop-i.places c.loop-i.count sample within w.if-present-i.true
                w.if-count-k.true long)),
            omega (arith, w.count-is, c.loop-i.invariant.1),
            ap length w.places-is ∙ length-set c.loop-i.places c.loop-i.count c.loop-i.i ∙ c.loop-i.invariant.2,
          )
      | else-present-i w ↦ (
        subst (λ (n : ℕ). IsSample c.args.k c.args.present.now (c.loop-i.i + 1) c.if-present-i.places n) (sym w.count-is)
            (subst (λ (ps : List ℕ). IsSample c.args.k c.args.present.now (c.loop-i.i + 1) ps c.loop-i.count) (sym w.places-is)
            (elim w.else-present-i.branch [
              | else-present-i-via-then-present-i+else-count-k v ↦ sample-full c.args.k c.args.present.now c.loop-i.i c.loop-i.places c.loop-i.count sample
                  within v.if-present-i.true (omega (arith, v.if-count-k.false))
              | else-present-i-via-else-present-i v ↦ sample-absent c.args.k c.args.present.now c.loop-i.i c.loop-i.places c.loop-i.count sample within
                  v.if-present-i.false
            ])),
        omega (arith, w.count-is, c.loop-i.invariant.1),
        ap length w.places-is ∙ c.loop-i.invariant.2,
      )
    ]
