use Rattle.std.proofs.Common.{◌≡◌, inl, inr, sym, ◌∙◌, ap, arith}
use Rattle.std.proofs.lemmas.Bool.{cases_lt, true≢false}
use Rattle.reed_solomon.specs.Restoring.{is_lost}
use Rattle.reed_solomon.proofs.points.places_to_last.Goals as goal
use Rattle.reed_solomon.proofs.points.places_to_last.Goals.{then-is_lost, else-is_lost}

pub loop-p-preserved : goal.loop-p-preserved
loop-p-preserved c =
    let p = c.loop-p.p in
    let code = c.args.code.now in
    elim c.if-is_lost.branch [
      | then-is_lost w ↦ (
        omega (arith, w.count-is),
        λ q below lost. omega (arith, w.count-is, below),
      )
      | else-is_lost w ↦ (
        omega (arith, w.count-is, c.loop-p.invariant.0),
        λ q below lost.
            elim (cases_lt q p) [
              | inl early ↦ let before = c.loop-p.invariant.1 q early lost in omega (arith, before, w.count-is)
              | inr late ↦
                  let same : q ≡ p = omega (arith, below, late) in
                  absurd (true≢false (sym lost ∙ ap (is_lost code.data_shards code.levels code.parity_shards c.args.present.now) same
                  ∙ sym c.is_lost.ensures ∙ w.if-is_lost.false))
            ],
      )
    ]
