use Rattle.std.proofs.Common.{◌+◌, ◌*◌, ◌≡◌, ℕ, List, get_or, refl, sym, subst, ap, arith}
use Rattle.reed_solomon.specs.Columns.{HoldStrip}
use Rattle.reed_solomon.proofs.ColumnPlaces.{gathered_more}
use Rattle.reed_solomon.proofs.columns.gather.Goals as goal
use Rattle.reed_solomon.proofs.columns.gather.Goals.{then-i-count, else-i-count}

pub loop-i-preserved : goal.loop-i-preserved
loop-i-preserved g c =
    let zero = g.R.Stored.ZERO in
    let strip = c.args.strip in
    let shards = c.args.shards.now in
    let i = c.loop-i.i in
    let held = λ (ws : List _). HoldStrip zero c.args.count strip.size strip.start strip.width shards (i + 1) ws in
    elim c.if-i-count.branch [
      | then-i-count w ↦
          subst held (sym w.values-is)
          (gathered_more zero strip.size strip.start strip.width c.args.count i
          (λ k. get_or shards (i * strip.size + strip.start + k) zero) shards c.loop-i.values w.copy_words.new.target
          (λ within k inside.
          let place : i * strip.size + strip.start + k ≡ i * strip.size + (strip.start + k) = omega arith in
          ap (λ (p : ℕ). get_or shards p zero) place)
          (λ past. absurd (omega (arith, past, w.if-i-count.true)))
          w.copy_words.ensures.put c.loop-i.invariant)
      | else-i-count w ↦
          subst held (sym w.values-is)
          (gathered_more zero strip.size strip.start strip.width c.args.count i (λ k. zero) shards c.loop-i.values w.clear_words.new.target
          (λ within. absurd (omega (arith, within, w.if-i-count.false)))
          (λ past k inside. refl)
          w.clear_words.ensures.put c.loop-i.invariant)
    ]
