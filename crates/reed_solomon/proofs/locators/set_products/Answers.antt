use Rattle.std.proofs.Common.{◌+◌, ◌<◌, List, length, sym, ◌∙◌, ap, subst, arith}
use Rattle.std.proofs.lemmas.List.{get_or_read}
use Rattle.reed_solomon.specs.Blocks.{HoldLocator}
use Rattle.reed_solomon.proofs.BlockLocators.{locator_multiplied, locator_of_none, locator_passed}
use Rattle.reed_solomon.proofs.locators.set_products.Goals as goal
use Rattle.reed_solomon.proofs.locators.set_products.Goals.{then-is_lost, else-is_lost}

pub loop-p-init : goal.loop-p-init
loop-p-init g c =
    let code = c.args.code.now in
    let number = g.R.Stored.number in
    locator_of_none g.L.Level.LEVEL code.data_shards code.levels code.parity_shards c.args.present.now number g.R.Stored.ZERO c.args.first
    c.set_ones.new.words
    (λ i below. ap number (c.set_ones.ensures.ones i (omega (arith, below, c.set_ones.ensures.long))) ∙ g.R.Stored.one_number)

pub loop-p-preserved : goal.loop-p-preserved
loop-p-preserved g c =
    let code = c.args.code.now in
    let level = g.L.Level.LEVEL in
    let number = g.R.Stored.number in
    let zero = g.R.Stored.ZERO in
    let present = c.args.present.now in
    let points = c.args.points.now in
    let p = c.loop-p.p in
    let values = c.loop-p.values in
    let held = λ (ws : List _). HoldLocator number zero level code.data_shards code.levels code.parity_shards present c.args.first (p + 1) ws in
    elim c.if-is_lost.branch [
      | then-is_lost w ↦
          let within : c.args.first + p < length points = omega (arith, c.requires.inside, c.loop-p-test.true) in
          let read = get_or_read points (c.args.first + p) w.index-points-first.result within w.index-points-first.is zero in
          subst held (sym w.values-is)
          (locator_multiplied level code.data_shards code.levels code.parity_shards present number zero c.args.first p (number w.index-points-first.result) points
          values w.multiply_differences.new.values (sym c.is_lost.ensures ∙ w.if-is_lost.true)
          (ap number read ∙ c.requires.points (c.args.first + p) within) (omega (arith, c.requires.table, c.loop-p.auto.values))
          w.multiply_differences.ensures.long c.requires.points w.multiply_differences.ensures.products c.loop-p.invariant)
      | else-is_lost w ↦
          subst held (sym w.values-is)
          (locator_passed level code.data_shards code.levels code.parity_shards present number zero c.args.first p values
          (sym c.is_lost.ensures ∙ w.if-is_lost.false) c.loop-p.invariant)
    ]
