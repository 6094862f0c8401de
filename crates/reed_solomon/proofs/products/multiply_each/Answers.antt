use Rattle.std.proofs.Common.{◌<◌, ◌∙◌, length, ap₂, arith}
use Rattle.std.proofs.lemmas.List.{get_or_read}
use Rattle.field_base.specs.Tower.{tower_mul}
use Rattle.reed_solomon.proofs.RowProducts.{each_more, rest_more}
use Rattle.reed_solomon.proofs.products.multiply_each.Goals as goal

pub loop-i-preserved : goal.loop-i-preserved
loop-i-preserved g c =
    let number = g.R.Stored.number in
    let zero = g.R.Stored.ZERO in
    let level = g.L.Level.LEVEL in
    let i = c.loop-i.i in
    let old = c.args.words.now in
    let words = c.loop-i.words in
    let factors = c.args.factors.now in
    let within : i < length words = omega (arith, c.loop-i.auto.words, c.loop-i-test.true) in
    let factor_within : i < length factors = omega (arith, c.requires, c.loop-i-test.true) in
    let is = c.multiply.ensures
    ∙ ap₂ (λ x y. tower_mul level (number x) (number y)) (get_or_read words i c.index-words-i.result within c.index-words-i.is zero)
    (get_or_read factors i c.index-factors-i.result factor_within c.index-factors-i.is zero) in (
      each_more number zero i old words c.multiply.result within (tower_mul level) factors is c.loop-i.invariant.0 c.loop-i.invariant.1,
      rest_more number zero i old words c.multiply.result within c.loop-i.invariant.1,
    )
