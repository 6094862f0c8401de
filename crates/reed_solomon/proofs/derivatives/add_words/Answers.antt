use Rattle.std.proofs.Common.{◌<◌, ◌∙◌, length, ap₂, arith}
use Rattle.std.specs.Prelude.{bit_xor}
use Rattle.std.proofs.lemmas.List.{get_or_read}
use Rattle.reed_solomon.proofs.RowProducts.{each_more, rest_more}
use Rattle.reed_solomon.proofs.derivatives.add_words.Goals as goal

pub loop-i-preserved : goal.loop-i-preserved
loop-i-preserved g c =
    let number = g.R.Stored.number in
    let zero = g.R.Stored.ZERO in
    let i = c.loop-i.i in
    let old = c.args.words.now in
    let words = c.loop-i.words in
    let others = c.args.others.now in
    let within : i < length words = omega (arith, c.loop-i.auto.words, c.loop-i-test.true) in
    let other_within : i < length others = omega (arith, c.requires, c.loop-i-test.true) in
    let is = c.xor.ensures
    ∙ ap₂ (λ x y. bit_xor (number x) (number y)) (get_or_read words i c.index-words-i.result within c.index-words-i.is zero)
    (get_or_read others i c.index-others-i.result other_within c.index-others-i.is zero) in (
      each_more number zero i old words c.xor.result within bit_xor others is c.loop-i.invariant.0 c.loop-i.invariant.1,
      rest_more number zero i old words c.xor.result within c.loop-i.invariant.1,
    )
