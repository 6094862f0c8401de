use Rattle.std.proofs.Common.{◌<◌, length, refl, sym, ◌∙◌, ap, arith}
use Rattle.std.proofs.lemmas.List.{get_or_read}
use Rattle.field_base.specs.Tower.{tower_mul}
use Rattle.additive_transforms.specs.Words.{level_element}
use Rattle.reed_solomon.specs.Restoring.{is_lost}
use Rattle.reed_solomon.proofs.RowProducts.{inverted_more}
use Rattle.reed_solomon.proofs.locators.invert_lost.Goals as goal

pub loop-p-init : goal.loop-p-init
loop-p-init g c = record { inverse = λ s below is nonzero. absurd (omega (arith, below)); kept = λ s side. refl }

pub loop-p-preserved : goal.loop-p-preserved
loop-p-preserved g c =
    let number = g.R.Stored.number in
    let zero = g.R.Stored.ZERO in
    let level = g.L.Level.LEVEL in
    let element = level_element number level in
    let code = c.args.code.now in
    let p = c.loop-p.p in
    let words = c.loop-p.words in
    let slopes = c.args.slopes.now in
    let factor = c.inverse_or.result in
    let within : p < length words = omega (arith, c.loop-p.auto.words, c.loop-p-test.true) in
    let slope_within : p < length slopes = omega (arith, c.requires.long, c.loop-p-test.true) in
    let slope = get_or_read slopes p c.index-slopes-p.result slope_within c.index-slopes-p.is zero in
    inverted_more number zero level p c.args.words.now words factor within element
    (is_lost code.data_shards code.levels code.parity_shards c.args.present.now) slopes
    (λ absent nonzero.
    ap (λ w. tower_mul level (element w) (number factor)) (sym slope)
    ∙ c.inverse_or.ensures.lost (c.is_lost.ensures ∙ absent) (λ none. nonzero (ap element (sym slope) ∙ none)))
    (λ known.
    c.inverse_or.ensures.known (c.is_lost.ensures ∙ known)
    ∙ get_or_read words p c.index-words-p.result within c.index-words-p.is zero)
    c.loop-p.invariant
