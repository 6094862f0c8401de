use Rattle.std.proofs.Common.{◌≡◌, ◌^◌, lit<, List, length, ◌∙◌, ap, subst}
use Rattle.ghash_slices.specs.Cantor.{point}
use Rattle.word_tables.specs.Cantor.{cantor_vector}
use Rattle.additive_transforms.specs.Words.{level_element}
use Rattle.reed_solomon.specs.Columns.{HoldWordValues}
use Rattle.reed_solomon.proofs.BlockLocators.{extended_values}
use Rattle.reed_solomon.proofs.locators.extend.Goals as goal

pub returns-clause-values : goal.returns-clause-values
returns-clause-values g c =
    let level = g.L.Level.LEVEL in
    let number = g.R.Stored.number in
    let element = level_element number level in
    let levels = c.args.levels in
    let known = c.args.known.now in
    let coefficients = c.inverse_strip.new.words in
    let others = c.forward_strip.new.words in
    let size = c.requires.size in
    let copied = c.copy_from_slice.ensures.after in
    let count : length coefficients ≡ 2 ^ levels = c.inverse_strip.ensures.length ∙ ap length copied ∙ size in
    extended_values element g.R.Stored.ZERO level levels known coefficients others (number c.ZERO.result) (number c.point_of.result)
    (ap number c.ZERO.ensures ∙ g.R.Stored.zero_number)
    (c.point_of.ensures ∙ ap (point (2 ^ level) cantor_vector 0) c.power_of.ensures.power)
    size count (c.forward_strip.ensures.length ∙ count)
    (subst (λ (l : List _). HoldWordValues element level (number c.ZERO.result) 1 0 coefficients l) copied
    (c.inverse_strip.ensures.coefficients 0 (lit< tt)).have)
    (c.forward_strip.ensures.values 0 (lit< tt))
