use Rattle.std.proofs.Common.{◌≡◌, ◌^◌, lit<, List, length, ◌∙◌, ap, subst}
use Rattle.additive_transforms.specs.Words.{level_element}
use Rattle.reed_solomon.specs.Columns.{HoldWordValues}
use Rattle.reed_solomon.proofs.DerivedColumns.{slopes_are}
use Rattle.reed_solomon.proofs.locators.set_slopes.Goals as goal

pub returns-clause-slopes : goal.returns-clause-slopes
returns-clause-slopes g c =
    let level = g.L.Level.LEVEL in
    let number = g.R.Stored.number in
    let levels = c.args.levels in
    let known = c.args.known.now in
    let coefficients = c.inverse_strip.new.words in
    let derivative = c.derive.new.values in
    let size = c.requires.size in
    let copied = c.copy_from_slice.ensures.after in
    let count : length coefficients ≡ 2 ^ levels = c.inverse_strip.ensures.length ∙ ap length copied ∙ size in
    let same : length derivative ≡ 2 ^ levels = c.derive.ensures.long ∙ count in
    slopes_are number g.R.Stored.ZERO level levels g.L.Level.few c.requires.few known coefficients derivative c.forward_strip.new.words (number c.ZERO.result)
    (number c.ZERO-2.result) (ap number c.ZERO.ensures ∙ g.R.Stored.zero_number) (ap number c.ZERO-2.ensures ∙ g.R.Stored.zero_number) size count same
    (c.forward_strip.ensures.length ∙ same)
    (subst (λ (l : List _). HoldWordValues (level_element number level) level (number c.ZERO.result) 1 0 coefficients l) copied
    (c.inverse_strip.ensures.coefficients 0 (lit< tt)).have)
    c.derive.ensures.derived (c.forward_strip.ensures.values 0 (lit< tt))
