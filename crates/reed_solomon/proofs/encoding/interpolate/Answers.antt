use Rattle.std.proofs.Common.{◌≡◌, ℕ, ◌%◌, ◌*◌, ◌^◌, length, ◌∙◌, ap, subst}
use Rattle.std.proofs.lemmas.Nat.{pow_pos}
use native.Mathlib.Nat.{mod-eq_of_lt}
use Rattle.additive_transforms.specs.Words.{level_element}
use Rattle.reed_solomon.specs.Columns.{HoldStrip}
use Rattle.reed_solomon.proofs.CodedColumns.{of_data}
use Rattle.reed_solomon.proofs.encoding.interpolate.Goals as goal

pub returns-clause-of_data : goal.returns-clause-of_data
returns-clause-of_data g c =
    let level = g.L.Level.LEVEL in
    let number = g.R.Stored.number in
    let zero = g.R.Stored.ZERO in
    let element = level_element number level in
    let code = c.args.code.now in
    let strip = c.args.strip in
    let values = c.gather.new.values in
    let words = c.inverse_known.new.words in
    let long : length values ≡ 2 ^ code.levels * strip.width = c.gather.ensures.long ∙ c.requires.count in
    let count : length words ≡ 2 ^ code.levels * strip.width = c.inverse_known.ensures.length ∙ long in
    let nothing : number c.ZERO.result ≡ 0 = ap number c.ZERO.ensures ∙ g.R.Stored.zero_number in
    let none : element zero ≡ 0 = ap (λ (x : ℕ). x % 2 ^ 2 ^ level) g.R.Stored.zero_number ∙ mod-eq_of_lt (pow_pos (2 ^ level)) in
    let strip_is = subst (λ (u : ℕ). HoldStrip zero code.data_shards strip.size strip.start strip.width c.args.shards.now u values)
    c.coefficient_count.ensures c.gather.ensures.strip in
    λ k inside.
    of_data element zero level code.levels strip.width k inside code.data_shards strip.size strip.start c.args.shards.now values words
    (number c.ZERO.result) nothing count long strip_is (c.inverse_known.ensures.coefficients k inside).have code.padded.enough none
