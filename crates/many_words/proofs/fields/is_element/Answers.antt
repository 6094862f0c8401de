use Rattle.std.proofs.Common.{◌≡◌, ◌<◌, ◌^◌, ◌%◌, sym, ◌∙◌, arith}
use Rattle.std.proofs.lemmas.Nat.{pow_pos}
use native.Mathlib.Nat.{mod-eq_of_lt, mod-lt}
use Rattle.many_words.proofs.fields.is_element.Goals as goal

-- a word is an element where it is the same without its bits above the field
pub returns : goal.returns
returns g c =
    let number = g.R.Stored.number in
    let width = g.K.FieldKernel.width in
    let word = c.stored-word.result in
    let law = g.met.R.Stored.eq_law c.truncate.result word in (
      (λ equal.
          let same : number c.truncate.result ≡ number word = law.0 (sym c.eq.ensures ∙ equal) in
          let low : number word % 2 ^ width < 2 ^ width = mod-lt (number word) (pow_pos width) in
          omega (arith, same, c.truncate.ensures, c.stored-word.ensures, low)),
      (λ fits.
          let fits_word : number word < 2 ^ width = omega (arith, fits, c.stored-word.ensures) in
          c.eq.ensures ∙ law.1 (c.truncate.ensures ∙ mod-eq_of_lt fits_word)),
    )
