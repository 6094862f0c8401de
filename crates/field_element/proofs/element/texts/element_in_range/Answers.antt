use Rattle.std.proofs.Common.{◌∙◌}
use Rattle.std.proofs.lemmas.Bool.{false≢true}
use native.Mathlib.Nat.{mod-eq_of_lt}
use Rattle.field_element.proofs.element.texts.element_in_range.Goals as goal

pub returns-else-eq-clause-range : goal.returns-else-eq-clause-range
returns-else-eq-clause-range g c = (
  (λ none. absurd (false≢true none)),
  (λ fits.
      let same = (g.met.R.Stored.eq_law c.truncate.result c.args.repr).1 (c.truncate.ensures ∙ mod-eq_of_lt fits) in c.if-eq.ensures ∙ same),
)
