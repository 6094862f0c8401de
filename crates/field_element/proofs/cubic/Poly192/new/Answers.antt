use Rattle.std.proofs.Common.{◌∙◌, sym, ap}
use native.Mathlib.Nat.{mod-eq_of_lt}
use Rattle.field_base.specs.Chunks.{chunks}
use Rattle.word_polynomial.specs.lemmas.Triple.{fits_192}
use Rattle.field_element.specs.Coefficients.{stored_words}
use Rattle.field_element.proofs.cubic.Poly192.new.Goals as goal

pub returns : goal.returns
returns c = ap (chunks 64 3) (c.of_word.ensures ∙ mod-eq_of_lt (fits_192 (stored_words c.new.result))) ∙ sym c.new.ensures
