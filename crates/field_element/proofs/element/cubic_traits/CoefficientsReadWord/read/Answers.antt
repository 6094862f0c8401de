use Rattle.std.proofs.Common.{subst, sym}
use Rattle.field_base.specs.Steps.{GivesEach}
use Rattle.word_polynomial.specs.Triple.{events_of}
use Rattle.word_polynomial.specs.declared.triple.Triple.{Triple}
use Rattle.field_element.proofs.element.cubic_traits.CoefficientsReadWord.read.Goals as goal

pub returns : goal.returns
returns g c =
    subst (λ (w : Triple). GivesEach g.F.Format.gives g.F.Format.stays c.args.from.now (events_of w) c.read.new.from)
    (sym c.of_words.ensures) c.in_ok-read.ensures
