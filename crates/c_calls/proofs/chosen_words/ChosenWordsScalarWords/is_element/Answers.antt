use Rattle.std.proofs.Common.{ℕ, ◌<◌, ◌^◌, ◌↔◌, IsTrue, subst}
use Rattle.c_calls.proofs.chosen_words.ChosenWordsScalarWords.is_element.Goals as goal

pub returns : goal.returns
returns c = subst (λ (n : ℕ). IsTrue c.fits.result ↔ n < 2 ^ c.args.self.named.degree) c.stored.ensures c.fits.ensures
