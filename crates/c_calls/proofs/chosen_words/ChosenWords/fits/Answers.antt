use Rattle.std.proofs.Common.{ℕ, ◌<◌, ◌^◌, ◌↔◌, IsTrue, subst}
use Rattle.c_calls.proofs.chosen_words.ChosenWords.fits.Goals as goal

pub returns : goal.returns
returns c = subst (λ (n : ℕ). IsTrue c.is_element.result ↔ c.args.number < 2 ^ n) c.args.self.degree c.is_element.ensures
