use Rattle.std.proofs.Common.{ℕ, ◌^◌, ◌<◌, sym, subst}
use Rattle.additive_transforms.proofs.arithmetic.number_of.Goals as goal

pub returns-clause-fits : goal.returns-clause-fits
returns-clause-fits g c = subst (λ (n : ℕ). n < 2 ^ g.R.Stored.bits) (sym c.to_u128.ensures) (c.words_fit.ensures 0)
