use Rattle.std.proofs.Common.{inl, inr, refl}
use Rattle.prove_sums.proofs.commands.bits_from.Goals as goal

pub returns-in-text-clause-named : goal.returns-in-text-clause-named
returns-in-text-clause-named c = inl (refl, c.in-text.is)

pub returns-in-text-2-clause-named : goal.returns-in-text-2-clause-named
returns-in-text-2-clause-named c = inr (inl (refl, c.in-text-2.is))

pub returns-in-text-3-clause-named : goal.returns-in-text-3-clause-named
returns-in-text-3-clause-named c = inr (inr (refl, c.in-text-3.is))
