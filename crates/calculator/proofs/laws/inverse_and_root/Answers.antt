-- The laws of inverses and roots, in each field that a line may name.
use Rattle.std.proofs.lemmas.Bool.{ne_eqb}
use Rattle.calculator.proofs.FermatLemmas.{named-laws}
use Rattle.calculator.proofs.laws.inverse_and_root.Goals as goal

pub returns-clause-inverse : goal.returns-clause-inverse
returns-clause-inverse c name field named x low nonzero = rw (ne_eqb x 0 nonzero) ((named-laws name field named).inverse x low nonzero)

pub returns-clause-root : goal.returns-clause-root
returns-clause-root c name field named = (named-laws name field named).root
