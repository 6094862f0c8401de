use Rattle.std.proofs.Common.{ℕ, subst}
use Rattle.any_field.specs.Contexts.{IsFieldModulus}
use Rattle.c_calls.specs.ChosenElements.{FindsNext}
use Rattle.c_calls.specs.declared.status.TheConstants.{OK, UNSOLVABLE}
use Rattle.c_calls.proofs.ModulusCalls.{next-found, next-none}
use Rattle.c_calls.proofs.moduli.irreducible.Goals as goal

pub returns-in-None : goal.returns-in-None
returns-in-None c =
    let modulus = IsFieldModulus c.args.degree in
    subst (λ (start : ℕ). FindsNext modulus modulus start c.args.next.now c.args.next.now UNSOLVABLE) c.stored.ensures
    (next-none modulus modulus c.stored.result c.in-None.ensures.none)

pub returns-in-Some : goal.returns-in-Some
returns-in-Some c =
    let modulus = IsFieldModulus c.args.degree in
    subst (λ (start : ℕ). FindsNext modulus modulus start c.args.next.now c.of_stored.result OK) c.stored.ensures
    (next-found modulus modulus c.stored.result c.in-Some.found c.of_stored.result c.of_stored.ensures c.in-Some.ensures.found
    c.in-Some.ensures.least)
