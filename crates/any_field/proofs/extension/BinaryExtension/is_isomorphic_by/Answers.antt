use Rattle.std.proofs.Common.{sym, ◌∙◌}
use Rattle.std.proofs.lemmas.Bool.Decides.{Decides-eqb}
use Rattle.any_field.proofs.HornerSteps.{isomorphic, root-exactly}
use Rattle.any_field.proofs.extension.BinaryExtension.is_isomorphic_by.Goals as goal

pub returns-then-self-other-clause-root : goal.returns-then-self-other-clause-root
returns-then-self-other-clause-root c = root-exactly _ c.value.result _ c.if-self-other.true c.value.ensures

pub returns-then-self-other-clause-isomorphism :
    goal.returns-then-self-other-clause-isomorphism
returns-then-self-other-clause-isomorphism c =
    λ yes. isomorphic c.args.self.degree c.args.self.tail c.args.self.ratio c.args.other.degree c.args.other.tail c.args.other.ratio
    c.args.root c.args.self.context c.args.other.context c.args.other.irreducible c.if-self-other.true
    (sym c.value.ensures ∙ (Decides-eqb c.value.result 0).0 yes)
