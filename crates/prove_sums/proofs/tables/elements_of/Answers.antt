use Rattle.std.proofs.Common.{ℕ, arith, refl, sym, ◌∙◌, subst}
use Rattle.std.specs.Prelude.{IfNone, Option}
use Rattle.std.specs.Result.{IfOk}
use Rattle.field_element.specs.Element.{repr_of}
use Rattle.prove_sums.specs.Tables.{EndWithinWord}
use Rattle.prove_sums.proofs.TableWords.{ends-within}
use Rattle.prove_sums.proofs.tables.elements_of.Goals as goal

pub returns-in-None-clause-none : goal.returns-in-None-clause-none
returns-in-None-clause-none c =
    subst (λ (size : Option ℕ). IfOk c.decode.result (λ read. IfNone read (EndWithinWord size c.args.bytes.now)))
    (sym c.in-None.is ∙ c.tower_bytes.ensures.same)
    (ends-within repr_of c.args.bytes.now c.decode.result c.decode.ensures.none
    (λ n fits. (record { repr = n; field = record {}; in_range = fits }, refl)) (λ k. omega (arith, c.type_inv.bytes k)))
