use Rattle.std.proofs.Common.{◌<◌, ℕ, arith, subst}
use Rattle.any_field.specs.Contexts.{field_product}
use Rattle.any_field.proofs.RootTables.{powers-next, powers-start}
use Rattle.any_field.proofs.extension.embeddings.Embedding.powers_of_root.Goals as goal

pub loop-place-init : goal.loop-place-init
loop-place-init c = powers-start (field_product c.args.self.target.degree c.args.self.target.tail) c.args.self.root

pub loop-place-preserved : goal.loop-place-preserved
loop-place-preserved c =
    let loop = c.loop-place in
    powers-next (field_product c.args.self.target.degree c.args.self.target.tail) c.args.self.root loop.place loop.power c.multiply-power.result
    loop.powers (omega arith) loop.invariant c.multiply-power.ensures

pub returns-clause-each : goal.returns-clause-each
returns-clause-each c = λ j less. c.loop-place.invariant.each j (omega (arith, less))
